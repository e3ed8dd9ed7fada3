use Rattle.runs.proofs.Laws.{laws}
use Rattle.service.proofs.crossing.crossed_of_words.Goals as goal

pub count_crossings-count-requires : goal.count_crossings-count-requires
count_crossings-count-requires c =
    laws.entry_laws.asks c.args.version c.args.words.now _ _ c.search_words.ensures
