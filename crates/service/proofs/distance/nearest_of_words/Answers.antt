use Rattle.runs.proofs.Laws.{laws}
use Rattle.service.proofs.Outcome.{nearest_accepted}
use Rattle.service.proofs.distance.nearest_of_words.Goals as goal

pub find_fewest-fewest-requires : goal.find_fewest-fewest-requires
find_fewest-fewest-requires c =
    laws.entry_laws.asks c.args.version c.args.words.now _ _ c.search_words.ensures

pub returns-clause-value : goal.returns-clause-value
returns-clause-value c =
    nearest_accepted c.args.version c.args.words.now _ _ c.search_words.ensures c.unit_run.ensures _ c.in_ok-unit_run.was
    c.find_fewest-fewest.ensures.value
