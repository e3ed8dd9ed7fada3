use Rattle.std.proofs.Common.{arith}
use Rattle.runs.proofs.Laws.{laws}
use Rattle.service.proofs.Outcome.{answer_decided, lengths_decided, list_decided}
use Rattle.service.proofs.within.list_of_words.Goals as goal

pub list_searched-requires : goal.list_searched-requires
list_searched-requires c =
    let k = c.search_words.ensures in
    (laws.entry_laws.asks c.args.version c.args.words.now _ _ k, omega (arith, k.lent.l_same, c.requires.1))

pub returns-clause-value : goal.returns-clause-value
returns-clause-value c =
    answer_decided c.args.version c.args.words.now _ _ c.search_words.ensures c.list_searched.ensures.value

pub returns-clause-decided : goal.returns-clause-decided
returns-clause-decided c =
    lengths_decided c.args.version c.args.words.now _ _ c.search_words.ensures c.list_searched.ensures.lengths_after

pub returns-clause-list_after : goal.returns-clause-list_after
returns-clause-list_after c =
    list_decided c.args.version c.args.words.now _ _ c.search_words.ensures _ _ c.list_searched.ensures.list_after
