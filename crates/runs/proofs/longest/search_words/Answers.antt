use Rattle.runs.proofs.Searched.{held_settled, searched}
use Rattle.runs.proofs.longest.search_words.Goals as goal

pub mark_reachable-requires : goal.mark_reachable-requires
mark_reachable-requires c = held_settled c.args.version c.args.words.now c.settle_script.new.lengths c.settle_script.ensures c.requires c.settle_script.auto.lengths

pub returns : goal.returns
returns c =
    searched c.args.version c.args.words.now c.settle_script.new.lengths c.settle_script.ensures c.requires c.settle_script.auto.lengths
    c.mark_reachable.ensures c.mark_reachable.auto.marks c.mark_reachable.auto.lengths
