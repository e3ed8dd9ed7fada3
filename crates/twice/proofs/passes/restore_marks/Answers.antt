use Rattle.std.proofs.Common.{arith, ◌∙◌}
use Rattle.twice.proofs.Keeping.{restoring_none, restoring_more, restoring_done, mark_of_byte}
use Rattle.twice.proofs.passes.restore_marks.Goals as goal

pub loop-mark-init : goal.loop-mark-init
loop-mark-init c = restoring_none _

pub loop-mark-preserved : goal.loop-mark-preserved
loop-mark-preserved c = restoring_more _ c.loop-mark.invariant (omega arith) (c.min.ensures ∙ mark_of_byte c.args.marks.now _)

pub returns : goal.returns
returns c = restoring_done _ c.loop-mark.invariant (omega arith)
