use Rattle.twice.proofs.Keeping.{Restoring}
use Rattle.twice.proofs.passes.restore_marks.Given as goal

abbrev pub invariant-loop-mark : goal.invariant-loop-mark
invariant-loop-mark l = Restoring l.fn.marks l.marks l.mark-index
