use Rattle.sweep.specs.Entries.{entries}
use Rattle.sweep.specs.PassInvariants.{weight_by}
use Rattle.twice.proofs.Keeping.{Keeping}
use Rattle.twice.proofs.passes.keep_lengths.Given as goal

abbrev pub invariant-loop-i : goal.invariant-loop-i
invariant-loop-i l = Keeping (weight_by l.mask l.words l.weights) (entries l.fn.lengths) l.marks l.lengths l.i l.above l.after l.invalid
