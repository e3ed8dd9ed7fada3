use Rattle.sweep.specs.PassInvariants.{weight_by}
use Rattle.sweep.proofs.Measures.{Filling}
use Rattle.sweep.proofs.lengths.fill_lengths.Given as goal

abbrev pub invariant-loop-i : goal.invariant-loop-i
invariant-loop-i l = Filling (weight_by l.mask l.words l.weights) l.fn.lengths l.marks l.lengths l.i l.above l.invalid
