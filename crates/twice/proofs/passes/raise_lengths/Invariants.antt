use Rattle.std.proofs.Common.{ℕ, List}
use Rattle.sweep.specs.PassInvariants.{weight_by}
use Rattle.twice.specs.TwiceInvariants.{KeptWords}
use Rattle.twice.proofs.Keeping.{Raising}
use Rattle.twice.proofs.passes.raise_lengths.Given as goal

abbrev pub invariant-loop-i : goal.invariant-loop-i
invariant-loop-i l =
    (es : List ℕ) → KeptWords es l.marks l.fn.lengths → Raising (weight_by l.mask l.words l.weights) es l.marks l.lengths l.i l.above l.after
