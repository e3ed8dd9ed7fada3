use Rattle.std.proofs.Common.{◌≡◌, ◌<◌, ℕ, get_or}
use Rattle.assignment.specs.Rest.{marked}
use Rattle.assignment.proofs.definite.mark_words.Given as goal

abbrev pub invariant-loop-p : goal.invariant-loop-p
invariant-loop-p l = (k : ℕ) → k < l.p → get_or l.marks k 0 ≡ marked l.unset k
