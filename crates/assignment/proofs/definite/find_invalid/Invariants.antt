use Rattle.std.proofs.Common.{◌≡◌, ◌<◌, ℕ, false}
use Rattle.assignment.proofs.Found.{bad_by}
use Rattle.assignment.proofs.definite.find_invalid.Given as goal

abbrev pub invariant-loop-p : goal.invariant-loop-p
invariant-loop-p l = (k : ℕ) → k < l.p → bad_by l.words l.marks k ≡ false
