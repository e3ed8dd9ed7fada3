use Rattle.std.proofs.Common.{◌≡◌, drop}
use Rattle.lundump.specs.Lundump.{check_bytes}
use Rattle.lundump.proofs.locating.literal.Given as goal

abbrev pub invariant-loop-i : goal.invariant-loop-i
invariant-loop-i l = check_bytes l.expected l.chunk 0 ≡ check_bytes (drop l.i l.expected) l.chunk l.i
