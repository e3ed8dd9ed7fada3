-- All weights 1: what the laws of the longest run ask of the table.
-- Assumes nothing.
use Prim.Native.Nat.{ℕ, zero, suc, ◌≤◌}
use native.Mathlib.Omega.{arith}
use lib.ListN.{get_or, replicate}
use Rattle.common.specs.Limits.{heaviest_weight}
use Rattle.runs.specs.Weights.{weight_count}
use Rattle.runs.specs.Counted.{ones}

most_one : (n i : ℕ) → get_or (replicate n 1) i 0 ≤ 1
most_one zero i = omega arith
most_one (suc n) zero = omega arith
most_one (suc n) (suc i) = most_one n i

pub light : (i : ℕ) → get_or ones i 0 ≤ heaviest_weight
light i = let h = most_one weight_count i in omega (arith, h)
