-- The bit that tells constants from registers in 5.3: the index by a computed test.
-- Assumes nothing.
use Prim.Native.Nat.{ℕ, ◌-◌, ◌*◌, ◌/◌, ◌%◌, ◌<◌}
use mathlib.Core.Path.{◌≡◌, ◌∙◌}
use mathlib.Core.Bool.{Bool}
use native.Mathlib.Omega.{arith}
use lib.Bits.{and_high}
use lib.Dec.{T, eqb, eqb→eq}
use Rattle.fields.specs.Laws.{all}
use Rattle.fields.proofs.Laws.{laws}
use Rattle.touches.specs.Isk.{«ISK», «INDEXK», RK}

cleared : ℕ → Bool
cleared x = eqb («INDEXK» x) (x - x / 256 % 2 * 256)

all_cleared : T (all cleared 1024)
unfolding cleared
all_cleared = tt

-- the index is the argument without its bit
pub clears : (x : ℕ) → x < 1024 → «INDEXK» x ≡ x - x / 256 % 2 * 256
unfolding cleared
clears x h = eqb→eq _ _ (laws.each_below cleared 1024 all_cleared x h)

pub bit : (x : ℕ) → «ISK» x ≡ x / 256 % 2 * 256
bit x = and_high x 1 8

pub rk : RK
rk = record { isk = bit; indexk = λ x h. clears x (omega arith) ∙ omega arith }
