-- What C gets of an answer is each of its numbers.
-- Assumes nothing.
use Prim.Native.Nat.{ℕ}
use mathlib.Core.Path.{◌≡◌, refl, ap}
use native.Mathlib.Omega.{arith}
use Rattle.std.specs.Prelude.{None, Some, Ok, Err}
use Rattle.service.specs.Questions.{Nearest}
use Rattle.service.specs.Flat.{flat_nearest}
use Rattle.service.specs.Flattened.{Flattened}

only : (r : Nearest) (k : ℕ) → ((flat_nearest r).found ≡ 1) × ((flat_nearest r).fewest ≡ k) → r ≡ Ok (Some k)
only (Ok (Some j)) k e = ap (λ (x : ℕ). Ok (Some x)) e.1
only (Ok None) k e = let f : ◌≡◌ {A = ℕ} 0 1 = e.0 in absurd (omega arith)
only (Err n) k e = let f : ◌≡◌ {A = ℕ} 0 1 = e.0 in absurd (omega arith)

pub flattened : Flattened
flattened =
    record {
      found = λ r k. (only r k, λ e. rw e (refl, refl));
      fewest = λ k. (refl, (refl, (refl, refl)));
      nowhere = (refl, (refl, (refl, refl)));
      refused = λ e. (refl, (refl, (refl, refl)));
      crossed = λ k. (refl, (refl, refl));
      crossed_refused = λ e. (refl, (refl, refl));
    }
