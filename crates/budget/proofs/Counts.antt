-- Whose each of the four meters is, and the sum of their counts.
-- Assumes nothing.
use Prim.Native.Nat.{ℕ, ◌+◌, ◌≤◌}
use mathlib.Core.Path.{◌≡◌, refl, sym}
use native.Mathlib.Omega.{arith}
use Rattle.budget.specs.declared.step.Meters.{Meters}
use Rattle.budget.specs.Four.{meter_of, sum_of, others_of}
use Rattle.budget.specs.Counts.{Counts}
use Rattle.budget.proofs.FourMeters.{each}
use Rattle.budget.proofs.Own.{at_axis, at_focuser, at_dome, at_guider, at_none}

sum : (ms : Meters) → sum_of ms ≡ ms.axis.count + (ms.focuser.count + (ms.dome.count + ms.guider.count))
unfolding sum_of
sum ms = refl

others : (ms : Meters) (i : ℕ) → i ≤ 3 → (meter_of ms i).count + others_of ms i ≡ sum_of ms
unfolding meter_of others_of sum_of
others ms = each (λ i. (meter_of ms i).count + others_of ms i ≡ sum_of ms) (omega arith) (omega arith) (omega arith) (omega arith)

scripts : (ms : Meters) → (meter_of ms 0 ≡ ms.axis) × ((meter_of ms 1 ≡ ms.focuser) × ((meter_of ms 2 ≡ ms.dome) × (meter_of ms 3 ≡ ms.guider)))
unfolding meter_of
scripts ms = (refl, (refl, (refl, refl)))

pub counts : Counts
counts =
    record {
      sum = sum;
      others = others;
      scripts = scripts;
      axis = λ ms m. sym (at_axis ms m 0 refl);
      focuser = λ ms m. sym (at_focuser ms m 1 refl);
      dome = λ ms m. sym (at_dome ms m 2 refl);
      guider = λ ms m. sym (at_guider ms m 3 refl);
      none = λ ms i m l. sym (at_none ms m i (λ e. omega arith) (λ e. omega arith) (λ e. omega arith) (λ e. omega arith));
    }
