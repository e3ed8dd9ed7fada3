-- Four meters as a store: what is read after a write, and the sum after it.
-- Assumes nothing.
use Prim.Native.Nat.{ℕ, zero, suc, ◌+◌, ◌≤◌}
use mathlib.Core.Bool.{Bool, true, false, cond}
use mathlib.Core.Path.{◌≡◌, refl}
use native.Mathlib.Omega.{arith}
use lib.Dec.{eqb}
use borrow.Author.Tests.{eqb-true}
use Rattle.meter.specs.declared.step.Meter.{Meter}
use Rattle.budget.specs.declared.step.Meters.{Meters}
use Rattle.budget.specs.Four.{meter_of, with_meter, sum_of, others_of}

-- what holds of 0, 1, 2 and 3 holds of every script
pub each : (P : ℕ → Type 0) → P 0 → P 1 → P 2 → P 3 → (i : ℕ) → i ≤ 3 → P i
each P a b c d zero l = a
each P a b c d (suc zero) l = b
each P a b c d (suc (suc zero)) l = c
each P a b c d (suc (suc (suc zero))) l = d
each P a b c d (suc (suc (suc (suc i)))) l = absurd (omega arith)

pub read_after : (ms : Meters) (m : Meter) (k : ℕ) → k ≤ 3 → (i : ℕ) → i ≤ 3 → meter_of (with_meter ms k m) i ≡ cond (eqb k i) m (meter_of ms i)
unfolding meter_of with_meter
read_after ms m =
    each (λ k. (i : ℕ) → i ≤ 3 → meter_of (with_meter ms k m) i ≡ cond (eqb k i) m (meter_of ms i))
    (each (λ i. meter_of (with_meter ms 0 m) i ≡ cond (eqb 0 i) m (meter_of ms i)) refl refl refl refl)
    (each (λ i. meter_of (with_meter ms 1 m) i ≡ cond (eqb 1 i) m (meter_of ms i)) refl refl refl refl)
    (each (λ i. meter_of (with_meter ms 2 m) i ≡ cond (eqb 2 i) m (meter_of ms i)) refl refl refl refl)
    (each (λ i. meter_of (with_meter ms 3 m) i ≡ cond (eqb 3 i) m (meter_of ms i)) refl refl refl refl)

-- a script's meter is left where it is
pub read_left : (ms : Meters) (k i : ℕ) → meter_of ms i ≡ cond (eqb k i) (meter_of ms k) (meter_of ms i)
read_left ms k i = go (eqb k i) refl
  where
    go : (t : Bool) → eqb k i ≡ t → meter_of ms i ≡ cond t (meter_of ms k) (meter_of ms i)
    go true e = rw (eqb-true k i e)
    go false e = refl

pub sum_after : (ms : Meters) (m : Meter) (k : ℕ) → k ≤ 3 → sum_of (with_meter ms k m) ≡ m.count + others_of ms k
unfolding sum_of with_meter others_of
sum_after ms m = each (λ k. sum_of (with_meter ms k m) ≡ m.count + others_of ms k) (omega arith) (omega arith) (omega arith) (omega arith)

-- where no script's count is above b, three are at most 3 b
pub others_most : (ms : Meters) (b : ℕ) → ((i : ℕ) → i ≤ 3 → (meter_of ms i).count ≤ b) → (k : ℕ) → k ≤ 3 → others_of ms k ≤ b + (b + b)
unfolding meter_of others_of
others_most ms b most =
    let axis : (meter_of ms 0).count ≤ b = most 0 (omega arith) in
    let focuser : (meter_of ms 1).count ≤ b = most 1 (omega arith) in
    let dome : (meter_of ms 2).count ≤ b = most 2 (omega arith) in
    let guider : (meter_of ms 3).count ≤ b = most 3 (omega arith) in
    each (λ k. others_of ms k ≤ b + (b + b))
    (omega (arith, axis, focuser, dome, guider))
    (omega (arith, axis, focuser, dome, guider))
    (omega (arith, axis, focuser, dome, guider))
    (omega (arith, axis, focuser, dome, guider))
