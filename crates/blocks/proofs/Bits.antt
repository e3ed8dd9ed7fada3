-- The bits of numbers. Assumes nothing.
use mathlib.Core.Path.{◌≡◌, refl, sym, ap, ◌∙◌}
use mathlib.Core.Logic.{◌⊎◌, inl, inr, ⊎_elim}
use mathlib.Core.Bool.{Bool, true, false, not, ◌&&◌, ◌||◌}
use Prim.Native.Nat.{ℕ, zero, suc, ◌+◌, ◌*◌, ◌-◌, ◌/◌, ◌%◌, ◌^◌, ◌≤◌, ◌<◌, min, max}
use native.Mathlib.Nat.{not-suc-le-zero, pow-suc}
use native.Mathlib.Omega.{arith}
use borrow.Author.Tests.{eq-eqb}
use lib.Bits.{bit_and, bit_or, and_step, or_step, and_le_r, or_add_and, or_lt}
use lib.Dec.{eqb}
use Rattle.common.proofs.Order.{bit}
use Rattle.blocks.specs.Blocks.{«ALL», «EVERY», has_bit}

-- a number by its lowest bit and the rest
half : (x y c : ℕ) → c ≤ 1 → x ≡ y * 2 + c → x / 2 ≡ y
half x y c h e = omega arith

low : (x y c : ℕ) → c ≤ 1 → x ≡ y * 2 + c → x % 2 ≡ c
low x y c h e = omega arith

digit : (a : ℕ) → a % 2 ≤ 1
digit a = omega arith

both : (x y : ℕ) → x ≤ 1 → y ≤ 1 → eqb (min x y) 1 ≡ eqb x 1 && eqb y 1
both zero zero h l = refl
both zero (suc zero) h l = refl
both (suc zero) zero h l = refl
both (suc zero) (suc zero) h l = refl
both zero (suc (suc y)) h l = absurd (omega arith)
both (suc zero) (suc (suc y)) h l = absurd (omega arith)
both (suc (suc x)) y h l = absurd (omega arith)

one : (x y : ℕ) → x ≤ 1 → y ≤ 1 → eqb (max x y) 1 ≡ eqb x 1 || eqb y 1
one zero zero h l = refl
one zero (suc zero) h l = refl
one (suc zero) zero h l = refl
one (suc zero) (suc zero) h l = refl
one zero (suc (suc y)) h l = absurd (omega arith)
one (suc zero) (suc (suc y)) h l = absurd (omega arith)
one (suc (suc x)) y h l = absurd (omega arith)

min_small : (x y : ℕ) → x ≤ 1 → min x y ≤ 1
min_small x y h = omega arith

max_small : (x y : ℕ) → x ≤ 1 → y ≤ 1 → max x y ≤ 1
max_small x y h l = omega arith

pub and_bit : (a b i : ℕ) → has_bit (bit_and a b) i ≡ has_bit a i && has_bit b i
unfolding has_bit
and_bit a b zero =
    ap (λ (x : ℕ). eqb x 1) (low (bit_and a b) (bit_and (a / 2) (b / 2)) (min (a % 2) (b % 2))
    (min_small (a % 2) (b % 2) (digit a)) (and_step a b))
    ∙ both (a % 2) (b % 2) (digit a) (digit b)
and_bit a b (suc i) =
    ap (λ (x : ℕ). has_bit x i) (half (bit_and a b) (bit_and (a / 2) (b / 2)) (min (a % 2) (b % 2))
    (min_small (a % 2) (b % 2) (digit a)) (and_step a b))
    ∙ and_bit (a / 2) (b / 2) i

pub or_bit : (a b i : ℕ) → has_bit (bit_or a b) i ≡ has_bit a i || has_bit b i
unfolding has_bit
or_bit a b zero =
    ap (λ (x : ℕ). eqb x 1) (low (bit_or a b) (bit_or (a / 2) (b / 2)) (max (a % 2) (b % 2))
    (max_small (a % 2) (b % 2) (digit a) (digit b)) (or_step a b))
    ∙ one (a % 2) (b % 2) (digit a) (digit b)
or_bit a b (suc i) =
    ap (λ (x : ℕ). has_bit x i) (half (bit_or a b) (bit_or (a / 2) (b / 2)) (max (a % 2) (b % 2))
    (max_small (a % 2) (b % 2) (digit a) (digit b)) (or_step a b))
    ∙ or_bit (a / 2) (b / 2) i

pub zero_bit : (i : ℕ) → has_bit 0 i ≡ false
unfolding has_bit
zero_bit zero = refl
zero_bit (suc i) = zero_bit i

-- k bits, all of them
pub full : ℕ → ℕ
full zero = 0
full (suc k) = 1 + 2 * full k

pub full_power : (k : ℕ) → 2 ^ k ≡ full k + 1
unfolding full
full_power zero = refl
full_power (suc k) = let e = full_power k in let p = pow-suc 2 k in omega arith

pub full_all : full 63 ≡ «ALL»
unfolding full
full_all = refl

pub full_every : full 64 ≡ «EVERY»
unfolding full
full_every = refl

eqb_not : (x y : ℕ) → x ≤ 1 → y ≡ 1 - x → eqb y 1 ≡ not (eqb x 1)
eqb_not zero y h e = ap (λ (z : ℕ). eqb z 1) e
eqb_not (suc zero) y h e = ap (λ (z : ℕ). eqb z 1) e
eqb_not (suc (suc x)) y h e = absurd (omega arith)

pub full_few : (m k : ℕ) → k ≤ m → full k ≤ full m
unfolding full
full_few zero zero h = omega arith
full_few zero (suc k) h = absurd (not-suc-le-zero h)
full_few (suc m) zero h = omega arith
full_few (suc m) (suc k) h = omega (arith, full_few m k (omega arith))

-- the others of k bits
pub not_bit : (k x i : ℕ) → i < k → x ≤ full k → has_bit (full k - x) i ≡ not (has_bit x i)
unfolding full has_bit
not_bit zero x i h l = absurd (not-suc-le-zero h)
not_bit (suc k) x zero h l = eqb_not (x % 2) ((1 + 2 * full k - x) % 2) (digit x) (omega arith)
not_bit (suc k) x (suc i) h l =
    let e : (1 + 2 * full k - x) / 2 ≡ full k - x / 2 = omega arith in
    ap (λ (y : ℕ). has_bit y i) e ∙ not_bit k (x / 2) i (omega arith) (omega arith)

pub full_bit : (k i : ℕ) → i < k → has_bit (full k) i ≡ true
unfolding full has_bit
full_bit zero i h = absurd (not-suc-le-zero h)
full_bit (suc k) zero h = let e : (1 + 2 * full k) % 2 ≡ 1 = omega arith in eq-eqb _ 1 e
full_bit (suc k) (suc i) h = let e : (1 + 2 * full k) / 2 ≡ full k = omega arith in ap (λ (y : ℕ). has_bit y i) e ∙ full_bit k i (omega arith)

pub small_bit : (k x i : ℕ) → k ≤ i → x ≤ full k → has_bit x i ≡ false
unfolding full has_bit
small_bit zero x i h l = let e : x ≡ 0 = omega arith in ap (λ (y : ℕ). has_bit y i) e ∙ zero_bit i
small_bit (suc k) x zero h l = absurd (not-suc-le-zero h)
small_bit (suc k) x (suc i) h l = small_bit k (x / 2) i (omega arith) (omega arith)

-- a number that is not 0 has a bit
pub some_bit : (k x : ℕ) → x ≤ full k → (x ≡ 0 → ⊥) → (i : ℕ) × (i < k) × (has_bit x i ≡ true)
unfolding full has_bit
some_bit zero x l n = absurd (n (omega arith))
some_bit (suc k) x l n =
    ⊎_elim
    (λ e. let r = some_bit k (x / 2) (omega arith) (λ z. n (omega arith)) in (suc r.0, omega (arith, r.1), r.2))
    (λ e. (0, omega arith, eq-eqb _ 1 e))
    (bit (digit x))

-- more bits
pub or_left : (a b i : ℕ) → has_bit a i ≡ true → has_bit (bit_or a b) i ≡ true
or_left a b i e = or_bit a b i ∙ rw e

pub or_right : (a b i : ℕ) → has_bit b i ≡ true → has_bit (bit_or a b) i ≡ true
or_right a b i e = or_bit a b i ∙ go (has_bit a i) e
  where
    go : (c : Bool) → has_bit b i ≡ true → c || has_bit b i ≡ true
    go true f = refl
    go false f = f

pub or_either : (a b i : ℕ) → has_bit (bit_or a b) i ≡ true → (has_bit a i ≡ true) ⊎ (has_bit b i ≡ true)
or_either a b i e = go (has_bit a i) refl (sym (or_bit a b i) ∙ e)
  where
    go : (c : Bool) → has_bit a i ≡ c → c || has_bit b i ≡ true → (has_bit a i ≡ true) ⊎ (has_bit b i ≡ true)
    go true f h = inl f
    go false f h = inr h

pub or_more : (a b : ℕ) → a ≤ bit_or a b
or_more a b = let e = or_add_and a b in let h = and_le_r a b in omega arith

pub or_small : (a b : ℕ) → a ≤ «EVERY» → b ≤ «EVERY» → bit_or a b ≤ «EVERY»
or_small a b h l = let e = full_power 64 in let f = full_every in let z = or_lt 64 a b (omega arith) (omega arith) in omega arith
