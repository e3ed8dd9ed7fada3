-- A float that is a number equals itself, so that its bits are taken; those that lifted records hold are numbers.
-- Assumes nothing.
use Prim.Native.Nat.{ℕ, zero, suc, ◌+◌, ◌*◌, ◌<◌, ◌^◌}
use mathlib.Core.Path.{◌≡◌, refl, sym, ◌∙◌}
use mathlib.Core.Bool.{Bool, true, false, not, ◌&&◌, ◌||◌, beq, cond, true≢false}
use lib.Dec.{T, eqb, ltb}
use lib.IntN.{ℤ, pos, negsuc}
use lib.Ieee.{Float, nan, inf, fin, Format, binary64, prec, emax, low, up, down, odd, units, round, of_int, eq, is_nan, of_bits, to_bits, nan_bits}
use lib.Ieee.Bits.{nan_bits_is, to_bits-of_bits}
use borrow.Author.Tests.{eq-eqb}
use Rattle.common.specs.Chain.{choose}
use Rattle.numbered.specs.Parts.{float_bits}

beq_self : (s : Bool) → beq s s ≡ true
beq_self true = refl
beq_self false = refl

level_self : (s t u : Bool) → t ≡ true → s ≡ true → (t && (s || u)) ≡ true
level_self s t u p q = rw (p, q)

eq_self : (x : Float) → is_nan x ≡ false → eq x x ≡ true
unfolding eq is_nan
eq_self nan h = absurd (true≢false (cc))
eq_self (inf s) h = beq_self s
eq_self (fin s m e) h =
    level_self (beq s s) (eqb (m * up e * down e) (m * up e * down e)) (eqb (m * up e * down e) 0)
    (eq-eqb (m * up e * down e) _ refl) (beq_self s)

-- the bits of a number
pub bits_of : (x : Float) → is_nan x ≡ false → float_bits x ≡ to_bits binary64 x
unfolding float_bits choose
bits_of x h = rw (eq_self x h)

pub no_nan : (b : Bool) → b ≡ false → T (not b)
no_nan true e = absurd (true≢false (cc))
no_nan false e = tt

-- bits read as a number, and written again
pub bits_back : (p : ℕ) → p < 2 ^ 64 → nan_bits binary64 p ≡ false → float_bits (of_bits binary64 p) ≡ p
bits_back p h e =
    let n : is_nan (of_bits binary64 p) ≡ false = sym (nan_bits_is binary64 p) ∙ e in
    bits_of (of_bits binary64 p) n ∙ to_bits-of_bits binary64 p h (no_nan (is_nan (of_bits binary64 p)) n)

-- an integer's float is a number

odd_number : (d : ℕ) (s : Bool) (q k l : ℕ) → is_nan (odd d s q k l) ≡ false
unfolding odd is_nan
odd_number d s zero k l = refl
odd_number d s (suc q) k l = refl

cond_number : (b : Bool) (x y : Float) → is_nan x ≡ false → is_nan y ≡ false → is_nan (cond b x y) ≡ false
cond_number true x y p q = p
cond_number false x y p q = q

inf_number : (s : Bool) → is_nan (inf s) ≡ false
unfolding is_nan
inf_number s = refl

units_number : (f : Format) (s : Bool) (q k : ℕ) → is_nan (units f s q k) ≡ false
unfolding units
units_number f s q k =
    cond_number (ltb (q * 2 ^ k) (2 ^ (low f + suc (emax f)))) (odd (suc (prec f)) s q k (low f)) (inf s)
    (odd_number (suc (prec f)) s q k (low f)) (inf_number s)

round_number : (f : Format) (s : Bool) (a b : ℕ) → is_nan (round f s a b) ≡ false
unfolding round
round_number f s a b = units_number f s _ _

pub integer_number : (z : ℤ) → is_nan (of_int binary64 z) ≡ false
unfolding of_int
integer_number (pos n) = round_number binary64 false n 1
integer_number (negsuc n) = round_number binary64 true (suc n) 1
