-- A jump's target: the sum of naturals less the offset, of 64 bits, against the signed sum of the definition.
-- Assumes nothing.
use Prim.Native.Nat.{ℕ, zero, suc, ◌+◌, ◌-◌, ◌<◌, ◌≤◌, ◌^◌}
use mathlib.Core.Path.{◌≡◌, ◌∙◌, ap, sym}
use native.Mathlib.Omega.{arith}
use native.Mathlib.Nat.{not-suc-le-zero}
use lib.IntN.{pos, negsuc, neg_ℤ, ◌-ℤ◌, ◌+ℤ◌, +ℤ_assoc}
use Rattle.std.proofs.Common.{inl, inr, ◌%◌}
use Rattle.std.proofs.lemmas.Bool.{cases_lt}
use borrow.Author.Tests.{lt-ltb, le-ltb}
use Rattle.dispatch.specs.Dispatch.{wrap}

-- a difference of two naturals, by its sign
difference_in : (x b : ℕ) → b ≤ x → pos x -ℤ pos b ≡ pos (x - b)
difference_in x zero h = ap pos (omega arith)
difference_in x (suc b) h = rw (le-ltb x (suc b) h)

difference_below : (x b : ℕ) → x < b → pos x -ℤ pos b ≡ negsuc (b - suc x)
difference_below x zero h = absurd (not-suc-le-zero h)
difference_below x (suc b) h = rw (lt-ltb x (suc b) h)

module _ (m a b : ℕ) where
  wrap_in : b ≤ m + a → m + a - b ≡ wrap (pos m +ℤ (pos a -ℤ pos b))
  unfolding wrap
  wrap_in h = ap wrap (sym (difference_in (m + a) b h) ∙ +ℤ_assoc (pos m) (pos a) (neg_ℤ (pos b)))

  wrap_below : m + a < b → 2 ^ 64 - (b - suc (m + a) + 1) ≡ wrap (pos m +ℤ (pos a -ℤ pos b))
  unfolding wrap
  wrap_below h = ap wrap (sym (difference_below (m + a) b h) ∙ +ℤ_assoc (pos m) (pos a) (neg_ℤ (pos b)))

-- the same, as a difference of 64 bits
pub wrapped : (m a b : ℕ) → m + a < 2 ^ 64 → b ≤ 2 ^ 64 → (m + a + (2 ^ 64 - b)) % 2 ^ 64 ≡ wrap (pos m +ℤ (pos a -ℤ pos b))
wrapped m a b h k = elim (cases_lt (m + a) b) [
  | inl l ↦ omega (arith, l, h, k) ∙ wrap_below m a b l
  | inr l ↦ omega (arith, l, h, k) ∙ wrap_in m a b l
]
