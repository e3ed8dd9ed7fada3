-- What the statements of both versions by number share: tests that antt computes, and the steps to given words, bad if one of them is outside.
-- Assumes nothing.
use Prim.Native.Nat.{ℕ}
use mathlib.Core.Path.{◌≡◌, refl, ◌∙◌}
use mathlib.Core.Bool.{Bool, true, false, cond, not, ◌||◌, beq, true≢false}
use mathlib.Core.List.{List, [], ◌∷◌}
use lib.Dec.{T, ltb}
use lib.IntN.{ℤ, pos, negsuc}
use Rattle.sweep.specs.declared.edges.Successors.{Successors}
use Rattle.sweep.specs.declared.edges.Successors.TheVariants.{Invalid, Stop, One, Two}
use Rattle.sweep.specs.Steps.{unless, one, two, is_invalid, ordered}
use Rattle.steps.specs.lua53.Bad.{outside}

-- A test of a Boolean either way, which antt computes.

abbrev pub both : (Bool → Bool) → Bool
both f = cond (f true) (f false) false

both_parts : (a b : Bool) → T (cond a b false) → T a × T b
both_parts true b h = (tt, h)
both_parts false b h = absurd h

pub either : (f : Bool → Bool) → T (both f) → (t : Bool) → T (f t)
either f h true = (both_parts (f true) (f false) h).0
either f h false = (both_parts (f true) (f false) h).1

pub agreed : (a b : Bool) → T (beq a b) → a ≡ b
agreed true true h = refl
agreed true false h = absurd h
agreed false true h = absurd h
agreed false false h = refl

-- the steps to given words
abbrev pub steps_to : ℕ → List ℤ → Successors
steps_to n [] = Stop
steps_to n (z ∷ []) = one n z
steps_to n (z ∷ y ∷ zs) = two n z y

pub nothing : (t : Bool) → unless t Invalid ≡ Invalid
unfolding unless
nothing true = refl
nothing false = refl

-- Words outside.

module _ (n : ℕ) where
  pub one_outside : (z : ℤ) → is_invalid (one n z) ≡ outside n z || false
  unfolding one unless
  one_outside (pos q) = go (ltb q n)
    where
      go : (t : Bool) → is_invalid (cond t (One q) Invalid) ≡ not t || false
      go true = refl
      go false = refl
  one_outside (negsuc q) = refl

  ordered_valid : (q r : ℕ) → is_invalid (ordered q r) ≡ false
  unfolding ordered
  ordered_valid q r = go (ltb q r) (ltb r q)
    where
      go : (t u : Bool) → is_invalid (cond t (Two q r) (cond u (Two r q) (One q))) ≡ false
      go true u = refl
      go false true = refl
      go false false = refl

  pub two_outside : (z y : ℤ) → is_invalid (two n z y) ≡ outside n z || (outside n y || false)
  unfolding two unless
  two_outside (pos q) (pos r) = go (ltb q n) (ltb r n)
    where
      go : (t u : Bool) → is_invalid (cond t (cond u (ordered q r) Invalid) Invalid) ≡ not t || (not u || false)
      go true true = ordered_valid q r
      go true false = refl
      go false u = refl
  two_outside (pos q) (negsuc r) = go (ltb q n)
    where
      go : (t : Bool) → true ≡ not t || true
      go true = refl
      go false = refl
  two_outside (negsuc q) y = refl

module _ (s : Successors) where
  pub refused : (t : Bool) → is_invalid (unless (not t) s) ≡ t || is_invalid s
  unfolding unless
  refused true = refl
  refused false = refl

  pub let_on : (t b : Bool) → t || b ≡ false → is_invalid s ≡ b → (unless (not t) s ≡ s) × (is_invalid s ≡ false)
  unfolding unless
  let_on true b e d = absurd (true≢false e)
  let_on false b e d = (refl, d ∙ e)
