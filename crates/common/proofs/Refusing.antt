-- The checks 1, 6 and 7.
-- Assumes nothing.
use mathlib.Core.Path.{◌≡◌, refl, subst}
use mathlib.Core.Logic.{⊎_elim}
use mathlib.Core.Bool.{Bool, true, false, ◌||◌}
use Prim.Native.Nat.{ℕ, ◌≤◌, ◌<◌, min}
use native.Mathlib.Nat.{pos_of_ne-zero}
use native.Mathlib.Omega.{arith}
use lib.Dec.{ltb, eqb}
use borrow.Author.Tests.{lt-ltb, le-ltb, ltb-true, ltb-false, eqb-true, eqb-false}
use Rattle.std.specs.Prelude.{Result, Ok, Err, ⊤}
use Rattle.common.specs.declared.refusal.Refusal.{Refusal}
use Rattle.common.specs.declared.refusal.Refusal.TheVariants.{TooManyWords, ShortSlice, NoWords}
use Rattle.common.specs.Limits.{most_words}
use Rattle.common.specs.Chain.{refuse_if, room_answer, sizes_answer}
use Rattle.common.proofs.Order.{split}

-- the shorter of two slices is too short where one of them is
pub either_short : (a b n : ℕ) → ltb (min a b) n ≡ ltb a n || ltb b n
either_short a b n =
    ⊎_elim
    (λ h. rw (le-ltb a n h) (⊎_elim (λ k. rw (le-ltb b n k, le-ltb (min a b) n (omega arith))) (λ k. rw (lt-ltb b n k, lt-ltb (min a b) n (omega arith))) (split n b)))
    (λ h. rw (lt-ltb a n h, lt-ltb (min a b) n (omega arith)))
    (split n a)

-- Which refusal it is, and what holds where none refuses.
abbrev passed : Result ⊤ Refusal
passed = Ok tt

module _ (n room : ℕ) where
  module _ (P : Refusal → Type 0) (many : most_words < n → P TooManyWords) (short : n ≤ most_words → room < n → P ShortSlice) where
    pub room_err : {e : Refusal} → room_answer n room ≡ Err e → P e
    unfolding room_answer
    room_err {e} = go (ltb most_words n) (ltb room n) refl refl
      where
        go : (a b : Bool) → ltb most_words n ≡ a → ltb room n ≡ b → refuse_if a (Err TooManyWords) (refuse_if b (Err ShortSlice) passed) ≡ Err e → P e
        go true b d f h = let k : TooManyWords ≡ e = cc in subst P k (many (ltb-true most_words n d))
        go false true d f h = let k : ShortSlice ≡ e = cc in subst P k (short (ltb-false most_words n d) (ltb-true room n f))
        go false false d f h = absurd cc

    pub sizes_err : (n ≤ most_words → n ≤ room → n ≡ 0 → P NoWords) → {e : Refusal} → sizes_answer n room ≡ Err e → P e
    unfolding sizes_answer
    sizes_err none {e} = go (ltb most_words n) (ltb room n) (eqb n 0) refl refl refl
      where
        go :
            (a b c : Bool) → ltb most_words n ≡ a → ltb room n ≡ b → eqb n 0 ≡ c
            → refuse_if a (Err TooManyWords) (refuse_if b (Err ShortSlice) (refuse_if c (Err NoWords) passed)) ≡ Err e → P e
        go true b c d f g h = let k : TooManyWords ≡ e = cc in subst P k (many (ltb-true most_words n d))
        go false true c d f g h = let k : ShortSlice ≡ e = cc in subst P k (short (ltb-false most_words n d) (ltb-true room n f))
        go false false true d f g h = let k : NoWords ≡ e = cc in subst P k (none (ltb-false most_words n d) (ltb-false room n f) (eqb-true n 0 g))
        go false false false d f g h = absurd cc

  pub room_ok : {t : ⊤} → room_answer n room ≡ Ok t → (n ≤ most_words) × (n ≤ room)
  unfolding room_answer
  room_ok {t} = go (ltb most_words n) (ltb room n) refl refl
    where
      go : (a b : Bool) → ltb most_words n ≡ a → ltb room n ≡ b → refuse_if a (Err TooManyWords) (refuse_if b (Err ShortSlice) passed) ≡ Ok t → (n ≤ most_words) × (n ≤ room)
      go true b d f h = absurd cc
      go false true d f h = absurd cc
      go false false d f h = (ltb-false most_words n d, ltb-false room n f)

  pub sizes_ok : {t : ⊤} → sizes_answer n room ≡ Ok t → (n ≤ most_words) × (n ≤ room) × (0 < n)
  unfolding sizes_answer
  sizes_ok {t} = go (ltb most_words n) (ltb room n) (eqb n 0) refl refl refl
    where
      go :
          (a b c : Bool) → ltb most_words n ≡ a → ltb room n ≡ b → eqb n 0 ≡ c
          → refuse_if a (Err TooManyWords) (refuse_if b (Err ShortSlice) (refuse_if c (Err NoWords) passed)) ≡ Ok t
          → (n ≤ most_words) × (n ≤ room) × (0 < n)
      go true b c d f g h = absurd cc
      go false true c d f g h = absurd cc
      go false false true d f g h = absurd cc
      go false false false d f g h = (ltb-false most_words n d, ltb-false room n f, pos_of_ne-zero (eqb-false n 0 g))
