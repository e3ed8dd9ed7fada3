-- A loop of readers, a turn at a time. Assumes nothing.
use Rattle.std.proofs.Common.{◌≡◌, ℕ, zero, suc, ◌+◌, ◌-◌, ◌<◌, List, ◌∷◌, length, Result, Ok, Err, refl, ap, arith}
use Rattle.common.specs.declared.refusal.Refusal.{Refusal}
use Rattle.loaders.specs.Reading.{Outcome, Reader, bind, repeat, past_of, read_as}
use Rattle.loaders.proofs.Same.{same_value}

-- so many were read up to a position
abbrev pub of_many : ℕ → Result ℕ Refusal → Outcome ℕ
of_many n (Ok past) = Ok (n, past)
of_many n (Err e) = Err e

pub one_left : (n i : ℕ) → i < n → n - i ≡ suc (n - (i + 1))
one_left n i h = omega arith

module _ {A : Type 0} (r : ℕ → Reader A) (bytes : List ℕ) where
  pub no_more : (i n at : ℕ) → n ≡ 0 → past_of (repeat r i n bytes at) ≡ Ok at
  unfolding repeat
  no_more i n at z = rw z

  rest : (x : A) (X : Outcome (List A)) → past_of (bind X (λ xs at. Ok (x ∷ xs, at))) ≡ past_of X
  rest x (Ok (xs, at)) = refl
  rest x (Err e) = refl

  pub one_more : (i n at : ℕ) (x : A) (past : ℕ) → i < n → r i bytes at ≡ Ok (x, past)
      → past_of (repeat r i (n - i) bytes at) ≡ past_of (repeat r (i + 1) (n - (i + 1)) bytes past)
  unfolding repeat
  one_more i n at x past l h = rw (one_left n i l, h) (rest x (repeat r (i + 1) (n - (i + 1)) bytes past))

  pub stops : (i n at : ℕ) (e : Refusal) → i < n → r i bytes at ≡ Err e → past_of (repeat r i (n - i) bytes at) ≡ Err e
  unfolding repeat
  stops i n at e l h = rw (one_left n i l, h)

  -- as many items are read as were asked for
  longer : (x : A) (n : ℕ) (X : Outcome (List A)) → read_as length X ≡ of_many n (past_of X)
      → read_as length (bind X (λ xs at. Ok (x ∷ xs, at))) ≡ of_many (suc n) (past_of (bind X (λ xs at. Ok (x ∷ xs, at))))
  longer x n (Ok (xs, at)) h = rw (same_value (length xs) n at at h)
  longer x n (Err e) h = refl

  first : (n i : ℕ) (X : Outcome A) → ((at : ℕ) → read_as length (repeat r (i + 1) n bytes at) ≡ of_many n (past_of (repeat r (i + 1) n bytes at)))
      → read_as length (bind X (λ x at₁. bind (repeat r (i + 1) n bytes at₁) (λ xs at₂. Ok (x ∷ xs, at₂))))
      ≡ of_many (suc n) (past_of (bind X (λ x at₁. bind (repeat r (i + 1) n bytes at₁) (λ xs at₂. Ok (x ∷ xs, at₂)))))
  first n i (Ok (x, at)) h = longer x n (repeat r (i + 1) n bytes at) (h at)
  first n i (Err e) h = refl

  pub all_of : (n i at : ℕ) → read_as length (repeat r i n bytes at) ≡ of_many n (past_of (repeat r i n bytes at))
  unfolding repeat
  all_of zero i at = refl
  all_of (suc n) i at = first n i (r i bytes at) (all_of n (i + 1))

pub repeat_length : {A : Type 0} (r : ℕ → Reader A) (bytes : List ℕ) (n i at : ℕ) (xs : List A) (next : ℕ) → repeat r i n bytes at ≡ Ok (xs, next) → length xs ≡ n
repeat_length r bytes n i at xs next h =
    same_value (length xs) n next next (rw h at (all_of r bytes n i at))

pub ruleset turns = (no_more, one_more, stops)
