-- Where the library's `position` stops in a list is the lowest index at which a test of indices holds.
-- Assumes nothing.
use Rattle.std.proofs.Common.{◌≡◌, refl, sym, ◌∙◌, ap, Bool, true, false, cond, ltb, ℕ, suc, ◌+◌, ◌<◌, List, [], ◌∷◌, length, get_or, Option, Some, None, arith}
use Rattle.std.specs.List.{position, position_or_len}
use Rattle.common.specs.Lowest.{lowest_from, lowest}

-- the place that a search gives, of n: none past them
abbrev pub found_of : ℕ → ℕ → Option ℕ
found_of a n = cond (ltb a n) (Some a) None

module _ {X : Type 0} (p : X → Bool) (d : X) (t : ℕ → Bool) where
  lowest_at : (xs : List X) (i : ℕ) → ((k : ℕ) → k < length xs → t (i + k) ≡ p (get_or xs k d))
      → lowest_from t i (length xs) ≡ i + position_or_len p xs
  unfolding lowest_from
  lowest_at [] i h = omega arith
  lowest_at (x ∷ xs) i h =
      go (lowest_at xs (i + 1) (λ k l. let e : i + suc k ≡ i + 1 + k = omega arith in rw e at (h (suc k) (omega arith)))) (p x) refl
    where
      here : t i ≡ p x
      here = let e : i + 0 ≡ i = omega arith in rw e at (h 0 (omega arith))

      go : lowest_from t (i + 1) (length xs) ≡ i + 1 + position_or_len p xs
          → (b : Bool) → p x ≡ b → cond (t i) i (lowest_from t (i + 1) (length xs)) ≡ i + position_or_len p (x ∷ xs)
      go rest true e = rw (here, e) (omega arith)
      go rest false e = rw (here, e) (rest ∙ omega arith)

  -- a test of indices that tests the elements

  pub lowest_position : (xs : List X) → ((k : ℕ) → k < length xs → t k ≡ p (get_or xs k d))
      → lowest t (length xs) ≡ position_or_len p xs
  lowest_position xs h = lowest_at xs 0 (λ k l. let z : 0 + k ≡ k = omega arith in rw z (h k l)) ∙ omega arith

  pub found : (xs : List X) → ((k : ℕ) → k < length xs → t k ≡ p (get_or xs k d))
      → position p xs ≡ found_of (lowest t (length xs)) (length xs)
  found xs h = ap (λ a. found_of a (length xs)) (sym (lowest_position xs h))

some_by : (b : Bool) (a i : ℕ) → cond b (Some a) None ≡ Some i → (b ≡ true) × (a ≡ i)
some_by true a i e = (refl, cc)
some_by false a i e = cc

none_by : (b : Bool) (a : ℕ) → cond b (Some a) None ≡ None → b ≡ false
none_by true a e = cc
none_by false a e = refl

-- what is found tells which way the test goes
pub where_found : (a n i : ℕ) → found_of a n ≡ Some i → (ltb a n ≡ true) × (a ≡ i)
where_found a n i e = some_by (ltb a n) a i e

pub nowhere_found : (a n : ℕ) → found_of a n ≡ None → ltb a n ≡ false
nowhere_found a n e = none_by (ltb a n) a e
