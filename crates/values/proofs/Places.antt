-- Places of a list, and those past its end.
-- Assumes nothing.
use Rattle.std.proofs.Common.{◌≡◌, refl, ℕ, zero, suc, ◌-◌, List, [], ◌∷◌, ◌++◌, length, get_or, take, drop, replicate, min, sym, ap, ◌∙◌, arith, inl, inr}
use Rattle.std.proofs.lemmas.List.{length-take-le, take_all, take-append-drop}
use Rattle.std.proofs.lemmas.Bool.{cases_lt}
use Rattle.values.specs.declared.few.Few.{Few}
use Rattle.values.specs.Few.{few}

-- the first n of m things, which are put in the first places, and the filler behind them
module _ {X : Type 0} (n m count : ℕ) (xs slots : List X) (filler : X) (all : length xs ≡ m) (least : count ≡ min m n) where
  first : take n xs ≡ take count xs
  first = elim (cases_lt n m) [
    | inl h ↦ let e : count ≡ n = omega (arith, least) in rw e
    | inr h ↦ let e : count ≡ m = omega (arith, least) in rw e (take_all n xs (omega arith) ∙ sym (take_all m xs (omega arith)))
  ]

  taken : length (take n xs) ≡ count
  taken = rw first (length-take-le count xs (omega (arith, all, least)))

  abbrev with_places : List X → ℕ → Few X n
  with_places places k = record { slots = places; count = k }

  pub few_made : take count slots ≡ take count xs → drop count slots ≡ replicate (n - count) filler
      → with_places slots count ≡ few n filler xs
  unfolding few
  few_made front rest =
      let e : slots ≡ take n xs ++ replicate (n - length (take n xs)) filler
      = rw (taken, first, ← front, ← rest) (sym (take-append-drop count slots)) in
      ap (λ (places : List X). with_places places count) e ∙ ap (with_places _) (sym taken)

-- a place of a made list holds what that place of the items does, or the filler
module _ {X : Type 0} (filler : X) where
  of_fillers : (m k : ℕ) → get_or (replicate m filler) k filler ≡ filler
  of_fillers zero k = refl
  of_fillers (suc m) zero = refl
  of_fillers (suc m) (suc k) = of_fillers m k

  before_fillers : (xs : List X) (m k : ℕ) → get_or (xs ++ replicate m filler) k filler ≡ get_or xs k filler
  before_fillers [] m k = of_fillers m k
  before_fillers (x ∷ xs) m zero = refl
  before_fillers (x ∷ xs) m (suc k) = before_fillers xs m k

  pub place_made : (n : ℕ) (xs : List X) (k : ℕ) → get_or (few n filler xs).slots k filler ≡ get_or (take n xs) k filler
  unfolding few
  place_made n xs k = before_fillers (take n xs) (n - length (take n xs)) k
