-- Two canonical lists with the same registers are equal. Assumes nothing.
use Prim.Native.Nat.{ℕ, ◌≤◌, ◌<◌}
use mathlib.Core.Path.{◌≡◌, refl, ap, ◌∙◌}
use mathlib.Core.Logic.{inl, inr, ⊎_elim, ◌↔◌}
use mathlib.Core.List.{List, [], ◌∷◌}
use native.Mathlib.Omega.{arith}
use Rattle.locations.specs.declared.interval.Interval.{Interval}
use Rattle.locations.proofs.Order.{split}
use Rattle.locations.proofs.Ranges.{Inside, After, Canonical}

-- the registers of a canonical list that starts past e are past e
past : (e q : ℕ) (xs : List Interval) → After e xs → Canonical xs → Inside q xs → e < q
past e q [] a k i = absurd i
past e q (x ∷ xs) a k i =
    ⊎_elim (λ (b : (x.first ≤ q) × (q < x.end)). omega (arith, b.0)) (λ b. past e q xs (later xs k.1.0) k.1.1 b) i
  where
    later : (ys : List Interval) → After x.end ys → After e ys
    later [] b = tt
    later (y ∷ ys) b = omega (arith, k.0)

module _ (x : Interval) (xs : List Interval) (k : Canonical (x ∷ xs)) where
  least : (q : ℕ) → Inside q (x ∷ xs) → x.first ≤ q
  least q i = ⊎_elim (λ (b : (x.first ≤ q) × (q < x.end)). b.0) (λ b. omega (arith, past x.end q xs k.1.0 k.1.1 b, k.0)) i

  here : Inside x.first (x ∷ xs)
  here = inl (omega arith, k.0)

  -- the register after the first range is in none
  gap : Inside x.end (x ∷ xs) → ⊥
  gap i =
      ⊎_elim (λ (b : (x.first ≤ x.end) × (x.end < x.end)). absurd (omega (arith, b.1)))
      (λ b. absurd (omega (arith, past x.end x.end xs k.1.0 k.1.1 b))) i

  -- one past the first range is in the others
  other : (q : ℕ) → x.end ≤ q → Inside q (x ∷ xs) → Inside q xs
  other q h i = ⊎_elim (λ (b : (x.first ≤ q) × (q < x.end)). absurd (omega (arith, b.1))) (λ b. b) i

  beyond : (q : ℕ) → Inside q xs → x.end ≤ q
  beyond q i = omega (arith, past x.end q xs k.1.0 k.1.1 i)

-- one list's registers are among another's
abbrev Sub : List Interval → List Interval → Type 0
Sub xs ys = (q : ℕ) → Inside q xs → Inside q ys

module _ (x y : Interval) (xs ys : List Interval) (k : Canonical (x ∷ xs)) (l : Canonical (y ∷ ys)) (f : Sub (x ∷ xs) (y ∷ ys)) where
  first_from : y.first ≤ x.first
  first_from = least y ys l x.first (f x.first (here x xs k))

  -- the first range of the one does not reach past that of the other
  end_to : x.first ≤ y.end → x.end ≤ y.end
  end_to h = ⊎_elim (λ b. absurd (gap y ys l (f y.end (inl (h, b))))) (λ b. b) (split y.end x.end)

  rest : x.end ≡ y.end → Sub xs ys
  rest e q i = other y ys l q (omega (arith, beyond x xs k q i)) (f q (inr i))

abbrev interval : ℕ → ℕ → Interval
interval first end = record { first = first; end = end }

same_interval : (x y : Interval) → x.first ≡ y.first → x.end ≡ y.end → x ≡ y
same_interval x y d e = ap (λ (n : ℕ). interval n x.end) d ∙ ap (λ (n : ℕ). interval y.first n) e

go : (xs ys : List Interval) → Canonical xs → Canonical ys → Sub xs ys → Sub ys xs → xs ≡ ys
go [] [] k l f g = refl
go [] (y ∷ ys) k l f g = absurd (g y.first (here y ys l))
go (x ∷ xs) [] k l f g = absurd (f x.first (here x xs k))
go (x ∷ xs) (y ∷ ys) k l f g =
    let a : y.first ≤ x.first = first_from x y xs ys k l f in
    let b : x.first ≤ y.first = first_from y x ys xs l k g in
    let c : x.end ≤ y.end = end_to x y xs ys k l f (omega (arith, l.0)) in
    let d : y.end ≤ x.end = end_to y x ys xs l k g (omega (arith, k.0)) in
    let first : x.first ≡ y.first = omega arith in
    let end : x.end ≡ y.end = omega arith in
    let back : y.end ≡ x.end = omega arith in
    rw (same_interval x y first end, go xs ys k.1.1 l.1.1 (rest x y xs ys k l f end) (rest y x ys xs l k g back))

pub only : (xs ys : List Interval) → Canonical xs → Canonical ys → ((q : ℕ) → Inside q xs ↔ Inside q ys) → xs ≡ ys
only xs ys k l h = go xs ys k l (λ q. (h q).0) (λ q. (h q).1)
