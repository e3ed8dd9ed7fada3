-- Sets of next words: what a word that is not bad goes on to, as integers. No word is read here. Assumes nothing.
use Prim.Native.Nat.{ℕ, ◌+◌}
use mathlib.Core.Path.{◌≡◌, refl, ap, sym, ◌∙◌}
use mathlib.Core.Logic.{inl, inr, ◌↔◌}
use mathlib.Core.Bool.{Bool, true, false, cond, true≢false}
use mathlib.Core.List.{List, [], ◌∷◌}
use native.Mathlib.Omega.{arith}
use lib.Dec.{ltb}
use lib.IntN.{ℤ, pos, negsuc, ◌+ℤ◌, +ℤ_assoc, +ℤ_comm, +ℤ_idr}
use borrow.Author.Tests.{ltb-false}
use Rattle.sweep.specs.declared.edges.Successors.{Successors}
use Rattle.sweep.specs.declared.edges.Successors.TheVariants.{One, Two}
use Rattle.graph.specs.Graph.{In}
use Rattle.sweep.specs.Steps.{unless, one, ordered, two, is_invalid, list_of}
use Rattle.steps.specs.Ways.{integers}

-- Sets of next words.

abbrev pub Same : List ℤ → List ℤ → Type 0
Same xs ys = (z : ℤ) → In z xs ↔ In z ys

swapped : {x y z : ℤ} → In z (x ∷ y ∷ []) → In z (y ∷ x ∷ [])
swapped (inl e) = inr (inl e)
swapped (inr (inl e)) = inl e
swapped (inr (inr e)) = absurd e

doubled : {x y z : ℤ} → x ≡ y → In z (x ∷ y ∷ []) → In z (x ∷ [])
doubled d (inl e) = inl e
doubled d (inr (inl e)) = inl (e ∙ sym d)
doubled d (inr (inr e)) = absurd e

single : {x y z : ℤ} → In z (x ∷ []) → In z (x ∷ y ∷ [])
single (inl e) = inl e
single (inr e) = absurd e

pub itself : (xs : List ℤ) → Same xs xs
itself xs z = (λ m. m, λ m. m)

-- a test that a word that is not bad has passed
pub passed : (t : Bool) (s : Successors) → is_invalid (unless t s) ≡ false → unless t s ≡ s
unfolding unless
passed true s e = refl
passed false s e = absurd (true≢false e)

-- one next word, and two of them, of a word that is not bad
pub one_same : (n : ℕ) (x : ℤ) → is_invalid (one n x) ≡ false → integers (list_of (one n x)) ≡ x ∷ []
unfolding one
one_same n (pos q) e = ap (λ (s : Successors). integers (list_of s)) (passed (ltb q n) (One q) e)
one_same n (negsuc q) e = absurd (true≢false e)

ordered_same : (q r : ℕ) → Same (pos q ∷ pos r ∷ []) (integers (list_of (ordered q r)))
unfolding ordered
ordered_same q r = go (ltb q r) (ltb r q) refl refl
  where
    go : (a b : Bool) → ltb q r ≡ a → ltb r q ≡ b → Same (pos q ∷ pos r ∷ []) (integers (list_of (cond a (Two q r) (cond b (Two r q) (One q)))))
    go true b d e z = (λ m. m, λ m. m)
    go false true d e z = (swapped, swapped)
    go false false d e z =
        let equal : pos q ≡ pos r = ap pos (omega (arith, ltb-false q r d, ltb-false r q e)) in
        (doubled equal, single)

pub two_same : (n : ℕ) (x y : ℤ) → is_invalid (two n x y) ≡ false → Same (x ∷ y ∷ []) (integers (list_of (two n x y)))
unfolding two
two_same n (pos q) (pos r) e =
    let first = passed (ltb q n) (unless (ltb r n) (ordered q r)) e in
    rw (first, passed (ltb r n) (ordered q r) (sym (ap is_invalid first) ∙ e)) (ordered_same q r)
two_same n (pos q) (negsuc r) e = absurd (true≢false e)
two_same n (negsuc q) y e = absurd (true≢false e)

module _ (n : ℕ) where
  pub one_by : (x y : ℤ) → x ≡ y → is_invalid (one n y) ≡ false → Same (x ∷ []) (integers (list_of (one n y)))
  one_by x y d e = rw (one_same n y e, d) (itself (y ∷ []))

  -- a next word that is given twice
  pub twice_by : (x y : ℤ) → x ≡ y → is_invalid (one n y) ≡ false → Same (x ∷ x ∷ []) (integers (list_of (one n y)))
  twice_by x y d e = rw (one_same n y e, d) (λ z. (doubled refl, single))

  pub two_by : (x y x' y' : ℤ) → x ≡ x' → y ≡ y' → is_invalid (two n x' y') ≡ false → Same (x ∷ y ∷ []) (integers (list_of (two n x' y')))
  two_by x y x' y' c d e = rw (c, d) (two_same n x' y' e)

  -- the C's order is the other one
  pub two_back : (x y x' y' : ℤ) → x ≡ x' → y ≡ y' → is_invalid (two n x' y') ≡ false → Same (y ∷ x ∷ []) (integers (list_of (two n x' y')))
  two_back x y x' y' c d e z =
      let both = two_by x y x' y' c d e z in
      (λ m. both.0 (swapped m), λ m. swapped (both.1 m))

-- the test that a word that is not bad has passed holds
pub held : (t : Bool) (s : Successors) → is_invalid (unless t s) ≡ false → t ≡ true
unfolding unless
held true s e = refl
held false s e = absurd (true≢false e)

-- a distance from the word before
pub one_later : (p : ℕ) (j : ℤ) → pos p +ℤ (j +ℤ pos 1) ≡ pos (p + 1) +ℤ (j +ℤ pos 0)
one_later p j =
    ap (pos p +ℤ◌) (+ℤ_comm j (pos 1)) ∙ (sym (+ℤ_assoc (pos p) (pos 1) j) ∙ ap (pos (p + 1) +ℤ◌) (sym (+ℤ_idr j)))
