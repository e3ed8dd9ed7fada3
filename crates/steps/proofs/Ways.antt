-- What the agreement of either version's lvm.c shares: columns that are compared by a computed test, tests that a word that is not bad has passed, and
-- words that are run without a dispatch of their own.
-- Assumes nothing.
use Prim.Native.Nat.{ℕ, ◌+◌, ◌<◌}
use mathlib.Core.Path.{◌≡◌, refl, ap, sym, ◌∙◌}
use mathlib.Core.Bool.{Bool, true, false, cond}
use mathlib.Core.List.{List, [], ◌∷◌}
use lib.Dec.{T, eqb, eqb→eq}
use lib.IntN.{ℤ, pos, ◌+ℤ◌}
use borrow.Author.Tests.{eqb-true}
use Rattle.fields.specs.Laws.{all}
use Rattle.fields.proofs.Laws.{laws}
use Rattle.sweep.specs.declared.edges.Successors.{Successors}
use Rattle.sweep.specs.Steps.{unless, is_invalid, list_of}
use Rattle.steps.specs.Ways.{Way, fetch, jumped, integers, Alike}
use Rattle.steps.proofs.NextWords.{Same, passed, held, one_later}

-- Columns of a table, as numbers.
module _ {X : Type 0} (number : X → ℕ) (from : ℕ → X) (back : (x : X) → from (number x) ≡ x) where
  same_number : (x y : X) → number x ≡ number y → x ≡ y
  same_number x y e = sym (back x) ∙ (ap from e ∙ back y)

  abbrev pub same_at : (ℕ → X) → (ℕ → X) → ℕ → Bool
  same_at f g o = eqb (number (f o)) (number (g o))

  pub same_below : (f g : ℕ → X) (n : ℕ) → T (all (same_at f g) n) → (o : ℕ) → o < n → f o ≡ g o
  same_below f g n t o h = same_number (f o) (g o) (eqb→eq _ _ (laws.each_below (same_at f g) n t o h))

  -- a companion that a body of the switch leans on is none, which has number 0, or the one that the table wants
  abbrev pub leans_at : (ℕ → X) → (ℕ → X) → ℕ → Bool
  leans_at leaned wanted o = cond (eqb (number (leaned o)) 0) true (eqb (number (wanted o)) (number (leaned o)))

  -- so that it stands where the other does
  module _ (stands : X → Bool) (alone : X) (is_zero : number alone ≡ 0) (free : stands alone ≡ true) where
    lean : (c d : X) (t : Bool) → eqb (number c) 0 ≡ t → T (cond t true (eqb (number d) (number c))) → stands d ≡ true → stands c ≡ true
    lean c d true e r there = ap stands (same_number c alone (eqb-true _ _ e ∙ sym is_zero)) ∙ free
    lean c d false e r there = ap stands (sym (same_number d c (eqb→eq _ _ r))) ∙ there

    pub leans_below :
        (leaned wanted : ℕ → X) (n : ℕ) → T (all (leans_at leaned wanted) n) → (o : ℕ) → o < n → stands (wanted o) ≡ true →
        stands (leaned o) ≡ true
    leans_below leaned wanted n t o h there =
        lean (leaned o) (wanted o) (eqb (number (leaned o)) 0) refl (laws.each_below (leans_at leaned wanted) n t o h) there

-- What a word that is not bad has passed: there is such a word, and its companion is there.
module _ (inside present : Bool) (steps : Successors) (e : is_invalid (unless inside (unless present steps)) ≡ false) where
  first : unless inside (unless present steps) ≡ unless present steps
  first = passed inside (unless present steps) e

  pub both_passed : unless inside (unless present steps) ≡ steps
  both_passed = first ∙ passed present steps (sym (ap is_invalid first) ∙ e)

  pub second_held : present ≡ true
  second_held = held present steps (sym (ap is_invalid first) ∙ e)

-- next words and steps, each by what it is
pub found_same : (xs ys : List ℤ) (s t : Successors) → xs ≡ ys → s ≡ t
    → (is_invalid t ≡ false → Same ys (integers (list_of t))) → is_invalid s ≡ false → Same xs (integers (list_of s))
found_same xs ys s t d c known e = rw (d, c) (known (sym (ap is_invalid c) ∙ e))

-- Words that are run without a dispatch of their own.
module _ {Body : Type 0} (jmp : Body) (body_at : ℕ → Body) (ways_at : ℕ → List (Way Body)) where
  pub fetched : (t : Bool) (x y : ℤ) → Alike jmp body_at ways_at (cond t (fetch x ∷ []) (fetch y ∷ []))
  fetched true x y = tt
  fetched false x y = tt

  -- a JMP that is done at once, where it is done; j is how far it jumps
  pub at_once : (q : ℕ) (j y : ℤ) → body_at q ≡ jmp → ways_at q ≡ fetch (pos (q + 1) +ℤ (j +ℤ pos 0)) ∷ [] → (t : Bool) (ways : List (Way Body))
      → Alike jmp body_at ways_at ways → Alike jmp body_at ways_at (cond t (jumped (pos q) (pos q +ℤ (j +ℤ pos 1))) (fetch y) ∷ ways)
  at_once q j y b w true ways rest = (b, w ∙ ap (λ (z : ℤ). fetch z ∷ []) (sym (one_later q j)), rest)
  at_once q j y b w false ways rest = rest
