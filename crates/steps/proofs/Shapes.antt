-- The ways on of the cases of a version's switch, by a computed test: each case has those of one of a few shapes.
-- Assumes nothing.
use Prim.Native.Nat.{ℕ, ◌<◌}
use mathlib.Core.Path.{◌≡◌, refl, ap, ap₂, sym, ◌∙◌}
use mathlib.Core.Bool.{Bool, true, false, cond}
use mathlib.Core.List.{List, [], ◌∷◌}
use lib.Dec.{T, eqb, eqb→eq}
use Rattle.common.proofs.Tests.{left_of, right_of}
use Rattle.fields.specs.Laws.{all}
use Rattle.fields.proofs.Laws.{laws}
use Rattle.steps.specs.Executions.{Arm, gos_of}

module _ {Go : Type 0} (from : ℕ → Go) (numbered : (go : Go) → (k : ℕ) × (from k ≡ go)) where
  abbrev number : Go → ℕ
  number go = (numbered go).0

  abbrev same : List Go → List Go → Bool
  same [] [] = true
  same [] (y ∷ ys) = false
  same (x ∷ xs) [] = false
  same (x ∷ xs) (y ∷ ys) = cond (eqb (number x) (number y)) (same xs ys) false

  by_test : (xs ys : List Go) → T (same xs ys) → xs ≡ ys
  by_test [] [] t = refl
  by_test [] (y ∷ ys) t = absurd t
  by_test (x ∷ xs) [] t = absurd t
  by_test (x ∷ xs) (y ∷ ys) t =
      let n : number x ≡ number y = eqb→eq (number x) (number y) (left_of (eqb (number x) (number y)) (same xs ys) t) in
      ap₂ (λ (z : Go) (zs : List Go). z ∷ zs) (sym (numbered x).1 ∙ (ap from n ∙ (numbered y).1))
      (by_test xs ys (right_of (eqb (number x) (number y)) (same xs ys) t))

  -- the first of some shapes that has a case's ways on
  module _ {Shape : Type 0} (gos_by : Shape → List Go) (none : Shape) (shapes : List Shape) where
    abbrev among : List Shape → List Go → Shape
    among [] gos = none
    among (shape ∷ others) gos = cond (same gos (gos_by shape)) shape (among others gos)

    abbrev pub shape_of : List (Arm Go) → Shape
    shape_of body = among shapes (gos_of body)

    abbrev pub shaped_at : (ℕ → List (Arm Go)) → ℕ → Bool
    shaped_at body_of o = same (gos_of (body_of o)) (gos_by (shape_of (body_of o)))

    pub shaped_below : (body_of : ℕ → List (Arm Go)) (n : ℕ) → T (all (shaped_at body_of) n) → (o : ℕ) → o < n → gos_of (body_of o) ≡ gos_by (shape_of (body_of o))
    shaped_below body_of n t o h = by_test (gos_of (body_of o)) (gos_by (shape_of (body_of o))) (laws.each_below (shaped_at body_of) n t o h)
