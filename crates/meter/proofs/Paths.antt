-- One word more at a path's end: its last word, and the words since service.
-- Assumes nothing.
use Prim.Native.Nat.{ℕ, ◌+◌}
use mathlib.Core.Bool.{Bool, true, false, cond, ◌||◌, or_assoc, or-false, or-true}
use mathlib.Core.Path.{◌≡◌, refl, sym, ap, ◌∙◌}
use mathlib.Core.List.{List, [], ◌∷◌, ◌++◌}
use native.Mathlib.Omega.{arith}
use Rattle.graph.specs.Graph.{Graph, weigh}
use Rattle.meter.specs.Model.{last_from, any_serves, since_service, weight_since}

pub last_more : (p : ℕ) (ps : List ℕ) (q : ℕ) → last_from p (ps ++ (q ∷ [])) ≡ q
last_more p [] q = refl
last_more p (x ∷ ps) q = last_more x ps q

module _ (g : Graph) where
  any_more : (p : ℕ) (ps : List ℕ) (q : ℕ) → any_serves g p (ps ++ (q ∷ [])) ≡ any_serves g p ps || g.serves (last_from p ps) q
  any_more p [] q = or-false (g.serves p q)
  any_more p (x ∷ ps) q = rw (any_more x ps q) (sym (or_assoc (g.serves p x) (any_serves g x ps) (g.serves (last_from x ps) q)))

  -- a serving step leads to q: the words since service are q alone
  pub since_served : (p : ℕ) (ps : List ℕ) (q : ℕ) → g.serves (last_from p ps) q ≡ true → since_service g p (ps ++ (q ∷ [])) ≡ q ∷ []
  since_served p [] q e = rw e
  since_served p (x ∷ ps) q e = rw (any_more x ps q, e, or-true, or-true) (since_served x ps q e)

  -- another step adds q to them
  pub since_more : (p : ℕ) (ps : List ℕ) (q : ℕ) → g.serves (last_from p ps) q ≡ false → since_service g p (ps ++ (q ∷ [])) ≡ since_service g p ps ++ (q ∷ [])
  since_more p [] q e = rw e
  since_more p (x ∷ ps) q e = rw (any_more x ps q, e, or-false) (go (g.serves p x || any_serves g x ps) (since_more x ps q e))
    where
      go : (t : Bool) → since_service g x (ps ++ (q ∷ [])) ≡ since_service g x ps ++ (q ∷ [])
          → cond t (since_service g x (ps ++ (q ∷ []))) (p ∷ x ∷ (ps ++ (q ∷ []))) ≡ cond t (since_service g x ps) (p ∷ x ∷ ps) ++ (q ∷ [])
      go true later = later
      go false later = refl

  module _ (w : ℕ → ℕ) where
    weigh_more : (xs : List ℕ) (q : ℕ) → weigh w (xs ++ (q ∷ [])) ≡ weigh w xs + w q
    weigh_more [] q = omega arith
    weigh_more (x ∷ xs) q = omega (arith, weigh_more xs q)

    pub weight_more : (p : ℕ) (ps : List ℕ) (q : ℕ)
        → weight_since g w (p ∷ (ps ++ (q ∷ [])))
        ≡ cond (g.serves (last_from p ps) q) (w q) (weight_since g w (p ∷ ps) + w q)
    weight_more p ps q = go (g.serves (last_from p ps) q) refl
      where
        go : (t : Bool) → g.serves (last_from p ps) q ≡ t → weight_since g w (p ∷ (ps ++ (q ∷ []))) ≡ cond t (w q) (weight_since g w (p ∷ ps) + w q)
        go true e = ap (weigh w) (since_served p ps q e) ∙ omega arith
        go false e = ap (weigh w) (since_more p ps q e) ∙ weigh_more (since_service g p ps) q
