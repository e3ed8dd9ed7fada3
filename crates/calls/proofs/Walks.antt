-- A walk with no serving step, from a word that is reached, weighs no more than L: by the laws of graph. Assumes nothing.
use mathlib.Core.Path.{◌≡◌, refl, sym}
use mathlib.Core.Logic.{inl, inr}
use mathlib.Core.Bool.{false}
use mathlib.Core.List.{List, [], ◌∷◌}
use Prim.Native.Nat.{ℕ, ◌+◌, ◌≤◌}
use native.Mathlib.Omega.{arith}
use Rattle.graph.specs.Graph.{Graph, In, Lawful, Reachable, weigh}
use Rattle.graph.specs.Longest.{best, length_of, longest}
use Rattle.graph.proofs.Laws.{laws}
use Rattle.graph.proofs.Numbers.{most_upper}

-- word after word by steps that do not serve
abbrev pub Free : Graph → ℕ → List ℕ → Type 0
Free g p [] = Unit {0}
Free g p (q ∷ qs) = (In q (g.successors p) × (g.serves p q ≡ false)) × Free g q qs

best_upper : (g : Graph) (f : ℕ → ℕ) (p q : ℕ) (qs : List ℕ) → In q qs → g.serves p q ≡ false → f q ≤ best g p f qs
best_upper g f p q [] x s = elim x [ ]
best_upper g f p q (x ∷ xs) (inl e) s = rw (sym e, s) (omega arith)
best_upper g f p q (x ∷ xs) (inr i) s = let h = best_upper g f p q xs i s in omega arith

module _ (g : Graph) (law : Lawful g) (w : ℕ → ℕ) where
  length_is : (p : ℕ) → Reachable g p → length_of g w p ≡ w p + best g p (length_of g w) (g.successors p)
  length_is p r =
      (laws.passing g law w).marked (length_of g w) p ((laws.reaching g law).below p r) ((laws.marking g law).one p r) (λ q up down. refl)

  walk_length : (p : ℕ) (ps : List ℕ) → Reachable g p → Free g p ps → weigh w (p ∷ ps) ≤ length_of g w p
  walk_length p [] r f = omega (arith, length_is p r)
  walk_length p (q ∷ qs) r f =
      omega (
        arith,
        length_is p r,
        best_upper g (length_of g w) p q (g.successors p) f.0.0 f.0.1,
        walk_length q qs ((laws.reaching g law).next p q r f.0.0) f.1,
      )

  pub walk_most : (p : ℕ) (ps : List ℕ) → Reachable g p → Free g p ps → weigh w (p ∷ ps) ≤ longest g w
  walk_most p ps r f =
      let all = (laws.passing g law w).longest_found (length_of g w) (λ q h. refl) in
      omega (arith, walk_length p ps r f, most_upper (length_of g w) g.size p ((laws.reaching g law).below p r), all)
