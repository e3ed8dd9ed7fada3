-- The lengths: the recursion that a pass from the highest word down follows, and their bound. Assumes nothing.
use mathlib.Core.Path.{◌≡◌, sym, ap, ◌∙◌}
use mathlib.Core.Bool.{Bool, true, false, cond}
use mathlib.Core.List.{List, [], ◌∷◌}
use Prim.Native.Nat.{ℕ, zero, suc, ◌+◌, ◌-◌, ◌*◌, ◌≤◌, ◌<◌, zero-le}
use native.Mathlib.Nat.{mul-suc, le_trans, mul-le-mul_left}
use native.Mathlib.Omega.{arith}
use borrow.Author.Tests.{eq-eqb, ne_eqb}
use lib.Dec.{eqb}
use Rattle.graph.specs.Graph.{Graph, Lawful}
use Rattle.graph.specs.Marks.{mark_of}
use Rattle.graph.specs.Longest.{best, within, heaviest, length_of}
use Rattle.graph.proofs.Paths.{Reach, next}
use Rattle.graph.proofs.Heaviest.{best_same, heaviest_is}
use Rattle.graph.proofs.Marks.{mark_of_reach, reach_of_mark}

-- no weight above b: no walk of k words above b * k
best_bound : (g : Graph) (p : ℕ) (f : ℕ → ℕ) (b : ℕ) → ((q : ℕ) → f q ≤ b) → (l : List ℕ) → best g p f l ≤ b
best_bound g p f b h [] = zero-le
best_bound g p f b h (x ∷ xs) = let t = best_bound g p f b h xs in let u = one (g.serves p x) in omega arith
  where
    one : (s : Bool) → cond s 0 (f x) ≤ b
    one true = zero-le
    one false = h x

within_bound : (g : Graph) (w : ℕ → ℕ) (b : ℕ) → ((p : ℕ) → w p ≤ b) → (k p : ℕ) → within g w k p ≤ b * k
unfolding within
within_bound g w b h zero p = zero-le
within_bound g w b h (suc k) p = omega (arith, mul-suc b k, h p, best_bound g p (λ q. within g w k q) (b * k) (λ q. within_bound g w b h k q) (g.successors p))

module _ (g : Graph) (w : ℕ → ℕ) where
  pub length_unmarked : (p : ℕ) → mark_of g p ≡ 0 → length_of g w p ≡ 0
  unfolding length_of
  length_unmarked p e = ap (λ (b : Bool). cond b (heaviest g w p) 0) (ne_eqb (mark_of g p) 1 (λ o. omega arith))

  pub length_marked : (p : ℕ) → mark_of g p ≡ 1 → length_of g w p ≡ heaviest g w p
  unfolding length_of
  length_marked p e = ap (λ (b : Bool). cond b (heaviest g w p) 0) (eq-eqb (mark_of g p) 1 e)

  heaviest_bound : (b : ℕ) → ((p : ℕ) → w p ≤ b) → (p : ℕ) → heaviest g w p ≤ b * g.size
  unfolding heaviest
  heaviest_bound b h p = le_trans (within_bound g w b h (g.size - p) p) (mul-le-mul_left b (omega arith))

  pub length_bound : (b : ℕ) → ((p : ℕ) → w p ≤ b) → (p : ℕ) → length_of g w p ≤ b * g.size
  unfolding length_of
  length_bound b h p = go (eqb (mark_of g p) 1)
    where
      go : (t : Bool) → cond t (heaviest g w p) 0 ≤ b * g.size
      go true = heaviest_bound b h p
      go false = zero-le

  module _ (law : Lawful g) where
    pub length_of_reach : (p : ℕ) → Reach g p → length_of g w p ≡ heaviest g w p
    length_of_reach p r = length_marked p (mark_of_reach g law p r)

    -- the recursion that the pass follows
    pub length_is : (f : ℕ → ℕ) (p : ℕ) → p < g.size → mark_of g p ≡ 1
        → ((q : ℕ) → p < q → q < g.size → f q ≡ length_of g w q)
        → length_of g w p ≡ w p + best g p f (g.successors p)
    length_is f p l e h =
        let r = reach_of_mark g law p l e in
        length_of_reach p r ∙ heaviest_is g law w p l
        ∙ ap (λ (x : ℕ). w p + x) (best_same g p (heaviest g w) f (g.successors p)
        (λ q i s. sym (length_of_reach q (next r i (law.inside p q i)))
        ∙ sym (h q (law.forward p q i s) (law.inside p q i))))
