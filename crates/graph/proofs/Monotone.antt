-- Heavier words make no run lighter. Assumes nothing.
use mathlib.Core.Bool.{Bool, true, false, cond}
use mathlib.Core.List.{List, [], ◌∷◌}
use Prim.Native.Nat.{ℕ, zero, suc, ◌-◌, ◌≤◌, zero-le}
use native.Mathlib.Omega.{arith}
use lib.Dec.{eqb}
use Rattle.graph.specs.Graph.{Graph}
use Rattle.graph.specs.Marks.{mark_of}
use Rattle.graph.specs.Longest.{best, within, heaviest, length_of, most, longest}
use Rattle.graph.specs.Monotone.{Monotone}

best_le : (g : Graph) (p : ℕ) (f h : ℕ → ℕ) → ((q : ℕ) → f q ≤ h q) → (l : List ℕ) → best g p f l ≤ best g p h l
best_le g p f h e [] = zero-le
best_le g p f h e (x ∷ xs) = let t = best_le g p f h e xs in let u = one (g.serves p x) in omega arith
  where
    one : (s : Bool) → cond s 0 (f x) ≤ cond s 0 (h x)
    one true = zero-le
    one false = e x

most_le : (f h : ℕ → ℕ) → ((p : ℕ) → f p ≤ h p) → (k : ℕ) → most f k ≤ most h k
unfolding most
most_le f h e zero = zero-le
most_le f h e (suc k) = let t = most_le f h e k in let u = e k in omega arith

module _ (g : Graph) (w v : ℕ → ℕ) (e : (p : ℕ) → w p ≤ v p) where
  within_le : (k p : ℕ) → within g w k p ≤ within g v k p
  unfolding within
  within_le zero p = zero-le
  within_le (suc k) p =
      let t = best_le g p (λ q. within g w k q) (λ q. within g v k q) (λ q. within_le k q) (g.successors p) in
      omega (arith, e p)

  length_le : (p : ℕ) → length_of g w p ≤ length_of g v p
  unfolding length_of heaviest
  length_le p = go (eqb (mark_of g p) 1)
    where
      go : (b : Bool) → cond b (within g w (g.size - p) p) 0 ≤ cond b (within g v (g.size - p) p) 0
      go true = within_le (g.size - p) p
      go false = zero-le

  longest_le : longest g w ≤ longest g v
  unfolding longest
  longest_le = most_le (length_of g w) (length_of g v) length_le g.size

pub monotone : Monotone
monotone = record { lengths = length_le; longest-run = longest_le }
