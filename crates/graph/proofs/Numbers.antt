-- The largest of some numbers, and marks counted. Assumes nothing.
use mathlib.Core.Path.{◌≡◌, refl, sym, ap, ap₂, ◌∙◌}
use mathlib.Core.Logic.{◌⊎◌, inl, inr, ⊎_elim}
use mathlib.Core.List.{List}
use Prim.Native.Nat.{ℕ, zero, suc, ◌+◌, ◌≤◌, ◌<◌, zero-le, max}
use native.Mathlib.Nat.{not-suc-le-zero}
use native.Mathlib.Numerals.{add-one}
use native.Mathlib.Omega.{arith}
use lib.ListN.{length, get_or, set}
use lib.Seq.{get_or-set_other}
use Rattle.common.proofs.Order.{split, same_or_not, past}
use Rattle.common.proofs.Stores.{at_set}
use Rattle.graph.specs.Longest.{most}
use Rattle.graph.specs.Laws.{marked_count}

-- the largest of the numbers f p below k
pub most_upper : (f : ℕ → ℕ) (k p : ℕ) → p < k → f p ≤ most f k
unfolding most
most_upper f zero p h = absurd (not-suc-le-zero h)
most_upper f (suc k) p h =
    let r = most_upper f k p in
    ⊎_elim (λ e. omega (arith, ap f e)) (λ n. omega (arith, r (past (omega arith) (λ e. n (sym e))))) (same_or_not p k)

pub most_attained : (f : ℕ → ℕ) (k : ℕ) → 0 < most f k → (p : ℕ) × (p < k) × (f p ≡ most f k)
unfolding most
most_attained f zero h = absurd (not-suc-le-zero h)
most_attained f (suc k) h = go (most_attained f k) (split (f k) (most f k))
  where
    go : (0 < most f k → (p : ℕ) × (p < k) × (f p ≡ most f k)) → (f k ≤ most f k) ⊎ (most f k < f k) → (p : ℕ) × (p < suc k) × (f p ≡ max (most f k) (f k))
    go rec (inl d) = let r = rec (omega arith) in (r.0, omega (arith, r.1), omega (arith, r.2))
    go rec (inr d) = (k, omega arith, omega arith)

pub most_bound : (f : ℕ → ℕ) (k b : ℕ) → ((p : ℕ) → p < k → f p ≤ b) → most f k ≤ b
unfolding most
most_bound f zero b h = zero-le
most_bound f (suc k) b h = let r = most_bound f k b (λ p l. h p (omega arith)) in omega (arith, h k (omega arith))

pub most_more : (f : ℕ → ℕ) (k : ℕ) → most f (k + 1) ≡ max (most f k) (f k)
unfolding most
most_more f k = rw add-one

-- numbers that are the same below k
pub most_same : (f h : ℕ → ℕ) (k : ℕ) → ((p : ℕ) → p < k → f p ≡ h p) → most f k ≡ most h k
unfolding most
most_same f h zero e = refl
most_same f h (suc k) e = ap₂ max (most_same f h k (λ p l. e p (omega arith))) (e k (omega arith))

-- marks counted
ones_out : (k : ℕ) (m : List ℕ) (q v : ℕ) → k ≤ q → q < length m → marked_count k (set m q v) ≡ marked_count k m
unfolding marked_count
ones_out zero m q v h l = refl
ones_out (suc k) m q v h l = ap₂ (λ (a b : ℕ). a + b) (get_or-set_other m q k v 0 (λ e. omega arith)) (ones_out k m q v (omega arith) l)

pub ones_set : (k : ℕ) (m : List ℕ) (q : ℕ) → q < k → q < length m → get_or m q 0 ≡ 0 → marked_count k (set m q 1) ≡ marked_count k m + 1
unfolding marked_count
ones_set zero m q h l e = absurd (not-suc-le-zero h)
ones_set (suc k) m q h l e =
    ⊎_elim
    (λ w. let o = ones_out k m q 1 (omega arith) l in let z : get_or m k 0 ≡ 0 = ap (λ (y : ℕ). get_or m y 0) w.0 ∙ e in omega arith)
    (λ w. let o = ones_set k m q (past (omega arith) w.0) l e in omega arith)
    (at_set m q 1 k l)

pub ones_le : (k : ℕ) (m : List ℕ) → ((p : ℕ) → p < k → get_or m p 0 ≤ 1) → marked_count k m ≤ k
unfolding marked_count
ones_le zero m b = zero-le
ones_le (suc k) m b = let h = ones_le k m (λ p d. b p (omega arith)) in omega (arith, b k (omega arith))
