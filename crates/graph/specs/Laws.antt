-- What a search and a pass over a graph go by, and whoever argues over paths:
-- the laws that other crates cite.
-- Assumes nothing.
use Rattle.std.specs.Prelude.{◌≡◌, ◌↔◌, true, List, ℕ, zero, suc, ◌+◌, ◌≤◌, ◌<◌, max, eqb, length, get_or}
use Rattle.std.specs.Prelude.{set}
use Rattle.common.specs.Lowest.{lowest}
use Rattle.graph.specs.Graph.{Graph, In, member, Lawful, Along, Reachable, Segment}
use Rattle.graph.specs.Marks.{mark_of}
use Rattle.graph.specs.Longest.{best, length_of, most, longest, first}

-- the reachable words are word 0 and the successors of reachable words, and no others
pub record Reaching (g : Graph) : Type 1 where
  pub start : 0 < g.size → Reachable g 0
  pub next : (p q : ℕ) → Reachable g p → In q (g.successors p) → Reachable g q
  pub below : (p : ℕ) → Reachable g p → p < g.size
  -- a segment starts at a reachable word
  pub segment : (p : ℕ) (ps : List ℕ) → Segment g p ps → Reachable g p
  pub induction :
      (P : ℕ → Type 0) → P 0 → ((p q : ℕ) → Reachable g p → P p → In q (g.successors p) → P q)
      → (p : ℕ) → Reachable g p → P p

-- a mark is 0 or 1
pub record Bits (g : Graph) : Type 0 where
  pub bit : (p : ℕ) → mark_of g p ≤ 1
  pub one : (p : ℕ) → Reachable g p → mark_of g p ≡ 1
  pub reachable : (p : ℕ) → p < g.size → mark_of g p ≡ 1 → Reachable g p

-- lengths by a pass from the highest word down
pub record Passing (g : Graph) (w : ℕ → ℕ) : Type 0 where
  pub unmarked : (p : ℕ) → mark_of g p ≡ 0 → length_of g w p ≡ 0
  -- f stands for the lengths of the words above p
  pub marked :
      (f : ℕ → ℕ) (p : ℕ) → p < g.size → mark_of g p ≡ 1
      → ((q : ℕ) → p < q → q < g.size → f q ≡ length_of g w q)
      → length_of g w p ≡ w p + best g p f (g.successors p)
  -- the longest and the first are found in any numbers that are the lengths
  pub longest_found : (f : ℕ → ℕ)
      → ((p : ℕ) → p < g.size → f p ≡ length_of g w p) → most f g.size ≡ longest g w
  pub first_found :
      (f : ℕ → ℕ) → ((p : ℕ) → p < g.size → f p ≡ length_of g w p)
      → lowest (λ p. eqb (f p) (longest g w)) g.size ≡ first g w

-- how many of the first k words are marked, each mark being 0 or 1
unfoldable pub marked_count : ℕ → List ℕ → ℕ
marked_count zero m = 0
marked_count (suc k) m = get_or m k 0 + marked_count k m

-- marks counted, so that a search ends: each new mark counts, and there are no more than words
pub record Counting : Type 0 where
  pub one_more :
      (k : ℕ) (m : List ℕ) (q : ℕ) → q < k → q < length m → get_or m q 0 ≡ 0
      → marked_count k (set m q 1) ≡ marked_count k m + 1
  pub few : (k : ℕ) (m : List ℕ) → ((p : ℕ) → p < k → get_or m p 0 ≤ 1) → marked_count k m ≤ k

pub record Laws : Type 1 where
  -- the test is that of `In`
  pub member_in : (q : ℕ) (xs : List ℕ) → (member q xs ≡ true) ↔ In q xs
  -- words along edges are below n
  pub along_inside : (g : Graph) (p : ℕ) (ps : List ℕ) → Along g p ps → p < g.size
  -- the largest, as a loop finds it
  pub most_more : (f : ℕ → ℕ) (k : ℕ) → most f (k + 1) ≡ max (most f k) (f k)
  pub counting : Counting
  pub reaching : (g : Graph) → Lawful g → Reaching g
  pub marking : (g : Graph) → Lawful g → Bits g
  pub passing : (g : Graph) → Lawful g → (w : ℕ → ℕ) → Passing g w
