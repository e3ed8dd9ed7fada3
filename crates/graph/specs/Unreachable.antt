-- Request C-23, "Dead words may change", the half that knows no word: two graphs with the same edges from the
-- words that are reachable in the first have the same segments, marks, lengths, L and first word.
-- The edges and weights of other words do not matter.
-- Assumes nothing.
use Rattle.std.specs.Prelude.{◌≡◌, ◌↔◌, List, ℕ, ◌<◌}
use Rattle.graph.specs.Graph.{Graph, Lawful, Reachable, Segment}
use Rattle.graph.specs.Marks.{mark_of}
use Rattle.graph.specs.Longest.{length_of, longest, first}

-- as many words, and the same edges and weights at the words that are reachable in the first
pub record SameWhereReachable (g h : Graph) (w v : ℕ → ℕ) : Type 0 where
  pub size : g.size ≡ h.size
  pub edges : (p : ℕ) → Reachable g p → g.successors p ≡ h.successors p
  pub serving : (p q : ℕ) → Reachable g p → g.serves p q ≡ h.serves p q
  pub weights : (p : ℕ) → Reachable g p → w p ≡ v p

pub record Unreachable : Type 0 where
  pub reachable : (g h : Graph) (w v : ℕ → ℕ) → Lawful g → Lawful h → SameWhereReachable g h w v → (p : ℕ)
      → Reachable g p ↔ Reachable h p
  pub segments : (g h : Graph) (w v : ℕ → ℕ) → Lawful g → Lawful h → SameWhereReachable g h w v
      → (p : ℕ) (ps : List ℕ) → Segment g p ps ↔ Segment h p ps
  pub marks : (g h : Graph) (w v : ℕ → ℕ) → Lawful g → Lawful h → SameWhereReachable g h w v → (p : ℕ)
      → p < g.size → mark_of g p ≡ mark_of h p
  pub lengths : (g h : Graph) (w v : ℕ → ℕ) → Lawful g → Lawful h → SameWhereReachable g h w v → (p : ℕ)
      → p < g.size → length_of g w p ≡ length_of h v p
  pub longest-run : (g h : Graph) (w v : ℕ → ℕ)
      → Lawful g → Lawful h → SameWhereReachable g h w v → longest g w ≡ longest h v
  pub first_word : (g h : Graph) (w v : ℕ → ℕ)
      → Lawful g → Lawful h → SameWhereReachable g h w v → first g w ≡ first h v
