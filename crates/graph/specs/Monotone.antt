-- Request C-18, "every table between them, entry by entry, gives a run between the two reports":
-- heavier words make no run lighter, over any graph. It says nothing of the first word: two tables may have
-- their heaviest segments elsewhere.
-- Assumes nothing.
use Rattle.std.specs.Prelude.{ℕ, ◌≤◌}
use Rattle.graph.specs.Graph.{Graph}
use Rattle.graph.specs.Longest.{length_of, longest}

pub record Monotone : Type 0 where
  pub lengths : (g : Graph) (w v : ℕ → ℕ) → ((p : ℕ) → w p ≤ v p) → (p : ℕ)
      → length_of g w p ≤ length_of g v p
  pub longest-run : (g : Graph) (w v : ℕ → ℕ) → ((p : ℕ) → w p ≤ v p) → longest g w ≤ longest g v
