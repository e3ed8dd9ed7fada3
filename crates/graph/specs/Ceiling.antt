-- Request C-13, "Inside a stretch every step goes to a higher word, so L cannot pass the number of words":
-- over any lawful graph, and any weights (request C-17), none above the heaviest.
-- Assumes nothing.
use Rattle.std.specs.Prelude.{ℕ, ◌*◌, ◌≤◌}
use Rattle.graph.specs.Graph.{Graph, Lawful}
use Rattle.graph.specs.Longest.{length_of, longest}

pub record Ceiling : Type 0 where
  -- no stretch that starts at a word weighs more than the heaviest word times the words there are
  pub lengths : (g : Graph) → Lawful g → (w : ℕ → ℕ) (heaviest : ℕ) → ((p : ℕ) → w p ≤ heaviest) → (p : ℕ)
      → length_of g w p ≤ heaviest * g.size
  -- and so the longest run does not
  pub longest-run : (g : Graph) → Lawful g → (w : ℕ → ℕ) (heaviest : ℕ)
      → ((p : ℕ) → w p ≤ heaviest) → longest g w ≤ heaviest * g.size
