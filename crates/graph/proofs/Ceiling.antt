-- The ceiling above the longest run. Assumes nothing.
use Prim.Native.Nat.{ℕ, ◌*◌, ◌≤◌}
use Rattle.graph.specs.Graph.{Graph}
use Rattle.graph.specs.Longest.{length_of, longest}
use Rattle.graph.specs.Ceiling.{Ceiling}
use Rattle.graph.proofs.Numbers.{most_bound}
use Rattle.graph.proofs.Lengths.{length_bound}

longest_bound : (g : Graph) (w : ℕ → ℕ) (b : ℕ) → ((p : ℕ) → w p ≤ b) → longest g w ≤ b * g.size
unfolding longest
longest_bound g w b h = most_bound (length_of g w) g.size (b * g.size) (λ p l. length_bound g w b h p)

pub ceiling : Ceiling
ceiling = record { lengths = λ g law w b h. length_bound g w b h; longest-run = λ g law w b h. longest_bound g w b h }
