-- Document 02, C-21: "with k scripts no wait between two turns of an unfinished script exceeds (k - 1) times
-- q". proofs/Bound.antt proves it for any graphs, any choices and any number of words.
-- Assumes nothing.
use Rattle.std.specs.Prelude.{List, [], ◌∷◌, ℕ, ◌*◌, ◌-◌, ◌≤◌}
use Rattle.graph.specs.Graph.{Graph}
use Rattle.rehearsal.specs.Machine.{trace, start_of}
use Rattle.rehearsal.specs.Waits.{waits_of, longest_wait}

-- each number of a list is at most b
abbrev pub AllAtMost : ℕ → List ℕ → Type 0
AllAtMost b [] = Unit {0}
AllAtMost b (w ∷ ws) = (w ≤ b) × AllAtMost b ws

pub record WaitsBounded (graphs : ℕ → Graph) (k q : ℕ) (choices : List ℕ) (limit : ℕ) : Type 0 where
  pub every : (i : ℕ) → AllAtMost ((k - 1) * q) (waits_of i (trace graphs q choices limit (start_of k)))
  pub longest : (i : ℕ) → longest_wait i (trace graphs q choices limit (start_of k)) ≤ (k - 1) * q
