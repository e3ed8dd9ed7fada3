-- Inner: no promise and no law between crates rests on what stands here.
-- What the private functions ask and leave: a search for one block of registers after another. No exported
-- contract cites it.
-- Assumes nothing.
use Rattle.std.specs.Prelude.{◌≡◌, Bool, cond, List, ℕ, ◌≤◌, ltb, eqb, length, get_or, Option, Some, None}
use Rattle.common.specs.Limits.{most_registers}
use Rattle.common.specs.Lowest.{lowest}
use Rattle.graph.specs.Graph.{Reachable}
use Rattle.graph.specs.Assignment.{some_below, reads_unset}
use Rattle.runs.specs.Script.{lua54, graph_of}
use Rattle.blocks.specs.Uses.{reads_end, usage_of}

-- the lowest of n, which is n if there is none
abbrev pub found : ℕ → ℕ → Option ℕ
found n p = cond (ltb p n) (Some p) None

-- no reachable word reads a register past all
abbrev pub RegistersEnd : List ℕ → Type 0
RegistersEnd ws = (p : ℕ) → Reachable (graph_of (lua54 ws)) p → reads_end ws p ≤ most_registers

-- 1 at a word that some way comes to
abbrev pub marked : List ℕ → ℕ → ℕ
marked unset p = cond (eqb (get_or unset p 0) 0) 0 1

-- a word reads some register below r that is unset
abbrev pub unset_below : List ℕ → ℕ → ℕ → ℕ → Bool
unset_below ws parameters r p = some_below (reads_unset (graph_of (lua54 ws)) (usage_of ws) parameters p) r

-- the registers below r are done, which have those that are no parameters of the first block
pub record Rest (ws : List ℕ) (parameters least r : ℕ) : Type 0 where
  pub from : parameters ≤ r
  pub least_is : least ≡ lowest (unset_below ws parameters r) (length ws)
  pub ends : RegistersEnd ws
