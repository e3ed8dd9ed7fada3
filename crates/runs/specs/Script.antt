-- Request C-24: a script, "a script's words include its version". The run, the meter and the distances to
-- service see of it how many words it has, where control goes from each, which of these steps serve, and
-- where in the table each word's weight stands. Which Lua compiled it does not show from here on: "Longest
-- run, meter and nearest service are argued over any step relation in which a step that does not serve goes
-- forward, and both versions supply theirs to that argument."
-- Assumes nothing.
use Rattle.std.specs.Prelude.{◌≡◌, Bool, false, List, ℕ, ◌<◌, length, get_or}
use Rattle.graph.specs.Graph.{Graph, In}
use Rattle.fields.specs.declared.version.Version.{Version}
use Rattle.fields.specs.declared.version.Version.TheVariants.{Lua54, Lua53}
use Rattle.fields.specs.lua54.Word as word54
use Rattle.fields.specs.lua53.Word as word53
use Rattle.sweep.specs.declared.edges.Successors.{Successors}
use Rattle.sweep.specs.Steps.{list_of, serves_of, Below}
use Rattle.steps.specs.lua54.Successors as steps54
use Rattle.steps.specs.lua53.Successors as steps53
use Rattle.runs.specs.Weights.{weight_count}

pub record Script : Type 0 where
  -- n, the number of words
  pub size : ℕ
  -- the steps of each; a word number of n or more has none
  pub steps : ℕ → Successors
  -- "a step p to q serves"
  pub serves : ℕ → ℕ → Bool
  -- where its weight stands
  pub slot : ℕ → ℕ

-- the steps of each version
abbrev pub steps_of : Version → List ℕ → ℕ → Successors
steps_of Lua54 ws p = steps54.successors_of ws p
steps_of Lua53 ws p = steps53.successors_of ws p

-- request C-17, of the weights: "indexed by the low seven bits". "A 5.3 word takes its
-- weight by its low six bits."
abbrev pub slot_of : Version → ℕ → ℕ
slot_of Lua54 word = word54.opcode_of word
slot_of Lua53 word = word53.opcode_of word

-- request C-16's rule says of both versions which steps serve
abbrev pub script_of : Version → List ℕ → Script
script_of version ws =
    record {
      size = length ws;
      steps = steps_of version ws;
      serves = serves_of;
      slot = λ p. slot_of version (get_or ws p 0);
    }

-- words of 5.4, with which "every other entry stays"
abbrev pub lua54 : List ℕ → Script
lua54 ws = script_of Lua54 ws

-- the graph of a script
abbrev pub graph_of : Script → Graph
graph_of ws = record { size = ws.size; successors = λ p. list_of (ws.steps p); serves = ws.serves }

-- the same bits by a mask, as a loop over many words takes them
abbrev pub slot_mask : Version → ℕ
slot_mask Lua54 = 127
slot_mask Lua53 = 63

-- what word p weighs by a table
abbrev pub weight_of : Script → List ℕ → ℕ → ℕ
weight_of ws weights p = get_or weights (ws.slot p) 0

-- all that is used of a script, whatever version it is of
pub record Sound (ws : Script) : Type 0 where
  -- its steps are its words, the lower first
  pub below : (p : ℕ) → Below ws.size (ws.steps p)
  -- "a step that does not serve goes forward"
  pub forward : (p q : ℕ) → In q (list_of (ws.steps p)) → ws.serves p q ≡ false → p < q
  -- each word has a weight
  pub slots : (p : ℕ) → ws.slot p < weight_count
