-- The graph of a sound script is lawful, and the scripts of both versions are sound. Assumes nothing.
use mathlib.Core.List.{List}
use Prim.Native.Nat.{ℕ, ◌<◌}
use native.Mathlib.Omega.{arith}
use lib.ListN.{length, get_or}
use Rattle.graph.specs.Graph.{Lawful}
use Rattle.fields.specs.declared.version.Version.{Version}
use Rattle.fields.specs.declared.version.Version.TheVariants.{Lua54, Lua53}
use Rattle.sweep.specs.Steps.{Below}
use Rattle.runs.specs.Script.{Script, steps_of, slot_of, script_of, graph_of, Sound}
use Rattle.runs.specs.Weights.{weight_count}
use Rattle.sweep.proofs.Laws as sweep
use Rattle.steps.proofs.Laws as steps

pub lawful : (ws : Script) → Sound ws → Lawful (graph_of ws)
lawful ws sound = record { inside = λ p. (sweep.laws).inside ws.size (ws.steps p) (sound.below p); forward = sound.forward }

below : (version : Version) (ws : List ℕ) (p : ℕ) → Below (length ws) (steps_of version ws p)
below Lua54 ws p = (steps.laws).below54 ws p
below Lua53 ws p = (steps.laws).below53 ws p

slots : (version : Version) (word : ℕ) → slot_of version word < weight_count
slots Lua54 word = omega arith
slots Lua53 word = omega arith

pub sound : (version : Version) (ws : List ℕ) → Sound (script_of version ws)
sound version ws =
    record {
      below = below version ws;
      forward = λ p q i. (sweep.laws).forward p q;
      slots = λ p. slots version (get_or ws p 0);
    }
