-- What callers go by: of the proofs here crates above cite `laws` of Laws.antt alone, but `ranges` the lemmas
-- that its runs by two tables share with a run.
-- Assumes nothing.
use Rattle.std.specs.Prelude.{ℕ, ◌%◌, ◌≤◌, ◌<◌, ◌≡◌, ◌↔◌, true, false, List, length, get_or}
use Rattle.common.specs.Limits.{most_words, heaviest_weight}
use Rattle.runs.specs.Weights.{weight_count, refuses_weights}
use Rattle.common.specs.Numbers.{«ACCEPTED»}
use Rattle.graph.specs.Graph.{Lawful, weigh}
use Rattle.fields.specs.declared.version.Version.{Version}
use Rattle.fields.specs.declared.version.Version.TheVariants.{Lua54, Lua53}
use Rattle.sweep.specs.Steps.{serves_of, unit_weight}
use Rattle.runs.specs.Script.{Script, script_of, graph_of, weight_of, Sound}
use Rattle.runs.specs.Run.{run_of, number_of, longest_of}
use Rattle.runs.specs.Counted.{ones, EarlierRun}
use Rattle.runs.specs.Demand.{Demand}
use Rattle.runs.specs.Order.{Order, WeightsRefused}
use Rattle.runs.specs.Slices.{Slices}
use Rattle.runs.specs.EntryLaws.{EntryLaws}

-- n words are not too many, both slices are as long, and number 18 lets the weights through
pub record Enough (n : ℕ) (weights : List ℕ) (marks lengths : ℕ) : Type 0 where
  pub few : n ≤ most_words
  pub marks_long : n ≤ marks
  pub lengths_long : n ≤ lengths
  pub weighed : refuses_weights weights ≡ false

-- what number 18 lets through: "128 weights of 1 to 255", whatever word is weighed
pub record Weighing (weights : List ℕ) : Type 0 where
  pub count : length weights ≡ weight_count
  pub each : (i : ℕ) → i < weight_count → 0 < get_or weights i 0
  pub some : (ws : Script) → Sound ws → (p : ℕ) → 0 < weight_of ws weights p

pub record Laws : Type 0 where
  -- "both versions supply theirs to that argument"
  pub sound : (version : Version) (ws : List ℕ) → Sound (script_of version ws)
  -- request C-16, in scripts of either version: "only a step that does not go forward does" serve
  pub serving : (version : Version) (ws : List ℕ) (p q : ℕ)
      → ((script_of version ws).serves p q ≡ true) ↔ (q ≤ p)
  -- so that by its rule a step that does not serve goes forward
  pub forward : (p q : ℕ) → serves_of p q ≡ false → p < q
  -- request C-17, of the weights: "indexed by the low seven bits"
  pub slot54 :
      (ws weights : List ℕ) (p : ℕ)
      → weight_of (script_of Lua54 ws) weights p ≡ get_or weights (get_or ws p 0 % 128) 0
  -- "A 5.3 word takes its weight by its low six bits."
  pub slot53 :
      (ws weights : List ℕ) (p : ℕ)
      → weight_of (script_of Lua53 ws) weights p ≡ get_or weights (get_or ws p 0 % 64) 0
  -- From here on "argued over any step relation in which a step that does not serve goes forward":
  -- for any sound script, whose graph is lawful.
  pub lawful : (ws : Script) → Sound ws → Lawful (graph_of ws)
  -- an accepted run passed the checks of the sizes
  pub enough :
      (ws : Script) (weights : List ℕ) (marks lengths : ℕ)
      → number_of (run_of ws weights marks lengths) ≡ «ACCEPTED»
      → Enough ws.size weights marks lengths
  -- demand 3, first half
  pub demand :
      (ws : Script) → Sound ws → (weights : List ℕ) (marks lengths : ℕ)
      → Enough ws.size weights marks lengths
      → ((i : ℕ) → get_or weights i 0 ≤ heaviest_weight) → Demand ws weights (run_of ws weights marks lengths)
  pub slices :
      (ws : Script) → Sound ws → (weights : List ℕ) → ((i : ℕ) → get_or weights i 0 ≤ heaviest_weight)
      → (marks lengths : List ℕ) → Slices ws weights marks lengths
  -- request C-17: with all weights 1 every earlier answer returns
  pub earlier_run : (ws : Script) → Sound ws → (marks lengths : List ℕ) → EarlierRun ws marks lengths
  pub ones_accepted : refuses_weights ones ≡ false
  pub ones_weigh : (ws : Script) → Sound ws → weight_of ws ones ≡ unit_weight
  -- what number 18 lets through weighs every word
  pub weights : (weights : List ℕ) → refuses_weights weights ≡ false → Weighing weights
  -- "Checks run in this order", and what number 18 is
  pub order : (ws : Script) (weights : List ℕ) (marks lengths : ℕ) → Order ws weights marks lengths
  pub weights_refused : (weights : List ℕ) → WeightsRefused weights
  -- request C-13: "number 9 is never given". 9 for a run above some length, in definition and code alike, is
  -- refused here and in `demand`
  pub never_given : (ws : Script) (weights : List ℕ) (marks lengths : ℕ)
      → number_of (run_of ws weights marks lengths) ≡ 9 → ⊥
  -- ".. so L cannot pass the number of words", each counting 1, and with all weights 1 a weight counts words
  pub within_words : (ws : Script) → Sound ws → (marks lengths : ℕ)
      → longest_of (run_of ws ones marks lengths) ≤ ws.size
  pub counted : (ws : Script) → Sound ws → (ps : List ℕ) → weigh (weight_of ws ones) ps ≡ length ps
  -- The same for the words of either version, where nothing is left to suppose of their steps.
  pub lawful_of : (version : Version) (ws : List ℕ) → Lawful (graph_of (script_of version ws))
  pub demand_of :
      (version : Version) (ws weights : List ℕ) (marks lengths : ℕ) → Enough (length ws) weights marks lengths
      → ((i : ℕ) → get_or weights i 0 ≤ heaviest_weight)
      → Demand (script_of version ws) weights (run_of (script_of version ws) weights marks lengths)
  pub slices_of :
      (version : Version) (ws weights : List ℕ) → ((i : ℕ) → get_or weights i 0 ≤ heaviest_weight)
      → (marks lengths : List ℕ) → Slices (script_of version ws) weights marks lengths
  pub earlier_run_of :
      (version : Version) (ws marks lengths : List ℕ) → EarlierRun (script_of version ws) marks lengths
  pub ones_weigh_of : (version : Version) (ws : List ℕ) → weight_of (script_of version ws) ones ≡ unit_weight
  pub weights_of :
      (version : Version) (ws weights : List ℕ) → refuses_weights weights ≡ false
      → (p : ℕ) → 0 < weight_of (script_of version ws) weights p
  -- for crates that go by settled entries
  pub entry_laws : EntryLaws
