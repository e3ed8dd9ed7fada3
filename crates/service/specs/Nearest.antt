-- What the answer of `distance_to_service` says of the stretches of a function's words. proofs/Nearest.antt
-- proves it of `nearest_of`, which the contract cites, for any words, any word w and slices of any lengths.
-- Assumes nothing.
use Rattle.std.specs.Prelude.{◌≡◌, ◌⊎◌, ◌↔◌, true, false, None, Some, Ok, Err, List, [], ◌∷◌, ℕ, ◌≤◌, length}
use Rattle.graph.specs.Graph.{In, Reachable, Segment}
use Rattle.graph.specs.Distance.{last_of}
use Rattle.runs.specs.Script.{Script, graph_of}
use Rattle.runs.specs.Run.{accepted_run}
use Rattle.sweep.specs.Steps.{is_invalid, list_of}
use Rattle.common.specs.declared.refusal.Refusal.{Refusal}
use Rattle.service.specs.Questions.{unit_run, nearest_of}

-- "A return, here and in C-22, is a word that is not bad and has no step."
pub record Return (ws : Script) (p : ℕ) : Type 0 where
  pub valid : is_invalid (ws.steps p) ≡ false
  pub no_step : list_of (ws.steps p) ≡ []

-- "a word with a serving step"
pub record HasServingStep (ws : Script) (p : ℕ) : Type 0 where
  pub to : ℕ
  pub step : In to (list_of (ws.steps p))
  pub serving : ws.serves p to ≡ true

-- "a stretch of that many words from there ends at a return or a word with a serving step": k words from p on
pub record ReachesService (ws : Script) (p k : ℕ) : Type 0 where
  pub rest : List ℕ
  pub stretch : Segment (graph_of ws) p rest
  pub ends : Return ws (last_of p rest) ⊎ HasServingStep ws (last_of p rest)
  -- "counting the word itself"
  pub words : length (p ∷ rest) ≡ k

-- "The fewest is exact": a stretch of that many words does, "and no shorter one does"
pub record FewestWords (ws : Script) (p k : ℕ) : Type 0 where
  pub reached : ReachesService ws p k
  pub no_shorter : (j : ℕ) → ReachesService ws p j → k ≤ j

-- "an accepted function": the longest run with all weights 1 accepts it, lent slices of these lengths
pub record AcceptedRun (ws : Script) (marks lengths : ℕ) : Type 0 where
  pub longest : ℕ
  pub first : ℕ
  pub run : unit_run ws marks lengths ≡ accepted_run longest first

pub record NearestService (ws : Script) (w marks lengths : ℕ) : Type 0 where
  -- "From any reachable word of an accepted function, give the fewest words to the next serving step or
  -- return": every one has a fewest
  pub fewest :
      AcceptedRun ws marks lengths → Reachable (graph_of ws) w
      → (k : ℕ) × (nearest_of ws w marks lengths ≡ Ok (Some k)) × FewestWords ws w k
  -- and only a reachable word does
  pub exact : (k : ℕ) → nearest_of ws w marks lengths ≡ Ok (Some k)
      → Reachable (graph_of ws) w × FewestWords ws w k
  -- "An unreachable word, or one past the end, has no fewest, and the answer says so"
  pub unreachable : AcceptedRun ws marks lengths → (Reachable (graph_of ws) w → ⊥)
      ↔ (nearest_of ws w marks lengths ≡ Ok None)
  pub past_end : AcceptedRun ws marks lengths → ws.size ≤ w → nearest_of ws w marks lengths ≡ Ok None
  -- "A refused function gets the longest run's refusal with all weights 1"
  pub refused : (e : Refusal) → (unit_run ws marks lengths ≡ Err e) ↔ (nearest_of ws w marks lengths ≡ Err e)
