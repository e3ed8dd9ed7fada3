-- The controller's side, over the project's own meter: one for each activation, begun when that is entered
-- and fed each of its words; and one number more, `left`. The sum of the meters alive is no bound, since a
-- callee's share leaves with its meter (`Needed`, `none_live`). proofs/Meters.antt proves `MetersBound`.
-- Assumes nothing.
use Rattle.std.specs.Prelude.{◌≡◌, Bool, cond, List, [], ◌∷◌, ◌++◌, ℕ, ◌+◌, ◌≤◌, ◌<◌}
use Rattle.common.specs.Numbers.{«ACCEPTED»}
use Rattle.graph.specs.Graph.{In}
use Rattle.runs.specs.Script.{Script, graph_of}
use Rattle.meter.specs.declared.step.Meter.{Meter}
use Rattle.meter.specs.Feed.{Fed}
use Rattle.meter.specs.Feed.{scale_of, begin_of, feed_of}
use Rattle.calls.specs.Control.{idle, Move, call, tailcall, step, leave, Run, control_after}
use Rattle.calls.specs.Bound.{total}
use Rattle.calls.specs.Script.{function_of, functions_from, AcceptedScript}

-- an activation as the controller holds it: its function's words, and its meter
pub record HeldMeter : Type 0 where
  pub words : Script
  pub meter : Meter

pub record Controller : Type 0 where
  -- the innermost first
  pub held : List HeldMeter
  -- 0 at each service, and grown by a meter's count when its activation leaves
  pub left : ℕ

abbrev pub unused : Controller
unused = record { held = []; left = 0 }

-- what the controller is told
pub data CallEvent : Type 0 where
  -- a function is entered; any meter is taken for it, whatever it holds
  enters : Script → Meter → CallEvent
  -- the same by a tail call, in the place of the one that runs
  replaces : Script → Meter → CallEvent
  -- the one that runs goes on to a word
  goes : ℕ → CallEvent
  -- it leaves
  leaves : CallEvent

module _ (weights : List ℕ) where
  -- the feed of a held meter
  abbrev pub fed_held : HeldMeter → ℕ → Fed
  fed_held h q = feed_of (scale_of h.words weights) h.meter q

  -- a meter begun, before its first word
  abbrev pub begun_for : Script → Meter → HeldMeter
  begun_for ws m = record { words = ws; meter = begin_of m }

  abbrev pub held_at : HeldMeter → ℕ → HeldMeter
  held_at h q = record { words = h.words; meter = (fed_held h q).meter }

  abbrev pub serving : HeldMeter → ℕ → Bool
  serving h q = (graph_of h.words).serves h.meter.last q

  abbrev pub behind : List HeldMeter → List HeldMeter
  behind [] = []
  behind (h ∷ others) = others

  abbrev pub went_on : Controller → List HeldMeter → ℕ → Controller
  went_on k [] q = k
  went_on k (h ∷ others) q = record { held = held_at h q ∷ others; left = cond (serving h q) 0 k.left }

  abbrev pub dropped : Controller → List HeldMeter → Controller
  dropped k [] = k
  dropped k (h ∷ others) = record { held = others; left = k.left + h.meter.count }

  abbrev pub controller_told : Controller → CallEvent → Controller
  controller_told k (enters ws m) = record { held = held_at (begun_for ws m) 0 ∷ k.held; left = 0 }
  controller_told k (replaces ws m) = record { held = held_at (begun_for ws m) 0 ∷ behind k.held; left = 0 }
  controller_told k (goes q) = went_on k k.held q
  controller_told k leaves = dropped k k.held

  abbrev pub told_all : Controller → List CallEvent → Controller
  told_all k [] = k
  told_all k (e ∷ es) = told_all (controller_told k e) es

  -- the answers to its feeds
  abbrev pub answers_to : List HeldMeter → ℕ → List ℕ
  answers_to [] q = []
  answers_to (h ∷ others) q = (fed_held h q).answer.number ∷ []

  abbrev pub event_answers : Controller → CallEvent → List ℕ
  event_answers k (enters ws m) = (fed_held (begun_for ws m) 0).answer.number ∷ []
  event_answers k (replaces ws m) = (fed_held (begun_for ws m) 0).answer.number ∷ []
  event_answers k (goes q) = answers_to k.held q
  event_answers k leaves = []

  abbrev pub all_answered : Controller → List CallEvent → List ℕ
  all_answered k [] = []
  all_answered k (e ∷ es) = event_answers k e ++ all_answered (controller_told k e) es

-- what can happen: a function of the script is entered, the one that runs takes a step of its words, or
-- leaves. A meter's services are 32 bits
abbrev pub StepFrom : List HeldMeter → ℕ → Type 0
StepFrom [] q = ⊥
StepFrom (h ∷ others) q = In q ((graph_of h.words).successors h.meter.last)

abbrev pub Possible : List Script → Controller → CallEvent → Type 0
Possible script k (enters ws m) = In ws script × (m.services < 4294967296)
Possible script k (replaces ws m) = In ws script × (m.services < 4294967296)
Possible script k (goes q) = StepFrom k.held q
Possible script k leaves = Unit {0}

abbrev pub Happens : List ℕ → List Script → Controller → List CallEvent → Type 0
Happens weights script k [] = Unit {0}
Happens weights script k (e ∷ es) =
    Possible script k e × Happens weights script (controller_told weights k e) es

-- the same events as moves of control
module _ (weights : List ℕ) (rest : Script → ℕ → ℕ) where
  abbrev pub event_move : CallEvent → Move
  event_move (enters ws m) = call (function_of weights rest ws)
  event_move (replaces ws m) = tailcall (function_of weights rest ws)
  event_move (goes q) = step q
  event_move leaves = leave

  abbrev pub moves_of : List CallEvent → List Move
  moves_of [] = []
  moves_of (e ∷ es) = event_move e ∷ moves_of es

-- the count of the meter of the one that runs
abbrev pub running_count : List HeldMeter → ℕ
running_count [] = 0
running_count (h ∷ others) = h.meter.count

pub record MeterBound (weights : List ℕ) (rest : Script → ℕ → ℕ) (script : List Script)
    (events : List CallEvent) : Type 0 where
  -- the events are a run of the model, of which `ScriptsBounded` speaks
  pub run : Run (functions_from weights rest script) idle (moves_of weights rest events)
  -- no feed is refused
  pub taken : (n : ℕ) → In n (all_answered weights unused events) → n ≡ «ACCEPTED»
  -- what passed since the last service is at most `left` plus the count of the running meter
  pub since :
      (control_after idle (moves_of weights rest events)).since
      ≤ (told_all weights unused events).left + running_count (told_all weights unused events).held
  -- and that at most the sum of L on the way back
  pub most :
      (told_all weights unused events).left + running_count (told_all weights unused events).held
      ≤ total (control_after idle (moves_of weights rest events)).chain

abbrev pub MetersBound : Type 0
MetersBound =
    (weights : List ℕ) (rest : Script → ℕ → ℕ) (script : List Script) → AcceptedScript weights rest script
    → (events : List CallEvent) → Happens weights script unused events → MeterBound weights rest script events
