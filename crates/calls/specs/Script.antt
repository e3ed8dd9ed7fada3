-- The bound for the words of a script of several functions, each of either version (request C-24):
-- each function was given to the longest run by itself, and accepted, with one table of weights. Beside it,
-- the meters that the controller holds, one for each activation. proofs/Script.antt proves `ScriptsBounded`,
-- `EitherVersion` and `RecursionCase`.
-- Assumes nothing.
use Rattle.std.specs.Prelude.{◌≡◌, List, [], ◌∷◌, ℕ, ◌*◌, ◌≤◌, ◌<◌, max, length, replicate}
use Rattle.common.specs.Numbers.{«ACCEPTED»}
use Rattle.fields.specs.lua54.Opcodes.{OP_MOVE, OP_CALL, OP_RETURN0}
use Rattle.fields.specs.declared.version.Version.{Version}
use Rattle.graph.specs.Graph.{In}
use Rattle.runs.specs.Script.{Script, script_of, lua54, graph_of, weight_of, Sound}
use Rattle.runs.specs.Weights.{Weighs}
use Rattle.runs.specs.Counted.{ones}
use Rattle.runs.specs.Run.{Run, accepted_run, run_of, number_of, longest_of}
use Rattle.meter.specs.declared.step.Meter.{Meter}
use Rattle.meter.specs.Feed.{Scale, scale_of, begin_of}
use Rattle.meter.specs.Calls.{meter_after, meter_answers}
use Rattle.meter.specs.Bound.{feeds}
use Rattle.calls.specs.Control.{
  GraphFunction,
  Activation,
  activation_last,
  activation_count,
  Control,
  idle,
  Move,
  Run as Moves,
  control_after,
  Nested,
}
use Rattle.calls.specs.Bound.{longest_run, Bounded}
use Rattle.calls.specs.Needed.{ReachesWeight}

-- rest ws p: what is left of word p of the function ws when a call that it made comes back
module _ (weights : List ℕ) (rest : Script → ℕ → ℕ) where
  abbrev pub function_of : Script → GraphFunction
  function_of ws = record { graph = graph_of ws; weight = weight_of ws weights; rest = rest ws }

  -- the functions of a whole script
  abbrev pub functions_from : List Script → List GraphFunction
  functions_from [] = []
  functions_from (ws ∷ script) = function_of ws ∷ functions_from script

-- what the longest run answers for a function by itself
abbrev pub run_answer_of : List ℕ → Script → Run
run_answer_of weights ws = run_of ws weights ws.size ws.size

abbrev pub largest_answer : List ℕ → List Script → ℕ
largest_answer weights [] = 0
largest_answer weights (ws ∷ script) = max (longest_of (run_answer_of weights ws))
    (largest_answer weights script)

pub record AcceptedScript (weights : List ℕ) (rest : Script → ℕ → ℕ) (script : List Script) : Type 0 where
  pub weighs : Weighs weights
  pub part : (ws : Script) (p : ℕ) → rest ws p ≤ weight_of ws weights p
  pub sound : (ws : Script) → In ws script → Sound ws
  pub accepted : (ws : Script) → In ws script → number_of (run_answer_of weights ws) ≡ «ACCEPTED»

-- a meter m, begun when the activation was entered and fed each word that it ran: it refused none, is at its
-- last word, and shows its count
pub record Shows (s : Scale) (m : Meter) (a : Activation) (longest : ℕ) : Type 0 where
  pub taken : meter_answers s (begin_of m) (feeds a.words) ≡ replicate (length a.words) «ACCEPTED»
  pub last : (meter_after s (begin_of m) (feeds a.words)).last ≡ activation_last a
  pub count : (meter_after s (begin_of m) (feeds a.words)).count ≡ activation_count a
  pub never : (meter_after s (begin_of m) (feeds a.words)).count ≤ longest

pub record Metered (weights : List ℕ) (rest : Script → ℕ → ℕ) (script : List Script)
    (a : Activation) : Type 0 where
  -- the words of its function
  pub words : Script
  pub known : In words script
  pub same : a.function ≡ function_of weights rest words
  pub shows : (m : Meter)
      → m.services < 4294967296
      → Shows (scale_of words weights) m a (longest_of (run_answer_of weights words))

pub record ScriptBounded (weights : List ℕ) (rest : Script → ℕ → ℕ) (script : List Script) (moves : List Move)
    (c : Control) : Type 0 where
  -- the L of a function is the one that the longest run answers
  pub answers : (ws : Script)
      → In ws script → longest_run (function_of weights rest ws) ≡ longest_of (run_answer_of weights ws)
  -- where calls nest at most d deep, what has run since the last service weighs no more than
  -- d times the largest answer
  pub deep : (d : ℕ) → Nested d idle moves → c.since ≤ d * largest_answer weights script
  -- by the chain, and by the meters
  pub bounded : Bounded (functions_from weights rest script) moves c
  -- which are those that the controller holds
  pub meters : (a : Activation) → In a c.stack → Metered weights rest script a

abbrev pub ScriptsBounded : Type 0
ScriptsBounded =
    (weights : List ℕ) (rest : Script → ℕ → ℕ) (script : List Script) → AcceptedScript weights rest script
    → (moves : List Move) → Moves (functions_from weights rest script) idle moves
    → ScriptBounded weights rest script moves (control_after idle moves)

-- the functions of a script as words, all of one version
abbrev pub version_scripts : Version → List (List ℕ) → List Script
version_scripts version [] = []
version_scripts version (ws ∷ script) = script_of version ws ∷ version_scripts version script

-- the same of words of either version: nothing is asked of them but that the run accepts each
abbrev pub EitherVersion : Type 0
EitherVersion =
    (version : Version) (weights : List ℕ) → Weighs weights → (rest : Script → ℕ → ℕ)
    → ((ws : Script) (p : ℕ) → rest ws p ≤ weight_of ws weights p)
    → (script : List (List ℕ))
    → ((ws : List ℕ) → In ws script → number_of (run_answer_of weights (script_of version ws)) ≡ «ACCEPTED»)
    → (moves : List Move) → Moves (functions_from weights rest (version_scripts version script)) idle moves
    → ScriptBounded weights rest (version_scripts version script) moves (control_after idle moves)

-- three words, of which the second calls the function itself: alone L is 3, and 2 deep 4 words run
-- with no service between them
abbrev pub recursive : Script
recursive = lua54 (OP_MOVE ∷ OP_CALL ∷ OP_RETURN0 ∷ [])

pub record RecursionCase : Type 0 where
  pub alone : run_answer_of ones recursive ≡ accepted_run 3 0
  pub twice : ReachesWeight (functions_from ones (λ ws p. 0) (recursive ∷ [])) 2 4
