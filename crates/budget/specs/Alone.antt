-- Request C-20: "A feed is otherwise as before, and demand 3 holds of each script's own list of
-- calls, with a feeding book for each; calls that 20, 21 or 22 turns back are left out of the list."
-- proofs/Alone.antt proves `Alone`.
-- Assumes nothing.
use Rattle.std.specs.Prelude.{◌≡◌, List, ℕ, ◌+◌, ◌≤◌, min, length}
use Rattle.common.specs.Limits.{most_words, last_script}
use Rattle.fields.specs.declared.version.Version.{Version}
use Rattle.runs.specs.Script.{script_of}
use Rattle.runs.specs.Weights.{Weighs}
use Rattle.meter.specs.declared.step.Meter.{Meter}
use Rattle.meter.specs.Feed.{Scale, scale_of, is_begun}
use Rattle.meter.specs.Model.{
  Call,
  Model,
  empty_model,
  model_after,
  model_answers,
  has_word,
  last_or0,
  weight_since,
}
use Rattle.meter.specs.Calls.{meter_after}
use Rattle.meter.specs.Highest.{HighestAfter}
use Rattle.budget.specs.declared.step.Meters.{Meters}
use Rattle.budget.specs.Four.{meter_of}
use Rattle.budget.specs.Calls.{
  FourCall,
  Scripts,
  scripts_of,
  JustBegun,
  four_after,
  alone_answers,
  answer_numbers,
  own_calls,
  own_answers,
}

-- script i's own list on its meter alone, after any interleaved list, whatever S each feed
-- names, from any four meters
pub record RunsAlone (g : Scripts) (ms : Meters) (calls : List FourCall) (i : ℕ) : Type 0 where
  -- gives the same answers, numbers and places
  pub answers : own_answers g i ms calls ≡ alone_answers (g i) (meter_of ms i) (own_calls g i ms calls)
  -- and the same meter
  pub meter : meter_of (four_after g ms calls) i ≡ meter_after (g i) (meter_of ms i) (own_calls g i ms calls)

-- "demand 3 holds of each script's own list of calls, with a feeding book for each": what `FollowsModel` says
-- of one meter, said of one of four
module _ (versions : ℕ → Version) (words weights : ℕ → List ℕ) (ms : Meters)
    (calls : List FourCall) (i : ℕ) where
  abbrev pub scale : Scale
  scale = scale_of (script_of (versions i) (words i)) (weights i)

  abbrev pub own : List Call
  own = own_calls (scripts_of versions words weights) i ms calls

  abbrev pub shown : Meter
  shown = meter_of (four_after (scripts_of versions words weights) ms calls) i

  abbrev pub model : Model
  model = model_after scale.graph empty_model own

  pub record FollowsOwnModel : Type 0 where
    -- "Any other feed writes nothing; its answer is 10, and that of a written one 0."
    pub answers : answer_numbers (own_answers (scripts_of versions words weights) i ms calls)
        ≡ model_answers scale.graph empty_model own
    -- "After the list the meter is begun exactly if the course has a word"
    pub begun : is_begun shown ≡ has_word model.path
    -- "last is the course's last word, or 0"
    pub last : shown.last ≡ last_or0 model.path
    -- "words since service count from the word its last serving step leads to (all of them if none
    -- serves, 0 if empty)", by weight
    pub count : shown.count ≡ weight_since scale.graph scale.weight model.path
    -- "services are those at the start plus the tally, at most 4,294,967,295": "its own services counter"
    pub services : shown.services ≡ min ((meter_of ms i).services + model.tally) 4294967295
    -- request C-19: the highest is that of the script's meter alone, and so what its own list says
    pub shown_highest : shown.highest ≡ (meter_after scale (meter_of ms i) own).highest
    pub highest : HighestAfter scale (meter_of ms i) own

pub record Alone : Type 0 where
  pub runs : (g : Scripts) (ms : Meters) (calls : List FourCall) (i : ℕ)
      → i ≤ last_script → RunsAlone g ms calls i
  -- "For one function of at most 32,768 words", "weights that 18 accepts", and "a meter just begun", as
  -- demand 3 has it; of the other three scripts nothing is supposed
  pub models : (versions : ℕ → Version) (words weights : ℕ → List ℕ) (ms : Meters) (calls : List FourCall)
      (i : ℕ) → i ≤ last_script
      → length (words i) ≤ most_words → Weighs (weights i) → JustBegun (meter_of ms i)
      → FollowsOwnModel versions words weights ms calls i
