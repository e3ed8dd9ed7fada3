-- Demand 3, its second half: a meter through a list of calls, held against the reference model.
-- proofs/Calls.antt proves it.
-- Assumes nothing.
use Rattle.std.specs.Prelude.{◌≡◌, List, [], ◌∷◌, ℕ, ◌+◌, min}
use Rattle.meter.specs.declared.step.Meter.{Meter}
use Rattle.meter.specs.Feed.{Scale, is_begun, feed_of, begin_of, reset_of}
use Rattle.meter.specs.Model.{
  Call,
  begin,
  feed,
  reset,
  Model,
  empty_model,
  model_after,
  model_answers,
  has_word,
  last_or0,
  weight_since,
}

-- the meter after a call, by the definitions that the contracts of `begin`, `feed` and `reset` cite
abbrev pub meter_called : Scale → Meter → Call → Meter
meter_called s m begin = begin_of m
meter_called s m (feed q) = (feed_of s m q).meter
meter_called s m reset = reset_of m

-- "Each call is lent the meter as the call before left it, refused or not; nobody else writes it meanwhile.":
-- the meter after the calls
abbrev pub meter_after : Scale → Meter → List Call → Meter
meter_after s m [] = m
meter_after s m (c ∷ cs) = meter_after s (meter_called s m c) cs

-- the answers to the feeds among the calls
abbrev pub meter_answers : Scale → Meter → List Call → List ℕ
meter_answers s m [] = []
meter_answers s m (begin ∷ cs) = meter_answers s (begin_of m) cs
meter_answers s m (feed q ∷ cs) = (feed_of s m q).answer.number ∷ meter_answers s (feed_of s m q).meter cs
meter_answers s m (reset ∷ cs) = meter_answers s (reset_of m) cs

-- "It starts from any meter after a begin.", whatever highest it holds. "That is a single claim about the
-- list, and not one for each call."
module _ (s : Scale) (m : Meter) (calls : List Call) where
  abbrev pub shown : Meter
  shown = meter_after s (begin_of m) calls

  abbrev pub model : Model
  model = model_after s.graph empty_model calls

  pub record FollowsModel : Type 0 where
    -- "Any other feed writes nothing; its answer is 10, and that of a written one 0."
    pub answers : meter_answers s (begin_of m) calls ≡ model_answers s.graph empty_model calls
    -- "After the list the meter is begun exactly if the course has a word"
    pub begun : is_begun shown ≡ has_word model.path
    -- "last is the course's last word, or 0"
    pub last : shown.last ≡ last_or0 model.path
    -- "words since service count from the word its last serving step leads to (all of them if none
    -- serves, 0 if empty)", by weight
    pub count : shown.count ≡ weight_since s.graph s.weight model.path
    -- "services are those at the start plus the tally, at most 4,294,967,295"
    pub services : shown.services ≡ min (m.services + model.tally) 4294967295
