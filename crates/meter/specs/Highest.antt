-- Request C-19, "the highest count a meter has shown, held in the meter", after any list of calls, and what a
-- begin and a reset make of any meter, field by field.
-- proofs/Highest.antt proves `HighestAfter`, `Begins` and `Resets` for any meter.
-- Assumes nothing.
use Rattle.std.specs.Prelude.{◌≡◌, Bool, true, false, cond, List, [], ◌∷◌, ℕ, ◌≤◌, max, eqb}
use Rattle.common.specs.Numbers.{«ACCEPTED»}
use Rattle.meter.specs.declared.step.Meter.{Meter}
use Rattle.meter.specs.Feed.{Fed}
use Rattle.meter.specs.Feed.{Scale, begin_of, reset_of, feed_of}
use Rattle.meter.specs.Model.{Call, begin, feed, reset}
use Rattle.meter.specs.Calls.{meter_called, meter_after}

-- the count that a feed shows, before those that are shown later: a feed that is refused
-- changes nothing and shows none
abbrev pub shown_by : Fed → List ℕ → List ℕ
shown_by f later = cond (eqb f.answer.number «ACCEPTED») (f.meter.count ∷ later) later

-- the counts that a meter comes to show, by its begins and its feeds; a reset leaves the count as it is
abbrev pub counts_shown : Scale → Meter → List Call → List ℕ
counts_shown s m [] = []
counts_shown s m (begin ∷ cs) = (begin_of m).count ∷ counts_shown s (begin_of m) cs
counts_shown s m (feed q ∷ cs) = shown_by (feed_of s m q) (counts_shown s (feed_of s m q).meter cs)
counts_shown s m (reset ∷ cs) = counts_shown s (reset_of m) cs

-- the largest of them, 0 if there is none
abbrev pub largest : List ℕ → ℕ
largest [] = 0
largest (n ∷ ns) = max n (largest ns)

-- some call is a reset
abbrev pub has_reset : List Call → Bool
has_reset [] = false
has_reset (begin ∷ cs) = has_reset cs
has_reset (feed q ∷ cs) = has_reset cs
has_reset (reset ∷ cs) = true

-- the calls after the last reset, all of them if none is one: calls go as long as a reset is left
abbrev pub since_reset : List Call → List Call
since_reset [] = []
since_reset (c ∷ cs) = cond (has_reset (c ∷ cs)) (since_reset cs) (c ∷ cs)

-- the meter as the last reset left it, as it was at the start if there is none
abbrev pub at_reset : Scale → Meter → List Call → Meter
at_reset s m [] = m
at_reset s m (c ∷ cs) = cond (has_reset (c ∷ cs)) (at_reset s (meter_called s m c) cs) m

pub record HighestAfter (s : Scale) (m : Meter) (calls : List Call) : Type 0 where
  -- the highest is the larger of the one at the last reset, or the start, and the largest count shown since
  pub highest : (meter_after s m calls).highest
      ≡ max (at_reset s m calls).highest (largest (counts_shown s (at_reset s m calls) (since_reset calls)))
  -- "A new reset sets it to the count of that moment": so that after a reset it is the largest count
  -- shown from that moment on
  pub at-reset : has_reset calls ≡ true → (at_reset s m calls).highest ≡ (at_reset s m calls).count
  -- the calls since that moment lead on to the meter after all of them
  pub since : meter_after s (at_reset s m calls) (since_reset calls) ≡ meter_after s m calls
  -- and it is not below the count if it was not at the start: number 11 refuses no meter for its highest that
  -- it let through before the calls
  pub covers : m.count ≤ m.highest → (meter_after s m calls).count ≤ (meter_after s m calls).highest

-- "Begin takes any meter, sets not begun, 0, 0 and keeps the services." Of the highest: "begin keeps it"
pub record Begins (m : Meter) : Type 0 where
  pub begun : (begin_of m).begun ≡ 0
  pub last : (begin_of m).last ≡ 0
  pub count : (begin_of m).count ≡ 0
  pub services : (begin_of m).services ≡ m.services
  pub highest : (begin_of m).highest ≡ m.highest

-- "A new reset sets it to the count of that moment and changes nothing else": of any meter, begun or not,
-- also of one that no begin led to and that 11 refuses. A reset that cleans such a meter, in definition and
-- code alike, is refused here
pub record Resets (m : Meter) : Type 0 where
  pub highest : (reset_of m).highest ≡ m.count
  pub begun : (reset_of m).begun ≡ m.begun
  pub last : (reset_of m).last ≡ m.last
  pub count : (reset_of m).count ≡ m.count
  pub services : (reset_of m).services ≡ m.services
