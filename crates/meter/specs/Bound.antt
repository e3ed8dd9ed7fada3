-- What owners read first: a meter just begun, and lent the weights of the run at each feed, never shows a
-- count above the longest run, and on some path it shows it.
-- Beside it, request C-19: the highest that it holds is the largest count that it showed.
-- Assumes nothing.
use Rattle.std.specs.Prelude.{◌≡◌, List, [], ◌∷◌, ℕ, ◌≤◌, length, replicate}
use Rattle.common.specs.Numbers.{«ACCEPTED»}
use Rattle.graph.specs.Graph.{Path}
use Rattle.meter.specs.declared.step.Meter.{Meter}
use Rattle.meter.specs.Feed.{Scale, begin_of, reset_of}
use Rattle.meter.specs.Model.{Call, feed}
use Rattle.meter.specs.Calls.{meter_after, meter_answers}
use Rattle.meter.specs.Highest.{counts_shown, largest}

-- a feed of each word number in turn
abbrev pub feeds : List ℕ → List Call
feeds [] = []
feeds (q ∷ qs) = feed q ∷ feeds qs

-- a path on which a meter just begun shows the count in the end
pub record ShownOn (s : Scale) (m : Meter) (count : ℕ) : Type 0 where
  pub words : List ℕ
  pub path : Path s.graph words
  pub shows : (meter_after s (begin_of m) (feeds words)).count ≡ count

pub record Bound (s : Scale) (m : Meter) (longest : ℕ) : Type 0 where
  -- a meter just begun and fed a path refuses none of its words
  pub taken : (words : List ℕ)
      → Path s.graph words → meter_answers s (begin_of m) (feeds words) ≡ replicate (length words) «ACCEPTED»
  -- it never shows a count above L: not on a path, of which each beginning is a path,
  -- nor after any other calls
  pub never : (calls : List Call) → (meter_after s (begin_of m) calls).count ≤ longest
  -- and on some path it shows L
  pub reached : ShownOn s m longest

-- "a meter begun, then reset"
abbrev pub fresh : Meter → Meter
fresh m = reset_of (begin_of m)

pub record Worst (s : Scale) (m : Meter) (longest : ℕ) : Type 0 where
  -- "then fed a course", it refuses none of its words
  pub taken : (words : List ℕ)
      → Path s.graph words → meter_answers s (fresh m) (feeds words) ≡ replicate (length words) «ACCEPTED»
  -- it "shows as highest the largest count it showed"
  pub highest : (words : List ℕ) → Path s.graph words
      → (meter_after s (fresh m) (feeds words)).highest ≡ largest (counts_shown s (fresh m) (feeds words))
  -- "never above L"
  pub never : (words : List ℕ)
      → Path s.graph words → (meter_after s (fresh m) (feeds words)).highest ≤ longest
