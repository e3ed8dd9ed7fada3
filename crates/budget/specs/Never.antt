-- Request C-20: "If all four scripts are accepted, each one's L is at most S divided by 4, rounded down,
-- every meter was just begun, S stays the same, and words and weights stay those of the accepted runs, the
-- allowance never turns a word back." proofs/Never.antt proves `Never`.
-- Assumes nothing.
use Rattle.std.specs.Prelude.{◌⊎◌, Bool, true, false, ◌≡◌, List, [], ◌∷◌, ◌++◌, ℕ, ◌/◌, ◌≤◌, ◌<◌, get_or}
use Rattle.common.specs.Numbers.{«ACCEPTED», OVER_BUDGET}
use Rattle.common.specs.Limits.{last_script, heaviest_weight}
use Rattle.graph.specs.Graph.{In}
use Rattle.fields.specs.declared.version.Version.{Version}
use Rattle.runs.specs.Script.{script_of}
use Rattle.runs.specs.Run.{run_of, number_of, longest_of}
use Rattle.meter.specs.Feed.{scale_of}
use Rattle.meter.specs.Model.{Call, begin, feed, reset}
use Rattle.budget.specs.declared.step.Meters.{Meters}
use Rattle.budget.specs.Four.{meter_of, feed_four_of}
use Rattle.budget.specs.Calls.{
  FourCall,
  scripts_of,
  EachWith,
  EachBegun,
  four_after,
  answer_numbers,
  all_answers,
}

-- one script is accepted with these weights, and its "L is at most S divided by 4, rounded down"
pub record AcceptedWithin (version : Version) (ws weights : List ℕ) (s : ℕ) : Type 0 where
  -- the lengths of the slices that its run was lent
  pub marks : ℕ
  pub lengths : ℕ
  pub accepted : number_of (run_of (script_of version ws) weights marks lengths) ≡ «ACCEPTED»
  pub within : longest_of (run_of (script_of version ws) weights marks lengths) ≤ s / 4
  -- the weights are bytes, as those of every lent table are
  pub bytes : (i : ℕ) → get_or weights i 0 ≤ heaviest_weight

-- "all four scripts are accepted .."
abbrev pub EachWithin : (ℕ → Version) → (ℕ → List ℕ) → (ℕ → List ℕ) → ℕ → Type 0
EachWithin versions words weights s =
    (i : ℕ) → i ≤ last_script → AcceptedWithin (versions i) (words i) (weights i) s

-- the four are begun before the first feed: begins and resets, in any order and as many as there are, among
-- them a begin of each script
abbrev pub is_begin : Call → Bool
is_begin begin = true
is_begin (feed q) = false
is_begin reset = false

abbrev pub is_feed : Call → Bool
is_feed begin = false
is_feed (feed q) = true
is_feed reset = false

abbrev pub NoFeeds : List FourCall → Type 0
NoFeeds [] = Unit {0}
NoFeeds (c ∷ cs) = (is_feed c.call ≡ false) × NoFeeds cs

abbrev pub Begins : ℕ → List FourCall → Type 0
Begins i [] = ⊥
Begins i (c ∷ cs) = ((c.script ≡ i) × (is_begin c.call ≡ true)) ⊎ Begins i cs

pub record Opening (calls : List FourCall) : Type 0 where
  pub no_feeds : NoFeeds calls
  pub begins : (i : ℕ) → i ≤ last_script → Begins i calls

-- some feed of script i is turned back by the budget
abbrev pub TurnsBack : (ℕ → Version) → (ℕ → List ℕ) → (ℕ → List ℕ) → ℕ → Meters → List FourCall → Type 0
TurnsBack versions words weights i ms calls =
    In OVER_BUDGET (answer_numbers (all_answers (scripts_of versions words weights) i ms calls))

-- "words and weights stay those of the accepted runs": every feed of a script is lent them
pub record Never : Type 0 where
  -- "every meter was just begun, S stays the same": no feed of any script is answered 22
  pub none : (versions : ℕ → Version) (words weights : ℕ → List ℕ) (s : ℕ)
      → EachWithin versions words weights s
      → (ms : Meters) → EachBegun ms → (calls : List FourCall) → EachWith s calls → (i : ℕ)
      → TurnsBack versions words weights i ms calls → ⊥
  -- such are four meters of any contents once all four scripts have been begun
  pub begun : (ms : Meters) → ((i : ℕ) → i ≤ last_script → (meter_of ms i).services < 4294967296)
      → (versions : ℕ → Version) (words weights : ℕ → List ℕ) (opening : List FourCall) → Opening opening
      → EachBegun (four_after (scripts_of versions words weights) ms opening)
  -- so that, from any four meters, a list that begins so meets no 22, whatever S its begins and resets name
  pub opened : (versions : ℕ → Version) (words weights : ℕ → List ℕ) (s : ℕ)
      → EachWithin versions words weights s
      → (ms : Meters) → ((i : ℕ) → i ≤ last_script → (meter_of ms i).services < 4294967296)
      → (opening : List FourCall) → Opening opening
      → (calls : List FourCall) → EachWith s calls → (i : ℕ)
      → TurnsBack versions words weights i ms (opening ++ calls) → ⊥
  -- and more: whatever S the calls before named, the next feed with this S is not answered 22
  pub next : (versions : ℕ → Version) (words weights : ℕ → List ℕ) (s : ℕ)
      → EachWithin versions words weights s
      → (ms : Meters) → EachBegun ms → (calls : List FourCall) (i q : ℕ)
      → (feed_four_of (scale_of (script_of (versions i) (words i)) (weights i))
      (four_after (scripts_of versions words weights) ms calls) i s q).answer.number ≡ OVER_BUDGET → ⊥
