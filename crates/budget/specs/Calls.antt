-- Lists of calls on four meters, and what one script sees of them.
-- Assumes nothing.
use Rattle.std.specs.Prelude.{Bool, cond, not, ◌&&◌, ◌||◌, ◌≡◌, List, [], ◌∷◌, ℕ, ◌≤◌, ◌<◌, eqb}
use Rattle.common.specs.Numbers.{NO_SCRIPT, BUDGET_RANGE, OVER_BUDGET}
use Rattle.common.specs.Limits.{last_script}
use Rattle.fields.specs.declared.version.Version.{Version}
use Rattle.runs.specs.Script.{script_of}
use Rattle.meter.specs.declared.step.Meter.{Meter}
use Rattle.common.specs.declared.c.FlatAnswer.{FlatAnswer}
use Rattle.meter.specs.Feed.{Scale, scale_of, begin_of, reset_of, feed_of}
use Rattle.meter.specs.Model.{Call, begin, feed, reset}
use Rattle.budget.specs.declared.step.Meters.{Meters}
use Rattle.budget.specs.Four.{FedFour}
use Rattle.budget.specs.Four.{meter_of, others_of, begin_four_of, reset_four_of, feed_four_of}

-- a call on one of the four: the script's number, S (which only a feed looks at), and the call on its meter
pub record FourCall : Type 0 where
  pub script : ℕ
  pub budget : ℕ
  pub call : Call

-- what each script's feeds go by, by its number: lent the same at each
abbrev pub Scripts : Type 0
Scripts = ℕ → Scale

-- by each script's words, and the weights lent at its feeds. Request C-24: "in earlier claims a script's
-- words include its version", and so each of the four has its own
abbrev pub scripts_of : (ℕ → Version) → (ℕ → List ℕ) → (ℕ → List ℕ) → Scripts
scripts_of versions words weights i = scale_of (script_of (versions i) (words i)) (weights i)

-- one call, by the definitions that the contracts cite
abbrev pub made_by : Scripts → Meters → ℕ → ℕ → Call → FedFour
made_by g ms i s begin = begin_four_of ms i
made_by g ms i s (feed q) = feed_four_of (g i) ms i s q
made_by g ms i s reset = reset_four_of ms i

unfoldable pub made : Scripts → Meters → FourCall → FedFour
made g ms c = made_by g ms c.script c.budget c.call

-- the four meters after the calls: each call is lent them as the call before left them, refused or not
abbrev pub four_after : Scripts → Meters → List FourCall → Meters
four_after g ms [] = ms
four_after g ms (c ∷ cs) = four_after g (made g ms c).meters cs

-- "S stays the same"
abbrev pub EachWith : ℕ → List FourCall → Type 0
EachWith s [] = Unit {0}
EachWith s (c ∷ cs) = (c.budget ≡ s) × EachWith s cs

-- a meter "just begun": a begin would change nothing. Its services are 32 bits
pub record JustBegun (m : Meter) : Type 0 where
  pub begun : begin_of m ≡ m
  pub fits : m.services < 4294967296

-- "every meter was just begun"
abbrev pub EachBegun : Meters → Type 0
EachBegun ms = (i : ℕ) → i ≤ last_script → JustBegun (meter_of ms i)

-- an answer before the later ones, if the call is a feed: a begin and a reset answer nothing but 20, and only
-- where there is no such script
abbrev pub answered : Call → FlatAnswer → List FlatAnswer → List FlatAnswer
answered begin a later = later
answered (feed q) a later = a ∷ later
answered reset a later = later

-- the answers, numbers and places, to the feeds of one meter alone
abbrev pub alone_answers : Scale → Meter → List Call → List FlatAnswer
alone_answers s m [] = []
alone_answers s m (begin ∷ cs) = alone_answers s (begin_of m) cs
alone_answers s m (feed q ∷ cs) = (feed_of s m q).answer ∷ alone_answers s (feed_of s m q).meter cs
alone_answers s m (reset ∷ cs) = alone_answers s (reset_of m) cs

-- their numbers
abbrev pub answer_numbers : List FlatAnswer → List ℕ
answer_numbers [] = []
answer_numbers (a ∷ rest) = a.number ∷ answer_numbers rest

-- "calls that 20, 21 or 22 turns back"
abbrev pub turns_back : ℕ → Bool
turns_back number = eqb number NO_SCRIPT || (eqb number BUDGET_RANGE || eqb number OVER_BUDGET)

-- a call of script i with this number for an answer stands in script i's own list: such calls
-- "are left out of the list"
abbrev pub is_kept : ℕ → FourCall → ℕ → Bool
is_kept i c number = eqb c.script i && not (turns_back number)

-- what a script is shown at one of its own calls: at a feed the word's number, S, "and the
-- sum of the others' counts"
pub data Seen : Type 0 where
  begins : Seen
  feeds : ℕ → ℕ → ℕ → Seen
  resets : Seen

abbrev pub shown_to : ℕ → ℕ → Call → Seen
shown_to s others begin = begins
shown_to s others (feed q) = feeds q s others
shown_to s others reset = resets

module _ (g : Scripts) (i : ℕ) where
  -- "each script's own list of calls"
  abbrev pub own_calls : Meters → List FourCall → List Call
  own_calls ms [] = []
  own_calls ms (c ∷ cs) =
      cond (is_kept i c (made g ms c).answer.number)
      (c.call ∷ own_calls (made g ms c).meters cs)
      (own_calls (made g ms c).meters cs)

  -- the answers to the feeds in that list
  abbrev pub own_answers : Meters → List FourCall → List FlatAnswer
  own_answers ms [] = []
  own_answers ms (c ∷ cs) =
      cond (is_kept i c (made g ms c).answer.number)
      (answered c.call (made g ms c).answer (own_answers (made g ms c).meters cs))
      (own_answers (made g ms c).meters cs)

  -- the answers to all of script i's feeds, those that were turned back included
  abbrev pub all_answers : Meters → List FourCall → List FlatAnswer
  all_answers ms [] = []
  all_answers ms (c ∷ cs) =
      cond (eqb c.script i)
      (answered c.call (made g ms c).answer (all_answers (made g ms c).meters cs))
      (all_answers (made g ms c).meters cs)

  -- "its own .. feeds, begins and resets, .. S, and the sum of the others' counts at each feed"
  abbrev pub seen_by : Meters → List FourCall → List Seen
  seen_by ms [] = []
  seen_by ms (c ∷ cs) =
      cond (eqb c.script i)
      (shown_to c.budget (others_of ms i) c.call ∷ seen_by (made g ms c).meters cs)
      (seen_by (made g ms c).meters cs)
