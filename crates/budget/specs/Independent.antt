-- Request C-20: "A script's answers depend on its own words, feeds, begins and resets, its own meter at the
-- start, the weights, S, and the sum of the others' counts at each feed, and on nothing else of theirs."
-- proofs/Independent.antt proves `Independent`.
-- Assumes nothing.
use Rattle.std.specs.Prelude.{◌≡◌, List, ℕ, ◌≤◌}
use Rattle.common.specs.Limits.{last_script}
use Rattle.fields.specs.declared.version.Version.{Version}
use Rattle.budget.specs.declared.step.Meters.{Meters}
use Rattle.budget.specs.Four.{meter_of}
use Rattle.budget.specs.Calls.{FourCall, Scripts, scripts_of, four_after, all_answers, seen_by}

-- one history: what each script was lent, the four meters at the start, and the calls
pub record History : Type 0 where
  pub versions : ℕ → Version
  pub words : ℕ → List ℕ
  pub weights : ℕ → List ℕ
  pub start : Meters
  pub calls : List FourCall

-- what each script's feeds went by in it
abbrev pub scripts_in : History → Scripts
scripts_in h = scripts_of h.versions h.words h.weights

-- what two histories are to agree on, of script i
pub record SameToScript (i : ℕ) (h h' : History) : Type 0 where
  pub script : i ≤ last_script
  -- "its own words", which "include its version" (request C-24)
  pub version : h.versions i ≡ h'.versions i
  pub words : h.words i ≡ h'.words i
  -- "the weights", lent at its own feeds
  pub weights : h.weights i ≡ h'.weights i
  -- "its own meter at the start"
  pub start : meter_of h.start i ≡ meter_of h'.start i
  -- its own "feeds, begins and resets, .. S, and the sum of the others' counts at each feed"
  pub seen : seen_by (scripts_in h) i h.start h.calls ≡ seen_by (scripts_in h') i h'.start h'.calls

-- ".. and on nothing else of theirs"
pub record Independent (i : ℕ) (h h' : History) : Type 0 where
  -- they agree on its answers, 21 and 22 included
  pub answers : SameToScript i h h'
      → all_answers (scripts_in h) i h.start h.calls ≡ all_answers (scripts_in h') i h'.start h'.calls
  -- and on its meter
  pub meter : SameToScript i h h'
      → meter_of (four_after (scripts_in h) h.start h.calls) i
      ≡ meter_of (four_after (scripts_in h') h'.start h'.calls) i
