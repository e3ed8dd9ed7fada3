-- Request C-21, "Acceptance is tried .., lowest script first, in one pair of work slices, which keep what
-- the last run tried left" and "whatever the longest run gives for the lowest script it refuses": what
-- `acceptance` comes to, of at most four scripts. Every run tried has slices of the lengths that were lent.
-- Assumes nothing.
use Rattle.std.specs.Prelude.{◌≡◌, ◌⊎◌, List, ℕ, zero, suc, ◌+◌, ◌<◌, length}
use Rattle.common.specs.Numbers.{«ACCEPTED»}
use Rattle.runs.specs.Run as Run
use Rattle.rehearsal.specs.Trial.{trial_of, trial_marks, trial_lengths}
use Rattle.rehearsal.specs.Rehearse.{Tried, tried_number, tried_place, untried, accepted_by, script_at}

module _ (w0 w1 w2 w3 : List ℕ) (k : ℕ) (marks lengths : List ℕ) where
  -- the longest run gives this number for script i
  abbrev pub run_number : ℕ → ℕ
  run_number i = Run.number_of (trial_of (script_at w0 w1 w2 w3 i) marks lengths)

  abbrev pub run_place : ℕ → ℕ
  run_place i = Run.place_of (trial_of (script_at w0 w1 w2 w3 i) marks lengths)

  -- script i is the lowest that is refused, and number and place are its
  pub record LowestRefused (number place : ℕ) : Type 0 where
    pub script : ℕ
    pub known : script < k
    pub refused : run_number script ≡ «ACCEPTED» → ⊥
    pub lower : (j : ℕ) → j < script → run_number j ≡ «ACCEPTED»
    pub number_same : number ≡ run_number script
    pub place_same : place ≡ run_place script

  -- what the runs of the scripts below i leave, one after another, of the slices as they were lent: by the
  -- longest run alone, so that a rehearsal that clears the slices first, in `acceptance` and code alike, is
  -- refused at `last`
  abbrev pub left_below : ℕ → Tried
  left_below zero = untried marks lengths
  left_below (suc i) =
      record {
        answer = accepted_by (trial_of (script_at w0 w1 w2 w3 i) marks lengths);
        marks = trial_marks (script_at w0 w1 w2 w3 i) (left_below i).marks (left_below i).lengths;
        lengths = trial_lengths (script_at w0 w1 w2 w3 i) (left_below i).marks (left_below i).lengths;
      }

  -- script i is the last that is tried: all below it were accepted, and it is refused or there is none after
  -- it. What the slices hold is what its run leaves of what the runs below it left
  pub record LastTried (marks_now lengths_now : List ℕ) : Type 0 where
    pub script : ℕ
    pub known : script < k
    pub lower : (j : ℕ) → j < script → run_number j ≡ «ACCEPTED»
    pub ends : (run_number script ≡ «ACCEPTED» → ⊥) ⊎ (script + 1 ≡ k)
    pub marks_same :
        marks_now
        ≡ trial_marks (script_at w0 w1 w2 w3 script) (left_below script).marks (left_below script).lengths
    pub lengths_same :
        lengths_now
        ≡ trial_lengths (script_at w0 w1 w2 w3 script) (left_below script).marks (left_below script).lengths

  pub record Accepting (t : Tried) : Type 0 where
    pub accepted : tried_number t ≡ «ACCEPTED» → (i : ℕ) → i < k → run_number i ≡ «ACCEPTED»
    pub refused : (tried_number t ≡ «ACCEPTED» → ⊥) → LowestRefused (tried_number t) (tried_place t)
    pub last : 0 < k → LastTried t.marks t.lengths
    pub marks_size : length t.marks ≡ length marks
    pub lengths_size : length t.lengths ≡ length lengths
