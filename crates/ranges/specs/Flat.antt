-- The answer of the exported function: the enum as a struct of numbers. The proof of `FlatReports`
-- is `proofs/Flat.antt`.
-- Assumes nothing.
use Rattle.std.specs.Prelude.{◌≡◌, Ok, Err}
use Rattle.common.specs.Refusals.{refusal_number, refusal_place}
use Rattle.runs.specs.Run.{number_of, place_of, longest_of, first_of}
use Rattle.ranges.specs.Range.{RunRange, low_run, high_run}
use Rattle.ranges.specs.declared.c.FlatRange.{FlatRange}

-- number and place, L and its first word by the low table and by the high one. "On refusal L
-- and its first word are 0"
abbrev pub flat_range : RunRange → FlatRange
flat_range (Ok r) =
    record {
      number = 0;
      place = 0;
      low_longest = r.low.longest;
      low_first = r.low.first;
      high_longest = r.high.longest;
      high_first = r.high.first;
    }
flat_range (Err e) =
    record {
      number = refusal_number e;
      place = refusal_place e;
      low_longest = 0;
      low_first = 0;
      high_longest = 0;
      high_first = 0;
    }

-- "Report the longest run for both tables", by the answers of a run that the two reports are
pub record FlatReports : Type 0 where
  -- the number and the place of either
  pub number : (r : RunRange) → (flat_range r).number ≡ number_of (low_run r)
  pub place : (r : RunRange) → (flat_range r).place ≡ place_of (low_run r)
  -- the low table's L and its first word, and the high table's
  pub low-longest : (r : RunRange) → (flat_range r).low_longest ≡ longest_of (low_run r)
  pub low-first : (r : RunRange) → (flat_range r).low_first ≡ first_of (low_run r)
  pub high-longest : (r : RunRange) → (flat_range r).high_longest ≡ longest_of (high_run r)
  pub high-first : (r : RunRange) → (flat_range r).high_first ≡ first_of (high_run r)
