-- What C gets of two tables is what the two reports are. Assumes nothing.
use mathlib.Core.Path.{◌≡◌, refl}
use Rattle.runs.specs.Run.{number_of, place_of, longest_of, first_of}
use Rattle.ranges.specs.Range.{RunRange, low_run, high_run}
use Rattle.std.specs.Prelude.{Ok, Err}
use Rattle.ranges.specs.Flat.{flat_range, FlatReports}

number : (r : RunRange) → (flat_range r).number ≡ number_of (low_run r)
number (Ok r) = refl
number (Err e) = refl

place : (r : RunRange) → (flat_range r).place ≡ place_of (low_run r)
place (Ok r) = refl
place (Err e) = refl

low-longest : (r : RunRange) → (flat_range r).low_longest ≡ longest_of (low_run r)
low-longest (Ok r) = refl
low-longest (Err e) = refl

low-first : (r : RunRange) → (flat_range r).low_first ≡ first_of (low_run r)
low-first (Ok r) = refl
low-first (Err e) = refl

high-longest : (r : RunRange) → (flat_range r).high_longest ≡ longest_of (high_run r)
high-longest (Ok r) = refl
high-longest (Err e) = refl

high-first : (r : RunRange) → (flat_range r).high_first ≡ first_of (high_run r)
high-first (Ok r) = refl
high-first (Err e) = refl

pub flat_reports : FlatReports
flat_reports =
    record {
      number = number;
      place = place;
      low-longest = low-longest;
      low-first = low-first;
      high-longest = high-longest;
      high-first = high-first;
    }
