-- Inner: no promise and no law between crates rests on what stands here.
-- What the runs by two tables promise of words that pass the checks of their number, of the slices and of the
-- tables, lent slices of as many elements. No exported contract cites it: that of `longest_runs` is over the
-- whole slices.
-- Assumes nothing.
use Rattle.std.specs.Prelude.{◌≡◌, List, ℕ}
use Rattle.runs.specs.Script.{Script}
use Rattle.runs.specs.Outcome.{decided, Decided}
use Rattle.ranges.specs.Range.{RunRange, both_of}

-- by two tables: the slices are those of the high one's run
pub record DecidedBoth (ws : Script) (low high : List ℕ) (r : RunRange) (m l : List ℕ) : Type 0 where
  pub answer : r ≡ both_of (decided ws low) (decided ws high)
  pub high-run : Decided ws high (decided ws high) m l
