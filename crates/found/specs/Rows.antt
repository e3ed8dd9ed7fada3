-- "which lines there are": a row of the run is its words from one to a last one.
-- Assumes nothing.
use Rattle.std.specs.Prelude.{ℕ, ◌<◌, ◌≤◌}

-- a row that starts at one of a run's `count` words has that word and none behind the run: where the next row
-- starts behind the last word of this one, no word of the run is left out, and none is told twice
pub record RowOfWords (from count last : ℕ) : Type 0 where
  pub starts : from ≤ last
  pub ends : last < count
