-- Request C-18: what the answer of `longest_runs` says of every table of weights between the two.
-- proofs/Between.antt proves it of `runs_of`, which the contract of `longest_runs` cites, for any words and
-- slices and two tables that 18 and 19 let through, from the law of crate `graph` that heavier words make no
-- run lighter. It says nothing of the first word: two tables may have their heaviest segments elsewhere.
-- Assumes nothing.
use Rattle.std.specs.Prelude.{◌≡◌, ◌↔◌, true, false, List, ℕ, ◌≤◌, ◌<◌, length, get_or}
use Rattle.common.specs.Numbers.{«ACCEPTED»}
use Rattle.runs.specs.Script.{Script}
use Rattle.runs.specs.Weights.{weight_count, refuses_weights}
use Rattle.runs.specs.Run.{number_of, place_of, longest_of, run_of}
use Rattle.ranges.specs.Range.{low_run, high_run, runs_of}

-- a table "between them, entry by entry"
pub record Between (low high table : List ℕ) : Type 0 where
  pub count : length table ≡ weight_count
  pub above_low : (i : ℕ) → i < weight_count → get_or low i 0 ≤ get_or table i 0
  pub below_high : (i : ℕ) → i < weight_count → get_or table i 0 ≤ get_or high i 0

module _ (ws : Script) (low high : List ℕ) (marks lengths : ℕ) where
  -- what such a table gives
  pub record RunBetween (table : List ℕ) : Type 0 where
    -- number 18 lets it through: the low table has no 0, so that it has none
    pub weighed : refuses_weights table ≡ false
    -- "gives a run": it is accepted exactly if the two are
    pub accepted : (number_of (run_of ws table marks lengths) ≡ «ACCEPTED»)
        ↔ (number_of (low_run (runs_of ws low high marks lengths)) ≡ «ACCEPTED»)
    -- and else refused by the same number, at the same place
    pub number : number_of (run_of ws table marks lengths)
        ≡ number_of (low_run (runs_of ws low high marks lengths))
    pub place : place_of (run_of ws table marks lengths)
        ≡ place_of (low_run (runs_of ws low high marks lengths))
    -- "between the two reports"
    pub above_low : longest_of (low_run (runs_of ws low high marks lengths))
        ≤ longest_of (run_of ws table marks lengths)
    pub below_high : longest_of (run_of ws table marks lengths)
        ≤ longest_of (high_run (runs_of ws low high marks lengths))

  pub record RangeEnds : Type 0 where
    -- "every table between them, entry by entry, gives a run between the two reports"
    pub between : (table : List ℕ) → Between low high table → RunBetween table
    -- "and that both ends are reached": by the two tables, each of which is between them
    pub low_between : Between low high low
    pub low_reached : run_of ws low marks lengths ≡ low_run (runs_of ws low high marks lengths)
    pub high_between : Between low high high
    pub high_reached : run_of ws high marks lengths ≡ high_run (runs_of ws low high marks lengths)

  -- "18 on both tables, low first": a table that is refused by itself is refused here as its own run is
  pub record TableRefused : Type 0 where
    pub low_first : refuses_weights low ≡ true
        → run_of ws low marks lengths ≡ low_run (runs_of ws low high marks lengths)
    pub high_next : refuses_weights low ≡ false → refuses_weights high ≡ true
        → run_of ws high marks lengths ≡ low_run (runs_of ws low high marks lengths)
