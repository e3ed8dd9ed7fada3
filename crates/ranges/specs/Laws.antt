-- What callers go by, of the runs by two tables. proofs/Laws.antt proves `Laws`.
-- Assumes nothing.
use Rattle.std.specs.Prelude.{◌≡◌, false, List, ℕ}
use Rattle.fields.specs.declared.version.Version.{Version}
use Rattle.runs.specs.Script.{Script, script_of, Sound}
use Rattle.ranges.specs.Range.{refuses_range}
use Rattle.ranges.specs.Between.{RangeEnds, TableRefused}
use Rattle.ranges.specs.RangeOrder.{RangeOrder, RangeKept, RangeLeft}

pub record Laws : Type 0 where
  -- request C-18: every table between two gives a run between theirs, and both ends are reached
  pub ends :
      (ws : Script) → Sound ws → (low high : List ℕ) (marks lengths : ℕ) → refuses_range low high ≡ false
      → RangeEnds ws low high marks lengths
  pub table_refused :
      (ws : Script) (low high : List ℕ) (marks lengths : ℕ) → TableRefused ws low high marks lengths
  -- "Checks run in this order", of two tables, and "Nothing lent is altered" where they are refused
  pub range_order :
      (ws : Script) (low high : List ℕ) (marks lengths : ℕ) → RangeOrder ws low high marks lengths
  pub range_kept :
      (ws : Script) → Sound ws → (low high marks lengths : List ℕ) → RangeKept ws low high marks lengths
  pub range_left :
      (ws : Script) → Sound ws → (low high marks lengths : List ℕ) → RangeLeft ws low high marks lengths
  -- The same for the words of either version, where nothing is left to suppose of their steps.
  pub ends_of :
      (version : Version) (ws low high : List ℕ) (marks lengths : ℕ) → refuses_range low high ≡ false
      → RangeEnds (script_of version ws) low high marks lengths
  pub table_refused_of :
      (version : Version) (ws low high : List ℕ) (marks lengths : ℕ)
      → TableRefused (script_of version ws) low high marks lengths
  pub range_kept_of :
      (version : Version) (ws low high marks lengths : List ℕ)
      → RangeKept (script_of version ws) low high marks lengths
