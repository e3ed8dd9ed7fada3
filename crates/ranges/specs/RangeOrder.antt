-- Two tables (request C-18): 18 on the low one, on the high one, and then "19 a low above its high",
-- before 7. `RangeEnds` says the rest of two tables that 18 and 19 let through. 19 after 7, 19 before 18, 19
-- at another place than the lowest, 19 where a low is its high, in definition and code alike, is refused
-- here. proofs/RangeOrder.antt proves the records for any script, tables and slices.
-- Assumes nothing.
use Rattle.std.specs.Prelude.{◌≡◌, ◌↔◌, ◌⊎◌, true, false, List, ℕ, ◌≤◌, ◌<◌, length, get_or}
use Rattle.runs.specs.Script.{Script}
use Rattle.runs.specs.Weights.{refuses_weights, weights_place}
use Rattle.runs.specs.Run.{Run, number_of, place_of, marks_after, lengths_after}
use Rattle.runs.specs.Order.{Fewer, Short, Long}
use Rattle.ranges.specs.Range.{low_run, runs_of, marks_after_both, lengths_after_both}

-- a low above its high at i
abbrev pub AboveAt : List ℕ → List ℕ → ℕ → Type 0
AboveAt low high i = (i < 128) × (get_or high i 0 < get_or low i 0)

module _ (ws : Script) (low high : List ℕ) (marks lengths : ℕ) where
  -- both reports have the number and the place of a refusal
  abbrev pub report : Run
  report = low_run (runs_of ws low high marks lengths)

  -- the checks of the sizes let through, and then 18
  abbrev pub Sized : Type 0
  Sized = Fewer ws low marks lengths × Long ws low marks lengths

  abbrev pub Weighed : Type 0
  Weighed = (refuses_weights low ≡ false) × (refuses_weights high ≡ false)

  pub record RangeOrder : Type 0 where
    pub one : (number_of report ≡ 1) ↔ (32768 < ws.size)
    pub six : (number_of report ≡ 6) ↔ (Fewer ws low marks lengths × Short ws low marks lengths)
    pub eighteen :
        (number_of report ≡ 18) ↔ (Sized × ((refuses_weights low ≡ true) ⊎ (refuses_weights high ≡ true)))
    pub nineteen : (number_of report ≡ 19) ↔ (Sized × Weighed × ((i : ℕ) × AboveAt low high i))
    pub seven :
        (number_of report ≡ 7) ↔ (Sized × Weighed × ((i : ℕ) → AboveAt low high i → ⊥) × (ws.size ≡ 0))
    -- "18 on both tables, low first"
    pub place_low : number_of report ≡ 18 → refuses_weights low ≡ true → place_of report ≡ weights_place low
    pub place_high : number_of report ≡ 18 → refuses_weights low ≡ false
        → place_of report ≡ weights_place high
    -- "the place is the lowest such opcode"
    pub place_19 : number_of report ≡ 19 → AboveAt low high (place_of report)
    pub lowest_19 : number_of report ≡ 19 → (i : ℕ) → AboveAt low high i → place_of report ≤ i
    pub no_place :
        (number_of report ≡ 18 → ⊥) → (number_of report ≡ 19 → ⊥) → (number_of report ≡ 8 → ⊥)
        → place_of report ≡ 0

-- "Nothing lent is altered, except that 8 .. leave[s] the reachable marks and n zero lengths":
-- where two tables are refused, too
module _ (ws : Script) (low high marks lengths : List ℕ) where
  abbrev pub reported_number : ℕ
  reported_number = number_of (report ws low high (length marks) (length lengths))

  pub record RangeKept : Type 0 where
    pub marks_kept : (reported_number ≡ 0 → ⊥) → (reported_number ≡ 8 → ⊥)
        → marks_after_both ws low high marks lengths ≡ marks
    pub lengths_kept :
        (reported_number ≡ 0 → ⊥) → (reported_number ≡ 8 → ⊥)
        → lengths_after_both ws low high marks lengths ≡ lengths

  -- "the work slices end as the high table's run leaves them", where the tables are not turned away. As the
  -- low one's run does, in definition and code alike, is refused here
  pub record RangeLeft : Type 0 where
    pub marks-left : (reported_number ≡ 18 → ⊥) → (reported_number ≡ 19 → ⊥)
        → marks_after_both ws low high marks lengths ≡ marks_after ws high marks lengths
    pub lengths-left :
        (reported_number ≡ 18 → ⊥) → (reported_number ≡ 19 → ⊥)
        → lengths_after_both ws low high marks lengths ≡ lengths_after ws high marks lengths
