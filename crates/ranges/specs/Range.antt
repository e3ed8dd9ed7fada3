-- Request C-18, "Weights measured as low and high": the whole outcome of `longest_runs`, its answer and the
-- two lent slices, refusals included.
-- Assumes nothing.
use Rattle.std.specs.Prelude.{Bool, cond, ◌||◌, List, ℕ, ltb, eqb, get_or}
use Rattle.std.specs.Prelude.{Result, Ok, Err, ⊤}
use Rattle.runs.specs.Weights.{weight_count, refuses_weights, weights_place}
use Rattle.common.specs.Chain.{refuse_if, check_room}
use Rattle.common.specs.Lowest.{lowest_from}
use Rattle.common.specs.declared.refusal.Refusal.{Refusal}
use Rattle.common.specs.declared.refusal.Refusal.TheVariants.{NoWords, ReachesInvalid}
use Rattle.common.specs.declared.refusal.Refusal.TheVariants.{WeightsRefused, LowAboveHigh}
use Rattle.graph.specs.Longest.{longest, first}
use Rattle.ranges.specs.declared.range.LongestRange.{LongestRange}
use Rattle.runs.specs.Script.{Script, graph_of, weight_of}
use Rattle.runs.specs.Run.{Run, lowest_invalid, marks_after, lengths_after}

-- "Report the longest run for both tables": each report as the answer of a run
abbrev pub RunRange : Type 0
RunRange = Result LongestRange Refusal

abbrev pub low_run : RunRange → Run
low_run (Ok r) = Ok r.low
low_run (Err e) = Err e

abbrev pub high_run : RunRange → Run
high_run (Ok r) = Ok r.high
high_run (Err e) = Err e

-- two runs as one answer, refused as the first of them that is
abbrev pub both_of : Run → Run → RunRange
both_of (Ok l) (Ok h) = Ok (record { low = l; high = h })
both_of (Ok l) (Err e) = Err e
both_of (Err e) r = Err e

-- each L and its first word
abbrev pub accepted_range : ℕ → ℕ → ℕ → ℕ → RunRange
accepted_range l f l' f' =
    Ok (record { low = record { longest = l; first = f }; high = record { longest = l'; first = f' } })

-- "a low above its high": of a low weight and its high one
abbrev pub exceeds : ℕ × ℕ → Bool
exceeds weights = ltb weights.1 weights.0

-- the same of an opcode's
abbrev pub is_above : List ℕ → List ℕ → ℕ → Bool
is_above low high i = exceeds (get_or low i 0, get_or high i 0)

-- "the place is the lowest such opcode"; the count if there is none
unfoldable pub lowest_above : List ℕ → List ℕ → ℕ
lowest_above low high = lowest_from (is_above low high) 0 weight_count

-- what refuses the tables, as the chain below has it: "19 a low above its high; after 18
-- on both tables, low first"
abbrev pub range_answer : List ℕ → List ℕ → Result ⊤ Refusal
range_answer low high =
    refuse_if (refuses_weights low) (Err (WeightsRefused (weights_place low)))
    (refuse_if (refuses_weights high) (Err (WeightsRefused (weights_place high)))
    (refuse_if (ltb (lowest_above low high) weight_count) (Err (LowAboveHigh (lowest_above low high)))
    (Ok tt)))

-- of the words, the two tables, and the lengths of the marks slice and the lengths slice
unfoldable pub runs_of : Script → List ℕ → List ℕ → ℕ → ℕ → RunRange
runs_of ws low high marks lengths =
    -- 1 and 6
    check_room ws.size (ltb marks ws.size || ltb lengths ws.size)
    -- "18 on both tables, low first"
    (refuse_if (refuses_weights low) (Err (WeightsRefused (weights_place low)))
    (refuse_if (refuses_weights high) (Err (WeightsRefused (weights_place high)))
    -- "19 a low above its high; .. the place is the lowest such opcode"
    (refuse_if (ltb (lowest_above low high) weight_count) (Err (LowAboveHigh (lowest_above low high)))
    -- "no words"
    (refuse_if (eqb ws.size 0) (Err NoWords)
    -- "a reachable bad word; place: the lowest"
    (refuse_if (ltb (lowest_invalid ws) ws.size) (Err (ReachesInvalid (lowest_invalid ws)))
    (accepted_range
    (longest (graph_of ws) (weight_of ws low))
    (first (graph_of ws) (weight_of ws low))
    (longest (graph_of ws) (weight_of ws high))
    (first (graph_of ws) (weight_of ws high))))))))

-- a table that 18 turns away, or two that 19 does
abbrev pub refuses_range : List ℕ → List ℕ → Bool
refuses_range low high = refuses_weights low ||
    (refuses_weights high || ltb (lowest_above low high) weight_count)

module _ (ws : Script) (low high marks lengths : List ℕ) where
  -- "the work slices end as the high table's run leaves them"; where the tables are
  -- refused nothing lent is altered
  unfoldable pub marks_after_both : List ℕ
  marks_after_both = cond (refuses_range low high) marks (marks_after ws high marks lengths)

  unfoldable pub lengths_after_both : List ℕ
  lengths_after_both = cond (refuses_range low high) lengths (lengths_after ws high marks lengths)
