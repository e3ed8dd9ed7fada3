-- The digits passed and those to come show the number together, and the sum stays small.
use Rattle.std.proofs.Common.{◌≡◌, ◌+◌, ◌*◌, ◌^◌, ◌≤◌, take, drop}
use lib.Seq.{slice}
use Rattle.sheet.specs.Line.{value_from, line_value}
use Rattle.sheet.proofs.lines.value.Given as goal

abbrev pub invariant-loop-column : goal.invariant-loop-column
invariant-loop-column l =
    (l.v + 2 ≤ 2 * 10 ^ l.column-index) × (value_from l.v (slice l.column-index 10 (drop l.at l.text)) ≡ line_value (take 11 (drop l.at l.text)))
