use Rattle.ranges.proofs.BothTables.{refusing_low, refusing_high}
use Rattle.ranges.proofs.range.refuses_range.Goals as goal
use Rattle.ranges.proofs.range.refuses_range.Goals.{
  then-low-ne-WEIGHTS-via-then-low-ne-WEIGHTS,
  then-low-ne-WEIGHTS-via-else-low-ne-WEIGHTS+then-high-ne-WEIGHTS,
}

pub returns-then-low-ne-WEIGHTS : goal.returns-then-low-ne-WEIGHTS
returns-then-low-ne-WEIGHTS c =
    elim c.then-low-ne-WEIGHTS.branch [
      | then-low-ne-WEIGHTS-via-then-low-ne-WEIGHTS w ↦ refusing_low _ _ w.if-low-ne-WEIGHTS.true
      | then-low-ne-WEIGHTS-via-else-low-ne-WEIGHTS+then-high-ne-WEIGHTS w ↦ refusing_high _ _ w.if-high-ne-WEIGHTS.true
    ]
