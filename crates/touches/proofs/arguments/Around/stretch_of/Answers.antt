-- The last arm, by the law of the numbers.
use Rattle.std.proofs.Common.{arith}
use Rattle.touches.proofs.Rows.{operand_past}
use Rattle.touches.proofs.arguments.Around.stretch_of.Goals as goal
use Rattle.touches.proofs.arguments.Around.stretch_of.Goals.{in_default-via-in-18+else-b-eq0+in_default, in_default-via-in_default}

pub returns-in_default : goal.returns-in_default
returns-in_default c =
    elim c.in_default.branch [
      | in_default-via-in-18+else-b-eq0+in_default w ↦ rw (operand_past c.args.operand (grind arith))
      | in_default-via-in_default w ↦ rw (operand_past c.args.operand (grind arith))
    ]
