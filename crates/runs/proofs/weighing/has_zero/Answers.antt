use Rattle.std.proofs.Common.{arith}
use Rattle.runs.proofs.Weights.{zeros_done}
use Rattle.runs.proofs.weighing.has_zero.Goals as goal

pub returns : goal.returns
returns c = zeros_done _ c.loop-weight.invariant (omega arith)
