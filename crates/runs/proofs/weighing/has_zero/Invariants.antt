use Rattle.runs.proofs.Weights.{Zeros}
use Rattle.runs.proofs.weighing.has_zero.Given as goal

abbrev pub invariant-loop-weight : goal.invariant-loop-weight
invariant-loop-weight l = Zeros l.weights l.weight-index l.zero
