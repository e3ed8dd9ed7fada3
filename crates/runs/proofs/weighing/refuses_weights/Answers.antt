use borrow.Author.Tests.{ne_eqb}
use Rattle.runs.proofs.Weights.{refuses_count, refuses_zero}
use Rattle.runs.proofs.weighing.refuses_weights.Goals as goal

pub returns-then-weights-ne-WEIGHTS : goal.returns-then-weights-ne-WEIGHTS
returns-then-weights-ne-WEIGHTS c = rw (ne_eqb _ _ c.if-weights-ne-WEIGHTS.true) (refuses_count _ c.if-weights-ne-WEIGHTS.true)

pub returns-else-weights-ne-WEIGHTS : goal.returns-else-weights-ne-WEIGHTS
returns-else-weights-ne-WEIGHTS c = refuses_zero _ c.if-weights-ne-WEIGHTS.false c.has_zero.ensures
