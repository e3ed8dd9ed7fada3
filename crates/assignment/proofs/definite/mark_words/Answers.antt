use Rattle.std.proofs.Common.{length, arith}
use Rattle.common.proofs.Over.{over_laws}
use Rattle.assignment.specs.Rest.{marked}
use Rattle.assignment.proofs.definite.mark_words.Goals as goal

pub returns : goal.returns
returns c =
    over_laws.whole (marked c.args.unset.now) (length c.args.marks.now) c.loop-p.marks c.loop-p.auto.marks
    (λ p h. c.loop-p.invariant p (omega arith))
