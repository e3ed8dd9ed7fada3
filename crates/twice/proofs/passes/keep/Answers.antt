use Rattle.std.proofs.Common.{arith}
use Rattle.twice.proofs.Keeping.{keeps_next, keeps_skip}
use Rattle.twice.proofs.passes.keep.Goals as goal

pub returns-then-lengths-p-eq-KIND_NEXT : goal.returns-then-lengths-p-eq-KIND_NEXT
returns-then-lengths-p-eq-KIND_NEXT c =
    keeps_next _ _ _ _ _ _ c.requires.0 c.requires.1 c.if-marks-p-eq0.false (omega (arith, c.if-lengths-p-eq-KIND_NEXT.true))

pub returns-then-lengths-p : goal.returns-then-lengths-p
returns-then-lengths-p c =
    keeps_skip _ _ _ _ _ _ c.requires.0 c.requires.1 c.if-marks-p-eq0.false (omega (arith, c.if-lengths-p.true)) c.max.ensures
