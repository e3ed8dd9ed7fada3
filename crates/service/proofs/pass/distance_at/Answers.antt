use Rattle.std.proofs.Common.{sym}
use Rattle.service.proofs.Near.{near_none, near_next, near_both, near_serves, near_target, target-in}
use Rattle.service.proofs.pass.distance_at.Goals as goal

pub returns-then-kind-eq-KIND_NEXT : goal.returns-then-kind-eq-KIND_NEXT
returns-then-kind-eq-KIND_NEXT c = near_next _ _ c.requires.next c.if-kind-eq-KIND_NEXT.true

pub returns-then-kind-eq-KIND_NONE : goal.returns-then-kind-eq-KIND_NONE
returns-then-kind-eq-KIND_NONE c = near_none _ _ c.if-kind-eq-KIND_NONE.true

pub bounds-lengths-to : goal.bounds-lengths-to
bounds-lengths-to c =
    target-in _ _ c.requires.steps c.if-kind-eq-KIND_NONE.false c.if-kind-eq-KIND_NEXT.false

pub returns-then-serves : goal.returns-then-serves
returns-then-serves c =
    near_serves _ _ c.if-kind-eq-KIND_NONE.false c.if-kind-eq-KIND_NEXT.false (sym c.if-serves.ensures)

pub returns-then-kind-eq-KIND_TARGET : goal.returns-then-kind-eq-KIND_TARGET
returns-then-kind-eq-KIND_TARGET c = near_target _ _ c.if-kind-eq-KIND_TARGET.true (sym c.if-serves.ensures)

pub returns : goal.returns
returns c =
    near_both _ _ c.requires.next c.if-kind-eq-KIND_NONE.false c.if-kind-eq-KIND_NEXT.false
    c.if-kind-eq-KIND_TARGET.false (sym c.if-serves.ensures) _ c.min.ensures
