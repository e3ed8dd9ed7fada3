use Rattle.std.proofs.Common.{arith, refl}
use Rattle.service.proofs.Near.{entering, target-in}
use Rattle.service.proofs.PairedWords.{both_valid, pair_target, pair_next, pair_both, paired_by, beyond_few}
use Rattle.service.proofs.pairs.pair_word.Goals as goal

pub returns-then-kind-eq-KIND_NEXT : goal.returns-then-kind-eq-KIND_NEXT
returns-then-kind-eq-KIND_NEXT c =
    paired_by _ _ _ _ c.if-marks-p-eq0.false ((entering.kinds _ _).next c.if-kind-eq-KIND_NEXT.true)
    (pair_next _ _ c.requires.next) refl

pub returns-then-entry-eq-RETURNS : goal.returns-then-entry-eq-RETURNS
returns-then-entry-eq-RETURNS c =
    paired_by _ _ _ _ c.if-marks-p-eq0.false
    ((entering.kinds _ _).returns c.if-kind-eq-KIND_NONE.true c.if-entry-eq-RETURNS.true) (λ es. refl) refl

pub returns-then-kind-eq-KIND_NONE : goal.returns-then-kind-eq-KIND_NONE
returns-then-kind-eq-KIND_NONE c =
    paired_by _ _ _ _ c.if-marks-p-eq0.false
    ((entering.kinds _ _).invalid c.if-kind-eq-KIND_NONE.true c.if-entry-eq-RETURNS.false) (λ es. refl) refl

pub bounds-lengths-to : goal.bounds-lengths-to
bounds-lengths-to c =
    target-in _ _ c.requires.steps c.if-kind-eq-KIND_NONE.false c.if-kind-eq-KIND_NEXT.false

pub overflow_add-result-then-kind-eq-KIND_TARGET :
    goal.overflow_add-result-then-kind-eq-KIND_TARGET
overflow_add-result-then-kind-eq-KIND_TARGET c =
    let k = beyond_few _ _ _ c.args.above.invalid c.requires _ c.beyond-x.ensures in omega (arith, k.0, k.1)

pub returns-then-kind-eq-KIND_TARGET : goal.returns-then-kind-eq-KIND_TARGET
returns-then-kind-eq-KIND_TARGET c =
    paired_by _ _ _ _ c.if-marks-p-eq0.false ((entering.kinds _ _).target c.if-kind-eq-KIND_TARGET.true)
    (pair_target _ _ _ c.beyond-x.ensures) refl

pub returns : goal.returns
returns c =
    let j = c.join.ensures in
    paired_by _ _ _ _ c.if-marks-p-eq0.false
    ((entering.kinds _ _).both c.if-kind-eq-KIND_NONE.false c.if-kind-eq-KIND_NEXT.false c.if-kind-eq-KIND_TARGET.false)
    (pair_both _ _ c.requires.next _ _ _ c.beyond-x.ensures j.0 j.1)
    (both_valid _ _ _ _)
