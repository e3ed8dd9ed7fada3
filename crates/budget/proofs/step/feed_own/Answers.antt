use Rattle.std.proofs.Common.{arith, sym, ap, ◌∙◌}
use Rattle.std.proofs.lemmas.Result.{err_from_is_err_and}
use Rattle.budget.specs.Four.{sum_of}
use Rattle.budget.proofs.Own.{own_above, own_range, own_refused, own_over, own_taken}
use Rattle.budget.proofs.step.feed_own.Goals as goal

pub returns-then-script-gt-LAST_SCRIPT : goal.returns-then-script-gt-LAST_SCRIPT
returns-then-script-gt-LAST_SCRIPT c = own_above _ _ _ _ _ c.if-script-gt-LAST_SCRIPT.true

pub returns-then-is_out_of_range : goal.returns-then-is_out_of_range
returns-then-is_out_of_range c =
    own_range _ _ _ _ _ c.if-script-gt-LAST_SCRIPT.false (sym c.is_out_of_range.ensures ∙ c.if-is_out_of_range.true)

pub returns-in_err-next : goal.returns-in_err-next
returns-in_err-next c =
    let p = err_from_is_err_and c.from_residual.result c.from_residual.ensures.1 in
    rw (p.1, p.2)
    (own_refused _ _ _ _ _ c.if-script-gt-LAST_SCRIPT.false (sym c.is_out_of_range.ensures ∙ c.if-is_out_of_range.false)
    c.meter_of-m.ensures _ c.in_err-next.ensures)

pub returns-then-budget-sum : goal.returns-then-budget-sum
returns-then-budget-sum c =
    let same = c.sum.ensures ∙ ap sum_of c.with_meter.ensures in
    own_over _ _ _ _ _ c.if-script-gt-LAST_SCRIPT.false (sym c.is_out_of_range.ensures ∙ c.if-is_out_of_range.false)
    c.meter_of-m.ensures c.in_ok-next.ensures (omega (arith, same, c.if-budget-sum.true))

pub returns : goal.returns
returns c =
    let same = c.sum.ensures ∙ ap sum_of c.with_meter.ensures in
    own_taken _ _ _ _ _ c.if-script-gt-LAST_SCRIPT.false (sym c.is_out_of_range.ensures ∙ c.if-is_out_of_range.false)
    c.meter_of-m.ensures c.in_ok-next.ensures (omega (arith, same, c.if-budget-sum.false))
