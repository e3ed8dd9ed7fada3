use Rattle.std.proofs.lemmas.Result.{err_from_is_err_and}
use Rattle.budget.proofs.Own.{four_refused, four_taken}
use Rattle.budget.proofs.step.feed_four.Goals as goal

pub returns-in_err-next : goal.returns-in_err-next
returns-in_err-next c =
    let p = err_from_is_err_and c.from_residual.result c.from_residual.ensures.1 in
    rw (p.1, p.2) (four_refused _ _ _ _ _ _ c.in_err-next.ensures)

pub returns : goal.returns
returns c = rw c.with_meter.ensures (four_taken _ _ _ _ _ c.in_ok-next.ensures)
