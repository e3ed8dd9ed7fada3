use Rattle.std.proofs.Common.{sym, ◌∙◌}
use Rattle.std.proofs.lemmas.Result.{err_from_is_err_and}
use Rattle.ranges.proofs.BothTables.{range_none, range_low, range_high, range_some, range_above_none}
use Rattle.ranges.proofs.range.check_range.Goals as goal

pub returns-then-not-refuses_range : goal.returns-then-not-refuses_range
returns-then-not-refuses_range c = range_none _ _ (sym c.refuses_range.ensures ∙ c.if-not-refuses_range.true)

pub returns-in_err-check_weights : goal.returns-in_err-check_weights
returns-in_err-check_weights c =
    let p = err_from_is_err_and c.from_residual.result c.from_residual.ensures.1 in
    rw (p.1, p.2) (range_low _ _ (sym c.in_err-check_weights.ensures))

pub returns-in_err-check_weights-2 : goal.returns-in_err-check_weights-2
returns-in_err-check_weights-2 c =
    let p = err_from_is_err_and c.from_residual-in_err-check_weights-2.result c.from_residual-in_err-check_weights-2.ensures.1 in
    rw (p.1, p.2) (range_high _ _ (sym c.in_ok-check_weights.ensures) (sym c.in_err-check_weights-2.ensures))

pub returns-in-Some : goal.returns-in-Some
returns-in-Some c = range_some _ _ (sym c.in_ok-check_weights.ensures) (sym c.in_ok-check_weights-2.ensures) (sym c.in-Some.ensures)

pub returns-in-None : goal.returns-in-None
returns-in-None c = range_above_none _ _ (sym c.in_ok-check_weights.ensures) (sym c.in_ok-check_weights-2.ensures) (sym c.in-None.ensures)
