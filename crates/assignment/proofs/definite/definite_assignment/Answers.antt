use Rattle.std.proofs.Common.{sym, length}
use lib.Seq.{length-take-le}
use Rattle.std.proofs.lemmas.Result.{err_from_is_err_and}
use Rattle.common.proofs.Refusing.{sizes_ok}
use Rattle.assignment.proofs.Outcome.{assigned_passed, outcome_kept, outcome_words}
use Rattle.assignment.proofs.definite.definite_assignment.Goals as goal

pub returns-in_err-check_sizes : goal.returns-in_err-check_sizes
returns-in_err-check_sizes c =
    let p = err_from_is_err_and c.from_residual.result c.from_residual.ensures.1 in
    let o = outcome_kept c.args.words.now c.args.parameters c.args.marks.now (sym c.in_err-check_sizes.ensures) in
    rw (p.1, p.2) (record { value = o.0; marks_after = o.1 })

pub slice_bounds-assign-end : goal.slice_bounds-assign-end
slice_bounds-assign-end c = (sizes_ok _ _ (sym c.in_ok-check_sizes.ensures)).1

pub slice_bounds-assign-end-2 : goal.slice_bounds-assign-end-2
slice_bounds-assign-end-2 c = sym (length-take-le _ _ (sizes_ok _ _ (sym c.in_ok-check_sizes.ensures)).1)

pub assign-requires : goal.assign-requires
assign-requires c =
    let p = sizes_ok _ _ (sym c.in_ok-check_sizes.ensures) in
    record { some = p.2; few = p.0; marks = length-take-le _ _ p.1 }

pub returns : goal.returns
returns c =
    let a = c.assign.ensures in
    let o = outcome_words c.args.words.now c.args.parameters c.args.marks.now
    (assigned_passed c.args.words.now c.args.parameters (length c.args.marks.now) (sym c.in_ok-check_sizes.ensures)) a.value a.marks_after in
    record { value = o.0; marks_after = o.1 }
