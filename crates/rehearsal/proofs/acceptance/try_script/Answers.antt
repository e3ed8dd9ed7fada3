use Rattle.std.proofs.lemmas.Result.{err_from_is_err_and}
use Rattle.rehearsal.specs.Rehearse.{try_script}
use Rattle.rehearsal.proofs.acceptance.try_script.Goals as goal

pub returns-in_err-longest_run : goal.returns-in_err-longest_run
unfolding try_script
returns-in_err-longest_run c =
    let e = c.in_err-longest_run.ensures in
    let p = err_from_is_err_and c.from_residual.result c.from_residual.ensures.1 in
    rw (p.1, p.2, ← e.value, e.marks_after, e.lengths_after)

pub returns : goal.returns
unfolding try_script
returns c = let e = c.in_ok-longest_run.ensures in rw (← e.value, e.marks_after, e.lengths_after)
