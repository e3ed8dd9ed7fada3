use Rattle.std.proofs.lemmas.Result.{err_from_is_err_and}
use Rattle.runs.specs.Script.{script_of}
use Rattle.witness.proofs.Within.{within_refused, within_run}
use Rattle.witness.proofs.longest.run_within.Goals as goal

pub returns-in_err-check_room : goal.returns-in_err-check_room
returns-in_err-check_room c =
    let p = err_from_is_err_and c.from_residual.result c.from_residual.ensures.1 in
    let o =
    within_refused (script_of c.args.version c.args.words.now) c.args.weights.now c.args.marks.now
    c.args.lengths.now c.args.room c.in_err-check_room.ensures
    in
    rw (p.1, p.2) (record { value = o.0; marks_after = o.1.0; lengths_after = o.1.1 })

pub returns : goal.returns
returns c =
    let r = c.longest_run.ensures in
    let o =
    within_run (script_of c.args.version c.args.words.now) _ _ _ _ c.in_ok-check_room.ensures r.value r.marks_after
    r.lengths_after
    in
    record { value = o.0; marks_after = o.1.0; lengths_after = o.1.1 }
