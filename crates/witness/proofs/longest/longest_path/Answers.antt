use Rattle.std.proofs.Common.{refl, arith}
use Rattle.std.proofs.lemmas.Result.{err_from_is_err_and}
use Rattle.runs.proofs.Laws.{laws}
use Rattle.witness.proofs.Within.{within_accepted, whole_refused, walk_inside, whole_walked}
use Rattle.witness.proofs.longest.longest_path.Goals as goal

pub walk-count-requires : goal.walk-count-requires
walk-count-requires c =
    let e = c.run_within.ensures.value in
    let sound = laws.sound c.args.version c.args.words.now in
    let a = within_accepted _ _ _ _ _ e c.in_ok-run.was in
    let n = walk_inside _ _ _ _ _ e sound c.in_ok-run.was in
    record {
      sound = sound;
      serving = refl;
      size = refl;
      few = a.0;
      lengths_long = omega (arith, n.0);
      path_long = a.1;
      inside = n.1;
    }

pub returns-in_err-run : goal.returns-in_err-run
returns-in_err-run c =
    let p = err_from_is_err_and c.from_residual.result c.from_residual.ensures.1 in
    let r = c.run_within.ensures in
    let w = whole_refused _ _ _ _ _ r.value c.in_err-run.was r.marks_after r.lengths_after in
    rw (p.1, p.2) (record { value = w.0; marks_after = w.1.0; lengths_after = w.1.1.0; path_after = w.1.1.1 })

pub returns : goal.returns
returns c =
    let r = c.run_within.ensures in
    let sound = laws.sound c.args.version c.args.words.now in
    let w =
    whole_walked _ _ _ _ _ r.value sound c.in_ok-run.was r.marks_after r.lengths_after
    c.walk-count.ensures
    in
    record { value = w.0; marks_after = w.1.0; lengths_after = w.1.1.0; path_after = w.1.1.1 }
