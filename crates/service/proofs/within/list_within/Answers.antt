use Rattle.std.proofs.Common.{sym, arith}
use lib.Seq.{length-take-le}
use Rattle.std.proofs.lemmas.Result.{err_from_is_err_and}
use Rattle.runs.specs.Script.{script_of}
use Rattle.service.proofs.Sizes.{sizes_within}
use Rattle.service.proofs.Outcome.{within_early, within_late}
use Rattle.service.proofs.within.list_within.Goals as goal

pub returns-in_err-check_sizes : goal.returns-in_err-check_sizes
returns-in_err-check_sizes c =
    let p = err_from_is_err_and c.from_residual.result c.from_residual.ensures.1 in
    let o =
    within_early (script_of c.args.version c.args.words.now) c.args.d c.args.marks.now c.args.lengths.now
    c.args.list.now c.min.ensures c.min-2.ensures c.in_err-check_sizes.ensures
    in
    rw (p.1, p.2) (record { value = o.0; marks_after = o.1.0; lengths_after = o.1.1.0; list_after = o.1.1.1 })

pub slice_bounds-list_of_words-end : goal.slice_bounds-list_of_words-end
slice_bounds-list_of_words-end c =
    let f = sizes_within (script_of c.args.version c.args.words.now) _ _ c.min.ensures c.min-2.ensures c.in_ok-check_sizes.ensures in
    omega (arith, f.0.marks_long)

pub slice_bounds-list_of_words-end-2 : goal.slice_bounds-list_of_words-end-2
slice_bounds-list_of_words-end-2 c =
    let f = sizes_within (script_of c.args.version c.args.words.now) _ _ c.min.ensures c.min-2.ensures c.in_ok-check_sizes.ensures in
    sym (length-take-le _ _ f.0.marks_long)

pub slice_bounds-list_of_words-end-3 : goal.slice_bounds-list_of_words-end-3
slice_bounds-list_of_words-end-3 c =
    let f = sizes_within (script_of c.args.version c.args.words.now) _ _ c.min.ensures c.min-2.ensures c.in_ok-check_sizes.ensures in
    omega (arith, f.0.lengths_long)

pub slice_bounds-list_of_words-end-4 : goal.slice_bounds-list_of_words-end-4
slice_bounds-list_of_words-end-4 c =
    let f = sizes_within (script_of c.args.version c.args.words.now) _ _ c.min.ensures c.min-2.ensures c.in_ok-check_sizes.ensures in
    sym (length-take-le _ _ f.0.lengths_long)

pub list_of_words-requires : goal.list_of_words-requires
list_of_words-requires c =
    let f = sizes_within (script_of c.args.version c.args.words.now) _ _ c.min.ensures c.min-2.ensures c.in_ok-check_sizes.ensures in (
      record {
        some = f.0.some;
        few = f.0.few;
        m_same = length-take-le _ _ f.0.marks_long;
        l_same = length-take-le _ _ f.0.lengths_long;
      },
      f.1,
    )

pub returns : goal.returns
returns c =
    let f = sizes_within (script_of c.args.version c.args.words.now) _ _ c.min.ensures c.min-2.ensures c.in_ok-check_sizes.ensures in
    let e = c.list_of_words.ensures in
    let o = within_late (script_of c.args.version c.args.words.now) _ _ f.0 e.decided _ _ f.1 e.value e.list_after in
    record { value = o.0; marks_after = o.1.0; lengths_after = o.1.1.0; list_after = o.1.1.1 }
