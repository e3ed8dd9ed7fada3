use Rattle.std.proofs.Common.{sym, arith}
use lib.Seq.{length-take-le}
use Rattle.std.proofs.lemmas.Result.{err_from_is_err_and}
use Rattle.runs.specs.Script.{script_of}
use Rattle.service.proofs.Sizes.{sizes_fit}
use Rattle.service.proofs.Outcome.{crossed_early, crossed_late}
use Rattle.service.proofs.crossing.crossing_edges.Goals as goal

pub returns-in_err-check_sizes : goal.returns-in_err-check_sizes
returns-in_err-check_sizes c =
    let p = err_from_is_err_and c.from_residual.result c.from_residual.ensures.1 in
    let o = crossed_early (script_of c.args.version c.args.words.now) _ _ c.min.ensures c.in_err-check_sizes.ensures c.args.w in
    rw (p.1, p.2) (record { value = o.0; marks_after = o.1.0; lengths_after = o.1.1 })

pub slice_bounds-crossed_of_words-end : goal.slice_bounds-crossed_of_words-end
slice_bounds-crossed_of_words-end c =
    let f = sizes_fit (script_of c.args.version c.args.words.now) _ _ c.min.ensures c.in_ok-check_sizes.ensures in
    omega (arith, f.marks_long)

pub slice_bounds-crossed_of_words-end-2 : goal.slice_bounds-crossed_of_words-end-2
slice_bounds-crossed_of_words-end-2 c =
    let f = sizes_fit (script_of c.args.version c.args.words.now) _ _ c.min.ensures c.in_ok-check_sizes.ensures in
    sym (length-take-le _ _ f.marks_long)

pub slice_bounds-crossed_of_words-end-3 : goal.slice_bounds-crossed_of_words-end-3
slice_bounds-crossed_of_words-end-3 c =
    let f = sizes_fit (script_of c.args.version c.args.words.now) _ _ c.min.ensures c.in_ok-check_sizes.ensures in
    omega (arith, f.lengths_long)

pub slice_bounds-crossed_of_words-end-4 : goal.slice_bounds-crossed_of_words-end-4
slice_bounds-crossed_of_words-end-4 c =
    let f = sizes_fit (script_of c.args.version c.args.words.now) _ _ c.min.ensures c.in_ok-check_sizes.ensures in
    sym (length-take-le _ _ f.lengths_long)

pub crossed_of_words-requires : goal.crossed_of_words-requires
crossed_of_words-requires c =
    let f = sizes_fit (script_of c.args.version c.args.words.now) _ _ c.min.ensures c.in_ok-check_sizes.ensures in
    record { some = f.some; few = f.few; m_same = length-take-le _ _ f.marks_long; l_same = length-take-le _ _ f.lengths_long }

pub returns : goal.returns
returns c =
    let f = sizes_fit (script_of c.args.version c.args.words.now) _ _ c.min.ensures c.in_ok-check_sizes.ensures in
    let o = crossed_late (script_of c.args.version c.args.words.now) _ _ f c.crossed_of_words.ensures.decided _ c.crossed_of_words.ensures.value in
    record { value = o.0; marks_after = o.1.0; lengths_after = o.1.1 }
