use Rattle.std.proofs.Common.{sym, arith, ◌∙◌, length, ap}
use native.Mathlib.Nat.{pos_of_ne-zero}
use lib.Seq.{length-take-le}
use Rattle.std.proofs.lemmas.Result.{err_from_is_err_and}
use Rattle.common.specs.Chain.{room_answer}
use Rattle.runs.proofs.Room.{room}
use Rattle.runs.specs.Script.{script_of}
use Rattle.runs.proofs.Weights.{weight_laws}
use Rattle.runs.proofs.Outcome.{outcome_sizes, outcome_weights, outcome_none, outcome_words, weighed_ok}
use Rattle.runs.proofs.longest.longest_run.Goals as goal

pub returns-in_err-check_room : goal.returns-in_err-check_room
returns-in_err-check_room c =
    let p = err_from_is_err_and c.from_residual.result c.from_residual.ensures.1 in
    let o = outcome_sizes (script_of c.args.version c.args.words.now) c.args.weights.now c.args.marks.now c.args.lengths.now (ap (room_answer (length c.args.words.now)) (sym c.min.ensures) ∙ sym c.in_err-check_room.ensures) in
    rw (p.1, p.2) (record { value = o.0; marks_after = o.1.0; lengths_after = o.1.1 })

pub returns-in_err-check_weights : goal.returns-in_err-check_weights
returns-in_err-check_weights c =
    let p = err_from_is_err_and c.from_residual-in_err-check_weights.result c.from_residual-in_err-check_weights.ensures.1 in
    let r = room c.min.ensures c.in_ok-check_room.ensures in
    let o = outcome_weights (script_of c.args.version c.args.words.now) c.args.weights.now c.args.marks.now c.args.lengths.now r.few r.marks r.lengths (sym c.in_err-check_weights.ensures) in
    rw (p.1, p.2) (record { value = o.0; marks_after = o.1.0; lengths_after = o.1.1 })

pub returns-then-n-eq0 : goal.returns-then-n-eq0
returns-then-n-eq0 c =
    let r = room c.min.ensures c.in_ok-check_room.ensures in
    let o = outcome_none (script_of c.args.version c.args.words.now) c.args.weights.now c.args.marks.now c.args.lengths.now r.few r.marks r.lengths (weighed_ok _ (sym c.in_ok-check_weights.ensures)) c.if-n-eq0.true in
    record { value = o.0; marks_after = o.1.0; lengths_after = o.1.1 }

pub slice_bounds-run_of_words-end : goal.slice_bounds-run_of_words-end
slice_bounds-run_of_words-end c = let r = room c.min.ensures c.in_ok-check_room.ensures in omega (arith, r.marks)

pub slice_bounds-run_of_words-end-2 : goal.slice_bounds-run_of_words-end-2
slice_bounds-run_of_words-end-2 c = let r = room c.min.ensures c.in_ok-check_room.ensures in sym (length-take-le _ _ r.marks)

pub slice_bounds-run_of_words-end-3 : goal.slice_bounds-run_of_words-end-3
slice_bounds-run_of_words-end-3 c = let r = room c.min.ensures c.in_ok-check_room.ensures in omega (arith, r.lengths)

pub slice_bounds-run_of_words-end-4 : goal.slice_bounds-run_of_words-end-4
slice_bounds-run_of_words-end-4 c = let r = room c.min.ensures c.in_ok-check_room.ensures in sym (length-take-le _ _ r.lengths)

pub run_of_words-requires : goal.run_of_words-requires
run_of_words-requires c =
    let r = room c.min.ensures c.in_ok-check_room.ensures in (
      record { some = pos_of_ne-zero c.if-n-eq0.false; few = r.few; m_same = length-take-le _ _ r.marks; l_same = length-take-le _ _ r.lengths },
      (weight_laws c.args.weights.now (weighed_ok _ (sym c.in_ok-check_weights.ensures))).count,
    )

pub returns : goal.returns
returns c =
    let r = room c.min.ensures c.in_ok-check_room.ensures in
    let o = outcome_words (script_of c.args.version c.args.words.now) c.args.weights.now c.args.marks.now c.args.lengths.now r.few r.marks r.lengths (weighed_ok _ (sym c.in_ok-check_weights.ensures)) (pos_of_ne-zero c.if-n-eq0.false) c.run_of_words.ensures in
    record { value = o.0; marks_after = o.1.0; lengths_after = o.1.1 }
