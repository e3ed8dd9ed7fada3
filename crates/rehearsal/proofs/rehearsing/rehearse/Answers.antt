use Rattle.std.proofs.Common.{sym, ap, ◌∙◌, Ok}
use Rattle.std.proofs.lemmas.Result.{err_from_is_err_and}
use Rattle.rehearsal.proofs.Ranges.{in-range, out, whole}
use Rattle.rehearsal.proofs.rehearsing.rehearse.Goals as goal

pub returns-then-out_of_range : goal.returns-then-out_of_range
returns-then-out_of_range c =
    let w = out c.args.w0.now c.args.w1.now c.args.w2.now c.args.w3.now c.args.count c.args.quantum c.args.choices.now c.args.limit
    c.args.marks.now c.args.lengths.now (sym c.out_of_range.ensures ∙ c.if-out_of_range.true) in
    record { value = w.value; marks_after = w.marks_after; lengths_after = w.lengths_after }

pub returns-in_err-accept : goal.returns-in_err-accept
returns-in_err-accept c =
    let w = whole c.args.w0.now c.args.w1.now c.args.w2.now c.args.w3.now c.args.count c.args.quantum c.args.choices.now c.args.limit
    c.args.marks.now c.args.lengths.now (sym c.out_of_range.ensures ∙ c.if-out_of_range.false) _ _ _ c.in_err-accept.ensures in
    let p = err_from_is_err_and c.from_residual.result c.from_residual.ensures.1 in
    record { value = rw (p.1, p.2) w.value; marks_after = w.marks_after; lengths_after = w.lengths_after }

pub returns : goal.returns
returns c =
    let w = whole c.args.w0.now c.args.w1.now c.args.w2.now c.args.w3.now c.args.count c.args.quantum c.args.choices.now c.args.limit
    c.args.marks.now c.args.lengths.now (sym c.out_of_range.ensures ∙ c.if-out_of_range.false) _ _ _ c.in_ok-accept.ensures in
    record { value = ap Ok c.play.ensures ∙ w.value; marks_after = w.marks_after; lengths_after = w.lengths_after }

pub accept-requires : goal.accept-requires
accept-requires c = (in-range c.args.count c.args.quantum c.args.choices.now (sym c.out_of_range.ensures ∙ c.if-out_of_range.false)).1

pub play-requires : goal.play-requires
play-requires c = in-range c.args.count c.args.quantum c.args.choices.now (sym c.out_of_range.ensures ∙ c.if-out_of_range.false)
