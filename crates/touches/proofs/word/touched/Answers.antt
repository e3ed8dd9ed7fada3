use Rattle.std.proofs.Common.{◌<◌, ◌∙◌, sym, length, arith}
use Rattle.touches.specs.Table.{touches_lent}
use Rattle.touches.proofs.Rows.{valid_inside}
use Rattle.touches.proofs.word.touched.Goals as goal

pub returns-then-is_bad : goal.returns-then-is_bad
unfolding touches_lent
returns-then-is_bad g c =
    rw (← c.is_bad.ensures, c.if-is_bad.true) c.nothing.ensures

pub offset_bounds-words-p : goal.offset_bounds-words-p
offset_bounds-words-p g c =
    let inside : c.args.p < length c.args.words.now =
    valid_inside g.D.Dialect.version c.args.words.now c.args.p (sym c.is_bad.ensures ∙ c.if-is_bad.false) in
    omega arith

pub bounds-words-p : goal.bounds-words-p
bounds-words-p g c = valid_inside g.D.Dialect.version c.args.words.now c.args.p (sym c.is_bad.ensures ∙ c.if-is_bad.false)

pub overflow_add-p : goal.overflow_add-p
overflow_add-p g c =
    let inside : c.args.p < length c.args.words.now =
    valid_inside g.D.Dialect.version c.args.words.now c.args.p (sym c.is_bad.ensures ∙ c.if-is_bad.false) in
    omega arith

pub touches-requires : goal.touches-requires
touches-requires g c =
    let inside : c.args.p < length c.args.words.now =
    valid_inside g.D.Dialect.version c.args.words.now c.args.p (sym c.is_bad.ensures ∙ c.if-is_bad.false) in
    omega arith

pub returns : goal.returns
unfolding touches_lent
returns g c =
    rw (← c.is_bad.ensures, c.if-is_bad.false) cc
