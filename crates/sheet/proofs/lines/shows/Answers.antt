use Rattle.std.proofs.Common.{◌≡◌, sym, ◌∙◌, arith}
use Rattle.sheet.proofs.Compare.{no_newline, no_digit, by_leading, turn_ok, turn_fail, matches_none}
use Rattle.sheet.proofs.lines.shows.Goals as goal

pub returns-then-text-at-ne10 : goal.returns-then-text-at-ne10
returns-then-text-at-ne10 c = no_newline c.args.text.now c.args.at c.args.v c.requires c.if-text-at-ne10.true

pub returns-then-text-at : goal.returns-then-text-at
returns-then-text-at c =
    no_digit c.args.text.now c.args.at c.args.v c.requires c.if-text-at-ne10.false
    (λ e. c.if-text-at.true (e ∙ sym c.digit.ensures))

pub returns-then-text-at-2 : goal.returns-then-text-at-2
returns-then-text-at-2 c =
    let l = c.loop-i in
    sym (turn_fail c.args.text.now c.args.at l.i l.rest (omega arith) (λ q. c.if-text-at-2.true (q ∙ sym c.glyph.ensures)))
    ∙ l.invariant
    ∙ by_leading c.args.text.now c.args.at c.args.v c.requires c.if-text-at-ne10.false (c.if-text-at.false ∙ c.digit.ensures)

pub loop-i-preserved : goal.loop-i-preserved
loop-i-preserved c =
    let l = c.loop-i in
    turn_ok c.args.text.now c.args.at l.i l.rest (omega arith) (c.if-text-at-2.false ∙ c.glyph.ensures) ∙ l.invariant

pub returns : goal.returns
returns c =
    let l = c.loop-i in
    let z : l.i ≡ 0 = omega arith in
    sym (rw z (matches_none c.args.text.now c.args.at l.rest))
    ∙ l.invariant
    ∙ by_leading c.args.text.now c.args.at c.args.v c.requires c.if-text-at-ne10.false (c.if-text-at.false ∙ c.digit.ensures)
