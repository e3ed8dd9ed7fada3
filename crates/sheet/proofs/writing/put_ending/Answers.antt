use Rattle.std.proofs.Common.{◌≡◌, sym, ◌∙◌, arith}
use Rattle.sheet.proofs.Columns.{put_turn, put_done, put_ending}
use Rattle.sheet.proofs.writing.put_ending.Goals as goal

pub loop-i-preserved : goal.loop-i-preserved
loop-i-preserved c =
    let l = c.loop-i in
    rw c.glyph.ensures (put_turn l.out c.args.at l.i l.rest (omega arith)) ∙ l.invariant

pub returns : goal.returns
returns c =
    let l = c.loop-i in
    let z : l.i ≡ 0 = omega arith in
    sym (put_done l.out c.args.at l.rest) ∙ (rw z at l.invariant) ∙ put_ending c.args.out.now
    c.args.at c.args.width c.args.tens c.args.last c.requires.0 c.requires.1
