use Rattle.std.proofs.Common.{arith, take}
use lib.Seq.{length-take-le}
use Rattle.sheet.specs.Format.{sheet_word_at}
use Rattle.sheet.proofs.Scanned.{words_none, words_more, words_done}
use Rattle.sheet.proofs.reading.fill.Goals as goal

pub loop-k-init : goal.loop-k-init
loop-k-init c = words_none c.args.text.now (take c.args.n c.args.words.now)

pub overflow_cast-word : goal.overflow_cast-word
unfolding sheet_word_at
overflow_cast-word c =
    let long = length-take-le c.args.n c.args.words.now c.requires.0 in
    omega (arith, c.requires.2 c.loop-k.k (omega (arith, long)), c.value.ensures)

pub loop-k-preserved : goal.loop-k-preserved
unfolding sheet_word_at
loop-k-preserved c =
    rw (c.loop-k.invariant, c.value.ensures)
    (words_more c.args.text.now c.loop-k.k (take c.args.n c.args.words.now) (omega arith))

pub returns : goal.returns
returns c =
    words_done _ _ _ _ _ c.requires.0 c.loop-k.auto.k-end c.loop-k-test.false c.loop-k.invariant
