use Rattle.std.proofs.Common.{arith}
use Rattle.service.proofs.PairedWords.{passed_none, passed_turn, passed_asks, passed_more, passed_done}
use Rattle.service.proofs.pairs.pair_words.Goals as goal

pub loop-i-init : goal.loop-i-init
loop-i-init c = passed_none _ _ c.requires

pub pair_word-found-requires : goal.pair_word-found-requires
pair_word-found-requires c = passed_asks _ _ _ _ _ _ (passed_turn c.loop-i.invariant (omega arith))

pub loop-i-preserved : goal.loop-i-preserved
loop-i-preserved c =
    passed_more _ _ _ _ _ _ (passed_turn c.loop-i.invariant (omega arith)) c.pair_word-found.ensures

pub returns : goal.returns
returns c = passed_done c.loop-i.invariant c.loop-i-test.false
