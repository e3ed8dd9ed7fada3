use Rattle.std.proofs.Common.{arith, refl}
use Rattle.lundump.specs.Lundump.{words_from}
use Rattle.chunk.proofs.Refill.{one_word}
use Rattle.chunk.proofs.filling.store_words.Goals as goal

pub loop-i-init : goal.loop-i-init
unfolding words_from
loop-i-init c = refl

pub loop-i-preserved : goal.loop-i-preserved
loop-i-preserved c = one_word _ _ _ _ _ _ (omega arith) c.word_of_bytes.ensures c.loop-i.invariant
