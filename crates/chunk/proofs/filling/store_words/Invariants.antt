use Rattle.std.proofs.Common.{◌≡◌, ◌++◌, drop}
use Rattle.lundump.specs.Lundump.{words_from}
use Rattle.chunk.proofs.filling.store_words.Given as goal

abbrev pub invariant-loop-i : goal.invariant-loop-i
invariant-loop-i l = l.words ≡ words_from l.i l.chunk l.start ++ drop l.i l.fn.words
