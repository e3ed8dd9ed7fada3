use Rattle.service.proofs.PairedWords.{Passed}
use Rattle.service.proofs.pairs.pair_words.Given as goal

abbrev pub invariant-loop-i : goal.invariant-loop-i
invariant-loop-i l = Passed l.fn.lengths l.marks l.lengths l.i l.found.pair l.found.invalid
