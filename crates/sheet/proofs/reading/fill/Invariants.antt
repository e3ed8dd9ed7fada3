-- The words of the lines passed, and the rest of the table as it was.
use Rattle.std.proofs.Common.{◌≡◌, ◌++◌, drop, take}
use Rattle.sheet.specs.Format.{sheet_words}
use Rattle.sheet.proofs.reading.fill.Given as goal

abbrev pub invariant-loop-k : goal.invariant-loop-k
invariant-loop-k l = l.word-items ≡ sheet_words l.text l.k ++ drop l.k (take l.n l.fn.words)
