-- What is read from here on is what is read of the whole text.
use Rattle.std.proofs.Common.{◌≡◌, ◌*◌, ◌-◌, ◌≤◌, length, drop}
use Rattle.sheet.specs.Format.{read_from, sheet_of}
use Rattle.sheet.proofs.reading.scan.Given as goal

abbrev pub invariant-loop-k : goal.invariant-loop-k
invariant-loop-k l = (11 * l.k ≤ length l.text) × (read_from (l.room - l.k) l.k (drop (11 * l.k) l.text) ≡ sheet_of l.room l.text)
