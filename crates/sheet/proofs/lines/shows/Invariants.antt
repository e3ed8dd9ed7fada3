-- What is left to compare decides as all of the leading columns would.
use Rattle.std.proofs.Common.{◌≡◌, ◌/◌}
use Rattle.sheet.proofs.Compare.{matches}
use Rattle.sheet.proofs.lines.shows.Given as goal

abbrev pub invariant-loop-i : goal.invariant-loop-i
invariant-loop-i l = matches l.text l.at l.i l.rest ≡ matches l.text l.at 9 (l.v / 10)
