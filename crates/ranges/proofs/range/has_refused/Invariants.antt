use Rattle.ranges.proofs.BothTables.{Refusing}
use Rattle.ranges.proofs.range.has_refused.Given as goal

abbrev pub invariant-loop-i : goal.invariant-loop-i
invariant-loop-i l = Refusing l.low l.high l.i l.refused
