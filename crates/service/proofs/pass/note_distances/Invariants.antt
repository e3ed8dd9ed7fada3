use Rattle.service.proofs.Near.{Noting}
use Rattle.service.proofs.pass.note_distances.Given as goal

abbrev pub invariant-loop-i : goal.invariant-loop-i
invariant-loop-i l = Noting l.fn.lengths l.lengths l.i l.above
