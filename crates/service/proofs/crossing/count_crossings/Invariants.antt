use Rattle.service.proofs.Cross.{Counting}
use Rattle.service.proofs.crossing.count_crossings.Given as goal

abbrev pub invariant-loop-p : goal.invariant-loop-p
invariant-loop-p l = Counting l.w l.marks l.lengths l.count l.p
