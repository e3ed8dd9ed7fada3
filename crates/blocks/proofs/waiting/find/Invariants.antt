use Rattle.blocks.specs.Blocks.{NoneWaits}
use Rattle.blocks.proofs.waiting.find.Given as goal

abbrev pub invariant-loop-p : goal.invariant-loop-p
invariant-loop-p l = NoneWaits l.waiting l.i l.p
