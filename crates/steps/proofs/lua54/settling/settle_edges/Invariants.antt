use Rattle.std.proofs.Common.{length}
use Rattle.sweep.proofs.Settling.{Settling}
use Rattle.steps.specs.lua54.Successors.{successors_of}
use Rattle.steps.proofs.lua54.settling.settle_edges.Given as goal

abbrev pub invariant-loop-p : goal.invariant-loop-p
invariant-loop-p l = Settling (length l.words) (successors_of l.words) l.lengths l.p
