use Rattle.std.proofs.Common.{arith}
use Rattle.sweep.proofs.Settling.{settling_none, settling_more, settling_done}
use Rattle.steps.proofs.Words.{outside}
use Rattle.steps.proofs.lua54.settling.settle_edges.Goals as goal

pub loop-p-init : goal.loop-p-init
loop-p-init c = settling_none _ _ _ c.requires.2

pub loop-p-preserved : goal.loop-p-preserved
loop-p-preserved c = settling_more _ _ c.loop-p.invariant (omega arith) c.entry_in.ensures

pub returns : goal.returns
returns c = settling_done _ _ (outside _) c.loop-p.invariant (omega arith)
