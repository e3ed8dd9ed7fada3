use Rattle.std.proofs.Common.{arith}
use Rattle.ranges.proofs.BothTables.{refusing_none, refusing_next, refusing_done}
use Rattle.ranges.proofs.range.has_refused.Goals as goal

pub loop-i-init : goal.loop-i-init
loop-i-init c = refusing_none _ _

pub loop-i-preserved : goal.loop-i-preserved
loop-i-preserved c = refusing_next _ _ c.loop-i.invariant (omega arith)

pub returns : goal.returns
returns c = refusing_done _ _ c.loop-i.invariant (omega arith) c.requires.0 c.requires.1
