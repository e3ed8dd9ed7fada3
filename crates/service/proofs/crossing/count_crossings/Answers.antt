use Rattle.service.proofs.Cross.{counting_none, counting_more, counting_done}
use Rattle.service.proofs.crossing.count_crossings.Goals as goal

pub loop-p-init : goal.loop-p-init
loop-p-init c = counting_none _ _ _ c.requires

pub loop-p-preserved : goal.loop-p-preserved
loop-p-preserved c = counting_more _ _ _ c.loop-p.invariant c.loop-p-test.true c.crossings_from-count.ensures

pub returns : goal.returns
returns c = counting_done _ _ _ c.loop-p.invariant c.loop-p-test.false
