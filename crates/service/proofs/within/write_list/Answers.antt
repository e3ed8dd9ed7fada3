use Rattle.service.proofs.PairedWords.{whole}
use Rattle.common.proofs.Writing.{writing_done}
use Rattle.service.proofs.within.write_list.Goals as goal

pub returns-clause-lengths_after : goal.returns-clause-lengths_after
returns-clause-lengths_after c = whole _ _ (writing_done _ _ _ c.loop-p.invariant.0 c.loop-p-test.false)

pub returns-clause-list_after : goal.returns-clause-list_after
returns-clause-list_after c = writing_done _ _ _ c.loop-p.invariant.1.1 c.loop-p-test.false
