use Rattle.blocks.specs.Blocks.{grown, there}
use Rattle.blocks.proofs.search.join.Goals as goal

pub returns-then-new-old : goal.returns-then-new-old
returns-then-new-old c = rw (c.add.ensures.0, c.add.ensures.1) (grown c.if-new-old.true)

pub returns-else-new-old : goal.returns-else-new-old
returns-else-new-old c = there c.if-new-old.false
