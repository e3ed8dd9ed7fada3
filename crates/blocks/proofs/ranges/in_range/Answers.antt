use Rattle.blocks.proofs.Sets.{holds_range}
use Rattle.blocks.proofs.ranges.in_range.Goals as goal

pub returns : goal.returns
returns c = holds_range c.args.r c.args.x c.below.ensures c.below-2.ensures
