use Rattle.blocks.proofs.Sets.{among_none, among_more}
use Rattle.blocks.proofs.Within.{take_more}
use Rattle.blocks.proofs.ranges.in_ranges.Goals as goal

pub loop-x-init : goal.loop-x-init
loop-x-init c = among_none c.args.r

pub loop-x-preserved : goal.loop-x-preserved
loop-x-preserved c =
    rw (take_more c.loop-x.x-index c.args.ranges.now c.loop-x-test.true) (among_more c.args.r _ _ c.loop-x.invariant c.in_range-all.ensures)
