use Rattle.std.proofs.Common.{arith, ◌-◌}
use Rattle.blocks.proofs.Sets.{below_all, below_some, shifted_less}
use Rattle.blocks.proofs.ranges.below.Goals as goal

pub returns-then-count-lt-BLOCK : goal.returns-then-count-lt-BLOCK
returns-then-count-lt-BLOCK c =
    let count = c.args.end - c.args.r in
    rw (c.saturating_sub-count.ensures, ← shifted_less count (omega arith)) (below_some c.args.r c.args.end (omega arith))

pub returns-else-count-lt-BLOCK : goal.returns-else-count-lt-BLOCK
returns-else-count-lt-BLOCK c = below_all c.args.r c.args.end (omega arith)
