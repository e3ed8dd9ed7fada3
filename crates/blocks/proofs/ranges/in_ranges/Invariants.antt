use Rattle.std.proofs.Common.{take}
use Rattle.blocks.specs.Uses.{in_ranges}
use Rattle.blocks.specs.Blocks.{HoldsBits}
use Rattle.blocks.proofs.ranges.in_ranges.Given as goal

abbrev pub invariant-loop-x : goal.invariant-loop-x
invariant-loop-x l = HoldsBits l.r (λ s. in_ranges s (take l.x-index l.ranges)) l.all
