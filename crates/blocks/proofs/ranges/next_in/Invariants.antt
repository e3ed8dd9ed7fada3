use Rattle.std.proofs.Common.{◌≡◌, ◌≤◌, take}
use Rattle.common.specs.Limits.{most_registers}
use Rattle.blocks.specs.Uses.{end_of}
use Rattle.blocks.specs.Blocks.{next_in}
use Rattle.blocks.proofs.ranges.next_in.Given as goal

abbrev pub invariant-loop-x : goal.invariant-loop-x
invariant-loop-x l =
    record {
      next : l.next ≡ next_in l.r (take l.x-index l.ranges);
      end : end_of (take l.x-index l.ranges) ≤ most_registers;
    }
