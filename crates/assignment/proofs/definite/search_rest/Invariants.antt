use Rattle.std.proofs.Common.{◌≡◌, ◌-◌, ◌≤◌, length}
use Rattle.common.specs.Lowest.{lowest}
use Rattle.assignment.specs.Rest.{unset_below}
use Rattle.blocks.specs.Blocks.{SearchRoom}
use Rattle.assignment.proofs.definite.search_rest.Given as goal

abbrev pub invariant-loop-r : goal.invariant-loop-r
invariant-loop-r g l =
    record {
      least : l.least ≡ lowest (unset_below l.words l.parameters l.r) (length l.words);
      from : l.parameters ≤ l.r;
      room : SearchRoom l.words l.tables.unset l.tables.waiting.marks l.tables.waiting.pages;
    }

abbrev pub decreases-loop-r : goal.decreases-loop-r
decreases-loop-r g l = 65536 - l.r
