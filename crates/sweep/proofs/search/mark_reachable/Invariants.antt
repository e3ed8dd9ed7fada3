use Rattle.std.proofs.Common.{◌-◌, length}
use Rattle.sweep.specs.Entries.{entries}
use Rattle.sweep.proofs.Held.{SearchingIn}
use Rattle.sweep.proofs.search.mark_reachable.Given as goal

abbrev pub invariant-loop-head : goal.invariant-loop-head
invariant-loop-head l = SearchingIn l.fn.marks l.fn.lengths l.marks l.lengths l.head l.tail

abbrev pub decreases-loop-head : goal.decreases-loop-head
decreases-loop-head l = length (entries l.fn.lengths) - l.head
