use Rattle.blocks.specs.Blocks.{left}
use Rattle.blocks.proofs.Visiting.{Going}
use Rattle.blocks.proofs.search.search.Given as goal

abbrev pub invariant-loop-next : goal.invariant-loop-next
invariant-loop-next l = Going l.words l.r l.limit l.unset l.waiting l.pages l.seen l.next

abbrev pub decreases-loop-next : goal.decreases-loop-next
decreases-loop-next l = left l.words l.r l.unset l.waiting
