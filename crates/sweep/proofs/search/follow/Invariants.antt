use Rattle.sweep.proofs.Held.{FollowingIn, left_to_follow}
use Rattle.sweep.proofs.search.follow.Given as goal

abbrev pub invariant-loop-t : goal.invariant-loop-t
invariant-loop-t l = FollowingIn l.fn.marks l.fn.lengths l.head l.marks l.lengths l.t.hand l.t.tail

abbrev pub decreases-loop-t : goal.decreases-loop-t
decreases-loop-t l = left_to_follow l.fn.lengths l.marks l.t.hand
