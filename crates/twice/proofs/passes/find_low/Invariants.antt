use Rattle.std.proofs.Common.{◌≡◌}
use Rattle.graph.specs.Longest.{most}
use Rattle.twice.specs.TwiceInvariants.{low_at}
use Rattle.twice.proofs.passes.find_low.Given as goal

abbrev pub invariant-loop-kept : goal.invariant-loop-kept
invariant-loop-kept l = l.longest ≡ most (low_at l.lengths) l.kept-index
