use Rattle.std.proofs.Common.{◌≡◌}
use Rattle.graph.specs.Longest.{most}
use Rattle.sweep.specs.PassInvariants.{at}
use Rattle.sweep.proofs.lengths.find_longest.Given as goal

abbrev pub invariant-loop-length : goal.invariant-loop-length
invariant-loop-length l = l.longest ≡ most (at l.lengths) l.length-index
