use Rattle.std.proofs.Common.{◌≡◌}
use Rattle.rehearsal.specs.Rehearse.{untried, lent_at}
use Rattle.rehearsal.proofs.Accepting.{chain}
use Rattle.rehearsal.proofs.acceptance.accept.Given as goal

-- all scripts so far are accepted, and their runs left the slices so
abbrev pub invariant-loop-words : goal.invariant-loop-words
invariant-loop-words l =
    untried l.marks l.lengths
    ≡ chain (lent_at l.scripts 0) (lent_at l.scripts 1) (lent_at l.scripts 2) (lent_at l.scripts 3) l.count
    l.fn.marks l.fn.lengths l.words-index
