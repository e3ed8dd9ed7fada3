use Rattle.std.proofs.Common.{arith}
use Rattle.sweep.specs.Steps.{unless}
use Rattle.sweep.proofs.Steps.{two_in, none_out}
use Rattle.steps.proofs.alike.past_companion.Goals as goal
use Rattle.steps.proofs.alike.past_companion.Goals.{else-p-words-via-then-p-words+else-is_companion, else-p-words-via-else-p-words}

pub returns-then-is_companion : goal.returns-then-is_companion
unfolding unless
returns-then-is_companion g c =
    rw (← c.requires.1.1.0 _ c.is_companion.ensures, c.if-is_companion.true) (two_in (omega arith) c.if-p-words.true)

pub returns : goal.returns
unfolding unless
returns g c =
    elim c.else-p-words.branch [
      | else-p-words-via-then-p-words+else-is_companion w ↦ rw (← c.requires.1.1.0 _ w.is_companion.ensures, w.if-is_companion.false)
      | else-p-words-via-else-p-words w ↦ none_out _ _ w.if-p-words.false
    ]
