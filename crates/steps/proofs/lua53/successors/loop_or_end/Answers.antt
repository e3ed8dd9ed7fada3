use Rattle.sweep.proofs.Steps.{both_below}
use Rattle.steps.proofs.lua53.successors.loop_or_end.Goals as goal

pub returns-then-to-lt-OFFSET_SBX : goal.returns-then-to-lt-OFFSET_SBX
returns-then-to-lt-OFFSET_SBX c = rw (← c.bx.ensures) (both_below _ _ _ _ _ c.if-to-lt-OFFSET_SBX.true)
