use Rattle.std.proofs.Common.{◌∙◌}
use Rattle.sweep.proofs.Steps.{away_in, away_below}
use Rattle.steps.proofs.alike.away.Goals as goal

pub returns-then-to-offset : goal.returns-then-to-offset
returns-then-to-offset c = away_below _ _ _ _ c.if-to-offset.true

pub returns : goal.returns
returns c = c.one_of.ensures ∙ away_in _ _ _ _ c.if-to-offset.false
