use Rattle.service.proofs.Cross.{unmarked, no_target, by_target}
use Rattle.service.proofs.crossing.crossings_from.Goals as goal
use Rattle.service.proofs.crossing.crossings_from.Goals.{
  then-mark-ne1-via-then-mark-ne1,
  then-mark-ne1-via-else-mark-ne1+then-entry-lt-KIND_TARGET,
}

pub returns-then-mark-ne1 : goal.returns-then-mark-ne1
returns-then-mark-ne1 c =
    elim c.then-mark-ne1.branch [
      | then-mark-ne1-via-then-mark-ne1 w ↦ unmarked _ _ _ _ w.if-mark-ne1.true
      | then-mark-ne1-via-else-mark-ne1+then-entry-lt-KIND_TARGET w ↦
          no_target _ _ _ _ w.if-mark-ne1.false w.if-entry-lt-KIND_TARGET.true
    ]

pub returns : goal.returns
returns c = by_target _ _ _ _ c.if-mark-ne1.false c.if-entry-lt-KIND_TARGET.false c.edge_crosses.ensures
