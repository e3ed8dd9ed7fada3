-- The laws that callers go by, each from its own file. Assumes nothing.
use Rattle.steps.specs.Laws.{Laws}
use Rattle.steps.proofs.Words as words54
use Rattle.steps.proofs.Words53 as words53
use Rattle.steps.proofs.Lvm as lvm54
use Rattle.steps.proofs.Lvm53 as lvm53
use Rattle.steps.proofs.Bad53 as bad53
use Rattle.steps.proofs.Bad54 as bad54

pub laws : Laws
laws =
    record {
      below54 = words54.below;
      below53 = words53.below;
      agreement = lvm54.agreement_holds;
      agreement53 = lvm53.agreement_holds;
      by_numbers54 = bad54.by_numbers;
      by_numbers53 = bad53.by_numbers;
    }
