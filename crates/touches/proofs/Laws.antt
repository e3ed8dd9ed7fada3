-- The laws of specs/Laws.antt. Assumes nothing.
use Rattle.touches.specs.Laws.{Laws}
use Rattle.touches.proofs.Rows.{by_table}
use Rattle.touches.proofs.Isk.{rk}
use Rattle.touches.proofs.Meaning.{meaning}
use Rattle.touches.proofs.Examples54 as examples54
use Rattle.touches.proofs.Examples53 as examples53

pub laws : Laws
laws =
    record {
      meaning = meaning;
      by_hand54 = examples54.examples_hold;
      by_hand53 = examples53.examples_hold;
      rk = rk;
      by_table = by_table;
    }
