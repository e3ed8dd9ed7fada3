-- Each refusal has its document's number, and none has 9.
-- Assumes nothing.
use mathlib.Core.Path.{refl}
use mathlib.Core.Bool.{false≢true}
use Rattle.graph.proofs.Laws.{laws}
use Rattle.pcases.specs.Numbers.{refusals, Numbers}

pub numbers : Numbers
numbers =
    record {
      accepted = refl;
      one = refl;
      two = refl;
      three = refl;
      four = refl;
      five = refl;
      six = refl;
      seven = refl;
      eight = refl;
      nine = λ i. false≢true ((laws.member_in 9 refusals).1 i);
      ten = refl;
      eleven = refl;
      twelve = refl;
      thirteen = refl;
      fourteen = refl;
      fifteen = refl;
      sixteen = refl;
      seventeen = refl;
      eighteen = refl;
      nineteen = refl;
      twenty = refl;
      twenty_one = refl;
      twenty_two = refl;
      twenty_three = refl;
      each = λ p. ((refl, refl), (refl, refl), (refl, refl), (refl, refl), (refl, refl), (refl, refl), (refl, refl), (refl, refl), (refl, refl), (refl, refl), (refl, refl), (refl, refl), (refl, refl), (refl, refl), (refl, refl), (refl, refl), (refl, refl), (refl, refl), (refl, refl), (refl, refl), (refl, refl), (refl, refl));
    }
