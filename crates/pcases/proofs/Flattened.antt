-- What C gets of an answer is each of its numbers.
-- Assumes nothing.
use mathlib.Core.Path.{refl}
use Rattle.std.specs.Prelude.{Ok, Err}
use Rattle.runs.specs.Run.{Run, number_of, place_of, longest_of, first_of}
use Rattle.runs.specs.Flat.{flat_run}
use Rattle.pcases.specs.Flattened.{Told, Flattened}

told : (r : Run) → Told (flat_run r) (number_of r) (place_of r) (longest_of r) (first_of r)
told (Ok r) = (refl, (refl, (refl, refl)))
told (Err e) = (refl, (refl, (refl, refl)))

pub flattened : Flattened
flattened =
    record {
      answer = ((λ t. (refl, refl)), λ e. (refl, refl));
      accepted = λ l f. (refl, (refl, (refl, refl)));
      refused = λ e. (refl, (refl, (refl, refl)));
      run = told;
      bad = (refl, (refl, refl));
      stop = (refl, (refl, refl));
      one = λ q. (refl, (refl, refl));
      two = λ q r. (refl, (refl, refl));
      mode = λ m w. refl;
      opcode = λ m w. refl;
      a = λ m w. refl;
      k = λ m w. refl;
      b = λ m w. refl;
      c = λ m w. refl;
      bx = λ m w. refl;
      ax = λ m w. refl;
      sb = λ m w. refl;
      sc = λ m w. refl;
      sbx = λ m w. refl;
      sj = λ m w. refl;
    }
