-- What C gets of an answer is each of its numbers.
-- Assumes nothing.
use mathlib.Core.Path.{refl}
use Rattle.witness_c.specs.Flattened.{Flattened}

pub flattened : Flattened
flattened =
    record {
      accepted = λ l f c. (refl, (refl, (refl, (refl, refl))));
      refused = λ e. (refl, (refl, (refl, (refl, refl))));
      of_run = λ l f path. (refl, (refl, (refl, (refl, refl))));
      of_refusal = λ e path. (refl, (refl, (refl, (refl, refl))));
    }
