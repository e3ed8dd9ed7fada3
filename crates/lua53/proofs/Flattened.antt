-- What C gets of a word's fields is each of them.
-- Assumes nothing.
use mathlib.Core.Path.{refl}
use Rattle.lua53.specs.Flattened.{Flattened}

pub flattened : Flattened
flattened =
    record {
      mode = λ m w. refl;
      opcode = λ m w. refl;
      a = λ m w. refl;
      b = λ m w. refl;
      c = λ m w. refl;
      bx = λ m w. refl;
      ax = λ m w. refl;
      sbx = λ m w. refl;
    }
