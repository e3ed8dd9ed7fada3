-- Each limit is the documents' number.
-- Assumes nothing.
use mathlib.Core.Path.{refl}
use Rattle.pcases.specs.Limits.{Limits}

pub limits : Limits
limits =
    record {
      words = refl;
      constants = refl;
      names = refl;
      lines = refl;
      word = refl;
      services = refl;
      bytes = refl;
      levels = refl;
      short = refl;
      int = refl;
      size = refl;
      weights = refl;
      heaviest = refl;
      script = refl;
      allowance = refl;
      scripts = refl;
      quantum = refl;
      registers = refl;
      file = refl;
      functions = refl;
    }
