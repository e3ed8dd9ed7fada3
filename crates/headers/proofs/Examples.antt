-- The definitions compute on bytes written by hand. Assumes nothing.
use mathlib.Core.Path.{refl}
use Rattle.loaders.specs.Reading.{repeat}
use Rattle.loaders.specs.Loaders.{load_block, load_byte}
use Rattle.lundump.specs.Lundump.{check_bytes, check_header}
use Rattle.headers.specs.Refusing.{signed, why_refused}
use Rattle.headers.specs.Examples.{ExampleReasons}

pub example_reasons : ExampleReasons
unfolding repeat load_block load_byte check_bytes check_header signed why_refused
example_reasons =
    record {
      text = refl;
      nothing = refl;
      jit = refl;
      version53 = refl;
      version51 = refl;
      version52 = refl;
      version55 = refl;
      format = refl;
      newline = refl;
      numbers32 = refl;
      ends = refl;
      ends-early = refl;
      whole = λ byte. refl;
    }
