-- The laws that callers go by, each from its own file.
-- Assumes nothing.
use mathlib.Core.Path.{refl}
use native.Mathlib.Omega.{arith}
use Rattle.fields.specs.Laws.{Laws}
use Rattle.fields.proofs.Lopcodes as lopcodes
use Rattle.fields.proofs.Opmodes as opmodes
use Rattle.fields.proofs.Pushed.{fallbacks}
use Rattle.fields.proofs.Entries.{entry}
use Rattle.fields.proofs.Bytes.{low_half, high_half}
use Rattle.fields.proofs.Lopcodes53 as lopcodes53
use Rattle.fields.proofs.Opmodes53 as opmodes53
use Rattle.fields.proofs.Bytes53 as bytes53
use Rattle.fields.proofs.Below.{all_at}
use Rattle.fields.proofs.Difference.{difference_fits, difference}

pub laws : Laws
laws =
    record {
      opcodes = refl;
      events = refl;
      lopcodes = lopcodes.agreement;
      opmodes = opmodes.agreement;
      fallbacks = fallbacks;
      mode_entry = λ o h. entry o 0 h (omega arith);
      class_entry = λ o h. entry o 1 h (omega arith);
      companion_entry = λ o h. entry o 2 h (omega arith);
      fallback_entry = λ o h. entry o 3 h (omega arith);
      class_half = λ o e. low_half o e;
      companion_half = λ o e. high_half o e;
      each_below = all_at;
      difference_fits = difference_fits;
      difference = difference;
      lua53 =
          record {
            opcodes = refl;
            lopcodes = lopcodes53.agreement;
            opmodes = opmodes53.agreement;
            class_half = λ o e. bytes53.low_half o e;
            companion_half = λ o e. bytes53.high_half o e;
          };
    }
