use Rattle.std.proofs.Common.{refl}
use Rattle.sheet.specs.Columns.{digit_of}
use Rattle.sheet.proofs.digits.digit.Goals as goal

pub returns : goal.returns
unfolding digit_of
returns c = refl
