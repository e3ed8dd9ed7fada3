use Rattle.std.proofs.Common.{refl}
use Rattle.sheet.specs.Columns.{columns}
use Rattle.sheet.specs.Rows.{pair_of}
use Rattle.sheet.proofs.Widths.{length_columns}
use Rattle.sheet.proofs.Columns.{two_filled}
use Rattle.sheet.proofs.writing.pair.Goals as goal

pub returns : goal.returns
unfolding pair_of
returns c =
    let s = c.args in
    two_filled _ _ _ (columns 6 s.left) (columns 6 s.right) refl refl (length_columns 6 s.left)
    (length_columns 6 s.right) c.put_number.ensures c.put_number-2.ensures
