use Rattle.std.proofs.Common.{refl}
use Rattle.sheet.specs.Rows.{cell_of}
use Rattle.sheet.proofs.Widths.{length_cell}
use Rattle.sheet.proofs.Columns.{one_filled}
use Rattle.sheet.proofs.writing.column.Goals as goal

pub returns : goal.returns
returns c = one_filled _ _ (cell_of c.args.c) refl refl (length_cell c.args.c) c.put_cell.ensures
