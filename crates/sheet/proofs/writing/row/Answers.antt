use Rattle.std.proofs.Common.{refl}
use Rattle.sheet.specs.Columns.{columns}
use Rattle.sheet.specs.Rows.{cell_of, row_of}
use Rattle.sheet.proofs.Widths.{length_columns, length_cell}
use Rattle.sheet.proofs.Columns.{five_filled}
use Rattle.sheet.proofs.writing.row.Goals as goal

pub returns : goal.returns
unfolding row_of
returns c =
    let s = c.args in
    five_filled _ _ _ _ _ _ (columns 6 s.p) (columns 6 s.opcode) (cell_of s.first) (cell_of s.second) (columns 6 s.segment) refl refl
    (length_columns 6 s.p, length_columns 6 s.opcode, length_cell s.first, length_cell s.second, length_columns 6 s.segment)
    c.put_number.ensures c.put_number-2.ensures c.put_cell.ensures c.put_cell-2.ensures c.put_number-3.ensures
