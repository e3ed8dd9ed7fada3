use Rattle.listing.specs.Answer.{line_at}
use Rattle.listing.proofs.rows.line.Goals as goal

pub returns : goal.returns
unfolding line_at
returns c = rw (c.opcode.ensures, c.first_cell.ensures, c.second_cell.ensures, c.successors-s.ensures) at c.row.ensures
