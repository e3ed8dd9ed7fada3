use Rattle.sheet.proofs.Columns.{dash_ending, number_cell}
use Rattle.sheet.proofs.writing.put_cell.Goals as goal

pub returns-in-Some : goal.returns-in-Some
returns-in-Some c = rw (c.in-Some.is, ← number_cell c.in-Some.v) c.put_number.ensures

pub returns-in-None : goal.returns-in-None
returns-in-None c = rw (c.in-None.is, ← dash_ending) c.put_ending.ensures
