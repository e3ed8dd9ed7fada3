use Rattle.sheet.proofs.Columns.{columns_ending}
use Rattle.sheet.proofs.writing.put_number.Goals as goal

pub returns : goal.returns
returns c = rw (← columns_ending c.args.v, ← c.digit.ensures) c.put_ending.ensures
