-- `touches::word::access_table`: the code's table is that of the cases.
-- Assumes nothing.
use Rattle.touches.proofs.Tables.{is_table}
use Rattle.touches.proofs.word.access_table.Goals as goal

pub returns : goal.returns
returns c = is_table
