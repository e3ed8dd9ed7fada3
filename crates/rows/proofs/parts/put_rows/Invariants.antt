-- Each row has a word at least.
use Rattle.std.proofs.Common.{◌-◌, length}
use Rattle.rows.proofs.parts.put_rows.Given as goal

abbrev pub decreases-loop-from : goal.decreases-loop-from
decreases-loop-from l = length l.run.path.now - l.from
