use Rattle.sweep.proofs.Entries.{pushes_new}
use Rattle.sweep.proofs.search.push.Goals as goal

pub returns-then-marks-q-eq0 : goal.returns-then-marks-q-eq0
returns-then-marks-q-eq0 c = pushes_new _ _ _ _ c.if-marks-q-eq0.true
