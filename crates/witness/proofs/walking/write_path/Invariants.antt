use Rattle.witness.proofs.Onwards.{Midway}
use Rattle.witness.proofs.walking.write_path.Given as goal

abbrev pub invariant-loop-count : goal.invariant-loop-count
invariant-loop-count g l = Midway g.script l.lengths l.first l.fn.path l.path l.count l.p
