use Rattle.std.proofs.Common.{◌≡◌}
use Rattle.rehearsal.specs.Machine.{tasks_from}
use Rattle.rehearsal.proofs.queue.Queue.new.Given as goal

abbrev pub invariant-loop-script : goal.invariant-loop-script
invariant-loop-script l = l.queue ≡ tasks_from 0 l.script
