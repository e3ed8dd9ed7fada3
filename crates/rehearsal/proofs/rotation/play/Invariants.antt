use Rattle.std.proofs.Common.{◌≡◌, ℕ, ◌<◌}
use Rattle.rehearsal.specs.Waits.{longest_wait}
use Rattle.rehearsal.specs.Running.{Fine}
use Rattle.rehearsal.specs.Rehearse.{graphs_in, trace_in}
use Rattle.rehearsal.proofs.Stages.{going_on}
use Rattle.rehearsal.proofs.rotation.play.Given as goal

-- from every stage on the longest waits come out the same
abbrev pub invariant-loop-st : goal.invariant-loop-st
invariant-loop-st l =
    record {
      fine : Fine l.st;
      same : (i : ℕ) → i < 4 → going_on (graphs_in l.scripts) l.quantum l.choices i l.st
          ≡ longest_wait i (trace_in l.scripts l.count l.quantum l.choices l.limit);
    }

abbrev pub decreases-loop-st : goal.decreases-loop-st
decreases-loop-st l = l.st.left
