use Rattle.std.proofs.Common.{◌≡◌, ◌-◌}
use Rattle.runs.specs.Script.{lua54, graph_of}
use Rattle.rehearsal.specs.Running.{turn_of}
use Rattle.rehearsal.proofs.turn.turn.Given as goal

-- the turn from here on, with what ran, is the whole turn
abbrev pub invariant-loop-ran : goal.invariant-loop-ran
invariant-loop-ran l =
    turn_of (graph_of (lua54 l.words)) l.choices (l.room - l.ran) l.p l.taken l.ran
    ≡ turn_of (graph_of (lua54 l.words)) l.choices l.room l.start l.used 0
