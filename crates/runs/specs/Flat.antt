-- The answers as the C interface gives them: each enum as a struct of numbers.
-- Assumes nothing.
use Rattle.std.specs.Prelude.{Ok, Err}
use Rattle.common.specs.Refusals.{refusal_number, refusal_place}
use Rattle.sweep.specs.declared.edges.Successors.{Successors}
use Rattle.sweep.specs.declared.edges.Successors.TheVariants.{Invalid, Stop, One, Two}
use Rattle.runs.specs.declared.c.FlatSuccessors.{FlatSuccessors}
use Rattle.runs.specs.declared.c.FlatRun.{FlatRun}
use Rattle.runs.specs.Run.{Run}

-- kind 0 invalid, 1 stop, 2 one, 3 two; a number that a kind does not use is 0
abbrev pub flat_successors : Successors → FlatSuccessors
flat_successors Invalid = record { kind = 0; first = 0; second = 0 }
flat_successors Stop = record { kind = 1; first = 0; second = 0 }
flat_successors (One q) = record { kind = 2; first = q; second = 0 }
flat_successors (Two q r) = record { kind = 3; first = q; second = r }

-- document 01's number and place (RULES 8), L and its first word
abbrev pub flat_run : Run → FlatRun
flat_run (Ok r) = record { number = 0; place = 0; longest = r.longest; first = r.first }
flat_run (Err e) = record { number = refusal_number e; place = refusal_place e; longest = 0; first = 0 }
