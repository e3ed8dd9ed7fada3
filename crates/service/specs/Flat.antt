-- The answers as the C interface gives them: each as a struct of numbers. "a refusal reports 0 for every
-- number but its own and its place".
-- Assumes nothing.
use Rattle.std.specs.Prelude.{None, Some, Ok, Err}
use Rattle.common.specs.Refusals.{refusal_number, refusal_place}
use Rattle.service.specs.Questions.{Nearest, Crossed}
use Rattle.service.specs.declared.c.FlatNearest.{FlatNearest}
use Rattle.service.specs.declared.c.FlatCrossed.{FlatCrossed}

-- found is 1 where there is a fewest, so that none is told from any number
abbrev pub flat_nearest : Nearest → FlatNearest
flat_nearest (Ok (Some k)) = record { number = 0; place = 0; found = 1; fewest = k }
flat_nearest (Ok None) = record { number = 0; place = 0; found = 0; fewest = 0 }
flat_nearest (Err e) = record { number = refusal_number e; place = refusal_place e; found = 0; fewest = 0 }

abbrev pub flat_crossed : Crossed → FlatCrossed
flat_crossed (Ok k) = record { number = 0; place = 0; count = k }
flat_crossed (Err e) = record { number = refusal_number e; place = refusal_place e; count = 0 }
