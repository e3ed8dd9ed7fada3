-- The answer of the exported function: the enum as a struct of numbers.
-- Assumes nothing.
use Rattle.std.specs.Prelude.{Result, Ok, Err}
use Rattle.common.specs.declared.refusal.Refusal.{Refusal}
use Rattle.common.specs.Refusals.{refusal_number, refusal_place}
use Rattle.witness.specs.declared.longest.PathRun.{PathRun}
use Rattle.witness_c.specs.declared.c.FlatPath.{FlatPath}

-- number and place, L, its first word, and how many words are in the path. "On refusal L
-- and its first word are 0"
abbrev pub flat_path : Result PathRun Refusal → FlatPath
flat_path (Ok r) =
    record { number = 0; place = 0; longest = r.run.longest; first = r.run.first; count = r.count }
flat_path (Err e) =
    record { number = refusal_number e; place = refusal_place e; longest = 0; first = 0; count = 0 }
