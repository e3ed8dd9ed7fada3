-- The examples of 5.4 hold: antt computes their lists.
-- Assumes nothing.
use mathlib.Core.Path.{refl}
use Rattle.fields.specs.declared.version.Version.TheVariants.{Lua54}
use Rattle.fields.specs.lua54.Table.{class_of, companion_of}
use Rattle.sweep.specs.Steps.{unless, one, ordered, two}
use Rattle.steps.specs.lua54.Successors.{opcode_at, is_between, companion_present, successors_of}
use Rattle.touches.specs.Versions.{accesses_of}
use Rattle.locations.specs.Canonical.{join, insert, add, add_all, insert_register, put_all}
use Rattle.locations.specs.Lists.{gather, ranges_of, indices_of, first_top}
use Rattle.touches.specs.Touches.{touches_by, touches_in, touches_for}
use Rattle.touches.specs.Examples.{ExamplesHold}
use Rattle.touches.specs.lua54.Examples.{examples}
use Rattle.touches.proofs.Examples.{each}

pub examples_hold : ExamplesHold Lua54 examples
unfolding class_of companion_of unless one ordered two opcode_at is_between companion_present successors_of accesses_of join
    insert add add_all insert_register put_all gather ranges_of indices_of first_top touches_by touches_in
    touches_for
examples_hold = each Lua54 examples refl
