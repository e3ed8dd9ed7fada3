-- The examples of 5.3 hold: antt computes their lists.
-- Assumes nothing.
use mathlib.Core.Path.{refl}
use Rattle.fields.specs.declared.version.Version.TheVariants.{Lua53}
use Rattle.fields.specs.lua53.Table.{class_of, companion_of}
use Rattle.sweep.specs.Steps.{unless, one, ordered, two}
use Rattle.steps.specs.lua53.Successors.{opcode_at, companion_present, successors_of}
use Rattle.touches.specs.Versions.{accesses_of}
use Rattle.locations.specs.Canonical.{join, insert, add, add_all, insert_register, put_all}
use Rattle.locations.specs.Lists.{gather, ranges_of, indices_of, first_top}
use Rattle.touches.specs.Touches.{touches_by, touches_in, touches_for}
use Rattle.touches.specs.Examples.{ExamplesHold}
use Rattle.touches.specs.lua53.Examples.{examples}
use Rattle.touches.proofs.Examples.{each}

pub examples_hold : ExamplesHold Lua53 examples
unfolding class_of companion_of unless one ordered two opcode_at companion_present successors_of accesses_of join
    insert add add_all insert_register put_all gather ranges_of indices_of first_top touches_by touches_in
    touches_for
examples_hold = each Lua53 examples refl
