-- lopcodes.c's opmodes and the opcode table agree: antt computes both sides.
-- Assumes nothing.
use mathlib.Core.Path.{refl}
use Rattle.fields.specs.lua54.Table.{mode_of, companion_of}
use Rattle.fields.specs.lua54.Opmodes.{Agreement}

pub agreement : Agreement
unfolding mode_of companion_of
agreement = record { names = refl; modes = refl; tests = refl; metamethods = refl }
