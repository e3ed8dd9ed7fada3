-- lopcodes.h's fields are document 01's: a mask of k ones is the remainder by 2 ^ k.
-- Assumes nothing.
use Prim.Native.Nat.{◌/◌, ◌^◌}
use lib.Bits.{and_mask}
use Rattle.fields.specs.lua54.Lopcodes.{Agreement}

pub agreement : Agreement
agreement word =
    rw (
      and_mask (word / 2 ^ 0) 7,
      and_mask (word / 2 ^ 7) 8,
      and_mask (word / 2 ^ 15) 1,
      and_mask (word / 2 ^ 16) 8,
      and_mask (word / 2 ^ 24) 8,
      and_mask (word / 2 ^ 15) 17,
      and_mask (word / 2 ^ 7) 25,
    )
