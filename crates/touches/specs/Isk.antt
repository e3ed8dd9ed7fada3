-- How lopcodes.h of 5.3.6 tells a constant from a register in an argument, in the header's own shape.
-- Assumes nothing.
use Rattle.std.specs.Prelude.{ℕ, ◌-◌, ◌*◌, ◌/◌, ◌%◌, ◌^◌, ◌<◌, ◌≡◌}
use Rattle.std.specs.Int.Bits.{bit_and}
use Rattle.fields.specs.Bits.{◌shl◌}
use Rattle.fields.specs.lua53.Lopcodes.{SIZE_B}

-- "this bit 1 means constant (0 means register)": (1 << (SIZE_B - 1))
abbrev pub «BITRK» : ℕ
«BITRK» = 1 shl (SIZE_B - 1)

-- "test whether value is a constant", by being 0 or not: ((x) & BITRK)
abbrev pub «ISK» : ℕ → ℕ
«ISK» x = bit_and x «BITRK»

-- "gets the index of the constant": ((int)(r) & ~BITRK), int having 32 bits
abbrev pub «INDEXK» : ℕ → ℕ
«INDEXK» r = bit_and r (2 ^ 32 - 1 - «BITRK»)

-- by number: the ninth bit of an argument, and the eight below it
pub record RK : Type 0 where
  pub isk : (x : ℕ) → «ISK» x ≡ x / 256 % 2 * 256
  pub indexk : (x : ℕ) → x < 512 → «INDEXK» x ≡ x % 256
