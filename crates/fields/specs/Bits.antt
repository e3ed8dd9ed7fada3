-- What the words of every version are read by: bits from a position on, C's operators on them as the two
-- headers lopcodes.h use them, and bytes packed eight to a number.
-- Assumes nothing.
use Rattle.std.specs.Prelude.{ℕ, zero, suc, ◌+◌, ◌-◌, ◌*◌, ◌/◌, ◌%◌, ◌^◌}
use Rattle.std.specs.Int.Bits.{bit_and}

-- "A word is 32 bits, bit 0 lowest": its bits from the first to the last, read as a number
abbrev pub bits : ℕ → ℕ → ℕ → ℕ
bits first last word = word / 2 ^ first % 2 ^ (last + 1 - first)

-- C's operators <<, >> and ~ on Instruction, a 32-bit unsigned type
infixl 60 ◌shl◌
infixl 60 ◌shr◌
abbrev pub ◌shl◌ : ℕ → ℕ → ℕ
x shl n = x * 2 ^ n % 2 ^ 32

abbrev pub ◌shr◌ : ℕ → ℕ → ℕ
x shr n = x / 2 ^ n

abbrev complement : ℕ → ℕ
complement x = 2 ^ 32 - 1 - x

-- n bits of 1 from position p on
abbrev pub «MASK1» : ℕ → ℕ → ℕ
«MASK1» n p = complement (complement 0 shl n) shl p

abbrev pub getarg : ℕ → ℕ → ℕ → ℕ
getarg i position size = bit_and (i shr position) («MASK1» size 0)

-- n opcodes from the given one on, a byte each, the first lowest
abbrev pub packed : (ℕ → ℕ) → ℕ → ℕ → ℕ
packed column opcode zero = 0
packed column opcode (suc n) = column opcode + 256 * packed column (suc opcode) n

unfoldable pub eight_of : (ℕ → ℕ) → ℕ → ℕ
eight_of column block = packed column (8 * block) 8

-- the byte of an opcode in the eight that it is one of
abbrev pub byte_of : ℕ → ℕ → ℕ
byte_of eight opcode = eight / 2 ^ (opcode % 8 * 8) % 256
