-- Request C-24: the fields of a word of Lua 5.3.6.
-- Assumes nothing.
use Rattle.std.specs.Prelude.{ℕ, ℤ, pos, ◌-ℤ◌}
use Rattle.fields.specs.Bits.{bits}
use Rattle.fields.specs.declared.lua53.word.RawInstruction53.{RawInstruction53}

-- lopcodes.h: "All instructions have an opcode in the first 6 bits", then 'A' 8 bits, 'C' 9 bits, 'B' 9 bits;
-- 'Bx' is 'B' and 'C' together, 'Ax' all three
abbrev pub opcode_of : ℕ → ℕ
opcode_of word = bits 0 5 word

abbrev pub a_of : ℕ → ℕ
a_of word = bits 6 13 word

abbrev pub c_of : ℕ → ℕ
c_of word = bits 14 22 word

abbrev pub b_of : ℕ → ℕ
b_of word = bits 23 31 word

abbrev pub bx_of : ℕ → ℕ
bx_of word = bits 14 31 word

abbrev pub ax_of : ℕ → ℕ
ax_of word = bits 6 31 word

-- "'sBx' : signed Bx", "the unsigned value minus K", "half the maximum for the
-- corresponding unsigned argument"
abbrev pub sbx_of : ℕ → ℤ
sbx_of word = pos (bx_of word) -ℤ pos 131071

-- the word taken apart: what `decode` answers
abbrev pub fields_of : ℕ → RawInstruction53
fields_of word =
    record {
      opcode_num = opcode_of word;
      a = a_of word;
      b = b_of word;
      c = c_of word;
      bx = bx_of word;
      sbx = sbx_of word;
      ax = ax_of word;
    }
