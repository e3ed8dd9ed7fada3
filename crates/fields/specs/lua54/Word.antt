-- Document 01, "Word fields", RULES 1: the fields of a word.
-- Assumes nothing.
use Rattle.std.specs.Prelude.{ℕ, ℤ, pos, ◌-ℤ◌}
use Rattle.fields.specs.Bits.{bits}
use Rattle.fields.specs.declared.lua54.word.RawInstruction54.{RawInstruction54}

-- "Opcode is bits 0 to 6, A 7 to 14, k 15, B 16 to 23, C 24 to 31, Bx 15 to 31, Ax 7 to 31"
abbrev pub opcode_of : ℕ → ℕ
opcode_of word = bits 0 6 word

abbrev pub a_of : ℕ → ℕ
a_of word = bits 7 14 word

abbrev pub k_of : ℕ → ℕ
k_of word = bits 15 15 word

abbrev pub b_of : ℕ → ℕ
b_of word = bits 16 23 word

abbrev pub c_of : ℕ → ℕ
c_of word = bits 24 31 word

abbrev pub bx_of : ℕ → ℕ
bx_of word = bits 15 31 word

abbrev pub ax_of : ℕ → ℕ
ax_of word = bits 7 31 word

-- "Signed: sB = B - 127, sC = C - 127, sBx = Bx - 65,535, sJ = Ax - 16,777,215"
abbrev pub sb_of : ℕ → ℤ
sb_of word = pos (b_of word) -ℤ pos 127

abbrev pub sc_of : ℕ → ℤ
sc_of word = pos (c_of word) -ℤ pos 127

abbrev pub sbx_of : ℕ → ℤ
sbx_of word = pos (bx_of word) -ℤ pos 65535

abbrev pub sj_of : ℕ → ℤ
sj_of word = pos (ax_of word) -ℤ pos 16777215

-- the word taken apart: what `decode` answers
abbrev pub fields_of : ℕ → RawInstruction54
fields_of word =
    record {
      opcode_num = opcode_of word;
      a = a_of word;
      k = k_of word;
      b = b_of word;
      sb = sb_of word;
      c = c_of word;
      sc = sc_of word;
      bx = bx_of word;
      sbx = sbx_of word;
      ax = ax_of word;
      sj = sj_of word;
    }
