-- The fields of a word as lopcodes.h of Lua 5.3.6 takes them, in the header's own shape. C's operators, MASK1
-- and getarg are as in 5.4.8 (specs/Bits.antt); sizes and positions are not. `Agreement` says that they are
-- those of Word.antt.
-- Assumes nothing.
use Rattle.std.specs.Prelude.{ℕ, ◌+◌, ◌-◌, ◌≡◌, ℤ, pos, ◌-ℤ◌}
use Rattle.std.specs.Int.Bits.{bit_and}
use Rattle.fields.specs.declared.lua53.word.RawInstruction53.{RawInstruction53}
use Rattle.fields.specs.Bits.{◌shl◌, ◌shr◌, «MASK1», getarg}
use Rattle.fields.specs.lua53.Word.{fields_of}

-- size and position of opcode arguments
abbrev SIZE_C : ℕ
SIZE_C = 9

abbrev pub SIZE_B : ℕ
SIZE_B = 9

abbrev SIZE_Bx : ℕ
SIZE_Bx = SIZE_C + SIZE_B

abbrev SIZE_A : ℕ
SIZE_A = 8

abbrev SIZE_Ax : ℕ
SIZE_Ax = SIZE_C + SIZE_B + SIZE_A

abbrev SIZE_OP : ℕ
SIZE_OP = 6

abbrev POS_OP : ℕ
POS_OP = 0

abbrev POS_A : ℕ
POS_A = POS_OP + SIZE_OP

abbrev POS_C : ℕ
POS_C = POS_A + SIZE_A

abbrev POS_B : ℕ
POS_B = POS_C + SIZE_C

abbrev POS_Bx : ℕ
POS_Bx = POS_C

abbrev POS_Ax : ℕ
POS_Ax = POS_A

-- limits for opcode arguments, where SIZE_Bx < LUAI_BITSINT-1
abbrev MAXARG_Bx : ℕ
MAXARG_Bx = (1 shl SIZE_Bx) - 1

abbrev MAXARG_sBx : ℕ
MAXARG_sBx = MAXARG_Bx shr 1

abbrev pub GET_OPCODE : ℕ → ℕ
GET_OPCODE i = bit_and (i shr POS_OP) («MASK1» SIZE_OP 0)

abbrev pub GETARG_A : ℕ → ℕ
GETARG_A i = getarg i POS_A SIZE_A

abbrev pub GETARG_B : ℕ → ℕ
GETARG_B i = getarg i POS_B SIZE_B

abbrev pub GETARG_C : ℕ → ℕ
GETARG_C i = getarg i POS_C SIZE_C

abbrev pub GETARG_Bx : ℕ → ℕ
GETARG_Bx i = getarg i POS_Bx SIZE_Bx

abbrev pub GETARG_Ax : ℕ → ℕ
GETARG_Ax i = getarg i POS_Ax SIZE_Ax

abbrev pub GETARG_sBx : ℕ → ℤ
GETARG_sBx i = pos (GETARG_Bx i) -ℤ pos MAXARG_sBx

-- the word taken apart by the header's macros
abbrev pub instruction : ℕ → RawInstruction53
instruction i =
    record {
      opcode_num = GET_OPCODE i;
      a = GETARG_A i;
      b = GETARG_B i;
      c = GETARG_C i;
      bx = GETARG_Bx i;
      sbx = GETARG_sBx i;
      ax = GETARG_Ax i;
    }

-- at every 32-bit word, and at every other number
abbrev pub Agreement : Type 0
Agreement = (word : ℕ) → instruction word ≡ fields_of word
