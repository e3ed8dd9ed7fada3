-- The fields of a word as lopcodes.h of Lua 5.4.8 takes them, in the header's own shape: sizes and positions
-- added up, a mask made by shifts and complements, offsets as half of the largest argument.
-- `Agreement` says that they are document 01's.
-- Assumes nothing.
use Rattle.std.specs.Prelude.{ℕ, ◌+◌, ◌-◌, ◌≡◌, ℤ, pos, ◌-ℤ◌}
use Rattle.std.specs.Int.Bits.{bit_and}
use Rattle.fields.specs.declared.lua54.word.RawInstruction54.{RawInstruction54}
use Rattle.fields.specs.Bits.{◌shl◌, ◌shr◌, «MASK1», getarg}
use Rattle.fields.specs.lua54.Word.{fields_of}

-- sizes and positions of the arguments
abbrev SIZE_C : ℕ
SIZE_C = 8

abbrev SIZE_B : ℕ
SIZE_B = 8

abbrev SIZE_Bx : ℕ
SIZE_Bx = SIZE_C + SIZE_B + 1

abbrev SIZE_A : ℕ
SIZE_A = 8

abbrev SIZE_Ax : ℕ
SIZE_Ax = SIZE_Bx + SIZE_A

abbrev SIZE_sJ : ℕ
SIZE_sJ = SIZE_Bx + SIZE_A

abbrev SIZE_OP : ℕ
SIZE_OP = 7

abbrev POS_OP : ℕ
POS_OP = 0

abbrev POS_A : ℕ
POS_A = POS_OP + SIZE_OP

abbrev POS_k : ℕ
POS_k = POS_A + SIZE_A

abbrev POS_B : ℕ
POS_B = POS_k + 1

abbrev POS_C : ℕ
POS_C = POS_B + SIZE_B

abbrev POS_Bx : ℕ
POS_Bx = POS_k

abbrev POS_Ax : ℕ
POS_Ax = POS_A

abbrev POS_sJ : ℕ
POS_sJ = POS_A

-- the largest arguments, and the offsets of the signed ones
abbrev MAXARG_Bx : ℕ
MAXARG_Bx = (1 shl SIZE_Bx) - 1

abbrev OFFSET_sBx : ℕ
OFFSET_sBx = MAXARG_Bx shr 1

abbrev MAXARG_sJ : ℕ
MAXARG_sJ = (1 shl SIZE_sJ) - 1

abbrev OFFSET_sJ : ℕ
OFFSET_sJ = MAXARG_sJ shr 1

abbrev MAXARG_C : ℕ
MAXARG_C = (1 shl SIZE_C) - 1

abbrev OFFSET_sC : ℕ
OFFSET_sC = MAXARG_C shr 1

abbrev s_c2int : ℕ → ℤ
s_c2int i = pos i -ℤ pos OFFSET_sC

abbrev pub GET_OPCODE : ℕ → ℕ
GET_OPCODE i = bit_and (i shr POS_OP) («MASK1» SIZE_OP 0)

abbrev GETARG_A : ℕ → ℕ
GETARG_A i = getarg i POS_A SIZE_A

abbrev GETARG_B : ℕ → ℕ
GETARG_B i = getarg i POS_B SIZE_B

abbrev GETARG_sB : ℕ → ℤ
GETARG_sB i = s_c2int (GETARG_B i)

abbrev GETARG_C : ℕ → ℕ
GETARG_C i = getarg i POS_C SIZE_C

abbrev GETARG_sC : ℕ → ℤ
GETARG_sC i = s_c2int (GETARG_C i)

-- not 0 exactly if k is 1
abbrev pub TESTARG_k : ℕ → ℕ
TESTARG_k i = bit_and i (1 shl POS_k)

abbrev pub GETARG_k : ℕ → ℕ
GETARG_k i = getarg i POS_k 1

abbrev pub GETARG_Bx : ℕ → ℕ
GETARG_Bx i = getarg i POS_Bx SIZE_Bx

abbrev GETARG_Ax : ℕ → ℕ
GETARG_Ax i = getarg i POS_Ax SIZE_Ax

abbrev GETARG_sBx : ℕ → ℤ
GETARG_sBx i = pos (getarg i POS_Bx SIZE_Bx) -ℤ pos OFFSET_sBx

abbrev pub GETARG_sJ : ℕ → ℤ
GETARG_sJ i = pos (getarg i POS_sJ SIZE_sJ) -ℤ pos OFFSET_sJ

-- the word taken apart by the header's macros
abbrev pub instruction : ℕ → RawInstruction54
instruction i =
    record {
      opcode_num = GET_OPCODE i;
      a = GETARG_A i;
      k = GETARG_k i;
      b = GETARG_B i;
      sb = GETARG_sB i;
      c = GETARG_C i;
      sc = GETARG_sC i;
      bx = GETARG_Bx i;
      sbx = GETARG_sBx i;
      ax = GETARG_Ax i;
      sj = GETARG_sJ i;
    }

-- demand 2: "Word fields .. are proved equal to lopcodes.h", at every 32-bit word, and at every other number
abbrev pub Agreement : Type 0
Agreement = (word : ℕ) → instruction word ≡ fields_of word
