-- The opcode table of Lua 5.3.6 (request C-24): for each of the 64 values the mode, the step class and the
-- companion wanted. No Rust records exist for these words, and so no fallback rule.
-- Assumes nothing.
use Rattle.std.specs.Prelude.{ℕ, ◌+◌, ◌*◌, List, [], ◌∷◌}
use Rattle.fields.specs.lua53.Opcodes as op
use Rattle.fields.specs.Rows.{Row, row, lookup}

-- Column 0, the mode: enum OpMode; unknown opcodes have none.
pub data OpMode : Type 0 where
  no_mode : OpMode
  i_abc : OpMode
  i_abx : OpMode
  i_as_bx : OpMode
  i_ax : OpMode

abbrev pub mode_number : OpMode → ℕ
mode_number no_mode = 0
mode_number i_abc = 1
mode_number i_abx = 2
mode_number i_as_bx = 3
mode_number i_ax = 4

unfoldable pub mode_of : ℕ → OpMode
mode_of =
    lookup
    (row op.OP_LOADK op.OP_LOADKX i_abx
    ∷ row op.OP_JMP op.OP_JMP i_as_bx
    ∷ row op.OP_FORLOOP op.OP_FORPREP i_as_bx
    ∷ row op.OP_TFORLOOP op.OP_TFORLOOP i_as_bx
    ∷ row op.OP_CLOSURE op.OP_CLOSURE i_abx
    ∷ row op.OP_EXTRAARG op.OP_EXTRAARG i_ax
    ∷ row op.OP_UNKNOWN op.OP_LAST no_mode
    ∷ [])
    i_abc

-- Column 1, the step class: where control goes after a word that is not bad.
pub data StepClass : Type 0 where
  -- p+1
  following : StepClass
  -- none: the function returns
  returning : StepClass
  -- p+1, p+2
  branching : StepClass
  -- p+1, p+2, but p+2 alone if its A is above 1
  comparing : StepClass
  -- p+2
  skipping : StepClass
  -- p+2 unless its C is 0, then p+1
  skipping_if_c : StepClass
  -- p+2 if its C is 0, else p+1
  skipping_unless_c : StepClass
  -- p+1+sBx
  jumping : StepClass
  -- p+1+sBx, p+1
  looping : StepClass
  -- none: always bad
  invalid : StepClass

abbrev pub class_number : StepClass → ℕ
class_number following = 0
class_number returning = 1
class_number branching = 2
class_number comparing = 3
class_number skipping = 4
class_number skipping_if_c = 5
class_number skipping_unless_c = 6
class_number jumping = 7
class_number looping = 8
class_number invalid = 9

-- Column 2, the companion wanted: a word without it is bad.
pub data Companion : Type 0 where
  -- nothing is asked
  alone : Companion
  -- "a test .. without JMP after it"
  jump_after : Companion
  -- "LOADKX .. without EXTRAARG after it"
  extra_after : Companion
  -- "SETLIST with C 0 without EXTRAARG after it"
  extra_after_unless_c : Companion
  -- "TFORCALL without TFORLOOP after it"
  loop_after : Companion

abbrev pub companion_number : Companion → ℕ
companion_number alone = 0
companion_number jump_after = 1
companion_number extra_after = 2
companion_number extra_after_unless_c = 3
companion_number loop_after = 4

-- "Bad there are EXTRAARG, opcodes 47 to 63, .. a test (EQ, LT, LE, TEST, TESTSET) without JMP after it,
-- LOADKX or SETLIST with C 0 without EXTRAARG after it, and TFORCALL without TFORLOOP after it." CALL and
-- "TAILCALL step[..] to p+1, where a C function returns", as all others do.
abbrev pub step_table : List (Row (StepClass × Companion))
step_table =
    row op.OP_RETURN op.OP_RETURN (returning, alone)
    ∷ row op.OP_EQ op.OP_LE (comparing, jump_after)
    ∷ row op.OP_TEST op.OP_TESTSET (branching, jump_after)
    ∷ row op.OP_LOADKX op.OP_LOADKX (skipping, extra_after)
    ∷ row op.OP_LOADBOOL op.OP_LOADBOOL (skipping_if_c, alone)
    ∷ row op.OP_SETLIST op.OP_SETLIST (skipping_unless_c, extra_after_unless_c)
    ∷ row op.OP_JMP op.OP_JMP (jumping, alone)
    ∷ row op.OP_FORPREP op.OP_FORPREP (jumping, alone)
    ∷ row op.OP_FORLOOP op.OP_FORLOOP (looping, alone)
    ∷ row op.OP_TFORLOOP op.OP_TFORLOOP (looping, alone)
    ∷ row op.OP_TFORCALL op.OP_TFORCALL (following, loop_after)
    ∷ row op.OP_EXTRAARG op.OP_EXTRAARG (invalid, alone)
    ∷ row op.OP_UNKNOWN op.OP_LAST (invalid, alone)
    ∷ []

unfoldable pub class_of : ℕ → StepClass
class_of opcode = (lookup step_table (following, alone) opcode).0

unfoldable pub companion_of : ℕ → Companion
companion_of opcode = (lookup step_table (following, alone) opcode).1

-- the columns as bytes, which the code packs: the companion and the step class of an
-- opcode in one, and the mode
abbrev pub companion_and_class : ℕ → ℕ
companion_and_class opcode = companion_number (companion_of opcode) * 16 + class_number (class_of opcode)

abbrev pub mode_byte : ℕ → ℕ
mode_byte opcode = mode_number (mode_of opcode)
