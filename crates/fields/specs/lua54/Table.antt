-- The opcode table: "for each of the 128 values one table of four columns gives the mode, the step class, the
-- companion wanted and the fallback rule". Each column is a list of rows, opcodes from the first to the last,
-- and what all others have.
-- Assumes nothing.
use Rattle.std.specs.Prelude.{ℕ, zero, suc, List, [], ◌∷◌}
use Rattle.fields.specs.Rows.{Row, row, lookup}
use Rattle.fields.specs.lua54.Opcodes as op
use Rattle.fields.specs.lua54.Events.{
  TM_INDEX,
  TM_NEWINDEX,
  TM_LEN,
  TM_UNM,
  TM_BNOT,
  TM_CONCAT,
  TM_CALL,
  TM_CLOSE,
}

-- Column 0, the mode: the Rust's OpMode54 by `mode`; unknown opcodes have none.
pub data OpMode54 : Type 0 where
  no_mode : OpMode54
  i_abc : OpMode54
  i_abx : OpMode54
  i_as_bx : OpMode54
  i_ax : OpMode54
  is_j : OpMode54

abbrev pub mode_number : OpMode54 → ℕ
mode_number no_mode = 0
mode_number i_abc = 1
mode_number i_abx = 2
mode_number i_as_bx = 3
mode_number i_ax = 4
mode_number is_j = 5

unfoldable pub mode_of : ℕ → OpMode54
mode_of =
    lookup
    (row op.OP_LOADI op.OP_LOADF i_as_bx
    ∷ row op.OP_LOADK op.OP_LOADKX i_abx
    ∷ row op.OP_JMP op.OP_JMP is_j
    ∷ row op.OP_FORLOOP op.OP_TFORPREP i_abx
    ∷ row op.OP_TFORLOOP op.OP_TFORLOOP i_abx
    ∷ row op.OP_CLOSURE op.OP_CLOSURE i_abx
    ∷ row op.OP_EXTRAARG op.OP_EXTRAARG i_ax
    ∷ row op.OP_UNKNOWN op.OP_LAST no_mode
    ∷ [])
    i_abc

-- Column 1, the step class: document 01's table of steps (RULES 2), "Next word".
pub data StepClass : Type 0 where
  -- p+1
  following : StepClass
  -- none: the function returns
  returning : StepClass
  -- p+1, p+2
  branching : StepClass
  -- p+2
  skipping : StepClass
  -- p+2 if its k is 1, else p+1
  skipping_if_k : StepClass
  -- p+1+sJ
  jumping : StepClass
  -- p+1-Bx, p+1
  looping : StepClass
  -- p+1, p+2+Bx
  preparing : StepClass
  -- p+1+Bx
  entering : StepClass
  -- none: always bad
  invalid : StepClass

abbrev pub class_number : StepClass → ℕ
class_number following = 0
class_number returning = 1
class_number branching = 2
class_number skipping = 3
class_number skipping_if_k = 4
class_number jumping = 5
class_number looping = 6
class_number preparing = 7
class_number entering = 8
class_number invalid = 9

-- Column 2, the companion wanted: document 01's table of steps (RULES 2), "Bad unless".
pub data Companion : Type 0 where
  -- nothing is asked
  alone : Companion
  -- word p+1 is 46 to 48
  metamethod_after : Companion
  -- p > 0 and word p-1 is 21 to 45
  arithmetic_before : Companion
  -- word p+1 is JMP
  jump_after : Companion
  -- word p+1 is EXTRAARG
  extra_after : Companion
  -- word p+1 is EXTRAARG, if its own k is 1
  extra_after_if_k : Companion
  -- word p+1+Bx is TFORCALL
  call_at_target : Companion
  -- word p+1 is TFORLOOP
  loop_after : Companion

abbrev pub companion_number : Companion → ℕ
companion_number alone = 0
companion_number metamethod_after = 1
companion_number arithmetic_before = 2
companion_number jump_after = 3
companion_number extra_after = 4
companion_number extra_after_if_k = 5
companion_number call_at_target = 6
companion_number loop_after = 7

-- Document 01's table of steps (RULES 2), row for row: opcodes, "Next word", "Bad unless".
abbrev pub step_table : List (Row (StepClass × Companion))
step_table =
    row op.OP_TAILCALL op.OP_RETURN1 (returning, alone)
    ∷ row op.OP_ADDI op.OP_SHR (branching, metamethod_after)
    ∷ row op.OP_MMBIN op.OP_MMBINK (following, arithmetic_before)
    ∷ row op.OP_EQ op.OP_TESTSET (branching, jump_after)
    ∷ row op.OP_LFALSESKIP op.OP_LFALSESKIP (skipping, alone)
    ∷ row op.OP_LOADKX op.OP_LOADKX (skipping, extra_after)
    ∷ row op.OP_NEWTABLE op.OP_NEWTABLE (skipping, extra_after)
    ∷ row op.OP_SETLIST op.OP_SETLIST (skipping_if_k, extra_after_if_k)
    ∷ row op.OP_JMP op.OP_JMP (jumping, alone)
    ∷ row op.OP_FORLOOP op.OP_FORLOOP (looping, alone)
    ∷ row op.OP_TFORLOOP op.OP_TFORLOOP (looping, alone)
    ∷ row op.OP_FORPREP op.OP_FORPREP (preparing, alone)
    ∷ row op.OP_TFORPREP op.OP_TFORPREP (entering, call_at_target)
    ∷ row op.OP_TFORCALL op.OP_TFORCALL (following, loop_after)
    ∷ row op.OP_EXTRAARG op.OP_EXTRAARG (invalid, alone)
    ∷ row op.OP_UNKNOWN op.OP_LAST (invalid, alone)
    ∷ []

unfoldable pub class_of : ℕ → StepClass
class_of opcode = (lookup step_table (following, alone) opcode).0

unfoldable pub companion_of : ℕ → Companion
companion_of opcode = (lookup step_table (following, alone) opcode).1

-- Column 3, the fallback rule: the metamethod that lifter.rs records, none, a fixed
-- event or the one that C names.
pub data FallbackRule : Type 0 where
  fixed : ℕ → FallbackRule
  by_c : FallbackRule
  no_fallback : FallbackRule

-- an event stands for itself; 25 is the number of `__metamethod`, so the two rules take the numbers after it
abbrev pub fallback_number : FallbackRule → ℕ
fallback_number (fixed event) = event
fallback_number by_c = 26
fallback_number no_fallback = 27

unfoldable pub fallback_of : ℕ → FallbackRule
fallback_of =
    lookup
    (row op.OP_GETTABUP op.OP_GETFIELD (fixed TM_INDEX)
    ∷ row op.OP_SETTABUP op.OP_SETFIELD (fixed TM_NEWINDEX)
    ∷ row op.OP_SELF op.OP_SELF (fixed TM_INDEX)
    ∷ row op.OP_MMBIN op.OP_MMBINK by_c
    ∷ row op.OP_UNM op.OP_UNM (fixed TM_UNM)
    ∷ row op.OP_BNOT op.OP_BNOT (fixed TM_BNOT)
    ∷ row op.OP_LEN op.OP_LEN (fixed TM_LEN)
    ∷ row op.OP_CONCAT op.OP_CONCAT (fixed TM_CONCAT)
    ∷ row op.OP_TBC op.OP_TBC (fixed TM_CLOSE)
    ∷ row op.OP_CALL op.OP_TAILCALL (fixed TM_CALL)
    ∷ [])
    no_fallback

-- the numbers of n opcodes from the given one on, four for each
abbrev pub rows_of : ℕ → ℕ → List ℕ
rows_of opcode zero = []
rows_of opcode (suc n) =
    mode_number (mode_of opcode)
    ∷ class_number (class_of opcode)
    ∷ companion_number (companion_of opcode)
    ∷ fallback_number (fallback_of opcode)
    ∷ rows_of (suc opcode) n

-- the 512 numbers of the opcode table
unfoldable pub opcode_table : List ℕ
opcode_table = rows_of 0 128
