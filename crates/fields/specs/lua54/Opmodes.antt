-- luaP_opmodes of lopcodes.c, Lua 5.4.8, row for row, in the C's own shape. `Agreement` holds the opcode
-- table's modes, and two of its companions, against it.
-- Assumes nothing.
use Rattle.std.specs.Prelude.{ℕ, ◌≡◌, List, [], ◌∷◌, map}
use Rattle.fields.specs.lua54.Opcodes as op
use Rattle.fields.specs.lua54.Table.{
  OpMode54,
  i_abc,
  i_abx,
  i_as_bx,
  i_ax,
  is_j,
  mode_of,
  Companion,
  alone,
  metamethod_after,
  arithmetic_before,
  jump_after,
  extra_after,
  extra_after_if_k,
  call_at_target,
  loop_after,
  companion_of,
}

-- opmode(mm, ot, it, t, a, m), and the opcode that the comment beside it names
pub data Opmode : Type 0 where
  opmode : ℕ → ℕ → ℕ → ℕ → ℕ → OpMode54 → ℕ → Opmode

--     MM OT IT T A mode opcode
abbrev pub lua_p_opmodes : List Opmode
lua_p_opmodes =
    opmode 0 0 0 0 1 i_abc op.OP_MOVE
    ∷ opmode 0 0 0 0 1 i_as_bx op.OP_LOADI
    ∷ opmode 0 0 0 0 1 i_as_bx op.OP_LOADF
    ∷ opmode 0 0 0 0 1 i_abx op.OP_LOADK
    ∷ opmode 0 0 0 0 1 i_abx op.OP_LOADKX
    ∷ opmode 0 0 0 0 1 i_abc op.OP_LOADFALSE
    ∷ opmode 0 0 0 0 1 i_abc op.OP_LFALSESKIP
    ∷ opmode 0 0 0 0 1 i_abc op.OP_LOADTRUE
    ∷ opmode 0 0 0 0 1 i_abc op.OP_LOADNIL
    ∷ opmode 0 0 0 0 1 i_abc op.OP_GETUPVAL
    ∷ opmode 0 0 0 0 0 i_abc op.OP_SETUPVAL
    ∷ opmode 0 0 0 0 1 i_abc op.OP_GETTABUP
    ∷ opmode 0 0 0 0 1 i_abc op.OP_GETTABLE
    ∷ opmode 0 0 0 0 1 i_abc op.OP_GETI
    ∷ opmode 0 0 0 0 1 i_abc op.OP_GETFIELD
    ∷ opmode 0 0 0 0 0 i_abc op.OP_SETTABUP
    ∷ opmode 0 0 0 0 0 i_abc op.OP_SETTABLE
    ∷ opmode 0 0 0 0 0 i_abc op.OP_SETI
    ∷ opmode 0 0 0 0 0 i_abc op.OP_SETFIELD
    ∷ opmode 0 0 0 0 1 i_abc op.OP_NEWTABLE
    ∷ opmode 0 0 0 0 1 i_abc op.OP_SELF
    ∷ opmode 0 0 0 0 1 i_abc op.OP_ADDI
    ∷ opmode 0 0 0 0 1 i_abc op.OP_ADDK
    ∷ opmode 0 0 0 0 1 i_abc op.OP_SUBK
    ∷ opmode 0 0 0 0 1 i_abc op.OP_MULK
    ∷ opmode 0 0 0 0 1 i_abc op.OP_MODK
    ∷ opmode 0 0 0 0 1 i_abc op.OP_POWK
    ∷ opmode 0 0 0 0 1 i_abc op.OP_DIVK
    ∷ opmode 0 0 0 0 1 i_abc op.OP_IDIVK
    ∷ opmode 0 0 0 0 1 i_abc op.OP_BANDK
    ∷ opmode 0 0 0 0 1 i_abc op.OP_BORK
    ∷ opmode 0 0 0 0 1 i_abc op.OP_BXORK
    ∷ opmode 0 0 0 0 1 i_abc op.OP_SHRI
    ∷ opmode 0 0 0 0 1 i_abc op.OP_SHLI
    ∷ opmode 0 0 0 0 1 i_abc op.OP_ADD
    ∷ opmode 0 0 0 0 1 i_abc op.OP_SUB
    ∷ opmode 0 0 0 0 1 i_abc op.OP_MUL
    ∷ opmode 0 0 0 0 1 i_abc op.OP_MOD
    ∷ opmode 0 0 0 0 1 i_abc op.OP_POW
    ∷ opmode 0 0 0 0 1 i_abc op.OP_DIV
    ∷ opmode 0 0 0 0 1 i_abc op.OP_IDIV
    ∷ opmode 0 0 0 0 1 i_abc op.OP_BAND
    ∷ opmode 0 0 0 0 1 i_abc op.OP_BOR
    ∷ opmode 0 0 0 0 1 i_abc op.OP_BXOR
    ∷ opmode 0 0 0 0 1 i_abc op.OP_SHL
    ∷ opmode 0 0 0 0 1 i_abc op.OP_SHR
    ∷ opmode 1 0 0 0 0 i_abc op.OP_MMBIN
    ∷ opmode 1 0 0 0 0 i_abc op.OP_MMBINI
    ∷ opmode 1 0 0 0 0 i_abc op.OP_MMBINK
    ∷ opmode 0 0 0 0 1 i_abc op.OP_UNM
    ∷ opmode 0 0 0 0 1 i_abc op.OP_BNOT
    ∷ opmode 0 0 0 0 1 i_abc op.OP_NOT
    ∷ opmode 0 0 0 0 1 i_abc op.OP_LEN
    ∷ opmode 0 0 0 0 1 i_abc op.OP_CONCAT
    ∷ opmode 0 0 0 0 0 i_abc op.OP_CLOSE
    ∷ opmode 0 0 0 0 0 i_abc op.OP_TBC
    ∷ opmode 0 0 0 0 0 is_j op.OP_JMP
    ∷ opmode 0 0 0 1 0 i_abc op.OP_EQ
    ∷ opmode 0 0 0 1 0 i_abc op.OP_LT
    ∷ opmode 0 0 0 1 0 i_abc op.OP_LE
    ∷ opmode 0 0 0 1 0 i_abc op.OP_EQK
    ∷ opmode 0 0 0 1 0 i_abc op.OP_EQI
    ∷ opmode 0 0 0 1 0 i_abc op.OP_LTI
    ∷ opmode 0 0 0 1 0 i_abc op.OP_LEI
    ∷ opmode 0 0 0 1 0 i_abc op.OP_GTI
    ∷ opmode 0 0 0 1 0 i_abc op.OP_GEI
    ∷ opmode 0 0 0 1 0 i_abc op.OP_TEST
    ∷ opmode 0 0 0 1 1 i_abc op.OP_TESTSET
    ∷ opmode 0 1 1 0 1 i_abc op.OP_CALL
    ∷ opmode 0 1 1 0 1 i_abc op.OP_TAILCALL
    ∷ opmode 0 0 1 0 0 i_abc op.OP_RETURN
    ∷ opmode 0 0 0 0 0 i_abc op.OP_RETURN0
    ∷ opmode 0 0 0 0 0 i_abc op.OP_RETURN1
    ∷ opmode 0 0 0 0 1 i_abx op.OP_FORLOOP
    ∷ opmode 0 0 0 0 1 i_abx op.OP_FORPREP
    ∷ opmode 0 0 0 0 0 i_abx op.OP_TFORPREP
    ∷ opmode 0 0 0 0 0 i_abc op.OP_TFORCALL
    ∷ opmode 0 0 0 0 1 i_abx op.OP_TFORLOOP
    ∷ opmode 0 0 1 0 0 i_abc op.OP_SETLIST
    ∷ opmode 0 0 0 0 1 i_abx op.OP_CLOSURE
    ∷ opmode 0 1 0 0 1 i_abc op.OP_VARARG
    ∷ opmode 0 0 1 0 1 i_abc op.OP_VARARGPREP
    ∷ opmode 0 0 0 0 0 i_ax op.OP_EXTRAARG
    ∷ []

-- getOpMode
abbrev pub get_op_mode : Opmode → OpMode54
get_op_mode (opmode mm ot it t a m name) = m

-- testTMode, "operator is a test (next instruction must be a jump)"
abbrev pub test_tmode : Opmode → ℕ
test_tmode (opmode mm ot it t a m name) = t

-- testMMMode, "instruction is an MM instruction (call a metamethod)"
abbrev pub test_mmmode : Opmode → ℕ
test_mmmode (opmode mm ot it t a m name) = mm

abbrev pub named : Opmode → ℕ
named (opmode mm ot it t a m name) = name

-- 1 for the companion that a test wants, and for the one that a metamethod word wants
abbrev pub wants_jump : Companion → ℕ
wants_jump jump_after = 1
wants_jump alone = 0
wants_jump metamethod_after = 0
wants_jump arithmetic_before = 0
wants_jump extra_after = 0
wants_jump extra_after_if_k = 0
wants_jump call_at_target = 0
wants_jump loop_after = 0

abbrev pub wants_arithmetic : Companion → ℕ
wants_arithmetic arithmetic_before = 1
wants_arithmetic alone = 0
wants_arithmetic metamethod_after = 0
wants_arithmetic jump_after = 0
wants_arithmetic extra_after = 0
wants_arithmetic extra_after_if_k = 0
wants_arithmetic call_at_target = 0
wants_arithmetic loop_after = 0

-- computed for all 83
pub record Agreement : Type 0 where
  -- the rows name the opcodes in their order
  pub names : map named lua_p_opmodes ≡ op.«OpCode»
  -- column 0 of the opcode table is the mode
  pub modes : map get_op_mode lua_p_opmodes ≡ map mode_of op.«OpCode»
  -- a test wants a JMP after it, and no other opcode does
  pub tests : map test_tmode lua_p_opmodes ≡ map (λ o. wants_jump (companion_of o)) op.«OpCode»
  -- a metamethod word wants an arithmetic word before it, and no other opcode does
  pub metamethods : map test_mmmode lua_p_opmodes ≡ map (λ o. wants_arithmetic (companion_of o)) op.«OpCode»
