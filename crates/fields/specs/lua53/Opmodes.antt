-- luaP_opmodes of lopcodes.c, Lua 5.3.6, row for row, in the C's own shape. `Agreement` holds the opcode
-- table's modes, and the companion of a test, against it. Its columns A, B and C say what a word's arguments
-- are, which the table of steps does not have.
-- Assumes nothing.
use Rattle.std.specs.Prelude.{ℕ, ◌≡◌, List, [], ◌∷◌, map}
use Rattle.fields.specs.lua53.Opcodes as op
use Rattle.fields.specs.lua53.Table.{
  OpMode,
  i_abc,
  i_abx,
  i_as_bx,
  i_ax,
  mode_of,
  Companion,
  alone,
  jump_after,
  extra_after,
  extra_after_unless_c,
  loop_after,
  companion_of,
}

-- enum OpArgMask
pub data OpArgMask : Type 0 where
  «OpArgN» : OpArgMask
  «OpArgU» : OpArgMask
  «OpArgR» : OpArgMask
  «OpArgK» : OpArgMask

-- opmode(t, a, b, c, m), and the opcode that the comment beside it names
pub data Opmode : Type 0 where
  opmode : ℕ → ℕ → OpArgMask → OpArgMask → OpMode → ℕ → Opmode

--     T A B C mode opcode
abbrev pub lua_p_opmodes : List Opmode
lua_p_opmodes =
    opmode 0 1 «OpArgR» «OpArgN» i_abc op.OP_MOVE
    ∷ opmode 0 1 «OpArgK» «OpArgN» i_abx op.OP_LOADK
    ∷ opmode 0 1 «OpArgN» «OpArgN» i_abx op.OP_LOADKX
    ∷ opmode 0 1 «OpArgU» «OpArgU» i_abc op.OP_LOADBOOL
    ∷ opmode 0 1 «OpArgU» «OpArgN» i_abc op.OP_LOADNIL
    ∷ opmode 0 1 «OpArgU» «OpArgN» i_abc op.OP_GETUPVAL
    ∷ opmode 0 1 «OpArgU» «OpArgK» i_abc op.OP_GETTABUP
    ∷ opmode 0 1 «OpArgR» «OpArgK» i_abc op.OP_GETTABLE
    ∷ opmode 0 0 «OpArgK» «OpArgK» i_abc op.OP_SETTABUP
    ∷ opmode 0 0 «OpArgU» «OpArgN» i_abc op.OP_SETUPVAL
    ∷ opmode 0 0 «OpArgK» «OpArgK» i_abc op.OP_SETTABLE
    ∷ opmode 0 1 «OpArgU» «OpArgU» i_abc op.OP_NEWTABLE
    ∷ opmode 0 1 «OpArgR» «OpArgK» i_abc op.OP_SELF
    ∷ opmode 0 1 «OpArgK» «OpArgK» i_abc op.OP_ADD
    ∷ opmode 0 1 «OpArgK» «OpArgK» i_abc op.OP_SUB
    ∷ opmode 0 1 «OpArgK» «OpArgK» i_abc op.OP_MUL
    ∷ opmode 0 1 «OpArgK» «OpArgK» i_abc op.OP_MOD
    ∷ opmode 0 1 «OpArgK» «OpArgK» i_abc op.OP_POW
    ∷ opmode 0 1 «OpArgK» «OpArgK» i_abc op.OP_DIV
    ∷ opmode 0 1 «OpArgK» «OpArgK» i_abc op.OP_IDIV
    ∷ opmode 0 1 «OpArgK» «OpArgK» i_abc op.OP_BAND
    ∷ opmode 0 1 «OpArgK» «OpArgK» i_abc op.OP_BOR
    ∷ opmode 0 1 «OpArgK» «OpArgK» i_abc op.OP_BXOR
    ∷ opmode 0 1 «OpArgK» «OpArgK» i_abc op.OP_SHL
    ∷ opmode 0 1 «OpArgK» «OpArgK» i_abc op.OP_SHR
    ∷ opmode 0 1 «OpArgR» «OpArgN» i_abc op.OP_UNM
    ∷ opmode 0 1 «OpArgR» «OpArgN» i_abc op.OP_BNOT
    ∷ opmode 0 1 «OpArgR» «OpArgN» i_abc op.OP_NOT
    ∷ opmode 0 1 «OpArgR» «OpArgN» i_abc op.OP_LEN
    ∷ opmode 0 1 «OpArgR» «OpArgR» i_abc op.OP_CONCAT
    ∷ opmode 0 0 «OpArgR» «OpArgN» i_as_bx op.OP_JMP
    ∷ opmode 1 0 «OpArgK» «OpArgK» i_abc op.OP_EQ
    ∷ opmode 1 0 «OpArgK» «OpArgK» i_abc op.OP_LT
    ∷ opmode 1 0 «OpArgK» «OpArgK» i_abc op.OP_LE
    ∷ opmode 1 0 «OpArgN» «OpArgU» i_abc op.OP_TEST
    ∷ opmode 1 1 «OpArgR» «OpArgU» i_abc op.OP_TESTSET
    ∷ opmode 0 1 «OpArgU» «OpArgU» i_abc op.OP_CALL
    ∷ opmode 0 1 «OpArgU» «OpArgU» i_abc op.OP_TAILCALL
    ∷ opmode 0 0 «OpArgU» «OpArgN» i_abc op.OP_RETURN
    ∷ opmode 0 1 «OpArgR» «OpArgN» i_as_bx op.OP_FORLOOP
    ∷ opmode 0 1 «OpArgR» «OpArgN» i_as_bx op.OP_FORPREP
    ∷ opmode 0 0 «OpArgN» «OpArgU» i_abc op.OP_TFORCALL
    ∷ opmode 0 1 «OpArgR» «OpArgN» i_as_bx op.OP_TFORLOOP
    ∷ opmode 0 0 «OpArgU» «OpArgU» i_abc op.OP_SETLIST
    ∷ opmode 0 1 «OpArgU» «OpArgN» i_abx op.OP_CLOSURE
    ∷ opmode 0 1 «OpArgU» «OpArgN» i_abc op.OP_VARARG
    ∷ opmode 0 0 «OpArgU» «OpArgU» i_ax op.OP_EXTRAARG
    ∷ []

-- getOpMode
abbrev pub get_op_mode : Opmode → OpMode
get_op_mode (opmode t a b c m name) = m

-- testTMode, "operator is a test (next instruction must be a jump)"
abbrev pub test_tmode : Opmode → ℕ
test_tmode (opmode t a b c m name) = t

abbrev pub named : Opmode → ℕ
named (opmode t a b c m name) = name

-- 1 for the companion that a test wants
abbrev pub wants_jump : Companion → ℕ
wants_jump jump_after = 1
wants_jump alone = 0
wants_jump extra_after = 0
wants_jump extra_after_unless_c = 0
wants_jump loop_after = 0

-- computed for all 47
pub record Agreement : Type 0 where
  -- the rows name the opcodes in their order
  pub names : map named lua_p_opmodes ≡ op.«OpCode»
  -- the mode of the opcode table
  pub modes : map get_op_mode lua_p_opmodes ≡ map mode_of op.«OpCode»
  -- a test wants a JMP after it, and no other opcode does
  pub tests : map test_tmode lua_p_opmodes ≡ map (λ o. wants_jump (companion_of o)) op.«OpCode»
