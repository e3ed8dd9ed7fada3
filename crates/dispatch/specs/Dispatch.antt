-- Document 01, "Records", RULES 10: which arm of lifter.rs an opcode takes, as lift_instruction_54 has it,
-- with its corners. The arms themselves stand in crates families and objects.
-- Assumes nothing.
use Rattle.std.specs.Prelude.{ℕ, ◌+◌, ◌-◌, ◌^◌, true, false, List, eqb, leb, ltb, ℤ, pos, negsuc, ◌+ℤ◌}
use Rattle.std.specs.Prelude.{neg_ℤ, length, get_or, Some, None}
use Rattle.std.specs.Float.{binary64}
use Rattle.std.specs.Float.Ieee.{of_int}
use Rattle.fields.specs.declared.lua54.word.RawInstruction54.{RawInstruction54}
use Rattle.fields.specs.lua54.Opcodes as op
use Rattle.fields.specs.lua54.Word.{opcode_of, bx_of, ax_of, sj_of}
use Rattle.values.specs.declared.ir.TypedOperand.TheVariants as O
use Rattle.values.specs.declared.ir.ImplicitEffect.TheVariants.{ConditionalSkip, CompanionPair}
use Rattle.values.specs.declared.ir.CompanionRole.TheVariants as role
use Rattle.common.specs.Chain.{choose}
use Rattle.builders.specs.declared.builders.Body.{Body}
use Rattle.families.specs.Families as F
use Rattle.objects.specs.Objects as objects

-- What arms work out from pc

-- "LOADKX without EXTRAARG after it uses constant 0": else the Ax of the EXTRAARG that it wants
unfoldable pub extended_index : List ℕ → ℕ → ℕ
extended_index words pc =
    choose (ltb (pc + 1) (length words))
    (choose (eqb (opcode_of (get_or words (pc + 1) 0)) op.OP_EXTRAARG) (ax_of (get_or words (pc + 1) 0)) 0)
    0

-- "A JMP target below 0 becomes 2^64 plus it"
unfoldable pub wrap : ℤ → ℕ
wrap (pos n) = n
wrap (negsuc n) = 2 ^ 64 - (n + 1)

abbrev pub jmp_target : ℕ → ℕ → ℕ
jmp_target pc word = wrap (pos (pc + 1) +ℤ sj_of word)

-- Forprep, Tforprep: ahead by Bx
abbrev pub ahead : ℕ → ℕ → RawInstruction54 → Body
ahead pc word raw = objects.loop_jump raw (pos (bx_of word)) (pc + 1 + bx_of word)

-- Forloop, Tforloop: back by Bx. "FORLOOP and TFORLOOP targets stop at 0", as a difference of ℕ does.
abbrev pub back : ℕ → ℕ → RawInstruction54 → Body
back pc word raw = objects.loop_jump raw (neg_ℤ (pos (bx_of word))) (pc + 1 - bx_of word)

-- Which arm an opcode takes, a group of opcodes at a time

-- up to LOADNIL
unfoldable pub loads : List ℕ → List ℕ → List ℕ → ℕ → RawInstruction54 → ℕ → Body
loads words tags payloads pc raw opcode =
    choose (eqb opcode op.OP_MOVE) (F.unary raw)
    (choose (eqb opcode op.OP_LOADI) (F.load raw (O.ImmediateInt raw.sbx) None)
    (choose (eqb opcode op.OP_LOADF) (F.load raw (O.ImmediateFloat (of_int binary64 raw.sbx)) None)
    (choose (eqb opcode op.OP_LOADK) (F.load_constant_body tags payloads raw raw.bx None)
    (choose (eqb opcode op.OP_LOADKX)
    (F.load_constant_body tags payloads raw (extended_index words pc)
    (Some (CompanionPair (pc + 1) role.ExtraArg)))
    (choose (eqb opcode op.OP_LOADFALSE) (F.load raw (O.Flag false) None)
    (choose (eqb opcode op.OP_LFALSESKIP) (F.load raw (O.Flag false) (Some (ConditionalSkip (pc + 2))))
    (choose (eqb opcode op.OP_LOADTRUE) (F.load raw (O.Flag true) None)
    -- LOADNIL
    (F.loadnil raw))))))))

-- GETUPVAL to SELF
unfoldable pub tables : List ℕ → List ℕ → List ℕ → RawInstruction54 → ℕ → Body
tables tags payloads names raw opcode =
    choose (eqb opcode op.OP_GETUPVAL) (objects.getupval names raw)
    (choose (eqb opcode op.OP_SETUPVAL) (objects.setupval names raw)
    (choose (eqb opcode op.OP_GETTABUP) (objects.gettabup tags payloads names raw)
    (choose (eqb opcode op.OP_GETTABLE) (objects.three_registers raw)
    (choose (eqb opcode op.OP_GETI) (objects.with_immediate raw (O.ImmediateInt (pos raw.c)))
    (choose (eqb opcode op.OP_GETFIELD) (objects.with_constant tags payloads raw)
    (choose (eqb opcode op.OP_SETTABUP) (objects.settabup tags payloads names raw)
    (choose (eqb opcode op.OP_SETTABLE) (objects.settable tags payloads raw)
    (choose (eqb opcode op.OP_SETI) (objects.seti tags payloads raw)
    (choose (eqb opcode op.OP_SETFIELD) (objects.setfield tags payloads raw)
    (choose (eqb opcode op.OP_NEWTABLE) (objects.newtable raw)
    -- SELF
    (objects.self_op tags payloads raw)))))))))))

-- ADDI to CONCAT
unfoldable pub arithmetic : List ℕ → List ℕ → ℕ → RawInstruction54 → ℕ → Body
arithmetic tags payloads pc raw opcode =
    choose (eqb opcode op.OP_ADDI) (objects.with_immediate raw (O.ImmediateInt raw.sc))
    -- ADDK to BXORK
    (choose (leb opcode op.OP_BXORK) (objects.with_constant tags payloads raw)
    -- SHRI, SHLI
    (choose (leb opcode op.OP_SHLI) (objects.with_immediate raw (O.ImmediateInt raw.sc))
    -- ADD to SHR
    (choose (leb opcode op.OP_SHR) (objects.three_registers raw)
    (choose (eqb opcode op.OP_MMBINI) (F.mmbini pc raw)
    -- MMBIN, MMBINK
    (choose (leb opcode op.OP_MMBINK) (F.mmbin pc raw)
    -- UNM, BNOT, NOT, LEN
    (choose (leb opcode op.OP_LEN) (F.unary raw)
    -- CONCAT
    (F.concat raw)))))))

-- CLOSE to TESTSET
unfoldable pub control : ℕ → ℕ → RawInstruction54 → ℕ → Body
control pc word raw opcode =
    choose (eqb opcode op.OP_CLOSE) (F.close raw)
    (choose (eqb opcode op.OP_TBC) (F.tbc raw)
    (choose (eqb opcode op.OP_JMP) (F.jmp raw (jmp_target pc word))
    -- EQ, LT, LE, EQK
    (choose (leb opcode op.OP_EQK) (F.bare (Some (ConditionalSkip (pc + 2))))
    -- EQI, LTI, LEI, GTI, GEI
    (choose (leb opcode op.OP_GEI) (F.test_immediate raw (pc + 2))
    -- TEST, TESTSET
    (F.bare (Some (ConditionalSkip (pc + 2))))))))

-- CALL to EXTRAARG, and unknown opcodes: "then operands, effects, fallback, target and companion are empty"
unfoldable pub calls : ℕ → ℕ → RawInstruction54 → ℕ → Body
calls pc word raw opcode =
    choose (eqb opcode op.OP_CALL) (objects.call raw)
    (choose (eqb opcode op.OP_TAILCALL) (objects.tailcall raw)
    (choose (eqb opcode op.OP_RETURN) (objects.return raw)
    (choose (eqb opcode op.OP_RETURN0) (F.bare None)
    (choose (eqb opcode op.OP_RETURN1) (objects.return1 raw)
    (choose (eqb opcode op.OP_FORLOOP) (back pc word raw)
    (choose (eqb opcode op.OP_FORPREP) (ahead pc word raw)
    (choose (eqb opcode op.OP_TFORPREP) (ahead pc word raw)
    (choose (eqb opcode op.OP_TFORCALL) (objects.tforcall raw)
    (choose (eqb opcode op.OP_TFORLOOP) (back pc word raw)
    (choose (eqb opcode op.OP_SETLIST) (objects.setlist raw)
    (choose (eqb opcode op.OP_CLOSURE) (objects.closure raw)
    (choose (eqb opcode op.OP_VARARG) (objects.vararg raw)
    (choose (eqb opcode op.OP_VARARGPREP) (objects.varargprep raw)
    (choose (eqb opcode op.OP_EXTRAARG) (objects.extraarg raw)
    -- unknown
    (F.bare None)))))))))))))))

unfoldable pub record_body : List ℕ → List ℕ → List ℕ → List ℕ → ℕ → ℕ → RawInstruction54 → ℕ → Body
record_body words tags payloads names pc word raw opcode =
    choose (leb opcode op.OP_LOADNIL) (loads words tags payloads pc raw opcode)
    (choose (leb opcode op.OP_SELF) (tables tags payloads names raw opcode)
    (choose (leb opcode op.OP_CONCAT) (arithmetic tags payloads pc raw opcode)
    (choose (leb opcode op.OP_TESTSET) (control pc word raw opcode) (calls pc word raw opcode))))
