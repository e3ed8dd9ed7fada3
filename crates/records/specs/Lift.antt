-- Document 01, "Records", RULES 10: the record of a word. A refinement of the original: lift_instruction_54
-- of lifter.rs, whose behaviour it is, with its corners. Which arm an opcode takes stands in crate dispatch,
-- the arms themselves in crates families and objects. The fallback comes from the opcode table's fourth
-- column, which is the Rust's; of the columns that are Lua's a record takes nothing.
-- Assumes nothing.
use Rattle.std.specs.Prelude.{ℕ, ◌+◌, ◌-◌, List, eqb, leb, get_or, Option, Some, None}
use Rattle.fields.specs.lua54.Opcodes as op
use Rattle.fields.specs.lua54.Word.{fields_of, opcode_of, c_of}
use Rattle.fields.specs.lua54.Table.{FallbackRule, fixed, by_c, no_fallback, fallback_of}
use Rattle.values.specs.declared.ir.Confidence.{Confidence}
use Rattle.values.specs.declared.ir.Confidence.TheVariants.{Reviewed, Unverified}
use Rattle.values.specs.declared.ir.SemanticInstruction.{SemanticInstruction}
use Rattle.common.specs.Chain.{choose}
use Rattle.builders.specs.declared.builders.Body.{Body}
use Rattle.builders.specs.Parts.{event_of}
use Rattle.dispatch.specs.Dispatch.{record_body}

-- What stands beside the arms

-- the fallback column: none, a fixed event, or the event that lifter.rs's tm_name gives for C
abbrev pub fallback_by : FallbackRule → ℕ → Option ℕ
fallback_by (fixed event) c = Some event
fallback_by by_c c = Some (event_of c)
fallback_by no_fallback c = None

-- "EXTRAARG and 46 to 48 have no companion at word 0": elsewhere it is the word before
unfoldable pub before : ℕ → Option ℕ
before pc = choose (eqb pc 0) None (Some (pc - 1))

-- the word that lifter.rs names as a record's companion: the EXTRAARG that LOADKX takes, there or
-- not; the word before 46 to 48 and EXTRAARG; and no other opcode has one (NEWTABLE's EXTRAARG is
-- "unmentioned"). What lvm.c wants beside a word is another matter: it stands in the opcode table, and no
-- record takes it from there.
unfoldable pub companion_pc : ℕ → ℕ → Option ℕ
companion_pc opcode pc =
    choose (eqb opcode op.OP_LOADKX) (Some (pc + 1))
    (choose (eqb opcode op.OP_MMBIN) (before pc)
    (choose (eqb opcode op.OP_MMBINI) (before pc)
    (choose (eqb opcode op.OP_MMBINK) (before pc) (choose (eqb opcode op.OP_EXTRAARG) (before pc) None))))

-- "Confidence is Unverified exactly for opcodes above 82"
unfoldable pub confidence_of : ℕ → Confidence
confidence_of opcode = choose (leb opcode op.OP_EXTRAARG) Reviewed Unverified

-- The record

abbrev pub record_of : ℕ → ℕ → Body → SemanticInstruction
record_of pc word body =
    record {
      pc = pc;
      raw_word = word;
      opcode = opcode_of word;
      operands = body.operands;
      reads = body.reads;
      writes = body.writes;
      implicit_effect = body.implicit_effect;
      metamethod_fallback = fallback_by (fallback_of (opcode_of word)) (c_of word);
      jump_target = body.jump_target;
      companion_pc = companion_pc (opcode_of word) pc;
      confidence = confidence_of (opcode_of word);
    }

abbrev pub lift_word_of : List ℕ → List ℕ → List ℕ → List ℕ → ℕ → ℕ → SemanticInstruction
lift_word_of words tags payloads names pc word =
    record_of pc word (record_body words tags payloads names pc word (fields_of word) (opcode_of word))

-- the record of word pc
unfoldable pub lift_of : List ℕ → List ℕ → List ℕ → List ℕ → ℕ → SemanticInstruction
lift_of words tags payloads names pc = lift_word_of words tags payloads names pc (get_or words pc 0)
