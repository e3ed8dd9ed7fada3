-- Document 01, "Bench cases": those marked P, in its order, shown for the definitions by one theorem over
-- their list; what "Records" says of the Rust; and cases of request C-24, of words of Lua 5.3.6 as numbers.
-- Assumes nothing.
use Rattle.std.specs.Prelude.{ℕ, ◌≡◌, Bool, true, false, List, [], ◌∷◌, ◌++◌, ℤ, pos, length, replicate}
use Rattle.std.specs.Prelude.{Option, Some, None}
use Rattle.common.specs.Limits.{heaviest_weight}
use Rattle.runs.specs.Weights.{weight_count}
use Rattle.fields.specs.lua54.Opcodes.{OP_MOVE, OP_LOADI, OP_FORLOOP}
use Rattle.fields.specs.lua54.Events.{TM_ADD}
use Rattle.fields.specs.lua54.Word.{opcode_of, a_of, sbx_of}
use Rattle.fields.specs.declared.version.Version.TheVariants.{Lua53}
use Rattle.sweep.specs.declared.edges.Successors.{Successors}
use Rattle.sweep.specs.declared.edges.Successors.TheVariants.{Invalid, Stop, One, Two}
use Rattle.runs.specs.Script.{lua54, script_of}
use Rattle.sweep.specs.Steps.{serves_of}
use Rattle.steps.specs.lua54.Successors.{successors_of}
use Rattle.steps.specs.lua53.Successors.{successors_of as successors_of_53}
use Rattle.runs.specs.Run.{accepted_run, number_of, place_of, run_of}
use Rattle.runs.specs.Counted.{ones}
use Rattle.values.specs.declared.ir.TypedOperand.{TypedOperand}
use Rattle.values.specs.declared.ir.TypedOperand.TheVariants as O
use Rattle.values.specs.declared.ir.EffectTarget.{EffectTarget}
use Rattle.values.specs.declared.ir.EffectTarget.TheVariants as E
use Rattle.values.specs.declared.ir.ImplicitEffect.{ImplicitEffect}
use Rattle.values.specs.declared.ir.ImplicitEffect.TheVariants.{ConditionalSkip, CompanionPair}
use Rattle.values.specs.declared.ir.CompanionRole.TheVariants as role
use Rattle.values.specs.declared.ir.Confidence.{Confidence}
use Rattle.values.specs.declared.ir.Confidence.TheVariants.{Reviewed, Unverified}
use Rattle.values.specs.declared.ir.SemanticInstruction.{SemanticInstruction}
use Rattle.values.specs.declared.model.ConstantValue.TheVariants.{Nil}
use Rattle.builders.specs.Shapes.{operands_of, reads_of, writes_of}
use Rattle.records.specs.Lift.{lift_of}

pub data PCase : Type 0 where
  -- a word is this opcode, with this A and this sBx
  fields : ℕ → ℕ → ℕ → ℤ → PCase
  -- of these words, the word of this number has these steps
  steps : List ℕ → ℕ → Successors → PCase
  -- a step from the one word to the other serves or not
  serving : ℕ → ℕ → Bool → PCase
  -- these words have this L and this first word, with all weights 1
  run : List ℕ → ℕ → ℕ → PCase
  -- .. with these weights
  weighed : List ℕ → List ℕ → ℕ → ℕ → PCase
  -- the same of words of 5.3, and a table of weights that is refused with this number and this place
  steps53 : List ℕ → ℕ → Successors → PCase
  run53 : List ℕ → ℕ → ℕ → PCase
  weighed53 : List ℕ → List ℕ → ℕ → ℕ → PCase
  refused53 : List ℕ → List ℕ → ℕ → ℕ → PCase
  -- of these words, the record of this number has this jump target
  jumps : List ℕ → ℕ → Option ℕ → PCase
  -- .. these reads and these writes
  touches : List ℕ → ℕ → List EffectTarget → List EffectTarget → PCase
  -- .. in all places, those past the count too, these 4 operands, 3 reads and 2 writes
  fills : List ℕ → ℕ → List TypedOperand → List EffectTarget → List EffectTarget → PCase
  -- .. these operands and this companion
  shows : List ℕ → ℕ → List TypedOperand → Option ℕ → PCase
  -- .. this implicit effect and this companion
  pairs : List ℕ → ℕ → Option ImplicitEffect → Option ℕ → PCase
  -- .. this fallback
  falls : List ℕ → ℕ → Option ℕ → PCase
  -- .. this confidence
  trusts : List ℕ → ℕ → Confidence → PCase

-- a record with no constants and no names
abbrev record_at : List ℕ → ℕ → SemanticInstruction
record_at words pc = lift_of words [] [] [] pc

abbrev pub HoldsOf : PCase → Type 0
HoldsOf (fields word opcode a sbx) = (opcode_of word ≡ opcode) × (a_of word ≡ a) × (sbx_of word ≡ sbx)
HoldsOf (steps words p s) = successors_of words p ≡ s
HoldsOf (serving p q t) = serves_of p q ≡ t
HoldsOf (run words longest first) =
    run_of (lua54 words) ones (length words) (length words) ≡ accepted_run longest first
HoldsOf (weighed words weights longest first) =
    run_of (lua54 words) weights (length words) (length words) ≡ accepted_run longest first
HoldsOf (steps53 words p s) = successors_of_53 words p ≡ s
HoldsOf (run53 words longest first) =
    run_of (script_of Lua53 words) ones (length words) (length words) ≡ accepted_run longest first
HoldsOf (weighed53 words weights longest first) =
    run_of (script_of Lua53 words) weights (length words) (length words) ≡ accepted_run longest first
HoldsOf (refused53 words weights number place) =
    (number_of (run_of (script_of Lua53 words) weights (length words) (length words)) ≡ number)
    × (place_of (run_of (script_of Lua53 words) weights (length words) (length words)) ≡ place)
HoldsOf (jumps words pc target) = (record_at words pc).jump_target ≡ target
HoldsOf (touches words pc reads writes) =
    ((record_at words pc).reads ≡ reads_of reads) × ((record_at words pc).writes ≡ writes_of writes)
HoldsOf (fills words pc operands reads writes) =
    ((record_at words pc).operands.slots ≡ operands)
    × ((record_at words pc).reads.slots ≡ reads)
    × ((record_at words pc).writes.slots ≡ writes)
HoldsOf (shows words pc operands companion) =
    ((record_at words pc).operands ≡ operands_of operands) × ((record_at words pc).companion_pc ≡ companion)
HoldsOf (pairs words pc effect companion) =
    ((record_at words pc).implicit_effect ≡ effect) × ((record_at words pc).companion_pc ≡ companion)
HoldsOf (falls words pc event) = (record_at words pc).metamethod_fallback ≡ event
HoldsOf (trusts words pc confidence) = (record_at words pc).confidence ≡ confidence

abbrev pub Hold : List PCase → Type 0
Hold [] = Unit {0}
Hold (case ∷ p_cases) = HoldsOf case × Hold p_cases

-- the sheet of "Bench program"
abbrev pub sheet : List ℕ
sheet = 2147483649 ∷ 2147483669 ∷ 109051951 ∷ 2147483192 ∷ []

abbrev pub p_cases : List PCase
p_cases =
    -- "word 2147483649 is opcode 1, A 0, sBx 1"
    fields 2147483649 OP_LOADI 0 (pos 1)
    -- "word 2147483192 at 3 jumps to 1; at 0 the Rust target is 18446744073709551614 and the word is bad"
    ∷ steps sheet 3 (One 1)
    ∷ jumps sheet 3 (Some 1)
    ∷ jumps (2147483192 ∷ []) 0 (Some 18446744073709551614)
    ∷ steps (2147483192 ∷ []) 0 Invalid
    -- "word 16940996 (CALL A 255, B 2, C 1) reads register 255 and range 255 to 254, writes none"
    ∷ touches (16940996 ∷ []) 0 (E.Register 255 ∷ E.RegisterRange 255 254 ∷ []) []
    -- "word 4 alone: constant 0, companion 1": LOADKX, whose operands show the constant, and which reads it
    ∷ shows (4 ∷ []) 0 (O.Register 0 ∷ O.Constant 0 Nil ∷ []) (Some 1)
    ∷ touches (4 ∷ []) 0 (E.Constant 0 ∷ []) (E.Register 0 ∷ [])
    -- "word 46 at 0: pair effect 0, event 6": the pair names the event, and it is the fallback
    ∷ pairs (46 ∷ []) 0 (Some (CompanionPair 0 (role.Event TM_ADD))) None
    ∷ falls (46 ∷ []) 0 (Some TM_ADD)
    -- "word 82 Reviewed, 83 Unverified"
    ∷ trusts (82 ∷ []) 0 Reviewed
    ∷ trusts (83 ∷ []) 0 Unverified
    -- "word 163913 (FORLOOP, Bx 5) at 1: Rust target 0, step bad"
    ∷ jumps (OP_MOVE ∷ 163913 ∷ OP_MOVE ∷ []) 1 (Some 0)
    ∷ steps (OP_MOVE ∷ 163913 ∷ OP_MOVE ∷ []) 1 Invalid
    -- "word 74 at 0 of 3: Rust target 1, steps 1 and 2"
    ∷ jumps (74 ∷ OP_MOVE ∷ OP_MOVE ∷ []) 0 (Some 1)
    ∷ steps (74 ∷ OP_MOVE ∷ OP_MOVE ∷ []) 0 (Two 1 2)
    -- "FORLOOP with Bx 0 has one step; with Bx 1 it steps to itself, serving"
    ∷ steps (OP_FORLOOP ∷ OP_MOVE ∷ []) 0 (One 1)
    ∷ steps (32841 ∷ OP_MOVE ∷ []) 0 (Two 0 1)
    ∷ serving 0 0 true
    -- "the sheet above: L 4, first 0", and the steps that its listing shows
    ∷ run sheet 4 0
    -- request C-17: the same words, where each weighs 255
    ∷ weighed sheet (replicate weight_count heaviest_weight) 1020 0
    ∷ steps sheet 0 (One 1)
    ∷ steps sheet 1 (Two 2 3)
    ∷ steps sheet 2 (One 3)
    ∷ []

-- Document 01, "Records", RULES 10: what it says of the Rust, in its order, beyond the P cases

-- what is kept
abbrev pub record_places : List PCase
record_places =
    -- "Operand, read and write places past the count hold register 0": MOVE 1 2, and RETURN0, which has none
    fills (131200 ∷ []) 0 (O.Register 1 ∷ O.Register 2 ∷ O.Register 0 ∷ O.Register 0 ∷ [])
    (E.Register 2 ∷ E.Register 0 ∷ E.Register 0 ∷ []) (E.Register 1 ∷ E.Register 0 ∷ [])
    ∷ fills (71 ∷ []) 0 (O.Register 0 ∷ O.Register 0 ∷ O.Register 0 ∷ O.Register 0 ∷ [])
    (E.Register 0 ∷ E.Register 0 ∷ E.Register 0 ∷ []) (E.Register 0 ∷ E.Register 0 ∷ [])
    -- "an absent effect, fallback, target or companion is an empty case": MOVE
    ∷ pairs (0 ∷ []) 0 None None
    ∷ falls (0 ∷ []) 0 None
    ∷ jumps (0 ∷ []) 0 None
    ∷ []

-- "Corners where the Rust stands"
abbrev pub record_corners : List PCase
record_corners =
    -- "A constant index past the table reads nil": here that of the EXTRAARG after LOADKX, which has the word
    -- before it as companion
    shows (4 ∷ 210 ∷ []) 0 (O.Register 0 ∷ O.Constant 1 Nil ∷ []) (Some 1)
    ∷ shows (4 ∷ 210 ∷ []) 1 (O.ExtraArg 1 ∷ []) (Some 0)
    -- "EXTRAARG and 46 to 48 have no companion at word 0, yet the pair effect of 46 to 48 names 0"
    ∷ shows (82 ∷ []) 0 (O.ExtraArg 0 ∷ []) None
    ∷ pairs (47 ∷ []) 0 (Some (CompanionPair 0 (role.Event 6))) None
    ∷ pairs (48 ∷ []) 0 (Some (CompanionPair 0 (role.Event 6))) None
    ∷ pairs (0 ∷ 0 ∷ 46 ∷ []) 2 (Some (CompanionPair 1 (role.Event 6))) (Some 1)
    -- "Register sums saturate at 255": of LOADNIL, SELF and TFORCALL
    ∷ touches (98184 ∷ []) 0 [] (E.RegisterRange 255 255 ∷ [])
    ∷ touches (32660 ∷ []) 0 (E.Register 0 ∷ E.Register 0 ∷ []) (E.Register 255 ∷ E.Register 255 ∷ [])
    ∷ touches (4278222668 ∷ []) 0 (E.RegisterRange 254 255 ∷ []) (E.RegisterRange 255 255 ∷ [])
    -- "CONCAT with A 0, B 0 ends at 0"
    ∷ touches (53 ∷ []) 0 (E.RegisterRange 0 0 ∷ []) (E.Register 0 ∷ [])
    -- "FORLOOP and TFORLOOP targets stop at 0": TFORLOOP with Bx 2 at 0
    ∷ jumps (65613 ∷ []) 0 (Some 0)
    ∷ []

-- "Disagreements known so far"
abbrev pub record_disagreements : List PCase
record_disagreements =
    -- "C 0 to 16 to events C + 6, 17 to 4, 18 to 5, others to 25": with C 16 to 19
    falls (268435502 ∷ []) 0 (Some 22)
    ∷ falls (285212718 ∷ []) 0 (Some 4)
    ∷ falls (301989934 ∷ []) 0 (Some 5)
    ∷ falls (318767150 ∷ []) 0 (Some 25)
    -- "NEWTABLE's hints are exchanged and its EXTRAARG unmentioned": B 1, C 2
    ∷ shows (33619987 ∷ []) 0 (O.Register 0 ∷ O.Count 1 false ∷ O.Count 2 false ∷ []) None
    -- "TFORCALL's writes start one register low": A 0, C 1
    ∷ touches (16777292 ∷ []) 0 (E.RegisterRange 0 2 ∷ []) (E.RegisterRange 3 3 ∷ [])
    ∷ []

abbrev pub record_tests : List PCase
record_tests =
    -- "opcodes 57 to 60, 66 and 67 list no reads"; where they skip to is pc + 2
    touches (57 ∷ []) 0 [] []
    ∷ pairs (57 ∷ []) 0 (Some (ConditionalSkip 2)) None
    ∷ touches (58 ∷ []) 0 [] []
    ∷ pairs (58 ∷ []) 0 (Some (ConditionalSkip 2)) None
    ∷ touches (59 ∷ []) 0 [] []
    ∷ pairs (59 ∷ []) 0 (Some (ConditionalSkip 2)) None
    ∷ touches (60 ∷ []) 0 [] []
    ∷ pairs (60 ∷ []) 0 (Some (ConditionalSkip 2)) None
    ∷ touches (66 ∷ []) 0 [] []
    ∷ pairs (66 ∷ []) 0 (Some (ConditionalSkip 2)) None
    ∷ touches (67 ∷ []) 0 [] []
    ∷ pairs (67 ∷ []) 0 (Some (ConditionalSkip 2)) None
    ∷ []

-- request C-24: lopcodes.h of Lua 5.3.6 numbers LOADBOOL 3, JMP 30, EQ 31, TAILCALL 37, RETURN 38, FORLOOP
-- 39, FORPREP 40, TFORCALL 41, TFORLOOP 42, SETLIST 43 and EXTRAARG 46
abbrev pub cases53 : List PCase
cases53 =
    -- FORLOOP with sBx -1 steps to itself and on; with sBx 0 the two are one; with sBx 1
    -- looping is the higher of the two
    steps53 (0 ∷ 2147450919 ∷ 38 ∷ []) 1 (Two 1 2)
    ∷ steps53 (0 ∷ 2147467303 ∷ 38 ∷ []) 1 (One 2)
    ∷ steps53 (2147483687 ∷ 38 ∷ 38 ∷ []) 0 (Two 1 2)
    -- FORPREP with sBx -1 steps to itself alone
    ∷ steps53 (0 ∷ 2147450920 ∷ 38 ∷ []) 1 (One 1)
    -- "TAILCALL steps to p+1": as the last word it is bad; RETURN has no next word
    ∷ steps53 (37 ∷ 38 ∷ []) 0 (One 1)
    ∷ steps53 (37 ∷ []) 0 Invalid
    ∷ steps53 (38 ∷ []) 0 Stop
    -- LOADBOOL with C 1 goes over the next word, which is not asked what it is; as the last but one it is bad
    ∷ steps53 (16387 ∷ 46 ∷ 38 ∷ []) 0 (One 2)
    ∷ steps53 (16387 ∷ 38 ∷ []) 0 Invalid
    -- "SETLIST with C 0 without EXTRAARG after it"; with C 1 nothing is asked
    ∷ steps53 (43 ∷ 46 ∷ 38 ∷ []) 0 (One 2)
    ∷ steps53 (43 ∷ 38 ∷ 38 ∷ []) 0 Invalid
    ∷ steps53 (16427 ∷ 38 ∷ 38 ∷ []) 0 (One 1)
    -- "TFORCALL without TFORLOOP after it"
    ∷ steps53 (41 ∷ 42 ∷ 38 ∷ []) 0 (One 1)
    ∷ steps53 (41 ∷ 39 ∷ 38 ∷ []) 0 Invalid
    -- EQ with A 0 goes on either way; with A 2 over its JMP alone, which here is bad and not reached
    ∷ steps53 (31 ∷ 30 ∷ 38 ∷ []) 0 (Two 1 2)
    ∷ run53 (16543 ∷ 30 ∷ 8388646 ∷ []) 2 0
    -- "A 5.3 word takes its weight by its low six bits": 64 weighs what 0 does
    ∷ weighed53 (64 ∷ 38 ∷ []) (5 ∷ replicate 63 1 ++ (7 ∷ replicate 63 1)) 6 0
    -- request C-17's 18 looks at all 128 weights all the same
    ∷ refused53 (64 ∷ 38 ∷ []) (replicate 100 1 ++ (0 ∷ replicate 27 1)) 18 100
    ∷ []
