-- A record as 53 numbers, and the records of a whole function one after another: include/RECORD.md has the
-- tables, crate `numbered` the numbers of each part.
-- Assumes nothing.
use Rattle.std.specs.Prelude.{ℕ, zero, suc, List, [], ◌∷◌, ◌++◌, get_or}
use Rattle.values.specs.declared.few.Few.{Few}
use Rattle.values.specs.declared.ir.TypedOperand.{TypedOperand}
use Rattle.values.specs.declared.ir.TypedOperand.TheVariants as operand
use Rattle.values.specs.declared.ir.EffectTarget.{EffectTarget}
use Rattle.values.specs.declared.ir.EffectTarget.TheVariants as target
use Rattle.values.specs.declared.ir.SemanticInstruction.{SemanticInstruction}
use Rattle.records.specs.Lift.{lift_of}
use Rattle.numbered.specs.declared.parts.FlatSlot.{FlatSlot}
use Rattle.numbered.specs.declared.parts.FlatPair.{FlatPair}
use Rattle.numbered.specs.Parts.{flat_operand, flat_target, flat_effect, flat_option, flat_confidence}

-- A record's numbers, in RECORD.md's order

abbrev pub slot_numbers : FlatSlot → List ℕ
slot_numbers s = s.kind ∷ s.first ∷ s.second ∷ s.third ∷ []

abbrev pub pair_numbers : FlatPair → List ℕ
pair_numbers p = p.kind ∷ p.value ∷ []

-- the places of a record's list: past them there would be register 0

abbrev pub places_numbers : {X : Type 0} → (X → FlatSlot) → X → List X → ℕ → List ℕ
places_numbers flat filler slots zero = []
places_numbers flat filler slots (suc k) =
    places_numbers flat filler slots k ++ slot_numbers (flat (get_or slots k filler))

-- how many the list has, and its n places
abbrev pub list_numbers : {X : Type 0} → (X → FlatSlot) → X → (n : ℕ) → Few X n → List ℕ
list_numbers flat filler n list = (list.count ∷ []) ++ places_numbers flat filler list.slots n

-- 0 to 13
unfoldable pub head_numbers : SemanticInstruction → List ℕ
head_numbers i =
    (i.pc ∷ i.raw_word ∷ i.opcode ∷ flat_confidence i.confidence ∷ [])
    ++ pair_numbers (flat_option i.jump_target)
    ++ pair_numbers (flat_option i.companion_pc)
    ++ pair_numbers (flat_option i.metamethod_fallback)
    ++ slot_numbers (flat_effect i.implicit_effect)

-- 14 to 30
unfoldable pub operands_numbers : Few TypedOperand 4 → List ℕ
operands_numbers operands = list_numbers flat_operand (operand.Register 0) 4 operands

-- 31 to 43
unfoldable pub reads_numbers : Few EffectTarget 3 → List ℕ
reads_numbers reads = list_numbers flat_target (target.Register 0) 3 reads

-- 44 to 52
unfoldable pub writes_numbers : Few EffectTarget 2 → List ℕ
writes_numbers writes = list_numbers flat_target (target.Register 0) 2 writes

unfoldable pub numbers_of : SemanticInstruction → List ℕ
numbers_of i =
    head_numbers i ++ operands_numbers i.operands ++ reads_numbers i.reads ++ writes_numbers i.writes

abbrev pub record_length : ℕ
record_length = 53

-- the records of the first n words, one after another
unfoldable pub records_numbers : List ℕ → List ℕ → List ℕ → List ℕ → ℕ → List ℕ
records_numbers words tags payloads names zero = []
records_numbers words tags payloads names (suc pc) =
    records_numbers words tags payloads names pc ++ numbers_of (lift_of words tags payloads names pc)
