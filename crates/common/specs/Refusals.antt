-- Document 01, "Refused inputs", RULES 8, and document 02: the number and the place of each refusal, and of
-- an answer that is accepted or refused.
-- Assumes nothing.
use Rattle.std.specs.Prelude.{ℕ, Result, Ok, Err}
use Rattle.common.specs.Numbers.{
  «ACCEPTED»,
  TOO_MANY_WORDS,
  CONSTANT_COUNT,
  UNKNOWN_TAG,
  STRING_PAST_BYTES,
  «NAMES»,
  SHORT_SLICE,
  NO_WORDS,
  REACHES_INVALID,
  NO_STEP,
  FOREIGN_METER,
  MALFORMED_LINE,
  TOO_MANY_LINES,
  HEADER_DIFFERS,
  MALFORMED_CHUNK,
  TOO_DEEP,
  UNSET_REGISTER,
  WEIGHTS_REFUSED,
  LOW_ABOVE_HIGH,
  NO_SCRIPT,
  BUDGET_RANGE,
  OVER_BUDGET,
  OUT_OF_RANGE,
}
use Rattle.common.specs.declared.refusal.Refusal.{Refusal}
use Rattle.common.specs.declared.refusal.Refusal.TheVariants.{
  TooManyWords,
  ConstantCount,
  UnknownTag,
  StringPastBytes,
  Names,
  ShortSlice,
  NoWords,
  ReachesInvalid,
  NoStep,
  ForeignMeter,
  MalformedLine,
  TooManyLines,
  HeaderDiffers,
  MalformedChunk,
  TooDeep,
  UnsetRegister,
  WeightsRefused,
  LowAboveHigh,
  NoScript,
  BudgetRange,
  OverBudget,
  OutOfRange,
}

abbrev pub refusal_number : Refusal → ℕ
refusal_number TooManyWords = TOO_MANY_WORDS
refusal_number ConstantCount = CONSTANT_COUNT
refusal_number (UnknownTag p) = UNKNOWN_TAG
refusal_number (StringPastBytes p) = STRING_PAST_BYTES
refusal_number (Names p) = «NAMES»
refusal_number ShortSlice = SHORT_SLICE
refusal_number NoWords = NO_WORDS
refusal_number (ReachesInvalid p) = REACHES_INVALID
refusal_number NoStep = NO_STEP
refusal_number ForeignMeter = FOREIGN_METER
refusal_number (MalformedLine p) = MALFORMED_LINE
refusal_number TooManyLines = TOO_MANY_LINES
refusal_number HeaderDiffers = HEADER_DIFFERS
refusal_number MalformedChunk = MALFORMED_CHUNK
refusal_number TooDeep = TOO_DEEP
refusal_number (UnsetRegister p) = UNSET_REGISTER
refusal_number (WeightsRefused p) = WEIGHTS_REFUSED
refusal_number (LowAboveHigh p) = LOW_ABOVE_HIGH
refusal_number NoScript = NO_SCRIPT
refusal_number BudgetRange = BUDGET_RANGE
refusal_number OverBudget = OVER_BUDGET
refusal_number OutOfRange = OUT_OF_RANGE

-- "a place, 0 unless named"
abbrev pub refusal_place : Refusal → ℕ
refusal_place TooManyWords = 0
refusal_place ConstantCount = 0
refusal_place (UnknownTag p) = p
refusal_place (StringPastBytes p) = p
refusal_place (Names p) = p
refusal_place ShortSlice = 0
refusal_place NoWords = 0
refusal_place (ReachesInvalid p) = p
refusal_place NoStep = 0
refusal_place ForeignMeter = 0
refusal_place (MalformedLine p) = p
refusal_place TooManyLines = 0
refusal_place HeaderDiffers = 0
refusal_place MalformedChunk = 0
refusal_place TooDeep = 0
refusal_place (UnsetRegister p) = p
refusal_place (WeightsRefused p) = p
refusal_place (LowAboveHigh p) = p
refusal_place NoScript = 0
refusal_place BudgetRange = 0
refusal_place OverBudget = 0
refusal_place OutOfRange = 0

-- "Each answer carries its number, 0 when accepted, and a place, 0 unless named"
abbrev pub answer_number : {X : Type 0} → Result X Refusal → ℕ
answer_number (Ok x) = «ACCEPTED»
answer_number (Err e) = refusal_number e

abbrev pub answer_place : {X : Type 0} → Result X Refusal → ℕ
answer_place (Ok x) = 0
answer_place (Err e) = refusal_place e
