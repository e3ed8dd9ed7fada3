-- The refusals of document 01, "Refused inputs", and of document 02's requests, by their own numbers, in the
-- documents' order, beside the names that contracts cite (common/specs/Numbers.antt): one that is changed
-- there and in the code alike is refused here.
-- Assumes nothing.
use Rattle.std.specs.Prelude.{ℕ, ◌≡◌, List, [], ◌∷◌}
use Rattle.common.specs.Numbers as number
use Rattle.common.specs.declared.refusal.Refusal.{Refusal}
use Rattle.common.specs.declared.refusal.Refusal.TheVariants as refusal
use Rattle.common.specs.Refusals.{refusal_number, refusal_place}
use Rattle.graph.specs.Graph.{In}

-- all of them, by name
abbrev pub refusals : List ℕ
refusals =
    number.«ACCEPTED»
    ∷ number.TOO_MANY_WORDS
    ∷ number.CONSTANT_COUNT
    ∷ number.UNKNOWN_TAG
    ∷ number.STRING_PAST_BYTES
    ∷ number.«NAMES»
    ∷ number.SHORT_SLICE
    ∷ number.NO_WORDS
    ∷ number.REACHES_INVALID
    ∷ number.NO_STEP
    ∷ number.FOREIGN_METER
    ∷ number.MALFORMED_LINE
    ∷ number.TOO_MANY_LINES
    ∷ number.HEADER_DIFFERS
    ∷ number.MALFORMED_CHUNK
    ∷ number.TOO_DEEP
    ∷ number.UNSET_REGISTER
    ∷ number.WEIGHTS_REFUSED
    ∷ number.LOW_ABOVE_HIGH
    ∷ number.NO_SCRIPT
    ∷ number.BUDGET_RANGE
    ∷ number.OVER_BUDGET
    ∷ number.OUT_OF_RANGE
    ∷ []

-- what a refusal is told by
abbrev pub Told : Refusal → ℕ → ℕ → Type 0
Told e number place = (refusal_number e ≡ number) × (refusal_place e ≡ place)

pub record Numbers : Type 0 where
  -- "Each answer carries its number, 0 when accepted"
  pub accepted : number.«ACCEPTED» ≡ 0
  -- "more than 32,768 words"
  pub one : number.TOO_MANY_WORDS ≡ 1
  -- "tag and payload counts differ, or over 65,536"
  pub two : number.CONSTANT_COUNT ≡ 2
  -- "unknown tag"; C-11: "An unknown constant tag is number 3"
  pub three : number.UNKNOWN_TAG ≡ 3
  -- "string ends past the string bytes"
  pub four : number.STRING_PAST_BYTES ≡ 4
  -- "over 255 names, or a name past the string bytes"
  pub five : number.«NAMES» ≡ 5
  -- "a lent result slice shorter than the words"; C-11: "6 covers each slice to be filled"
  pub six : number.SHORT_SLICE ≡ 6
  -- "no words"
  pub seven : number.NO_WORDS ≡ 7
  -- "a reachable bad word"
  pub eight : number.REACHES_INVALID ≡ 8
  -- "L over 32,768", of which C-13: "The number is not used again"
  pub nine : In 9 refusals → ⊥
  -- "fed word is n or more, or no step from the last, or the first is not 0"
  pub ten : number.NO_STEP ≡ 10
  -- "meter not of this function"
  pub eleven : number.FOREIGN_METER ≡ 11
  -- "sheet line malformed or over 4,294,967,295"
  pub twelve : number.MALFORMED_LINE ≡ 12
  -- "line 4,097 exists"
  pub thirteen : number.TOO_MANY_LINES ≡ 13
  -- C-11: "14 a header byte that differs"
  pub fourteen : number.HEADER_DIFFERS ≡ 14
  -- C-11: "15 the bytes end early, .. or the chosen function does not exist"
  pub fifteen : number.MALFORMED_CHUNK ≡ 15
  -- C-11: "16 a level 33"
  pub sixteen : number.TOO_DEEP ≡ 16
  -- C-15: "17 such a word", at which a register is named as read that some course has not set
  pub seventeen : number.UNSET_REGISTER ≡ 17
  -- C-17: "18 a weight count other than 128, or a weight of 0"
  pub eighteen : number.WEIGHTS_REFUSED ≡ 18
  -- C-18: "19 a low above its high"
  pub nineteen : number.LOW_ABOVE_HIGH ≡ 19
  -- C-20: "20 a script number above 3"
  pub twenty : number.NO_SCRIPT ≡ 20
  -- C-20: "21 an S out of range"
  pub twenty_one : number.BUDGET_RANGE ≡ 21
  -- C-20: "22 a feed after which the sum would be above S"
  pub twenty_two : number.OVER_BUDGET ≡ 22
  -- C-21: "23 a script count, q or choice out of range"
  pub twenty_three : number.OUT_OF_RANGE ≡ 23
  -- "Each answer carries its number, .. and a place, 0 unless named": each refusal of the code by its number,
  -- and by the place p where one is named
  pub each : (p : ℕ)
      → Told refusal.TooManyWords 1 0
      × Told refusal.ConstantCount 2 0
      × Told (refusal.UnknownTag p) 3 p
      × Told (refusal.StringPastBytes p) 4 p
      × Told (refusal.Names p) 5 p
      × Told refusal.ShortSlice 6 0
      × Told refusal.NoWords 7 0
      × Told (refusal.ReachesInvalid p) 8 p
      × Told refusal.NoStep 10 0
      × Told refusal.ForeignMeter 11 0
      × Told (refusal.MalformedLine p) 12 p
      × Told refusal.TooManyLines 13 0
      × Told refusal.HeaderDiffers 14 0
      × Told refusal.MalformedChunk 15 0
      × Told refusal.TooDeep 16 0
      × Told (refusal.UnsetRegister p) 17 p
      × Told (refusal.WeightsRefused p) 18 p
      × Told (refusal.LowAboveHigh p) 19 p
      × Told refusal.NoScript 20 0
      × Told refusal.BudgetRange 21 0
      × Told refusal.OverBudget 22 0
      × Told refusal.OutOfRange 23 0
