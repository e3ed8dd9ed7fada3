-- What leaves as numbers is what came in: of a lifted record the flat numbers give each constant's
-- payload and each name's place as they were lent, and a float by its bits, whether it is a number or
-- not. (Of any value at all they do not: `float_bits` of what is not a number is 0, and no lifted record
-- holds that as a `Float`.)
-- Assumes nothing.
use Rattle.std.specs.Prelude.{ℕ, ◌<◌, ◌^◌, ◌≡◌, List, eqb, ltb, length, get_or}
use Rattle.std.specs.Float.{binary64}
use Rattle.std.specs.Float.Ieee.{to_bits}
use Rattle.common.specs.Chain.{choose}
use Rattle.values.specs.Values.{value_of, constant_of, name_of}
use Rattle.records.specs.Lift.{lift_of}
use Rattle.records.specs.Sources.{operand_in, target_in, immediate_float}
use Rattle.numbered.specs.declared.parts.FlatSlot.{FlatSlot}
use Rattle.numbered.specs.declared.parts.FlatPair.{FlatPair}
use Rattle.numbered.specs.Parts.{pair, flat_name, flat_value, flat_operand, flat_target}

-- A constant as it was lent: the kind of its tag, and its payload. Document 01: "0 nil, 1 false, 17 true, 3
-- integer, 19 float, 4 short string, 20 long string". "Other payloads are ignored": those of nil,
-- false and true.
unfoldable pub lent_constant : ℕ → ℕ → FlatPair
lent_constant tag payload =
    choose (eqb tag 1) (pair 1 0)
    (choose (eqb tag 17) (pair 1 1)
    (choose (eqb tag 3) (pair 2 payload)
    (choose (eqb tag 19) (pair 3 payload)
    (choose (eqb tag 4) (pair 4 payload)
    (choose (eqb tag 20) (pair 5 payload) (pair 0 0))))))

-- a name as it was lent: none, "2^64 - 1 meaning unnamed", or its place
unfoldable pub lent_name : ℕ → FlatPair
lent_name payload = choose (eqb payload 18446744073709551615) (pair 0 0) (pair 1 payload)

-- "A constant index past the table reads nil; an upvalue index past the table has no name"

unfoldable pub lent_constant_at : List ℕ → List ℕ → ℕ → FlatPair
lent_constant_at tags payloads index =
    choose (ltb index (length tags))
    (choose (ltb index (length payloads))
    (lent_constant (get_or tags index 0) (get_or payloads index 0)) (pair 0 0))
    (pair 0 0)

unfoldable pub lent_name_at : List ℕ → ℕ → FlatPair
lent_name_at names index = choose (ltb index (length names)) (lent_name (get_or names index 0)) (pair 0 0)

-- what an operand's four numbers say: kind 1 is a constant, 2 an upvalue, 5 the float of LOADF
pub record OperandKept (words tags payloads names : List ℕ) (pc : ℕ) (s : FlatSlot) : Type 0 where
  pub constant : s.kind ≡ 1 → pair s.second s.third ≡ lent_constant_at tags payloads s.first
  pub upvalue : s.kind ≡ 2 → pair s.second s.third ≡ lent_name_at names s.first
  pub float : s.kind ≡ 5 → s.first ≡ to_bits binary64 (immediate_float words pc)

-- those of a read or a write: kind 3 is an upvalue
abbrev pub TargetKept : List ℕ → FlatSlot → Type 0
TargetKept names s = s.kind ≡ 3 → pair s.second s.third ≡ lent_name_at names s.first

-- a lent slice of 64-bit numbers
abbrev pub Slice64 : List ℕ → Type 0
Slice64 numbers = (i : ℕ) → get_or numbers i 0 < 2 ^ 64

pub record PayloadsKept : Type 0 where
  -- of every tag and 64-bit payload, a NaN's pattern included
  pub values : (tag payload : ℕ)
      → payload < 2 ^ 64 → flat_value (value_of tag payload) ≡ lent_constant tag payload
  pub constants : (tags payloads : List ℕ) (index : ℕ)
      → Slice64 payloads → flat_value (constant_of tags payloads index) ≡ lent_constant_at tags payloads index
  pub names : (names : List ℕ) (index : ℕ)
      → Slice64 names → flat_name (name_of names index) ≡ lent_name_at names index
  -- of every place of every lifted record
  pub operands :
      (words tags payloads names : List ℕ) (pc k : ℕ)
      → Slice64 payloads
      → Slice64 names
      → OperandKept words tags payloads names pc
      (flat_operand (operand_in (lift_of words tags payloads names pc).operands.slots k))
  pub reads :
      (words tags payloads names : List ℕ) (pc k : ℕ)
      → Slice64 names
      → TargetKept names (flat_target (target_in (lift_of words tags payloads names pc).reads.slots k))
  pub writes :
      (words tags payloads names : List ℕ) (pc k : ℕ)
      → Slice64 names
      → TargetKept names (flat_target (target_in (lift_of words tags payloads names pc).writes.slots k))
