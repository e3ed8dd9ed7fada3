-- Document 01, "Value types", RULES 10: constants and upvalue names, read off the lent tables.
-- A refinement of the original: get_const_val and get_upval_name of lifter.rs, over tags and
-- payloads in place of a Prototype.
-- Assumes nothing.
use Rattle.std.specs.Prelude.{ℕ, ◌+◌, ◌-◌, ◌*◌, ◌/◌, ◌%◌, ◌^◌, true, false, List, ltb, eqb, ℤ, pos, negsuc}
use Rattle.std.specs.Prelude.{length, get_or, Option, Some, None}
use Rattle.std.specs.Float.{binary64}
use Rattle.std.specs.Float.Ieee.{of_bits, nan_bits}
unfoldable pub use Rattle.common.specs.Chain.{choose}
use Rattle.values.specs.declared.model.Span.{Span}
use Rattle.values.specs.declared.model.ConstantValue.{ConstantValue}
use Rattle.values.specs.declared.model.ConstantValue.TheVariants.{
  Nil,
  Boolean,
  Integer,
  Float,
  NanBits,
  ShortString,
  LongString,
}

-- "A constant has a Lua tag: 0 nil, 1 false, 17 true, 3 integer, 19 float, 4 short string, 20 long string"
abbrev pub TAG_NIL : ℕ
TAG_NIL = 0

abbrev pub TAG_FALSE : ℕ
TAG_FALSE = 1

abbrev pub TAG_TRUE : ℕ
TAG_TRUE = 17

abbrev pub TAG_INTEGER : ℕ
TAG_INTEGER = 3

abbrev pub TAG_FLOAT : ℕ
TAG_FLOAT = 19

abbrev pub TAG_SHORT_STRING : ℕ
TAG_SHORT_STRING = 4

abbrev pub TAG_LONG_STRING : ℕ
TAG_LONG_STRING = 20

-- "a string's place: start in the low 32 bits, length in the high 32"
abbrev pub span_of : ℕ → Span
span_of payload = record { start = payload % 2 ^ 32; len = payload / 2 ^ 32 }

-- and back: the payload of a string's place
abbrev pub span_number : ℕ → ℕ → ℕ
span_number start size = start + 4294967296 * size

-- "Its 64-bit payload is the integer": read in two's complement
unfoldable pub signed64 : ℕ → ℤ
signed64 payload = choose (ltb payload (2 ^ 63)) (pos payload) (negsuc (2 ^ 64 - 1 - payload))

-- "the float's bits": the float that has them, or, of what is not a number, the bits
unfoldable pub float_of : ℕ → ConstantValue
float_of bits = choose (nan_bits binary64 bits) (NanBits bits) (Float (of_bits binary64 bits))

-- "Other payloads are ignored": those of nil, false and true. An unknown tag is refused
-- before anything is lifted.
unfoldable pub value_of : ℕ → ℕ → ConstantValue
value_of tag payload =
    choose (eqb tag TAG_FALSE) (Boolean false)
    (choose (eqb tag TAG_TRUE) (Boolean true)
    (choose (eqb tag TAG_INTEGER) (Integer (signed64 payload))
    (choose (eqb tag TAG_FLOAT) (float_of payload)
    (choose (eqb tag TAG_SHORT_STRING) (ShortString (span_of payload))
    (choose (eqb tag TAG_LONG_STRING) (LongString (span_of payload)) Nil)))))

-- "A constant index past the table reads nil"
unfoldable pub constant_of : List ℕ → List ℕ → ℕ → ConstantValue
constant_of tags payloads index =
    choose (ltb index (length tags))
    (choose (ltb index (length payloads)) (value_of (get_or tags index 0) (get_or payloads index 0)) Nil)
    Nil

-- "An upvalue name is such a place, 2^64 - 1 meaning unnamed"
abbrev pub unnamed : ℕ
unnamed = 2 ^ 64 - 1

-- "an upvalue index past the table has no name"
unfoldable pub name_of : List ℕ → ℕ → Option Span
name_of names index =
    choose (ltb index (length names))
    (choose (eqb (get_or names index 0) unnamed) None (Some (span_of (get_or names index 0)))) None
