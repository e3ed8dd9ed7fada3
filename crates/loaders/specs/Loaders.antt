-- lundump.c of Lua 5.4.8, "for 4-byte words, 8-byte integers and 8-byte floats, little-endian": a reader
-- for each of its functions up to loadString, under its name in snake case and in its order, and for
-- loadConstants' switch.
-- What the C refuses by `error` is 15 here. Document 02 adds the unknown tag (3).
-- Assumes nothing.
use Rattle.std.specs.Prelude.{cond, List, [], ◌∷◌, ℕ, zero, suc, ◌+◌, ◌*◌, ◌/◌, ◌%◌, ltb, leb, eqb, length}
use Rattle.std.specs.Prelude.{drop, get_or}
use Rattle.values.specs.Values.{
  TAG_NIL,
  TAG_FALSE,
  TAG_TRUE,
  TAG_INTEGER,
  TAG_FLOAT,
  TAG_SHORT_STRING,
  TAG_LONG_STRING,
}
use Rattle.std.specs.Prelude.{Option, Some, None, Ok, Err}
use Rattle.common.specs.declared.refusal.Refusal.TheVariants.{MalformedChunk, UnknownTag}
use Rattle.common.specs.Limits.{size_max, int_max}
use Rattle.loaders.specs.declared.strings.Bytes.{Bytes}
use Rattle.loaders.specs.declared.constants.Constant.{Constant}
use Rattle.loaders.specs.declared.constants.Constant.TheVariants.{Plain, String}
use Rattle.loaders.specs.Reading.{Outcome, Reader, bind, only, little_end}

-- loadBlock: `size` bytes, or "truncated chunk". What they hold is looked up by position
unfoldable pub load_block : ℕ → Reader (Unit {0})
load_block size bytes at = only (leb (at + size) (length bytes)) (Ok (tt, at + size))

-- loadByte
unfoldable pub load_byte : Reader ℕ
load_byte bytes at = only (ltb at (length bytes)) (Ok (get_or bytes at 0, at + 1))

-- loadUnsigned's loop, where x is read and `limit` was shifted: after loadByte `if (x >= limit) error`, then
-- `x = (x << 7) | (b & 0x7f)`, `while ((b & 0x80) == 0)`
unfoldable pub unsigned_from : ℕ → ℕ → ℕ → List ℕ → Outcome ℕ
unsigned_from limit x at [] = Err MalformedChunk
unsigned_from limit x at (b ∷ rest) =
    let y = x * 128 + b % 128 in
    let more = unsigned_from limit y (at + 1) rest in
    only (ltb x limit) (cond (leb 128 b) (Ok (y, at + 1)) more)

-- loadUnsigned: `limit >>= 7`, and the loop
unfoldable pub load_unsigned : ℕ → Reader ℕ
load_unsigned limit bytes at = unsigned_from (limit / 128) 0 at (drop at bytes)

-- loadSize
abbrev pub load_size : Reader ℕ
load_size = load_unsigned size_max

-- loadInt
abbrev pub load_int : Reader ℕ
load_int = load_unsigned int_max

-- loadNumber: a float's bits
unfoldable pub load_number : Reader ℕ
load_number bytes at = bind (load_block 8 bytes at) (λ _ at₁. Ok (little_end 8 bytes at, at₁))

-- loadInteger
unfoldable pub load_integer : Reader ℕ
load_integer bytes at = bind (load_block 8 bytes at) (λ _ at₁. Ok (little_end 8 bytes at, at₁))

-- a string that may be absent: where its bytes start, and how many they are
abbrev pub Text : Type 0
Text = Option Bytes

abbrev pub absent : Text
absent = None

abbrev pub text : ℕ → ℕ → Text
text start size = Some (record { start = start; size = size })

-- loadStringN: "no string?", or `--size` bytes
unfoldable pub string_of : ℕ → Reader Text
string_of zero bytes at = Ok (absent, at)
string_of (suc size) bytes at = bind (load_block size bytes at) (λ _ at₁. Ok (text at size, at₁))

unfoldable pub load_string_n : Reader Text
load_string_n bytes at = bind (load_size bytes at) (λ size at₁. string_of size bytes at₁)

-- what loadConstants makes of a constant: a tag with its payload, or a string's start and length
abbrev pub plain : ℕ → ℕ → Constant
plain tag payload = Plain tag payload

abbrev pub string : ℕ → ℕ → Constant
string start size = String (record { start = start; size = size })

-- loadString, as it stands in a constant: "a constant string is absent" is 15
abbrev pub present : Text → ℕ → Outcome Constant
present None at = Err MalformedChunk
present (Some s) at = Ok (String s, at)

unfoldable pub load_string : Reader Constant
load_string bytes at = bind (load_string_n bytes at) present

-- loadConstants: its `switch (t)`. "Payloads of nil, false and true are given as 0"; "An unknown constant tag
-- is number 3 with its index"
unfoldable pub constant_by_tag : ℕ → ℕ → Reader Constant
constant_by_tag i t bytes at =
    cond (eqb t TAG_NIL) (Ok (plain TAG_NIL 0, at))
    (cond (eqb t TAG_FALSE) (Ok (plain TAG_FALSE 0, at))
    (cond (eqb t TAG_TRUE) (Ok (plain TAG_TRUE 0, at))
    (cond (eqb t TAG_FLOAT) (bind (load_number bytes at) (λ x at₁. Ok (plain TAG_FLOAT x, at₁)))
    (cond (eqb t TAG_INTEGER) (bind (load_integer bytes at) (λ x at₁. Ok (plain TAG_INTEGER x, at₁)))
    (cond (eqb t TAG_SHORT_STRING) (load_string bytes at)
    (cond (eqb t TAG_LONG_STRING) (load_string bytes at)
    (Err (UnknownTag i))))))))

unfoldable pub load_constant : ℕ → Reader Constant
load_constant i bytes at = bind (load_byte bytes at) (λ t at₁. constant_by_tag i t bytes at₁)
