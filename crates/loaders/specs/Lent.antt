-- Document 02, C-11: what stands in the lent slices for a constant and for a name.
-- Assumes nothing.
use Rattle.std.specs.Prelude.{cond, List, ℕ, ◌+◌, ◌≤◌, leb, length, Some, None}
use Rattle.values.specs.Values.{unnamed, span_number, TAG_SHORT_STRING, TAG_LONG_STRING}
use Rattle.common.specs.Limits.{short_length, most_bytes}
use Rattle.loaders.specs.declared.constants.Constant.{Constant}
use Rattle.loaders.specs.declared.constants.Constant.TheVariants.{Plain, String}
use Rattle.loaders.specs.declared.constants.Packed.{Packed}
use Rattle.loaders.specs.Loaders.{Text}

-- "A string's tag is 4 up to 40 bytes and 20 above, as loaded"
abbrev pub string_tag : ℕ → ℕ
string_tag size = cond (leb size short_length) TAG_SHORT_STRING TAG_LONG_STRING

abbrev pub tag_of : Constant → ℕ
tag_of (Plain tag payload) = tag
tag_of (String s) = string_tag s.size

abbrev pub payload_of : Constant → ℕ
payload_of (Plain tag payload) = payload
payload_of (String s) = span_number s.start s.size

-- a name's place, "2^64 - 1 meaning unnamed". A name that is there and empty is a name
abbrev pub name_number : Text → ℕ
name_number None = unnamed
name_number (Some s) = span_number s.start s.size

-- both numbers that stand for a constant
abbrev pub packed_of : Constant → Packed
packed_of k = record { tag = tag_of k; payload = payload_of k }

-- a string's bytes are some of so many
abbrev pub Inside : ℕ → Text → Type 0
Inside size None = Unit
Inside size (Some s) = s.start + s.size ≤ size

abbrev pub ConstantInside : ℕ → Constant → Type 0
ConstantInside size (Plain tag payload) = Unit
ConstantInside size (String s) = s.start + s.size ≤ size

-- the chunk is no longer than it may be, so that a string's start and length have 32 bits each
abbrev pub BytesBounded : List ℕ → Type 0
BytesBounded bytes = length bytes ≤ most_bytes
