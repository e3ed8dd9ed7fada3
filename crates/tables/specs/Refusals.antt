-- Document 01, "Refused inputs", RULES 8: what lifting refuses, numbers 1 to 6 in their order.
-- The Rust refuses nothing: all of this is added.
-- Assumes nothing.
use Rattle.std.specs.Prelude.{ℕ, Bool, true, false, not, List, ltb, eqb, length, get_or, Result, Ok, Err, ⊤}
use Rattle.common.specs.declared.refusal.Refusal.{Refusal}
use Rattle.common.specs.declared.refusal.Refusal.TheVariants.{
  TooManyWords,
  ConstantCount,
  UnknownTag,
  StringPastBytes,
  Names,
  ShortSlice,
}
use Rattle.common.specs.Limits.{most_words, most_constants, most_names}
use Rattle.common.specs.Chain.{choose, refuse_if}
use Rattle.common.specs.Lowest.{lowest}
use Rattle.values.specs.Values.{
  TAG_NIL,
  TAG_FALSE,
  TAG_TRUE,
  TAG_INTEGER,
  TAG_FLOAT,
  TAG_SHORT_STRING,
  TAG_LONG_STRING,
}
use Rattle.values.specs.Spans.{past, first_name_past}

-- 3, "unknown tag"
unfoldable pub unknown_tag : ℕ → Bool
unknown_tag tag =
    choose (eqb tag TAG_NIL) false
    (choose (eqb tag TAG_FALSE) false
    (choose (eqb tag TAG_TRUE) false
    (choose (eqb tag TAG_INTEGER) false
    (choose (eqb tag TAG_FLOAT) false
    (choose (eqb tag TAG_SHORT_STRING) false (choose (eqb tag TAG_LONG_STRING) false true))))))

unfoldable pub unknown_tag_at : List ℕ → ℕ → Bool
unknown_tag_at tags index = unknown_tag (get_or tags index 0)

unfoldable pub is_string : ℕ → Bool
is_string tag = choose (eqb tag TAG_SHORT_STRING) true (eqb tag TAG_LONG_STRING)

-- 4, "string ends past the string bytes"
unfoldable pub string_past : ℕ → ℕ → ℕ → Bool
string_past bytes tag payload = choose (is_string tag) (past bytes payload) false

-- the same of a constant: its tag and its payload
abbrev pub constant_past : ℕ → ℕ × ℕ → Bool
constant_past bytes constant = string_past bytes constant.0 constant.1

unfoldable pub string_past_at : List ℕ → List ℕ → ℕ → ℕ → Bool
string_past_at tags payloads bytes index =
    choose (is_string (get_or tags index 0)) (past bytes (get_or payloads index 0)) false

-- "place: lowest index"; where there is none, the number of them

abbrev pub first_unknown_tag : List ℕ → ℕ
first_unknown_tag tags = lowest (unknown_tag_at tags) (length tags)

abbrev pub first_string_past : List ℕ → List ℕ → ℕ → ℕ
first_string_past tags payloads bytes = lowest (string_past_at tags payloads bytes) (length tags)

-- "Checks run in this order": 1, "more than 32,768 words"; 2, "tag and payload counts differ, or over
-- 65,536"; 3, "unknown tag; place: lowest index"; 4, "string ends past the string bytes; place:
-- lowest index"; 5, "over 255 names, or a name past the string bytes; place: lowest index if the count is
-- allowed, else 0"; 6, "a lent result slice shorter than the words".
unfoldable pub answer_of : ℕ → List ℕ → List ℕ → List ℕ → ℕ → ℕ → Result ⊤ Refusal
answer_of n tags payloads names bytes room =
    refuse_if (ltb most_words n) (Err TooManyWords)
    (refuse_if (not (eqb (length tags) (length payloads))) (Err ConstantCount)
    (refuse_if (ltb most_constants (length tags)) (Err ConstantCount)
    (refuse_if (ltb (first_unknown_tag tags) (length tags)) (Err (UnknownTag (first_unknown_tag tags)))
    (refuse_if (ltb (first_string_past tags payloads bytes) (length tags))
    (Err (StringPastBytes (first_string_past tags payloads bytes)))
    (refuse_if (ltb most_names (length names)) (Err (Names 0))
    (refuse_if (ltb (first_name_past names bytes) (length names))
    (Err (Names (first_name_past names bytes)))
    (refuse_if (ltb room n) (Err ShortSlice) (Ok tt))))))))

-- how many records are written, of n words: all or none
abbrev pub written : ℕ → Result ⊤ Refusal → ℕ
written n (Ok x) = n
written n (Err e) = 0

abbrev pub written_of : ℕ → List ℕ → List ℕ → List ℕ → ℕ → ℕ → ℕ
written_of n tags payloads names bytes room = written n (answer_of n tags payloads names bytes room)
