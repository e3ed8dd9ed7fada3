-- Document 01, "Refused inputs", RULES 8, and document 02: the number of each condition, by name,
-- beside the document's words.
-- Assumes nothing.
use Rattle.std.specs.Prelude.{ℕ}

-- "0 when accepted"
abbrev pub «ACCEPTED» : ℕ
«ACCEPTED» = 0

-- "more than 32,768 words"
abbrev pub TOO_MANY_WORDS : ℕ
TOO_MANY_WORDS = 1

-- "tag and payload counts differ, or over 65,536"
abbrev pub CONSTANT_COUNT : ℕ
CONSTANT_COUNT = 2

-- "unknown tag"
abbrev pub UNKNOWN_TAG : ℕ
UNKNOWN_TAG = 3

-- "string ends past the string bytes"
abbrev pub STRING_PAST_BYTES : ℕ
STRING_PAST_BYTES = 4

-- "over 255 names, or a name past the string bytes"
abbrev pub «NAMES» : ℕ
«NAMES» = 5

-- "a lent result slice shorter than the words"
abbrev pub SHORT_SLICE : ℕ
SHORT_SLICE = 6

-- "no words"
abbrev pub NO_WORDS : ℕ
NO_WORDS = 7

-- "a reachable bad word"
abbrev pub REACHES_INVALID : ℕ
REACHES_INVALID = 8

-- "fed word is n or more, or no step from the last, or the first is not 0"
abbrev pub NO_STEP : ℕ
NO_STEP = 10

-- "meter not of this function"; "A highest below the count falls under number 11"
abbrev pub FOREIGN_METER : ℕ
FOREIGN_METER = 11

-- "sheet line malformed or over 4,294,967,295"
abbrev pub MALFORMED_LINE : ℕ
MALFORMED_LINE = 12

-- "line 4,097 exists"
abbrev pub TOO_MANY_LINES : ℕ
TOO_MANY_LINES = 13

-- request C-11: "a header byte that differs"
abbrev pub HEADER_DIFFERS : ℕ
HEADER_DIFFERS = 14

-- request C-11: "the bytes end early, a word, constant or upvalue count exceeds 01's limits, a number
-- overflows lundump.c's own limit, a constant string is absent, the chunk passes 4,294,967,295 bytes or the
-- chosen function does not exist"
abbrev pub MALFORMED_CHUNK : ℕ
MALFORMED_CHUNK = 15

-- request C-11: "a level 33, met at the count that needs it"
abbrev pub TOO_DEEP : ℕ
TOO_DEEP = 16

-- request C-15: "on every course from word 0 each register named as read was a parameter or was named as
-- written earlier on that course"; a word where that is broken
abbrev pub UNSET_REGISTER : ℕ
UNSET_REGISTER = 17

-- request C-17: "a weight count other than 128, or a weight of 0"
abbrev pub WEIGHTS_REFUSED : ℕ
WEIGHTS_REFUSED = 18

-- request C-18: "a low above its high"
abbrev pub LOW_ABOVE_HIGH : ℕ
LOW_ABOVE_HIGH = 19

-- request C-20: "a script number above 3"
abbrev pub NO_SCRIPT : ℕ
NO_SCRIPT = 20

-- request C-20: "an S out of range"
abbrev pub BUDGET_RANGE : ℕ
BUDGET_RANGE = 21

-- request C-20: "a feed after which the sum would be above S"
abbrev pub OVER_BUDGET : ℕ
OVER_BUDGET = 22

-- request C-21: "a script count, q or choice out of range"
abbrev pub OUT_OF_RANGE : ℕ
OUT_OF_RANGE = 23
