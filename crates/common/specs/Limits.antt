-- Document 01, "Refused inputs", RULES 8: the limits.
-- Assumes nothing.
use Rattle.std.specs.Prelude.{ℕ}

-- "32,769 words (32,768 pass)"
abbrev pub most_words : ℕ
most_words = 32768

-- "tag and payload counts differ, or over 65,536"
abbrev pub most_constants : ℕ
most_constants = 65536

-- "over 255 names"
abbrev pub most_names : ℕ
most_names = 255

-- "line 4,097 exists"
abbrev pub most_lines : ℕ
most_lines = 4096

-- "sheet line malformed or over 4,294,967,295"
abbrev pub most_word : ℕ
most_word = 4294967295

-- request C-20: "a script number above 3"
abbrev pub last_script : ℕ
last_script = 3

-- request C-20: "an allowance S, 1 to 16,777,216"
abbrev pub most_budget : ℕ
most_budget = 16777216

-- request C-21: "1 to 4 accepted scripts"
abbrev pub most_scripts : ℕ
most_scripts = 4

-- request C-21: "q from 1 to 1,000"
abbrev pub most_quantum : ℕ
most_quantum = 1000

-- document 01, "Meter", RULES 4: the services, "staying at 4,294,967,295"
abbrev pub most_services : ℕ
most_services = 4294967295

-- request C-17: "128 weights of 1 to 255": a weight is a byte
abbrev pub heaviest_weight : ℕ
heaviest_weight = 255

-- request C-11: "the chunk passes 4,294,967,295 bytes"
abbrev pub most_bytes : ℕ
most_bytes = 4294967295

-- request C-11: "the reader goes down at most 32 levels, the main function being level 1": so many levels lie
-- below it
abbrev pub levels_below : ℕ
levels_below = 31

-- llimits.h: MAX_SIZET of a 64-bit size_t, and limits.h's INT_MAX of a 32-bit int: the limits that
-- loadSize and loadInt pass on
abbrev pub size_max : ℕ
size_max = 18446744073709551615

abbrev pub int_max : ℕ
int_max = 2147483647

-- llimits.h: LUAI_MAXSHORTLEN; "A string's tag is 4 up to 40 bytes and 20 above"
abbrev pub short_length : ℕ
short_length = 40

-- request C-14: ranges of registers "use 16 bits": so many registers there are
abbrev pub most_registers : ℕ
most_registers = 65536

-- the owner's command: bytes of a file, and functions in it, that there is room for; more bytes are refused
-- by 15, more functions by 6
abbrev pub file_bytes : ℕ
file_bytes = 4194304

abbrev pub most_functions : ℕ
most_functions = 131072
