-- Document 01, "Refused inputs", RULES 8: spans that end past the bytes which they are of. Numbers 4 and 5
-- ask it of strings and names.
-- Assumes nothing.
use Rattle.std.specs.Prelude.{ℕ, ◌+◌, ◌/◌, ◌%◌, ◌^◌, Bool, false, List, ltb, eqb, length, get_or}
use Rattle.common.specs.Chain.{choose}
use Rattle.common.specs.Lowest.{lowest}
use Rattle.values.specs.Values.{unnamed}

-- a span ends past the bytes: start in the low 32 bits, length in the high 32. The sum is
-- one of ℕ, and wraps nowhere.
unfoldable pub past : ℕ → ℕ → Bool
past bytes payload = ltb bytes (payload % 2 ^ 32 + payload / 2 ^ 32)

-- 5, "a name past the string bytes"; one that is unnamed has no bytes
unfoldable pub name_past : ℕ → ℕ → Bool
name_past bytes payload = choose (eqb payload unnamed) false (past bytes payload)

unfoldable pub name_past_at : List ℕ → ℕ → ℕ → Bool
name_past_at names bytes index =
    choose (eqb (get_or names index 0) unnamed) false (past bytes (get_or names index 0))

-- "place: lowest index"; where there is none, the number of names
abbrev pub first_name_past : List ℕ → ℕ → ℕ
first_name_past names bytes = lowest (name_past_at names bytes) (length names)
