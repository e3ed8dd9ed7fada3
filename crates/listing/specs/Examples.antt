-- The bench program's answer by its bytes, as document 01, "Bench program", has them: no byte of it, no
-- column and no weight can be another in code and definition alike.
-- Assumes nothing.
use Rattle.std.specs.Prelude.{◌≡◌, List, [], ◌∷◌, ◌++◌, ℕ}
use Rattle.sheet.specs.Format.{sheet_of}
use Rattle.listing.specs.Answer.{reply, listing_answer}

-- `2147483649`, `2147483669`, ` 109051951` and `2147483192`, a line each
abbrev pub sheet_text : List ℕ
sheet_text =
    50 ∷ 49 ∷ 52 ∷ 55 ∷ 52 ∷ 56 ∷ 51 ∷ 54 ∷ 52 ∷ 57 ∷ 10
    ∷ 50 ∷ 49 ∷ 52 ∷ 55 ∷ 52 ∷ 56 ∷ 51 ∷ 54 ∷ 54 ∷ 57 ∷ 10
    ∷ 32 ∷ 49 ∷ 48 ∷ 57 ∷ 48 ∷ 53 ∷ 49 ∷ 57 ∷ 53 ∷ 49 ∷ 10
    ∷ 50 ∷ 49 ∷ 52 ∷ 55 ∷ 52 ∷ 56 ∷ 51 ∷ 49 ∷ 57 ∷ 50 ∷ 10 ∷ []

-- the five lines that it writes: `     0     1     1     -     4` to `     4     0`
abbrev pub listing_text : List ℕ
listing_text =
    32 ∷ 32 ∷ 32 ∷ 32 ∷ 32 ∷ 48 ∷ 32 ∷ 32 ∷ 32 ∷ 32 ∷ 32 ∷ 49 ∷ 32 ∷ 32 ∷ 32 ∷ 32 ∷ 32 ∷ 49
    ∷ 32 ∷ 32 ∷ 32 ∷ 32 ∷ 32 ∷ 45 ∷ 32 ∷ 32 ∷ 32 ∷ 32 ∷ 32 ∷ 52 ∷ 10
    ∷ 32 ∷ 32 ∷ 32 ∷ 32 ∷ 32 ∷ 49 ∷ 32 ∷ 32 ∷ 32 ∷ 32 ∷ 50 ∷ 49 ∷ 32 ∷ 32 ∷ 32 ∷ 32 ∷ 32 ∷ 50
    ∷ 32 ∷ 32 ∷ 32 ∷ 32 ∷ 32 ∷ 51 ∷ 32 ∷ 32 ∷ 32 ∷ 32 ∷ 32 ∷ 51 ∷ 10
    ∷ 32 ∷ 32 ∷ 32 ∷ 32 ∷ 32 ∷ 50 ∷ 32 ∷ 32 ∷ 32 ∷ 32 ∷ 52 ∷ 55 ∷ 32 ∷ 32 ∷ 32 ∷ 32 ∷ 32 ∷ 51
    ∷ 32 ∷ 32 ∷ 32 ∷ 32 ∷ 32 ∷ 45 ∷ 32 ∷ 32 ∷ 32 ∷ 32 ∷ 32 ∷ 50 ∷ 10
    ∷ 32 ∷ 32 ∷ 32 ∷ 32 ∷ 32 ∷ 51 ∷ 32 ∷ 32 ∷ 32 ∷ 32 ∷ 53 ∷ 54 ∷ 32 ∷ 32 ∷ 32 ∷ 32 ∷ 32 ∷ 49
    ∷ 32 ∷ 32 ∷ 32 ∷ 32 ∷ 32 ∷ 45 ∷ 32 ∷ 32 ∷ 32 ∷ 32 ∷ 32 ∷ 49 ∷ 10
    ∷ 32 ∷ 32 ∷ 32 ∷ 32 ∷ 32 ∷ 52 ∷ 32 ∷ 32 ∷ 32 ∷ 32 ∷ 32 ∷ 48 ∷ 10 ∷ []

-- a line of the sheet, of which the last two columns are given as bytes
abbrev short_line : ℕ → ℕ → List ℕ
short_line tens units = 32 ∷ 32 ∷ 32 ∷ 32 ∷ 32 ∷ 32 ∷ 32 ∷ 32 ∷ tens ∷ units ∷ 10 ∷ []

-- a line of a number of two columns and one of one column, "6 columns each"
abbrev two_numbers : ℕ → ℕ → ℕ → List ℕ
two_numbers tens units other =
    32 ∷ 32 ∷ 32 ∷ 32 ∷ tens ∷ units ∷ 32 ∷ 32 ∷ 32 ∷ 32 ∷ 32 ∷ other ∷ 10 ∷ []

-- `     0    71     -     -     1`, `     1    82     -     -     0` and `     1     0`
abbrev pub unreachable_text : List ℕ
unreachable_text =
    32 ∷ 32 ∷ 32 ∷ 32 ∷ 32 ∷ 48 ∷ 32 ∷ 32 ∷ 32 ∷ 32 ∷ 55 ∷ 49 ∷ 32 ∷ 32 ∷ 32 ∷ 32 ∷ 32 ∷ 45
    ∷ 32 ∷ 32 ∷ 32 ∷ 32 ∷ 32 ∷ 45 ∷ 32 ∷ 32 ∷ 32 ∷ 32 ∷ 32 ∷ 49 ∷ 10
    ∷ 32 ∷ 32 ∷ 32 ∷ 32 ∷ 32 ∷ 49 ∷ 32 ∷ 32 ∷ 32 ∷ 32 ∷ 56 ∷ 50 ∷ 32 ∷ 32 ∷ 32 ∷ 32 ∷ 32 ∷ 45
    ∷ 32 ∷ 32 ∷ 32 ∷ 32 ∷ 32 ∷ 45 ∷ 32 ∷ 32 ∷ 32 ∷ 32 ∷ 32 ∷ 48 ∷ 10
    ∷ 32 ∷ 32 ∷ 32 ∷ 32 ∷ 32 ∷ 49 ∷ 32 ∷ 32 ∷ 32 ∷ 32 ∷ 32 ∷ 48 ∷ 10 ∷ []

-- the line of word 0, and a byte behind it
abbrev overfull : List ℕ
overfull = short_line 32 48 ++ (120 ∷ [])

pub record ExampleListing : Type 0 where
  -- "it writes"
  pub listing : listing_answer sheet_text ≡ listing_text
  -- "bad or unreachable words show what the work slices and step table hold": RETURN0 and EXTRAARG
  pub unreachable : listing_answer (short_line 55 49 ++ short_line 56 50) ≡ unreachable_text
  -- "On refusal the only line is the number and the place": 7, "empty sheet"
  pub empty : listing_answer [] ≡ two_numbers 32 55 48
  -- 8, "a reachable bad word; place: the lowest": MOVE and EXTRAARG
  pub bad : listing_answer (short_line 32 48 ++ short_line 56 50) ≡ two_numbers 32 56 49
  -- 12, "`12` in columns 1, 2"
  pub malformed : listing_answer (49 ∷ 50 ∷ 10 ∷ []) ≡ two_numbers 49 50 49
  -- "the sheet 12 and 13 first", "place: line from 1": the first line alone would be 8
  pub sheet_first : listing_answer (short_line 56 51 ++ (120 ∷ [])) ≡ two_numbers 49 50 50
  -- 13, "its text is not examined", where the table has one place
  pub full : reply overfull (sheet_of 1 overfull) ≡ two_numbers 49 51 48
