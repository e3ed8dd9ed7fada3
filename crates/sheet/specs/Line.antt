-- A line of the sheet: "each line one word as a decimal number, right-justified in 10 columns, blanks to its
-- left, no needless leading 0, a newline".
-- Assumes nothing.
use Rattle.std.specs.Prelude.{Bool, true, false, ◌&&◌, List, [], ◌∷◌, ◌++◌, ℕ, ◌+◌, ◌*◌, ◌%◌, leb, eqb, take}
use Rattle.common.specs.Limits.{most_word}
use Rattle.sheet.specs.Columns.{newline, columns}

-- the line of the word v
unfoldable pub line_of : ℕ → List ℕ
line_of v = columns 10 v ++ (newline ∷ [])

-- the number that bytes show after v. A digit is the low half of its byte, which of a blank is 0.
-- Bytes that are neither show some number too, whose line they are not
abbrev pub value_from : ℕ → List ℕ → ℕ
value_from v [] = v
value_from v (b ∷ bytes) = value_from (v * 10 + b % 16) bytes

unfoldable pub line_value : List ℕ → ℕ
line_value line = value_from 0 (take 10 line)

-- two texts are the same
abbrev pub same_bytes : List ℕ → List ℕ → Bool
same_bytes [] [] = true
same_bytes [] (y ∷ ys) = false
same_bytes (x ∷ xs) [] = false
same_bytes (x ∷ xs) (y ∷ ys) = eqb x y && same_bytes xs ys

-- a line is well formed if it is the line of a word: of the number that it shows. `specs/Claims.antt` says
-- this without the number: exactly the lines `line_of w` of a word w are
unfoldable pub is_line : List ℕ → Bool
is_line line = leb (line_value line) most_word && same_bytes line (line_of (line_value line))
