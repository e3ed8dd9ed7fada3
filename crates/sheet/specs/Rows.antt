-- The lines of the listing: "per word, in columns of 6: word number, opcode, first step, second step (`-`
-- if none), stretch", "then a line of L and its first word. On refusal the only line is the number and
-- the place, 6 columns each".
-- Assumes nothing.
use Rattle.std.specs.Prelude.{List, [], ◌∷◌, ◌++◌, ℕ, Option, Some, None}
use Rattle.sheet.specs.Columns.{space, newline, hyphen, columns}

-- a successor's column: its number, or `-` if there is none
unfoldable pub cell_of : Option ℕ → List ℕ
cell_of (Some v) = columns 6 v
cell_of None = space ∷ space ∷ space ∷ space ∷ space ∷ hyphen ∷ []

-- the line of word p
unfoldable pub row_of : ℕ → ℕ → Option ℕ → Option ℕ → ℕ → List ℕ
row_of p opcode first second segment =
    columns 6 p ++ columns 6 opcode ++ cell_of first ++ cell_of second ++ columns 6 segment ++ (newline ∷ [])

-- a line of two numbers
unfoldable pub pair_of : ℕ → ℕ → List ℕ
pair_of left right = columns 6 left ++ columns 6 right ++ (newline ∷ [])

-- the line of L and its first word
abbrev pub last_line_of : ℕ → ℕ → List ℕ
last_line_of longest first = pair_of longest first

-- the line of a refusal's number and place
abbrev pub refusal_line_of : ℕ → ℕ → List ℕ
refusal_line_of number place = pair_of number place
