-- A number as text in columns: document 01, "Bench program", RULES 11: "a decimal number, right-justified
-- in 10 columns, blanks to its left, no needless leading 0", and "in columns of 6".
-- Text is a list of bytes, in ASCII.
-- Assumes nothing.
use Rattle.std.specs.Prelude.{cond, List, [], ◌∷◌, ◌++◌, ℕ, zero, suc, ◌+◌, ◌/◌, ◌%◌, eqb}

-- document 01's blank
abbrev pub space : ℕ
space = 32

abbrev pub newline : ℕ
newline = 10

abbrev pub hyphen : ℕ
hyphen = 45

-- the last digit of v: the bytes of `0` to `9` are 48 to 57
unfoldable pub digit_of : ℕ → ℕ
digit_of v = 48 + v % 10

-- what a column shows left of the last one: a digit, or a blank where nothing is left of the number
unfoldable pub glyph_of : ℕ → ℕ
glyph_of v = cond (eqb v 0) space (digit_of v)

-- the k columns left of the last one, where v is left of the number
unfoldable pub leading : ℕ → ℕ → List ℕ
leading zero v = []
leading (suc k) v = leading k (v / 10) ++ (glyph_of v ∷ [])

-- v in k columns. The last one shows a digit even of 0. Of a number that is wider than k
-- columns the last k digits show
unfoldable pub columns : ℕ → ℕ → List ℕ
columns zero v = []
columns (suc k) v = leading k (v / 10) ++ (digit_of v ∷ [])
