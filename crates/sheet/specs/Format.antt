-- The sheet: what is read of a text, and what reading leaves in the lent word table.
-- Assumes nothing.
use Rattle.std.specs.Prelude.{cond, List, [], ◌∷◌, ◌++◌, ℕ, zero, suc, ◌+◌, ◌*◌, min, eqb, length, take, drop}
use Rattle.std.specs.Prelude.{Result, Ok, Err}
use Rattle.common.specs.Limits.{most_lines}
use Rattle.common.specs.declared.refusal.Refusal.{Refusal}
use Rattle.common.specs.declared.refusal.Refusal.TheVariants.{MalformedLine, TooManyLines}
use Rattle.sheet.specs.Line.{line_value, is_line}

-- what is read of a text: how many words, or why it is refused
abbrev pub Sheet : Type 0
Sheet = Result ℕ Refusal

-- what is read of the text that is left, where k lines are read and there is room for so many more.
-- "Of 12 and 13 the first met in reading order counts", and the text of a line for which there is
-- no room "is not examined"
abbrev pub read_from : ℕ → ℕ → List ℕ → Sheet
read_from zero k text = cond (eqb (length text) 0) (Ok k) (Err TooManyLines)
read_from (suc room) k text =
    cond (eqb (length text) 0) (Ok k)
    (cond (is_line (take 11 text)) (read_from room (k + 1) (drop 11 text)) (Err (MalformedLine (k + 1))))

-- what is read of a text where there is room for so many words
unfoldable pub sheet_of : ℕ → List ℕ → Sheet
sheet_of room text = read_from room 0 text

-- the word of line k, lines counted from 0: each line is 11 bytes
unfoldable pub sheet_word_at : List ℕ → ℕ → ℕ
sheet_word_at text k = line_value (take 11 (drop (11 * k) text))

-- the words of the first n lines
unfoldable pub sheet_words : List ℕ → ℕ → List ℕ
sheet_words text zero = []
sheet_words text (suc k) = sheet_words text k ++ (sheet_word_at text k ∷ [])

-- what an answer leaves in the table: the words, with the places past them untouched; of a refusal
-- "nothing lent is altered"
abbrev pub stored : Sheet → List ℕ → List ℕ → List ℕ
stored (Ok n) text table = sheet_words text n ++ drop n table
stored (Err e) text table = table

-- the room that a table has: its places, at most 4,096. "It holds at most 4,096 words":
-- the program's has as many
abbrev pub room_of : List ℕ → ℕ
room_of table = min most_lines (length table)

unfoldable pub table_after : List ℕ → List ℕ → List ℕ
table_after text table = stored (sheet_of (room_of table) text) text table
