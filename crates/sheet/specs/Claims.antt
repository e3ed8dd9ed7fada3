-- What the format's definitions mean, over whole texts and in terms of the lines of words alone.
-- The proof of `Claims` is `proofs/Claims.antt`.
-- Assumes nothing.
use Rattle.std.specs.Prelude.{◌≡◌, List, [], ◌∷◌, ◌++◌, ℕ, zero, suc, ◌+◌, ◌*◌, ◌-◌, ◌/◌, ◌%◌, ◌^◌, ◌≤◌}
use Rattle.std.specs.Prelude.{◌<◌, length, take, replicate, Ok, Err}
use Rattle.common.specs.declared.refusal.Refusal.TheVariants.{MalformedLine, TooManyLines}
use Rattle.sheet.specs.Columns.{columns}
use Rattle.sheet.specs.Line.{line_of}
use Rattle.sheet.specs.Format.{Sheet, sheet_of, sheet_words}

-- the last digits of v, so many, as bytes: those of `0` to `9` are 48 to 57
abbrev pub decimal : ℕ → ℕ → List ℕ
decimal zero v = []
decimal (suc count) v = decimal count (v / 10) ++ ((48 + v % 10) ∷ [])

-- "a decimal number, right-justified in [k] columns, blanks to its left, no needless leading 0"
pub record Justified (k v : ℕ) (text : List ℕ) : Type 0 where
  pub count : ℕ
  pub some : 1 ≤ count
  pub fits : count ≤ k
  -- all of its digits show, and the first is no 0 if there is another
  pub all : v < 10 ^ count
  pub needed : 1 < count → 10 ^ (count - 1) ≤ v
  -- the byte of a blank is 32
  pub is : text ≡ replicate (k - count) 32 ++ decimal count v

-- the sheet of words: their lines, one after another
unfoldable pub text_of : List ℕ → List ℕ
text_of [] = []
text_of (w ∷ ws) = line_of w ++ text_of ws

-- each is a word: none is "over 4,294,967,295"
unfoldable pub AllWords : List ℕ → Type 0
AllWords [] = Unit
AllWords (w ∷ ws) = (w ≤ 4294967295) × AllWords ws

-- the text is the sheet of n words, for which there is room
pub record Accepted (room : ℕ) (text : List ℕ) (n : ℕ) : Type 0 where
  pub words : List ℕ
  pub are_words : AllWords words
  pub count : length words ≡ n
  pub fits : n ≤ room
  pub whole : text ≡ text_of words

-- 12: lines of words come first, then something that does not start with the line of a word,
-- though there is room for one
pub record Broken (room : ℕ) (text : List ℕ) (line : ℕ) : Type 0 where
  pub words : List ℕ
  pub are_words : AllWords words
  pub count : length words + 1 ≡ line
  pub fits : line ≤ room
  pub rest : List ℕ
  pub whole : text ≡ text_of words ++ rest
  pub some : 0 < length rest
  pub no_line : (w : ℕ) (more : List ℕ) → w ≤ 4294967295 → rest ≡ line_of w ++ more → ⊥

-- 13: as many lines of words as there is room for, and then something, whatever it is
pub record Overfull (room : ℕ) (text : List ℕ) : Type 0 where
  pub words : List ℕ
  pub are_words : AllWords words
  pub count : length words ≡ room
  pub rest : List ℕ
  pub whole : text ≡ text_of words ++ rest
  pub some : 0 < length rest

-- what an answer says of a text
abbrev pub SheetSays : ℕ → List ℕ → Sheet → Type 0
SheetSays room text (Ok n) = Accepted room text n
SheetSays room text (Err (MalformedLine line)) = Broken room text line
SheetSays room text (Err TooManyLines) = Overfull room text
SheetSays room text (Err _) = ⊥

pub record Claims : Type 0 where
  -- columns show each number that they are wide enough for
  pub justified : (k v : ℕ) → 0 < k → v < 10 ^ k → Justified k v (columns k v)
  -- "a newline", whose byte is 10, behind 10 columns
  pub line : (v : ℕ) → line_of v ≡ columns 10 v ++ (10 ∷ [])
  -- what is answered is so
  pub says : (room : ℕ) (text : List ℕ) → SheetSays room text (sheet_of room text)
  -- what is so is answered: each text has one answer
  pub only : (room : ℕ) (text : List ℕ) (s : Sheet) → SheetSays room text s → sheet_of room text ≡ s
  -- what is accepted is that text: the bytes are exactly the lines of the words that are stored
  pub accepted : (room : ℕ) (text : List ℕ) (n : ℕ)
      → sheet_of room text ≡ Ok n → text ≡ text_of (sheet_words text n)
  -- every sheet for whose words there is room is accepted, with those words
  pub every : (room : ℕ) (words : List ℕ) → AllWords words → length words ≤ room
      → sheet_of room (text_of words) ≡ Ok (length words)
  pub back : (words : List ℕ) → AllWords words → sheet_words (text_of words) (length words) ≡ words
  -- a text need not be read past the first byte for which there is no room
  pub enough : (room more : ℕ) (text : List ℕ)
      → sheet_of room (take (11 * room + (more + 1)) text) ≡ sheet_of room text
