-- The definitions compute on chunks written by hand.
-- Assumes nothing.
use Rattle.std.specs.Prelude.{◌≡◌, List, [], ◌∷◌, ◌++◌, ℕ, zero, suc}
use Rattle.lundump.specs.declared.counts.Counts.{Counts}
use Rattle.lundump.specs.Chunk.{chosen, counts_of, after, words_of, tags_of, payloads_of, names_of}

-- what a pass answers: an accepted function's words, constants and names; or a refusal's number, with place 0
abbrev pub needs : ℕ → ℕ → ℕ → Counts
needs words constants names =
    record { number = 0; place = 0; words = words; constants = constants; names = names }

abbrev pub turned_away : ℕ → Counts
turned_away number = record { number = number; place = 0; words = 0; constants = 0; names = 0 }

-- The 31 bytes that luac of Lua 5.4.8 begins each file with, where words have 4 bytes, integers
-- and floats 8, little-endian
abbrev pub header : List ℕ
header =
    27 ∷ 76 ∷ 117 ∷ 97 ∷ 84 ∷ 0 ∷ 25 ∷ 147 ∷ 13 ∷ 10 ∷ 26 ∷ 10 ∷ 4 ∷ 8 ∷ 8
    ∷ 120 ∷ 86 ∷ 0 ∷ 0 ∷ 0 ∷ 0 ∷ 0 ∷ 0
    ∷ 0 ∷ 0 ∷ 0 ∷ 0 ∷ 0 ∷ 40 ∷ 119 ∷ 64 ∷ []

-- A chunk of one function, stripped of all but a name: RETURN0 alone (luac puts a VARARGPREP before it), the
-- constant "x", the upvalue _ENV
abbrev pub example : List ℕ
example =
    header ++ (1 ∷ 128 ∷ 128 ∷ 128 ∷ 0 ∷ 1 ∷ 2
    ∷ 129 ∷ 71 ∷ 0 ∷ 1 ∷ 0
    ∷ 129 ∷ 4 ∷ 130 ∷ 120
    ∷ 129 ∷ 1 ∷ 0 ∷ 0
    ∷ 128
    ∷ 128 ∷ 128 ∷ 128 ∷ 129 ∷ 133 ∷ 95 ∷ 69 ∷ 78 ∷ 86 ∷ [])

pub record ExampleRead : Type 0 where
  pub counts : counts_of (chosen 0 example) ≡ needs 1 1 1
  -- what stands past the counts, here 9, stays
  pub words : after words_of (chosen 0 example) (9 ∷ 9 ∷ []) ≡ 65607 ∷ 9 ∷ []
  pub tags : after tags_of (chosen 0 example) (9 ∷ 9 ∷ []) ≡ 4 ∷ 9 ∷ []
  -- "x" is byte 46, and "_ENV" the four from byte 57 on
  pub payloads : after payloads_of (chosen 0 example) (9 ∷ 9 ∷ []) ≡ 4294967342 ∷ 9 ∷ []
  pub names : after names_of (chosen 0 example) (9 ∷ 9 ∷ []) ≡ 17179869241 ∷ 9 ∷ []
  pub no_second : counts_of (chosen 1 example) ≡ turned_away 15

-- Four functions, stripped: main with one upvalue, two within it, and one within the first of
-- these. The first byte of each word is its opcode, and tells them apart: 71, 72, 68, 70 in the
-- order of their first bytes
abbrev pub nested : List ℕ
nested =
    header ++ (1 ∷ 128 ∷ 128 ∷ 128 ∷ 0 ∷ 1 ∷ 2 ∷ 129 ∷ 71 ∷ 0 ∷ 1 ∷ 0 ∷ 128 ∷ 129 ∷ 1 ∷ 0 ∷ 0
    ∷ 130
    ∷ 128 ∷ 128 ∷ 128 ∷ 0 ∷ 0 ∷ 2 ∷ 129 ∷ 72 ∷ 0 ∷ 1 ∷ 0 ∷ 128 ∷ 128
    ∷ 129
    ∷ 128 ∷ 128 ∷ 128 ∷ 0 ∷ 0 ∷ 2 ∷ 129 ∷ 68 ∷ 0 ∷ 1 ∷ 0 ∷ 128 ∷ 128 ∷ 128 ∷ 128 ∷ 128 ∷ 128 ∷ 128
    ∷ 128 ∷ 128 ∷ 128 ∷ 128
    ∷ 128 ∷ 128 ∷ 128 ∷ 0 ∷ 0 ∷ 2 ∷ 129 ∷ 70 ∷ 0 ∷ 1 ∷ 0 ∷ 128 ∷ 128 ∷ 128 ∷ 128 ∷ 128 ∷ 128 ∷ 128
    ∷ 128 ∷ 128 ∷ 128 ∷ 128 ∷ [])

-- so many functions, each within the one before, up to the count of those within the last, which is 1
abbrev pub levels : ℕ → List ℕ
levels zero = []
levels (suc n) = 128 ∷ 128 ∷ 128 ∷ 0 ∷ 0 ∷ 2 ∷ 128 ∷ 128 ∷ 128 ∷ 129 ∷ levels n

pub record NestedRead : Type 0 where
  pub main : counts_of (chosen 0 nested) ≡ needs 1 0 1
  pub main_words : after words_of (chosen 0 nested) (9 ∷ 9 ∷ []) ≡ 65607 ∷ 9 ∷ []
  -- "Functions hold functions", which "count from 0 by their first byte": the one within the
  -- first goes before the second
  pub first : counts_of (chosen 1 nested) ≡ needs 1 0 0
  pub first_words : after words_of (chosen 1 nested) (9 ∷ 9 ∷ []) ≡ 65608 ∷ 9 ∷ []
  pub within_words : after words_of (chosen 2 nested) (9 ∷ 9 ∷ []) ≡ 65604 ∷ 9 ∷ []
  pub second_words : after words_of (chosen 3 nested) (9 ∷ 9 ∷ []) ≡ 65606 ∷ 9 ∷ []
  pub no_fifth : counts_of (chosen 4 nested) ≡ turned_away 15
  -- "trailing bytes are ignored", whatever they are: 15 for one, in definition and code alike, is refused
  -- here
  pub trailing : (byte : ℕ) → counts_of (chosen 3 (nested ++ (byte ∷ []))) ≡ needs 1 0 0
  -- "16 a level 33, met at the count that needs it", with nothing behind that count. A level 32 is read, and
  -- there the bytes end early
  pub deep : counts_of (chosen 0 (header ++ (0 ∷ levels 32))) ≡ turned_away 16
  pub not_deep : counts_of (chosen 0 (header ++ (0 ∷ levels 31))) ≡ turned_away 15
