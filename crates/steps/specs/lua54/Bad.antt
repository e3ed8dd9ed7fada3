-- Document 01's table of steps (RULES 2) of Lua 5.4, by its own numbers and a word's bits:
-- no table of ours, no name and no macro stands between the document and these. `ByNumber` says that the
-- steps of specs/lua54/Successors.antt are these, for every list of words.
-- Assumes nothing.
use Rattle.std.specs.Prelude.{ℕ, ◌+◌, ◌-◌, ◌/◌, ◌%◌, ◌<◌, ◌≡◌, ◌↔◌, Bool, false, cond, not, ◌&&◌, ◌||◌}
use Rattle.std.specs.Prelude.{List, [], ◌∷◌, ltb, leb, eqb, ℤ, pos, ◌+ℤ◌, ◌-ℤ◌, length, get_or}
use Rattle.graph.specs.Graph.{In}
use Rattle.sweep.specs.Steps.{is_invalid, list_of}
use Rattle.steps.specs.Ways.{integers}
use Rattle.steps.specs.lua54.Successors.{successors_of}
use Rattle.steps.specs.lua53.Bad.{between, any_outside}

-- a word by its bits: the opcode is bits 0 to 6, k 15, Bx 15 to 31, Ax 7 to 31, and sJ is Ax - 16,777,215
abbrev pub opcode : ℕ → ℕ
opcode w = w % 128

abbrev pub k_is_one : ℕ → Bool
k_is_one w = eqb (w / 32768 % 2) 1

abbrev pub bx : ℕ → ℕ
bx w = w / 32768 % 131072

abbrev pub sj : ℕ → ℤ
sj w = pos (w / 128 % 33554432) -ℤ pos 16777215

-- "Next word", row by row, of an opcode o
abbrev pub next_by : ℕ → ℕ → ℕ → List ℤ
next_by o w p =
    -- "69 to 72 | none"
    cond (between 69 72 o) []
    -- "21 to 45 | p+1, p+2", "57 to 67 | p+1, p+2"
    (cond (between 21 45 o || between 57 67 o) (pos (p + 1) ∷ pos (p + 2) ∷ [])
    -- "LFALSESKIP 6 | p+2", "LOADKX 4 and NEWTABLE 19 always; SETLIST 78 if its k is 1 | p+2"
    (cond (eqb o 6 || (eqb o 4 || eqb o 19) || eqb o 78 && k_is_one w) (pos (p + 2) ∷ [])
    -- "JMP 56 | p+1+sJ"
    (cond (eqb o 56) ((pos (p + 1) +ℤ sj w) ∷ [])
    -- "FORLOOP 73, TFORLOOP 77 | p+1-Bx, p+1"
    (cond (eqb o 73 || eqb o 77) ((pos (p + 1) -ℤ pos (bx w)) ∷ pos (p + 1) ∷ [])
    -- "FORPREP 74 | p+1, p+2+Bx"
    (cond (eqb o 74) (pos (p + 1) ∷ pos (p + 2 + bx w) ∷ [])
    -- "TFORPREP 75 | p+1+Bx"
    (cond (eqb o 75) (pos (p + 1 + bx w) ∷ [])
    -- "46 to 48 | p+1", "TFORCALL 76 | p+1", "all others | p+1"
    (pos (p + 1) ∷ [])))))))

abbrev pub next_words : ℕ → ℕ → List ℤ
next_words w p = next_by (opcode w) w p

-- there is a word i, and its opcode passes a test
abbrev pub is_at : List ℕ → ℕ → (ℕ → Bool) → Bool
is_at ws i test = ltb i (length ws) && test (opcode (get_or ws i 0))

abbrev pub is : ℕ → ℕ → Bool
is number o = eqb o number

module _ (ws : List ℕ) (p : ℕ) where
  abbrev word : ℕ
  word = get_or ws p 0

  -- "Bad unless", row by row
  abbrev pub lacks : Bool
  lacks =
      -- "word p+1 is 46 to 48"
      cond (between 21 45 (opcode word)) (not (is_at ws (p + 1) (between 46 48)))
      -- "p > 0 and word p-1 is 21 to 45"
      (cond (between 46 48 (opcode word)) (not (ltb 0 p && is_at ws (p - 1) (between 21 45)))
      -- "word p+1 is JMP"
      (cond (between 57 67 (opcode word)) (not (is_at ws (p + 1) (is 56)))
      -- "LOADKX 4 and NEWTABLE 19 always": "word p+1 is EXTRAARG"
      (cond (eqb (opcode word) 4 || eqb (opcode word) 19) (not (is_at ws (p + 1) (is 82)))
      -- "SETLIST 78 if its k is 1"
      (cond (eqb (opcode word) 78) (k_is_one word && not (is_at ws (p + 1) (is 82)))
      -- "that word is TFORCALL"
      (cond (eqb (opcode word) 75) (not (is_at ws (p + 1 + bx word) (is 76)))
      -- "that word is TFORLOOP"
      (cond (eqb (opcode word) 76) (not (is_at ws (p + 1) (is 77)))
      -- "EXTRAARG 82, above 82 | none | always bad"
      (leb 82 (opcode word))))))))

  -- "A word is also bad if a next word is below 0, or n or more."
  abbrev pub is_bad : Bool
  is_bad = lacks || any_outside (length ws) (next_words word p)

-- a table in which 24 of the 25 arithmetic rows ask for nothing after them, or 46 to 49 may follow, in
-- fields' definition and code alike, is refused here; so are ADD that falls straight through, and FORPREP
-- that goes on by its target alone
pub record ByNumber : Type 0 where
  -- these words are bad, and no others
  pub bad : (ws : List ℕ) (p : ℕ) → p < length ws → is_invalid (successors_of ws p) ≡ is_bad ws p
  -- the steps of all others are these
  pub steps :
      (ws : List ℕ) (p : ℕ) → p < length ws → is_bad ws p ≡ false →
      (z : ℤ) → In z (next_words (get_or ws p 0) p) ↔ In z (integers (list_of (successors_of ws p)))
