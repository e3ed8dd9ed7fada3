-- Request C-24's bad words and next words of Lua 5.3, by the numbers of the opcodes and by a word's bits:
-- no table, no name and no macro stands between the request and these. `ByNumber` says that the steps of
-- specs/lua53/Successors.antt are these, for every list of words.
-- Assumes nothing.
use Rattle.std.specs.Prelude.{ℕ, ◌+◌, ◌/◌, ◌%◌, ◌<◌, ◌≡◌, ◌↔◌, Bool, true, false, cond, not, ◌&&◌, ◌||◌}
use Rattle.std.specs.Prelude.{List, [], ◌∷◌, ltb, leb, eqb, ℤ, pos, negsuc, ◌+ℤ◌, ◌-ℤ◌, length, get_or}
use Rattle.graph.specs.Graph.{In}
use Rattle.sweep.specs.Steps.{is_invalid, list_of}
use Rattle.steps.specs.Ways.{integers}
use Rattle.steps.specs.lua53.Successors.{successors_of}

-- a word by its bits: the opcode is bits 0 to 5, A 6 to 13, C 14 to 22, Bx 14 to 31, and sBx is Bx - 131,071
abbrev pub opcode : ℕ → ℕ
opcode w = w % 64

abbrev pub above_one : ℕ → Bool
above_one w = ltb 1 (w / 64 % 256)

abbrev pub zero_c : ℕ → Bool
zero_c w = eqb (w / 16384 % 512) 0

abbrev pub sbx : ℕ → ℤ
sbx w = pos (w / 16384 % 262144) -ℤ pos 131071

abbrev pub between : ℕ → ℕ → ℕ → Bool
between first last o = leb first o && leb o last

-- there is a word p+1, and it has this opcode
abbrev pub next_is : List ℕ → ℕ → ℕ → Bool
next_is ws p o = ltb (p + 1) (length ws) && eqb (opcode (get_or ws (p + 1) 0)) o

-- RETURN
abbrev pub returns : ℕ → Bool
returns w = eqb (opcode w) 38

-- LOADKX, LOADBOOL with C, SETLIST with C 0, and a comparison, whose result of 0 or 1 is no A above 1
abbrev pub skips : ℕ → Bool
skips w = eqb (opcode w) 2 || eqb (opcode w) 3 && not (zero_c w) || eqb (opcode w) 43 && zero_c w
    || between 31 33 (opcode w) && above_one w

-- JMP, FORPREP
abbrev pub jumps : ℕ → Bool
jumps w = eqb (opcode w) 30 || eqb (opcode w) 40

-- FORLOOP, TFORLOOP
abbrev pub loops : ℕ → Bool
loops w = eqb (opcode w) 39 || eqb (opcode w) 42

-- EQ, LT, LE, TEST, TESTSET
abbrev pub tests : ℕ → Bool
tests w = between 31 35 (opcode w)

-- where word p, w, goes on; "TAILCALL steps to p+1, where a C function returns", and
-- so do CALL and all others
abbrev pub next_words : ℕ → ℕ → List ℤ
next_words w p =
    cond (returns w) []
    (cond (skips w) (pos (p + 2) ∷ [])
    (cond (jumps w) ((pos (p + 1) +ℤ sbx w) ∷ [])
    (cond (loops w) ((pos (p + 1) +ℤ sbx w) ∷ pos (p + 1) ∷ [])
    (cond (tests w) (pos (p + 1) ∷ pos (p + 2) ∷ [])
    (pos (p + 1) ∷ [])))))

-- "below 0 or at n or more"
abbrev pub outside : ℕ → ℤ → Bool
outside n (pos q) = not (ltb q n)
outside n (negsuc q) = true

abbrev pub any_outside : ℕ → List ℤ → Bool
any_outside n [] = false
any_outside n (z ∷ zs) = outside n z || any_outside n zs

module _ (ws : List ℕ) (p : ℕ) where
  abbrev word : ℕ
  word = get_or ws p 0

  -- "EXTRAARG, opcodes 47 to 63"
  abbrev pub unknown : Bool
  unknown = eqb (opcode word) 46 || between 47 63 (opcode word)

  -- "a test (EQ, LT, LE, TEST, TESTSET) without JMP after it"
  abbrev pub lacks_jump : Bool
  lacks_jump = tests word && not (next_is ws p 30)

  -- "LOADKX or SETLIST with C 0 without EXTRAARG after it"
  abbrev pub lacks_extra : Bool
  lacks_extra = (eqb (opcode word) 2 || eqb (opcode word) 43 && zero_c word) && not (next_is ws p 46)

  -- "TFORCALL without TFORLOOP after it"
  abbrev pub lacks_loop : Bool
  lacks_loop = eqb (opcode word) 41 && not (next_is ws p 42)

  -- ".. a next word below 0 or at n or more"
  abbrev pub is_bad : Bool
  is_bad = (unknown || lacks_jump || lacks_extra || lacks_loop) || any_outside (length ws) (next_words word p)

pub record ByNumber : Type 0 where
  -- these words are bad, and no others
  pub bad : (ws : List ℕ) (p : ℕ) → p < length ws → is_invalid (successors_of ws p) ≡ is_bad ws p
  -- the steps of all others are these
  pub steps :
      (ws : List ℕ) (p : ℕ) → p < length ws → is_bad ws p ≡ false →
      (z : ℤ) → In z (next_words (get_or ws p 0) p) ↔ In z (integers (list_of (successors_of ws p)))
