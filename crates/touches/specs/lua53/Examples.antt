-- Lists of Lua 5.3 by hand: words of each opcode by its number in lopcodes.h and by the bits of its fields
-- there, then corners of RK, counts, tops, loops and bad words. What each touches is read off lopcodes.h and
-- lvm.c of 5.3.6 once more, so that no line of specs/lua53/Cases.antt and steps/specs/lua53/Lvm.antt is its
-- only carrier.
-- Assumes nothing.
use Rattle.std.specs.Prelude.{ℕ, ◌+◌, ◌*◌, List, [], ◌∷◌}
use Rattle.touches.specs.Examples.{
  reads,
  reads_from,
  constant,
  upvalue,
  writes,
  writes_from,
  sets,
  writes_to,
  Example,
  at,
  alone,
  along,
}

-- words by their fields: the opcode in bits 0 to 5, A from 6, C from 14, B from 23, Bx from 14, Ax
-- from 6; sBx is Bx - 131,071
abbrev abc : ℕ → ℕ → ℕ → ℕ → ℕ
abc opcode a b c = opcode + 64 * a + 8388608 * b + 16384 * c

abbrev abx : ℕ → ℕ → ℕ → ℕ
abx opcode a bx = opcode + 64 * a + 16384 * bx

abbrev ax : ℕ → ℕ → ℕ
ax opcode extra = opcode + 64 * extra

-- with A 5, B 7 and C 260, which as RK(C) is constant 4, or as said
abbrev pub examples : List Example
examples =
    -- MOVE
    alone (abc 0 5 7 260) (reads 7 7 ∷ writes 5 5 ∷ [])
    -- LOADK: Bx is 512 B + C
    ∷ alone (abc 1 5 7 260) (constant 3844 ∷ writes 5 5 ∷ [])
    -- LOADKX
    ∷ along (abc 2 5 7 260) (ax 46 70000) (constant 70000 ∷ writes 5 5 ∷ [])
    -- LOADBOOL, which skips
    ∷ alone (abc 3 5 7 260) (writes 5 5 ∷ [])
    -- LOADNIL
    ∷ alone (abc 4 5 7 260) (writes 5 12 ∷ [])
    -- GETUPVAL
    ∷ alone (abc 5 5 7 260) (upvalue 7 ∷ writes 5 5 ∷ [])
    -- GETTABUP
    ∷ alone (abc 6 5 7 260) (constant 4 ∷ upvalue 7 ∷ writes 5 5 ∷ [])
    -- GETTABLE
    ∷ alone (abc 7 5 7 260) (reads 7 7 ∷ constant 4 ∷ writes 5 5 ∷ [])
    -- SETTABUP
    ∷ alone (abc 8 5 7 260) (reads 7 7 ∷ constant 4 ∷ upvalue 5 ∷ [])
    -- SETUPVAL
    ∷ alone (abc 9 5 7 260) (reads 5 5 ∷ sets 7 ∷ [])
    -- SETTABLE
    ∷ alone (abc 10 5 7 260) (reads 5 5 ∷ reads 7 7 ∷ constant 4 ∷ [])
    -- NEWTABLE
    ∷ alone (abc 11 5 7 260) (writes 5 5 ∷ [])
    -- SELF
    ∷ alone (abc 12 5 7 260) (reads 7 7 ∷ constant 4 ∷ writes 5 6 ∷ [])
    -- ADD to SHR
    ∷ alone (abc 13 5 7 260) (reads 7 7 ∷ constant 4 ∷ writes 5 5 ∷ [])
    ∷ alone (abc 14 5 7 260) (reads 7 7 ∷ constant 4 ∷ writes 5 5 ∷ [])
    ∷ alone (abc 15 5 7 260) (reads 7 7 ∷ constant 4 ∷ writes 5 5 ∷ [])
    ∷ alone (abc 16 5 7 260) (reads 7 7 ∷ constant 4 ∷ writes 5 5 ∷ [])
    ∷ alone (abc 17 5 7 260) (reads 7 7 ∷ constant 4 ∷ writes 5 5 ∷ [])
    ∷ alone (abc 18 5 7 260) (reads 7 7 ∷ constant 4 ∷ writes 5 5 ∷ [])
    ∷ alone (abc 19 5 7 260) (reads 7 7 ∷ constant 4 ∷ writes 5 5 ∷ [])
    ∷ alone (abc 20 5 7 260) (reads 7 7 ∷ constant 4 ∷ writes 5 5 ∷ [])
    ∷ alone (abc 21 5 7 260) (reads 7 7 ∷ constant 4 ∷ writes 5 5 ∷ [])
    ∷ alone (abc 22 5 7 260) (reads 7 7 ∷ constant 4 ∷ writes 5 5 ∷ [])
    ∷ alone (abc 23 5 7 260) (reads 7 7 ∷ constant 4 ∷ writes 5 5 ∷ [])
    ∷ alone (abc 24 5 7 260) (reads 7 7 ∷ constant 4 ∷ writes 5 5 ∷ [])
    -- UNM, BNOT, NOT, LEN
    ∷ alone (abc 25 5 7 260) (reads 7 7 ∷ writes 5 5 ∷ [])
    ∷ alone (abc 26 5 7 260) (reads 7 7 ∷ writes 5 5 ∷ [])
    ∷ alone (abc 27 5 7 260) (reads 7 7 ∷ writes 5 5 ∷ [])
    ∷ alone (abc 28 5 7 260) (reads 7 7 ∷ writes 5 5 ∷ [])
    -- CONCAT
    ∷ alone (abc 29 5 7 260) (reads 7 260 ∷ writes 5 5 ∷ [])
    -- JMP, which closes
    ∷ alone (abx 30 5 131071) []
    -- EQ, LT, LE
    ∷ along (abc 31 1 7 260) (abx 30 1 131071) (reads 7 7 ∷ constant 4 ∷ [])
    ∷ along (abc 32 1 7 260) (abx 30 1 131071) (reads 7 7 ∷ constant 4 ∷ [])
    ∷ along (abc 33 1 7 260) (abx 30 1 131071) (reads 7 7 ∷ constant 4 ∷ [])
    -- TEST
    ∷ along (abc 34 5 7 260) (abx 30 1 131071) (reads 5 5 ∷ [])
    -- TESTSET
    ∷ along (abc 35 5 7 260) (abx 30 1 131071) (reads 7 7 ∷ writes_to 2 5 5 ∷ [])
    -- CALL
    ∷ alone (abc 36 5 7 260) (reads 5 11 ∷ writes 5 263 ∷ [])
    -- TAILCALL
    ∷ alone (abc 37 5 7 260) (reads 5 11 ∷ [])
    -- RETURN
    ∷ alone (abc 38 5 7 260) (reads 5 10 ∷ [])
    -- FORLOOP with sBx -2
    ∷ alone (abx 39 5 131069) (reads 5 7 ∷ writes_to 0 5 5 ∷ writes_to 0 8 8 ∷ [])
    -- FORPREP with sBx 1
    ∷ alone (abx 40 5 131072) (reads 5 7 ∷ writes 5 7 ∷ [])
    -- TFORCALL, with TFORLOOP after it
    ∷ along (abc 41 5 7 260) (abx 42 9 131071) (reads 5 7 ∷ writes 8 267 ∷ [])
    -- TFORLOOP with sBx -2
    ∷ alone (abx 42 5 131069) (reads 6 6 ∷ writes_to 0 5 5 ∷ [])
    -- SETLIST
    ∷ alone (abc 43 5 7 260) (reads 5 12 ∷ [])
    -- CLOSURE
    ∷ alone (abc 44 5 7 260) (writes 5 5 ∷ [])
    -- VARARG
    ∷ alone (abc 45 5 7 260) (writes 5 10 ∷ [])
    -- EXTRAARG, and what is no opcode
    ∷ alone (abc 46 5 7 260) []
    ∷ alone (abc 47 5 7 260) []
    ∷ alone (abc 63 5 7 260) []
    -- the same with B 263, which as RK(B) is constant 7, and C 9
    ∷ alone (abc 0 5 263 9) (reads 263 263 ∷ writes 5 5 ∷ [])
    ∷ alone (abc 4 5 263 9) (writes 5 268 ∷ [])
    ∷ alone (abc 5 5 263 9) (upvalue 263 ∷ writes 5 5 ∷ [])
    ∷ alone (abc 6 5 263 9) (reads 9 9 ∷ upvalue 263 ∷ writes 5 5 ∷ [])
    ∷ alone (abc 7 5 263 9) (reads 9 9 ∷ reads 263 263 ∷ writes 5 5 ∷ [])
    ∷ alone (abc 8 5 263 9) (reads 9 9 ∷ constant 7 ∷ upvalue 5 ∷ [])
    ∷ alone (abc 9 5 263 9) (reads 5 5 ∷ sets 263 ∷ [])
    ∷ alone (abc 10 5 263 9) (reads 5 5 ∷ reads 9 9 ∷ constant 7 ∷ [])
    ∷ alone (abc 12 5 263 9) (reads 9 9 ∷ reads 263 263 ∷ writes 5 6 ∷ [])
    ∷ alone (abc 13 5 263 9) (reads 9 9 ∷ constant 7 ∷ writes 5 5 ∷ [])
    ∷ alone (abc 14 5 263 9) (reads 9 9 ∷ constant 7 ∷ writes 5 5 ∷ [])
    ∷ alone (abc 15 5 263 9) (reads 9 9 ∷ constant 7 ∷ writes 5 5 ∷ [])
    ∷ alone (abc 16 5 263 9) (reads 9 9 ∷ constant 7 ∷ writes 5 5 ∷ [])
    ∷ alone (abc 17 5 263 9) (reads 9 9 ∷ constant 7 ∷ writes 5 5 ∷ [])
    ∷ alone (abc 18 5 263 9) (reads 9 9 ∷ constant 7 ∷ writes 5 5 ∷ [])
    ∷ alone (abc 19 5 263 9) (reads 9 9 ∷ constant 7 ∷ writes 5 5 ∷ [])
    ∷ alone (abc 20 5 263 9) (reads 9 9 ∷ constant 7 ∷ writes 5 5 ∷ [])
    ∷ alone (abc 21 5 263 9) (reads 9 9 ∷ constant 7 ∷ writes 5 5 ∷ [])
    ∷ alone (abc 22 5 263 9) (reads 9 9 ∷ constant 7 ∷ writes 5 5 ∷ [])
    ∷ alone (abc 23 5 263 9) (reads 9 9 ∷ constant 7 ∷ writes 5 5 ∷ [])
    ∷ alone (abc 24 5 263 9) (reads 9 9 ∷ constant 7 ∷ writes 5 5 ∷ [])
    ∷ alone (abc 25 5 263 9) (reads 263 263 ∷ writes 5 5 ∷ [])
    ∷ alone (abc 26 5 263 9) (reads 263 263 ∷ writes 5 5 ∷ [])
    ∷ alone (abc 27 5 263 9) (reads 263 263 ∷ writes 5 5 ∷ [])
    ∷ alone (abc 28 5 263 9) (reads 263 263 ∷ writes 5 5 ∷ [])
    ∷ alone (abc 29 5 263 9) (writes 5 5 ∷ [])
    ∷ along (abc 31 0 263 9) (abx 30 1 131071) (reads 9 9 ∷ constant 7 ∷ [])
    ∷ along (abc 32 0 263 9) (abx 30 1 131071) (reads 9 9 ∷ constant 7 ∷ [])
    ∷ along (abc 33 0 263 9) (abx 30 1 131071) (reads 9 9 ∷ constant 7 ∷ [])
    ∷ along (abc 35 5 263 9) (abx 30 1 131071) (reads 263 263 ∷ writes_to 2 5 5 ∷ [])
    ∷ alone (abc 36 5 263 9) (reads 5 267 ∷ writes 5 12 ∷ [])
    ∷ alone (abc 37 5 263 9) (reads 5 267 ∷ [])
    ∷ alone (abc 38 5 263 9) (reads 5 266 ∷ [])
    ∷ along (abc 41 5 263 9) (abx 42 9 131071) (reads 5 7 ∷ writes 8 16 ∷ [])
    ∷ alone (abc 43 5 263 9) (reads 5 268 ∷ [])
    ∷ alone (abc 45 5 263 9) (writes 5 266 ∷ [])
    -- RK and registers at their ends; a constant is listed once
    ∷ alone (abc 13 5 511 256) (constant 0 ∷ constant 255 ∷ writes 5 5 ∷ [])
    ∷ alone (abc 13 5 255 256) (reads 255 255 ∷ constant 0 ∷ writes 5 5 ∷ [])
    ∷ alone (abc 13 5 300 300) (constant 44 ∷ writes 5 5 ∷ [])
    ∷ alone (abc 8 255 300 299) (constant 43 ∷ constant 44 ∷ upvalue 255 ∷ [])
    ∷ alone (abc 10 255 254 0) (reads 0 0 ∷ reads 254 255 ∷ [])
    ∷ alone (abc 0 5 511 0) (reads 511 511 ∷ writes 5 5 ∷ [])
    ∷ alone (abc 7 5 256 256) (reads 256 256 ∷ constant 0 ∷ writes 5 5 ∷ [])
    -- counts: by B or by C, and up to the top where 0 is none
    ∷ alone (abc 4 5 0 9) (writes 5 5 ∷ [])
    ∷ alone (abc 4 255 511 0) (writes 255 766 ∷ [])
    ∷ alone (abc 36 5 0 0) (reads 5 5 ∷ reads_from 6 ∷ writes_from 5 ∷ [])
    ∷ alone (abc 36 5 1 1) (reads 5 5 ∷ [])
    ∷ alone (abc 36 5 2 0) (reads 5 6 ∷ writes_from 5 ∷ [])
    ∷ alone (abc 37 5 0 1) (reads 5 5 ∷ reads_from 6 ∷ [])
    ∷ alone (abc 38 5 0 9) (reads_from 5 ∷ [])
    ∷ alone (abc 38 5 1 9) []
    ∷ alone (abc 43 5 0 9) (reads 5 5 ∷ reads_from 6 ∷ [])
    ∷ along (abc 43 5 3 0) (ax 46 1) (reads 5 8 ∷ [])
    ∷ alone (abc 45 5 0 9) (writes_from 5 ∷ [])
    ∷ alone (abc 45 5 3 0) (writes 5 6 ∷ [])
    ∷ alone (abc 45 5 1 9) []
    ∷ alone (abc 29 5 9 8) (writes 5 5 ∷ [])
    ∷ alone (abc 29 5 9 9) (reads 9 9 ∷ writes 5 5 ∷ [])
    ∷ along (abc 41 5 9 0) (abx 42 9 131071) (reads 5 7 ∷ [])
    -- a loop may lead forward, and with sBx 0 both its ways lead to p + 1
    ∷ alone (abx 39 5 131072) (reads 5 7 ∷ writes_to 3 5 5 ∷ writes_to 3 8 8 ∷ [])
    ∷ alone (abx 39 5 131071) (reads 5 7 ∷ writes_to 2 5 5 ∷ writes_to 2 8 8 ∷ [])
    ∷ alone (abx 42 5 131072) (reads 6 6 ∷ writes_to 3 5 5 ∷ [])
    ∷ alone (abx 42 5 131071) (reads 6 6 ∷ writes_to 2 5 5 ∷ [])
    ∷ alone (abx 40 5 131069) (reads 5 7 ∷ writes 5 7 ∷ [])
    -- comparisons with A above 1 and jumps without A touch the same
    ∷ along (abc 31 255 256 0) (abx 30 1 131071) (reads 0 0 ∷ constant 0 ∷ [])
    ∷ alone (abx 30 0 131071) []
    -- the highest indices
    ∷ alone (abx 1 5 262143) (constant 262143 ∷ writes 5 5 ∷ [])
    ∷ along (abc 2 5 0 0) (ax 46 67108863) (constant 67108863 ∷ writes 5 5 ∷ [])
    -- bad words: a companion that is missing, a next word below 0, at n or after it
    ∷ alone (abc 2 5 7 260) []
    ∷ alone (abc 31 1 7 260) []
    ∷ alone (abc 35 5 7 260) []
    ∷ alone (abc 41 5 7 260) []
    ∷ alone (abc 43 5 3 0) []
    ∷ alone (abx 39 5 131068) []
    ∷ alone (abx 42 5 131073) []
    ∷ at ((abc 0 5 7 0) ∷ []) 0 []
    ∷ []
