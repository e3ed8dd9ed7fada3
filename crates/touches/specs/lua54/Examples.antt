-- Lists of Lua 5.4 by hand: words of each opcode by its number in lopcodes.h and by the bits of its fields
-- there, with k 0 and k 1, then corners of counts, tops, loops and bad words. What each touches is read off
-- lopcodes.h and lvm.c of 5.4.8 once more, so that no line of specs/lua54/Cases.antt and
-- steps/specs/lua54/Lvm.antt is its only carrier.
-- Assumes nothing.
use Rattle.std.specs.Prelude.{ℕ, ◌+◌, ◌*◌, List, [], ◌∷◌}
use Rattle.touches.specs.Examples.{
  reads,
  reads_from,
  constant,
  upvalue,
  writes,
  writes_from,
  sets,
  writes_to,
  Example,
  at,
  alone,
  along,
  after,
}

-- words by their fields: the opcode in bits 0 to 6, A from 7, k 15, B from 16, C from 24, Bx from 15, Ax from
-- 7; sJ is Ax - 16,777,215
abbrev abc : ℕ → ℕ → ℕ → ℕ → ℕ → ℕ
abc opcode a k b c = opcode + 128 * a + 32768 * k + 65536 * b + 16777216 * c

abbrev abx : ℕ → ℕ → ℕ → ℕ
abx opcode a bx = opcode + 128 * a + 32768 * bx

abbrev ax : ℕ → ℕ → ℕ
ax opcode extra = opcode + 128 * extra

-- with A 5, B 7 and C 9, k 0 and then 1, or as said
abbrev pub examples : List Example
examples =
    -- MOVE
    alone (abc 0 5 0 7 9) (reads 7 7 ∷ writes 5 5 ∷ [])
    ∷ alone (abc 0 5 1 7 9) (reads 7 7 ∷ writes 5 5 ∷ [])
    -- LOADI
    ∷ alone (abc 1 5 0 7 9) (writes 5 5 ∷ [])
    ∷ alone (abc 1 5 1 7 9) (writes 5 5 ∷ [])
    -- LOADF
    ∷ alone (abc 2 5 0 7 9) (writes 5 5 ∷ [])
    ∷ alone (abc 2 5 1 7 9) (writes 5 5 ∷ [])
    -- LOADK: Bx is k + 2 B + 512 C
    ∷ alone (abc 3 5 0 7 9) (constant 4622 ∷ writes 5 5 ∷ [])
    ∷ alone (abc 3 5 1 7 9) (constant 4623 ∷ writes 5 5 ∷ [])
    -- LOADKX
    ∷ along (abc 4 5 0 7 9) (ax 82 70000) (constant 70000 ∷ writes 5 5 ∷ [])
    ∷ along (abc 4 5 1 7 9) (ax 82 70000) (constant 70000 ∷ writes 5 5 ∷ [])
    -- LOADFALSE
    ∷ alone (abc 5 5 0 7 9) (writes 5 5 ∷ [])
    ∷ alone (abc 5 5 1 7 9) (writes 5 5 ∷ [])
    -- LFALSESKIP
    ∷ alone (abc 6 5 0 7 9) (writes 5 5 ∷ [])
    ∷ alone (abc 6 5 1 7 9) (writes 5 5 ∷ [])
    -- LOADTRUE
    ∷ alone (abc 7 5 0 7 9) (writes 5 5 ∷ [])
    ∷ alone (abc 7 5 1 7 9) (writes 5 5 ∷ [])
    -- LOADNIL
    ∷ alone (abc 8 5 0 7 9) (writes 5 12 ∷ [])
    ∷ alone (abc 8 5 1 7 9) (writes 5 12 ∷ [])
    -- GETUPVAL
    ∷ alone (abc 9 5 0 7 9) (upvalue 7 ∷ writes 5 5 ∷ [])
    ∷ alone (abc 9 5 1 7 9) (upvalue 7 ∷ writes 5 5 ∷ [])
    -- SETUPVAL
    ∷ alone (abc 10 5 0 7 9) (reads 5 5 ∷ sets 7 ∷ [])
    ∷ alone (abc 10 5 1 7 9) (reads 5 5 ∷ sets 7 ∷ [])
    -- GETTABUP
    ∷ alone (abc 11 5 0 7 9) (constant 9 ∷ upvalue 7 ∷ writes 5 5 ∷ [])
    ∷ alone (abc 11 5 1 7 9) (constant 9 ∷ upvalue 7 ∷ writes 5 5 ∷ [])
    -- GETTABLE
    ∷ alone (abc 12 5 0 7 9) (reads 7 7 ∷ reads 9 9 ∷ writes 5 5 ∷ [])
    ∷ alone (abc 12 5 1 7 9) (reads 7 7 ∷ reads 9 9 ∷ writes 5 5 ∷ [])
    -- GETI
    ∷ alone (abc 13 5 0 7 9) (reads 7 7 ∷ writes 5 5 ∷ [])
    ∷ alone (abc 13 5 1 7 9) (reads 7 7 ∷ writes 5 5 ∷ [])
    -- GETFIELD
    ∷ alone (abc 14 5 0 7 9) (reads 7 7 ∷ constant 9 ∷ writes 5 5 ∷ [])
    ∷ alone (abc 14 5 1 7 9) (reads 7 7 ∷ constant 9 ∷ writes 5 5 ∷ [])
    -- SETTABUP
    ∷ alone (abc 15 5 0 7 9) (reads 9 9 ∷ constant 7 ∷ upvalue 5 ∷ [])
    ∷ alone (abc 15 5 1 7 9) (constant 7 ∷ constant 9 ∷ upvalue 5 ∷ [])
    -- SETTABLE
    ∷ alone (abc 16 5 0 7 9) (reads 5 5 ∷ reads 7 7 ∷ reads 9 9 ∷ [])
    ∷ alone (abc 16 5 1 7 9) (reads 5 5 ∷ reads 7 7 ∷ constant 9 ∷ [])
    -- SETI
    ∷ alone (abc 17 5 0 7 9) (reads 5 5 ∷ reads 9 9 ∷ [])
    ∷ alone (abc 17 5 1 7 9) (reads 5 5 ∷ constant 9 ∷ [])
    -- SETFIELD
    ∷ alone (abc 18 5 0 7 9) (reads 5 5 ∷ reads 9 9 ∷ constant 7 ∷ [])
    ∷ alone (abc 18 5 1 7 9) (reads 5 5 ∷ constant 7 ∷ constant 9 ∷ [])
    -- NEWTABLE
    ∷ along (abc 19 5 0 7 9) (ax 82 70000) (writes 5 5 ∷ [])
    ∷ along (abc 19 5 1 7 9) (ax 82 70000) (writes 5 5 ∷ [])
    -- SELF
    ∷ alone (abc 20 5 0 7 9) (reads 7 7 ∷ reads 9 9 ∷ writes 5 6 ∷ [])
    ∷ alone (abc 20 5 1 7 9) (reads 7 7 ∷ constant 9 ∷ writes 5 6 ∷ [])
    -- ADDI
    ∷ along (abc 21 5 0 7 9) (abc 46 0 0 0 0) (reads 7 7 ∷ writes_to 3 5 5 ∷ [])
    ∷ along (abc 21 5 1 7 9) (abc 46 0 0 0 0) (reads 7 7 ∷ writes_to 3 5 5 ∷ [])
    -- ADDK
    ∷ along (abc 22 5 0 7 9) (abc 46 0 0 0 0) (reads 7 7 ∷ constant 9 ∷ writes_to 3 5 5 ∷ [])
    ∷ along (abc 22 5 1 7 9) (abc 46 0 0 0 0) (reads 7 7 ∷ constant 9 ∷ writes_to 3 5 5 ∷ [])
    -- SUBK
    ∷ along (abc 23 5 0 7 9) (abc 46 0 0 0 0) (reads 7 7 ∷ constant 9 ∷ writes_to 3 5 5 ∷ [])
    ∷ along (abc 23 5 1 7 9) (abc 46 0 0 0 0) (reads 7 7 ∷ constant 9 ∷ writes_to 3 5 5 ∷ [])
    -- MULK
    ∷ along (abc 24 5 0 7 9) (abc 46 0 0 0 0) (reads 7 7 ∷ constant 9 ∷ writes_to 3 5 5 ∷ [])
    ∷ along (abc 24 5 1 7 9) (abc 46 0 0 0 0) (reads 7 7 ∷ constant 9 ∷ writes_to 3 5 5 ∷ [])
    -- MODK
    ∷ along (abc 25 5 0 7 9) (abc 46 0 0 0 0) (reads 7 7 ∷ constant 9 ∷ writes_to 3 5 5 ∷ [])
    ∷ along (abc 25 5 1 7 9) (abc 46 0 0 0 0) (reads 7 7 ∷ constant 9 ∷ writes_to 3 5 5 ∷ [])
    -- POWK
    ∷ along (abc 26 5 0 7 9) (abc 46 0 0 0 0) (reads 7 7 ∷ constant 9 ∷ writes_to 3 5 5 ∷ [])
    ∷ along (abc 26 5 1 7 9) (abc 46 0 0 0 0) (reads 7 7 ∷ constant 9 ∷ writes_to 3 5 5 ∷ [])
    -- DIVK
    ∷ along (abc 27 5 0 7 9) (abc 46 0 0 0 0) (reads 7 7 ∷ constant 9 ∷ writes_to 3 5 5 ∷ [])
    ∷ along (abc 27 5 1 7 9) (abc 46 0 0 0 0) (reads 7 7 ∷ constant 9 ∷ writes_to 3 5 5 ∷ [])
    -- IDIVK
    ∷ along (abc 28 5 0 7 9) (abc 46 0 0 0 0) (reads 7 7 ∷ constant 9 ∷ writes_to 3 5 5 ∷ [])
    ∷ along (abc 28 5 1 7 9) (abc 46 0 0 0 0) (reads 7 7 ∷ constant 9 ∷ writes_to 3 5 5 ∷ [])
    -- BANDK
    ∷ along (abc 29 5 0 7 9) (abc 46 0 0 0 0) (reads 7 7 ∷ constant 9 ∷ writes_to 3 5 5 ∷ [])
    ∷ along (abc 29 5 1 7 9) (abc 46 0 0 0 0) (reads 7 7 ∷ constant 9 ∷ writes_to 3 5 5 ∷ [])
    -- BORK
    ∷ along (abc 30 5 0 7 9) (abc 46 0 0 0 0) (reads 7 7 ∷ constant 9 ∷ writes_to 3 5 5 ∷ [])
    ∷ along (abc 30 5 1 7 9) (abc 46 0 0 0 0) (reads 7 7 ∷ constant 9 ∷ writes_to 3 5 5 ∷ [])
    -- BXORK
    ∷ along (abc 31 5 0 7 9) (abc 46 0 0 0 0) (reads 7 7 ∷ constant 9 ∷ writes_to 3 5 5 ∷ [])
    ∷ along (abc 31 5 1 7 9) (abc 46 0 0 0 0) (reads 7 7 ∷ constant 9 ∷ writes_to 3 5 5 ∷ [])
    -- SHRI
    ∷ along (abc 32 5 0 7 9) (abc 46 0 0 0 0) (reads 7 7 ∷ writes_to 3 5 5 ∷ [])
    ∷ along (abc 32 5 1 7 9) (abc 46 0 0 0 0) (reads 7 7 ∷ writes_to 3 5 5 ∷ [])
    -- SHLI
    ∷ along (abc 33 5 0 7 9) (abc 46 0 0 0 0) (reads 7 7 ∷ writes_to 3 5 5 ∷ [])
    ∷ along (abc 33 5 1 7 9) (abc 46 0 0 0 0) (reads 7 7 ∷ writes_to 3 5 5 ∷ [])
    -- ADD
    ∷ along (abc 34 5 0 7 9) (abc 46 0 0 0 0) (reads 7 7 ∷ reads 9 9 ∷ writes_to 3 5 5 ∷ [])
    ∷ along (abc 34 5 1 7 9) (abc 46 0 0 0 0) (reads 7 7 ∷ reads 9 9 ∷ writes_to 3 5 5 ∷ [])
    -- SUB
    ∷ along (abc 35 5 0 7 9) (abc 46 0 0 0 0) (reads 7 7 ∷ reads 9 9 ∷ writes_to 3 5 5 ∷ [])
    ∷ along (abc 35 5 1 7 9) (abc 46 0 0 0 0) (reads 7 7 ∷ reads 9 9 ∷ writes_to 3 5 5 ∷ [])
    -- MUL
    ∷ along (abc 36 5 0 7 9) (abc 46 0 0 0 0) (reads 7 7 ∷ reads 9 9 ∷ writes_to 3 5 5 ∷ [])
    ∷ along (abc 36 5 1 7 9) (abc 46 0 0 0 0) (reads 7 7 ∷ reads 9 9 ∷ writes_to 3 5 5 ∷ [])
    -- MOD
    ∷ along (abc 37 5 0 7 9) (abc 46 0 0 0 0) (reads 7 7 ∷ reads 9 9 ∷ writes_to 3 5 5 ∷ [])
    ∷ along (abc 37 5 1 7 9) (abc 46 0 0 0 0) (reads 7 7 ∷ reads 9 9 ∷ writes_to 3 5 5 ∷ [])
    -- POW
    ∷ along (abc 38 5 0 7 9) (abc 46 0 0 0 0) (reads 7 7 ∷ reads 9 9 ∷ writes_to 3 5 5 ∷ [])
    ∷ along (abc 38 5 1 7 9) (abc 46 0 0 0 0) (reads 7 7 ∷ reads 9 9 ∷ writes_to 3 5 5 ∷ [])
    -- DIV
    ∷ along (abc 39 5 0 7 9) (abc 46 0 0 0 0) (reads 7 7 ∷ reads 9 9 ∷ writes_to 3 5 5 ∷ [])
    ∷ along (abc 39 5 1 7 9) (abc 46 0 0 0 0) (reads 7 7 ∷ reads 9 9 ∷ writes_to 3 5 5 ∷ [])
    -- IDIV
    ∷ along (abc 40 5 0 7 9) (abc 46 0 0 0 0) (reads 7 7 ∷ reads 9 9 ∷ writes_to 3 5 5 ∷ [])
    ∷ along (abc 40 5 1 7 9) (abc 46 0 0 0 0) (reads 7 7 ∷ reads 9 9 ∷ writes_to 3 5 5 ∷ [])
    -- BAND
    ∷ along (abc 41 5 0 7 9) (abc 46 0 0 0 0) (reads 7 7 ∷ reads 9 9 ∷ writes_to 3 5 5 ∷ [])
    ∷ along (abc 41 5 1 7 9) (abc 46 0 0 0 0) (reads 7 7 ∷ reads 9 9 ∷ writes_to 3 5 5 ∷ [])
    -- BOR
    ∷ along (abc 42 5 0 7 9) (abc 46 0 0 0 0) (reads 7 7 ∷ reads 9 9 ∷ writes_to 3 5 5 ∷ [])
    ∷ along (abc 42 5 1 7 9) (abc 46 0 0 0 0) (reads 7 7 ∷ reads 9 9 ∷ writes_to 3 5 5 ∷ [])
    -- BXOR
    ∷ along (abc 43 5 0 7 9) (abc 46 0 0 0 0) (reads 7 7 ∷ reads 9 9 ∷ writes_to 3 5 5 ∷ [])
    ∷ along (abc 43 5 1 7 9) (abc 46 0 0 0 0) (reads 7 7 ∷ reads 9 9 ∷ writes_to 3 5 5 ∷ [])
    -- SHL
    ∷ along (abc 44 5 0 7 9) (abc 46 0 0 0 0) (reads 7 7 ∷ reads 9 9 ∷ writes_to 3 5 5 ∷ [])
    ∷ along (abc 44 5 1 7 9) (abc 46 0 0 0 0) (reads 7 7 ∷ reads 9 9 ∷ writes_to 3 5 5 ∷ [])
    -- SHR
    ∷ along (abc 45 5 0 7 9) (abc 46 0 0 0 0) (reads 7 7 ∷ reads 9 9 ∷ writes_to 3 5 5 ∷ [])
    ∷ along (abc 45 5 1 7 9) (abc 46 0 0 0 0) (reads 7 7 ∷ reads 9 9 ∷ writes_to 3 5 5 ∷ [])
    -- MMBIN, after an ADD with A 11
    ∷ after (abc 34 11 0 0 0) (abc 46 5 0 7 9) (reads 5 5 ∷ reads 7 7 ∷ writes 11 11 ∷ [])
    ∷ after (abc 34 11 0 0 0) (abc 46 5 1 7 9) (reads 5 5 ∷ reads 7 7 ∷ writes 11 11 ∷ [])
    -- MMBINI
    ∷ after (abc 34 11 0 0 0) (abc 47 5 0 7 9) (reads 5 5 ∷ writes 11 11 ∷ [])
    ∷ after (abc 34 11 0 0 0) (abc 47 5 1 7 9) (reads 5 5 ∷ writes 11 11 ∷ [])
    -- MMBINK
    ∷ after (abc 34 11 0 0 0) (abc 48 5 0 7 9) (reads 5 5 ∷ constant 7 ∷ writes 11 11 ∷ [])
    ∷ after (abc 34 11 0 0 0) (abc 48 5 1 7 9) (reads 5 5 ∷ constant 7 ∷ writes 11 11 ∷ [])
    -- UNM
    ∷ alone (abc 49 5 0 7 9) (reads 7 7 ∷ writes 5 5 ∷ [])
    ∷ alone (abc 49 5 1 7 9) (reads 7 7 ∷ writes 5 5 ∷ [])
    -- BNOT
    ∷ alone (abc 50 5 0 7 9) (reads 7 7 ∷ writes 5 5 ∷ [])
    ∷ alone (abc 50 5 1 7 9) (reads 7 7 ∷ writes 5 5 ∷ [])
    -- NOT
    ∷ alone (abc 51 5 0 7 9) (reads 7 7 ∷ writes 5 5 ∷ [])
    ∷ alone (abc 51 5 1 7 9) (reads 7 7 ∷ writes 5 5 ∷ [])
    -- LEN
    ∷ alone (abc 52 5 0 7 9) (reads 7 7 ∷ writes 5 5 ∷ [])
    ∷ alone (abc 52 5 1 7 9) (reads 7 7 ∷ writes 5 5 ∷ [])
    -- CONCAT
    ∷ alone (abc 53 5 0 7 9) (reads 5 11 ∷ writes 5 5 ∷ [])
    ∷ alone (abc 53 5 1 7 9) (reads 5 11 ∷ writes 5 5 ∷ [])
    -- CLOSE
    ∷ alone (abc 54 5 0 7 9) []
    ∷ alone (abc 54 5 1 7 9) []
    -- TBC
    ∷ alone (abc 55 5 0 7 9) (reads 5 5 ∷ [])
    ∷ alone (abc 55 5 1 7 9) (reads 5 5 ∷ [])
    -- JMP with sJ 0
    ∷ alone (ax 56 16777215) []
    -- EQ
    ∷ along (abc 57 5 0 7 9) (ax 56 16777215) (reads 5 5 ∷ reads 7 7 ∷ [])
    ∷ along (abc 57 5 1 7 9) (ax 56 16777215) (reads 5 5 ∷ reads 7 7 ∷ [])
    -- LT
    ∷ along (abc 58 5 0 7 9) (ax 56 16777215) (reads 5 5 ∷ reads 7 7 ∷ [])
    ∷ along (abc 58 5 1 7 9) (ax 56 16777215) (reads 5 5 ∷ reads 7 7 ∷ [])
    -- LE
    ∷ along (abc 59 5 0 7 9) (ax 56 16777215) (reads 5 5 ∷ reads 7 7 ∷ [])
    ∷ along (abc 59 5 1 7 9) (ax 56 16777215) (reads 5 5 ∷ reads 7 7 ∷ [])
    -- EQK
    ∷ along (abc 60 5 0 7 9) (ax 56 16777215) (reads 5 5 ∷ constant 7 ∷ [])
    ∷ along (abc 60 5 1 7 9) (ax 56 16777215) (reads 5 5 ∷ constant 7 ∷ [])
    -- EQI
    ∷ along (abc 61 5 0 7 9) (ax 56 16777215) (reads 5 5 ∷ [])
    ∷ along (abc 61 5 1 7 9) (ax 56 16777215) (reads 5 5 ∷ [])
    -- LTI
    ∷ along (abc 62 5 0 7 9) (ax 56 16777215) (reads 5 5 ∷ [])
    ∷ along (abc 62 5 1 7 9) (ax 56 16777215) (reads 5 5 ∷ [])
    -- LEI
    ∷ along (abc 63 5 0 7 9) (ax 56 16777215) (reads 5 5 ∷ [])
    ∷ along (abc 63 5 1 7 9) (ax 56 16777215) (reads 5 5 ∷ [])
    -- GTI
    ∷ along (abc 64 5 0 7 9) (ax 56 16777215) (reads 5 5 ∷ [])
    ∷ along (abc 64 5 1 7 9) (ax 56 16777215) (reads 5 5 ∷ [])
    -- GEI
    ∷ along (abc 65 5 0 7 9) (ax 56 16777215) (reads 5 5 ∷ [])
    ∷ along (abc 65 5 1 7 9) (ax 56 16777215) (reads 5 5 ∷ [])
    -- TEST
    ∷ along (abc 66 5 0 7 9) (ax 56 16777215) (reads 5 5 ∷ [])
    ∷ along (abc 66 5 1 7 9) (ax 56 16777215) (reads 5 5 ∷ [])
    -- TESTSET
    ∷ along (abc 67 5 0 7 9) (ax 56 16777215) (reads 7 7 ∷ writes_to 2 5 5 ∷ [])
    ∷ along (abc 67 5 1 7 9) (ax 56 16777215) (reads 7 7 ∷ writes_to 2 5 5 ∷ [])
    -- CALL
    ∷ alone (abc 68 5 0 7 9) (reads 5 11 ∷ writes 5 12 ∷ [])
    ∷ alone (abc 68 5 1 7 9) (reads 5 11 ∷ writes 5 12 ∷ [])
    -- TAILCALL
    ∷ alone (abc 69 5 0 7 9) (reads 5 11 ∷ [])
    ∷ alone (abc 69 5 1 7 9) (reads 5 11 ∷ [])
    -- RETURN
    ∷ alone (abc 70 5 0 7 9) (reads 5 10 ∷ [])
    ∷ alone (abc 70 5 1 7 9) (reads 5 10 ∷ [])
    -- RETURN0
    ∷ alone (abc 71 5 0 7 9) []
    ∷ alone (abc 71 5 1 7 9) []
    -- RETURN1
    ∷ alone (abc 72 5 0 7 9) (reads 5 5 ∷ [])
    ∷ alone (abc 72 5 1 7 9) (reads 5 5 ∷ [])
    -- FORLOOP with Bx 2, and with Bx 0, where both its ways lead to p + 1
    ∷ alone (abx 73 5 2) (reads 5 7 ∷ writes_to 0 5 6 ∷ writes_to 0 8 8 ∷ [])
    ∷ alone (abx 73 5 0) (reads 5 7 ∷ writes_to 2 5 6 ∷ writes_to 2 8 8 ∷ [])
    -- FORPREP, which sets R[A+3] on either way
    ∷ alone (abx 74 5 0) (reads 5 7 ∷ writes 8 8 ∷ writes_to 2 5 7 ∷ [])
    -- TFORPREP, with TFORCALL where it leads
    ∷ along (abx 75 5 0) (abc 76 9 0 0 0) (reads 8 8 ∷ [])
    -- TFORCALL, with TFORLOOP after it
    ∷ along (abc 76 5 0 7 9) (abx 77 9 0) (reads 5 7 ∷ writes 9 17 ∷ [])
    ∷ along (abc 76 5 1 7 9) (abx 77 9 0) (reads 5 7 ∷ writes 9 17 ∷ [])
    -- TFORLOOP with Bx 2 and with Bx 0
    ∷ alone (abx 77 5 2) (reads 9 9 ∷ writes_to 0 7 7 ∷ [])
    ∷ alone (abx 77 5 0) (reads 9 9 ∷ writes_to 2 7 7 ∷ [])
    -- SETLIST, with k 1 before an EXTRAARG
    ∷ alone (abc 78 5 0 7 9) (reads 5 12 ∷ [])
    ∷ along (abc 78 5 1 7 9) (ax 82 70000) (reads 5 12 ∷ [])
    -- CLOSURE
    ∷ alone (abc 79 5 0 7 9) (writes 5 5 ∷ [])
    ∷ alone (abc 79 5 1 7 9) (writes 5 5 ∷ [])
    -- VARARG
    ∷ alone (abc 80 5 0 7 9) (writes 5 12 ∷ [])
    ∷ alone (abc 80 5 1 7 9) (writes 5 12 ∷ [])
    -- VARARGPREP
    ∷ alone (abc 81 5 0 7 9) []
    ∷ alone (abc 81 5 1 7 9) []
    -- EXTRAARG
    ∷ alone (abc 82 5 0 7 9) []
    ∷ alone (abc 82 5 1 7 9) []
    -- counts: up to the top where 0 is none
    ∷ alone (abc 8 255 0 255 0) (writes 255 510 ∷ [])
    ∷ alone (abc 53 5 0 0 9) (writes 5 5 ∷ [])
    ∷ alone (abc 53 5 0 1 9) (reads 5 5 ∷ writes 5 5 ∷ [])
    ∷ alone (abc 68 5 0 0 0) (reads 5 5 ∷ reads_from 6 ∷ writes_from 5 ∷ [])
    ∷ alone (abc 68 5 0 1 1) (reads 5 5 ∷ [])
    ∷ alone (abc 68 5 0 2 0) (reads 5 6 ∷ writes_from 5 ∷ [])
    ∷ alone (abc 69 5 0 0 1) (reads 5 5 ∷ reads_from 6 ∷ [])
    ∷ alone (abc 70 5 0 0 9) (reads_from 5 ∷ [])
    ∷ alone (abc 70 5 0 1 9) []
    ∷ alone (abc 78 5 0 0 9) (reads 5 5 ∷ reads_from 6 ∷ [])
    ∷ alone (abc 80 5 0 7 0) (writes_from 5 ∷ [])
    ∷ alone (abc 80 5 0 7 1) []
    ∷ along (abc 76 255 0 0 255) (abx 77 9 0) (reads 255 257 ∷ writes 259 513 ∷ [])
    ∷ along (abc 76 5 0 0 0) (abx 77 9 0) (reads 5 7 ∷ [])
    -- neighbours and repeats
    ∷ alone (abc 12 5 0 7 6) (reads 6 7 ∷ writes 5 5 ∷ [])
    ∷ alone (abc 16 6 0 5 7) (reads 5 7 ∷ [])
    ∷ alone (abc 16 5 0 5 5) (reads 5 5 ∷ [])
    ∷ alone (abc 15 5 1 9 9) (constant 9 ∷ upvalue 5 ∷ [])
    ∷ alone (abc 18 5 1 9 7) (reads 5 5 ∷ constant 7 ∷ constant 9 ∷ [])
    ∷ alone (abc 20 255 0 7 0) (reads 0 0 ∷ reads 7 7 ∷ writes 255 256 ∷ [])
    -- the highest indices
    ∷ alone (abx 3 5 131071) (constant 131071 ∷ writes 5 5 ∷ [])
    ∷ along (abc 4 5 0 0 0) (ax 82 33554431) (constant 33554431 ∷ writes 5 5 ∷ [])
    -- bad words: a companion that is missing, a next word below 0, at n or after it
    ∷ alone (abc 34 5 0 7 9) []
    ∷ alone (abc 46 5 0 7 9) []
    ∷ alone (abc 67 5 0 7 9) []
    ∷ alone (abc 4 5 0 0 0) []
    ∷ alone (abc 78 5 1 7 9) []
    ∷ alone (abx 75 5 0) []
    ∷ alone (abc 76 5 0 0 9) []
    ∷ alone (abx 73 5 3) []
    ∷ alone (abx 74 5 1) []
    ∷ alone (abc 83 5 0 7 9) []
    ∷ alone (abc 127 5 0 7 9) []
    ∷ at (abc 0 5 0 7 0 ∷ []) 0 []
    -- a word number of n
    ∷ at (abc 0 5 0 7 0 ∷ abc 71 0 0 0 0 ∷ []) 2 []
    ∷ []
