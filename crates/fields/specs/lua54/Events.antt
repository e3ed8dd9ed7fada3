-- The metamethod events, named and numbered as ltm.h of Lua 5.4.8 has them: "0 `__index` to 24 `__close`".
-- Assumes nothing.
use Rattle.std.specs.Prelude.{ℕ, ◌≡◌, List, [], ◌∷◌}
use Rattle.fields.specs.Rows.{numbers}

abbrev pub TM_INDEX : ℕ
TM_INDEX = 0

abbrev pub TM_NEWINDEX : ℕ
TM_NEWINDEX = 1

abbrev pub TM_GC : ℕ
TM_GC = 2

abbrev pub TM_MODE : ℕ
TM_MODE = 3

abbrev pub TM_LEN : ℕ
TM_LEN = 4

abbrev pub TM_EQ : ℕ
TM_EQ = 5

abbrev pub TM_ADD : ℕ
TM_ADD = 6

abbrev pub TM_SUB : ℕ
TM_SUB = 7

abbrev pub TM_MUL : ℕ
TM_MUL = 8

abbrev pub TM_MOD : ℕ
TM_MOD = 9

abbrev pub TM_POW : ℕ
TM_POW = 10

abbrev pub TM_DIV : ℕ
TM_DIV = 11

abbrev pub TM_IDIV : ℕ
TM_IDIV = 12

abbrev pub TM_BAND : ℕ
TM_BAND = 13

abbrev pub TM_BOR : ℕ
TM_BOR = 14

abbrev pub TM_BXOR : ℕ
TM_BXOR = 15

abbrev pub TM_SHL : ℕ
TM_SHL = 16

abbrev pub TM_SHR : ℕ
TM_SHR = 17

abbrev pub TM_UNM : ℕ
TM_UNM = 18

abbrev pub TM_BNOT : ℕ
TM_BNOT = 19

abbrev pub TM_LT : ℕ
TM_LT = 20

abbrev pub TM_LE : ℕ
TM_LE = 21

abbrev pub TM_CONCAT : ℕ
TM_CONCAT = 22

abbrev pub TM_CALL : ℕ
TM_CALL = 23

abbrev pub TM_CLOSE : ℕ
TM_CLOSE = 24

-- the enumeration TMS, in its order
abbrev pub «TMS» : List ℕ
«TMS» =
    TM_INDEX
    ∷ TM_NEWINDEX
    ∷ TM_GC
    ∷ TM_MODE
    ∷ TM_LEN
    ∷ TM_EQ
    ∷ TM_ADD
    ∷ TM_SUB
    ∷ TM_MUL
    ∷ TM_MOD
    ∷ TM_POW
    ∷ TM_DIV
    ∷ TM_IDIV
    ∷ TM_BAND
    ∷ TM_BOR
    ∷ TM_BXOR
    ∷ TM_SHL
    ∷ TM_SHR
    ∷ TM_UNM
    ∷ TM_BNOT
    ∷ TM_LT
    ∷ TM_LE
    ∷ TM_CONCAT
    ∷ TM_CALL
    ∷ TM_CLOSE
    ∷ []

-- C numbers them from 0 on
abbrev pub EventsEnumerated : Type 0
EventsEnumerated = «TMS» ≡ numbers 0 25
