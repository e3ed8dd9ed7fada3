-- Request C-24: the 47 opcodes, named and numbered as lopcodes.h of Lua 5.3.6 has them.
-- Opcodes 0 to 46 are known, 47 to 63 not.
-- Assumes nothing.
use Rattle.std.specs.Prelude.{ℕ, ◌≡◌, List, [], ◌∷◌}
use Rattle.fields.specs.Rows.{numbers}

abbrev pub OP_MOVE : ℕ
OP_MOVE = 0

abbrev pub OP_LOADK : ℕ
OP_LOADK = 1

abbrev pub OP_LOADKX : ℕ
OP_LOADKX = 2

abbrev pub OP_LOADBOOL : ℕ
OP_LOADBOOL = 3

abbrev pub OP_LOADNIL : ℕ
OP_LOADNIL = 4

abbrev pub OP_GETUPVAL : ℕ
OP_GETUPVAL = 5

abbrev pub OP_GETTABUP : ℕ
OP_GETTABUP = 6

abbrev pub OP_GETTABLE : ℕ
OP_GETTABLE = 7

abbrev pub OP_SETTABUP : ℕ
OP_SETTABUP = 8

abbrev pub OP_SETUPVAL : ℕ
OP_SETUPVAL = 9

abbrev pub OP_SETTABLE : ℕ
OP_SETTABLE = 10

abbrev pub OP_NEWTABLE : ℕ
OP_NEWTABLE = 11

abbrev pub OP_SELF : ℕ
OP_SELF = 12

abbrev pub OP_ADD : ℕ
OP_ADD = 13

abbrev pub OP_SUB : ℕ
OP_SUB = 14

abbrev pub OP_MUL : ℕ
OP_MUL = 15

abbrev pub OP_MOD : ℕ
OP_MOD = 16

abbrev pub OP_POW : ℕ
OP_POW = 17

abbrev pub OP_DIV : ℕ
OP_DIV = 18

abbrev pub OP_IDIV : ℕ
OP_IDIV = 19

abbrev pub OP_BAND : ℕ
OP_BAND = 20

abbrev pub OP_BOR : ℕ
OP_BOR = 21

abbrev pub OP_BXOR : ℕ
OP_BXOR = 22

abbrev pub OP_SHL : ℕ
OP_SHL = 23

abbrev pub OP_SHR : ℕ
OP_SHR = 24

abbrev pub OP_UNM : ℕ
OP_UNM = 25

abbrev pub OP_BNOT : ℕ
OP_BNOT = 26

abbrev pub OP_NOT : ℕ
OP_NOT = 27

abbrev pub OP_LEN : ℕ
OP_LEN = 28

abbrev pub OP_CONCAT : ℕ
OP_CONCAT = 29

abbrev pub OP_JMP : ℕ
OP_JMP = 30

abbrev pub OP_EQ : ℕ
OP_EQ = 31

abbrev pub OP_LT : ℕ
OP_LT = 32

abbrev pub OP_LE : ℕ
OP_LE = 33

abbrev pub OP_TEST : ℕ
OP_TEST = 34

abbrev pub OP_TESTSET : ℕ
OP_TESTSET = 35

abbrev pub OP_CALL : ℕ
OP_CALL = 36

abbrev pub OP_TAILCALL : ℕ
OP_TAILCALL = 37

abbrev pub OP_RETURN : ℕ
OP_RETURN = 38

abbrev pub OP_FORLOOP : ℕ
OP_FORLOOP = 39

abbrev pub OP_FORPREP : ℕ
OP_FORPREP = 40

abbrev pub OP_TFORCALL : ℕ
OP_TFORCALL = 41

abbrev pub OP_TFORLOOP : ℕ
OP_TFORLOOP = 42

abbrev pub OP_SETLIST : ℕ
OP_SETLIST = 43

abbrev pub OP_CLOSURE : ℕ
OP_CLOSURE = 44

abbrev pub OP_VARARG : ℕ
OP_VARARG = 45

abbrev pub OP_EXTRAARG : ℕ
OP_EXTRAARG = 46

-- the first unknown opcode, which is how many are known, and the last one that six bits can hold
abbrev pub OP_UNKNOWN : ℕ
OP_UNKNOWN = 47

abbrev pub OP_LAST : ℕ
OP_LAST = 63

-- the enumeration OpCode
abbrev pub «OpCode» : List ℕ
«OpCode» =
    OP_MOVE
    ∷ OP_LOADK
    ∷ OP_LOADKX
    ∷ OP_LOADBOOL
    ∷ OP_LOADNIL
    ∷ OP_GETUPVAL
    ∷ OP_GETTABUP
    ∷ OP_GETTABLE
    ∷ OP_SETTABUP
    ∷ OP_SETUPVAL
    ∷ OP_SETTABLE
    ∷ OP_NEWTABLE
    ∷ OP_SELF
    ∷ OP_ADD
    ∷ OP_SUB
    ∷ OP_MUL
    ∷ OP_MOD
    ∷ OP_POW
    ∷ OP_DIV
    ∷ OP_IDIV
    ∷ OP_BAND
    ∷ OP_BOR
    ∷ OP_BXOR
    ∷ OP_SHL
    ∷ OP_SHR
    ∷ OP_UNM
    ∷ OP_BNOT
    ∷ OP_NOT
    ∷ OP_LEN
    ∷ OP_CONCAT
    ∷ OP_JMP
    ∷ OP_EQ
    ∷ OP_LT
    ∷ OP_LE
    ∷ OP_TEST
    ∷ OP_TESTSET
    ∷ OP_CALL
    ∷ OP_TAILCALL
    ∷ OP_RETURN
    ∷ OP_FORLOOP
    ∷ OP_FORPREP
    ∷ OP_TFORCALL
    ∷ OP_TFORLOOP
    ∷ OP_SETLIST
    ∷ OP_CLOSURE
    ∷ OP_VARARG
    ∷ OP_EXTRAARG
    ∷ []

-- C numbers them from 0 on
abbrev pub Enumerated : Type 0
Enumerated = «OpCode» ≡ numbers 0 OP_UNKNOWN
