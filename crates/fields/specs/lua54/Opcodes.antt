-- The 83 opcodes, named and numbered as lopcodes.h of Lua 5.4.8 has them. Opcodes 0 to 82
-- are known, 83 to 127 not.
-- Assumes nothing.
use Rattle.std.specs.Prelude.{ℕ, ◌≡◌, List, [], ◌∷◌}
use Rattle.fields.specs.Rows.{numbers}

abbrev pub OP_MOVE : ℕ
OP_MOVE = 0

abbrev pub OP_LOADI : ℕ
OP_LOADI = 1

abbrev pub OP_LOADF : ℕ
OP_LOADF = 2

abbrev pub OP_LOADK : ℕ
OP_LOADK = 3

abbrev pub OP_LOADKX : ℕ
OP_LOADKX = 4

abbrev pub OP_LOADFALSE : ℕ
OP_LOADFALSE = 5

abbrev pub OP_LFALSESKIP : ℕ
OP_LFALSESKIP = 6

abbrev pub OP_LOADTRUE : ℕ
OP_LOADTRUE = 7

abbrev pub OP_LOADNIL : ℕ
OP_LOADNIL = 8

abbrev pub OP_GETUPVAL : ℕ
OP_GETUPVAL = 9

abbrev pub OP_SETUPVAL : ℕ
OP_SETUPVAL = 10

abbrev pub OP_GETTABUP : ℕ
OP_GETTABUP = 11

abbrev pub OP_GETTABLE : ℕ
OP_GETTABLE = 12

abbrev pub OP_GETI : ℕ
OP_GETI = 13

abbrev pub OP_GETFIELD : ℕ
OP_GETFIELD = 14

abbrev pub OP_SETTABUP : ℕ
OP_SETTABUP = 15

abbrev pub OP_SETTABLE : ℕ
OP_SETTABLE = 16

abbrev pub OP_SETI : ℕ
OP_SETI = 17

abbrev pub OP_SETFIELD : ℕ
OP_SETFIELD = 18

abbrev pub OP_NEWTABLE : ℕ
OP_NEWTABLE = 19

abbrev pub OP_SELF : ℕ
OP_SELF = 20

abbrev pub OP_ADDI : ℕ
OP_ADDI = 21

abbrev pub OP_ADDK : ℕ
OP_ADDK = 22

abbrev pub OP_SUBK : ℕ
OP_SUBK = 23

abbrev pub OP_MULK : ℕ
OP_MULK = 24

abbrev pub OP_MODK : ℕ
OP_MODK = 25

abbrev pub OP_POWK : ℕ
OP_POWK = 26

abbrev pub OP_DIVK : ℕ
OP_DIVK = 27

abbrev pub OP_IDIVK : ℕ
OP_IDIVK = 28

abbrev pub OP_BANDK : ℕ
OP_BANDK = 29

abbrev pub OP_BORK : ℕ
OP_BORK = 30

abbrev pub OP_BXORK : ℕ
OP_BXORK = 31

abbrev pub OP_SHRI : ℕ
OP_SHRI = 32

abbrev pub OP_SHLI : ℕ
OP_SHLI = 33

abbrev pub OP_ADD : ℕ
OP_ADD = 34

abbrev pub OP_SUB : ℕ
OP_SUB = 35

abbrev pub OP_MUL : ℕ
OP_MUL = 36

abbrev pub OP_MOD : ℕ
OP_MOD = 37

abbrev pub OP_POW : ℕ
OP_POW = 38

abbrev pub OP_DIV : ℕ
OP_DIV = 39

abbrev pub OP_IDIV : ℕ
OP_IDIV = 40

abbrev pub OP_BAND : ℕ
OP_BAND = 41

abbrev pub OP_BOR : ℕ
OP_BOR = 42

abbrev pub OP_BXOR : ℕ
OP_BXOR = 43

abbrev pub OP_SHL : ℕ
OP_SHL = 44

abbrev pub OP_SHR : ℕ
OP_SHR = 45

abbrev pub OP_MMBIN : ℕ
OP_MMBIN = 46

abbrev pub OP_MMBINI : ℕ
OP_MMBINI = 47

abbrev pub OP_MMBINK : ℕ
OP_MMBINK = 48

abbrev pub OP_UNM : ℕ
OP_UNM = 49

abbrev pub OP_BNOT : ℕ
OP_BNOT = 50

abbrev pub OP_NOT : ℕ
OP_NOT = 51

abbrev pub OP_LEN : ℕ
OP_LEN = 52

abbrev pub OP_CONCAT : ℕ
OP_CONCAT = 53

abbrev pub OP_CLOSE : ℕ
OP_CLOSE = 54

abbrev pub OP_TBC : ℕ
OP_TBC = 55

abbrev pub OP_JMP : ℕ
OP_JMP = 56

abbrev pub OP_EQ : ℕ
OP_EQ = 57

abbrev pub OP_LT : ℕ
OP_LT = 58

abbrev pub OP_LE : ℕ
OP_LE = 59

abbrev pub OP_EQK : ℕ
OP_EQK = 60

abbrev pub OP_EQI : ℕ
OP_EQI = 61

abbrev pub OP_LTI : ℕ
OP_LTI = 62

abbrev pub OP_LEI : ℕ
OP_LEI = 63

abbrev pub OP_GTI : ℕ
OP_GTI = 64

abbrev pub OP_GEI : ℕ
OP_GEI = 65

abbrev pub OP_TEST : ℕ
OP_TEST = 66

abbrev pub OP_TESTSET : ℕ
OP_TESTSET = 67

abbrev pub OP_CALL : ℕ
OP_CALL = 68

abbrev pub OP_TAILCALL : ℕ
OP_TAILCALL = 69

abbrev pub OP_RETURN : ℕ
OP_RETURN = 70

abbrev pub OP_RETURN0 : ℕ
OP_RETURN0 = 71

abbrev pub OP_RETURN1 : ℕ
OP_RETURN1 = 72

abbrev pub OP_FORLOOP : ℕ
OP_FORLOOP = 73

abbrev pub OP_FORPREP : ℕ
OP_FORPREP = 74

abbrev pub OP_TFORPREP : ℕ
OP_TFORPREP = 75

abbrev pub OP_TFORCALL : ℕ
OP_TFORCALL = 76

abbrev pub OP_TFORLOOP : ℕ
OP_TFORLOOP = 77

abbrev pub OP_SETLIST : ℕ
OP_SETLIST = 78

abbrev pub OP_CLOSURE : ℕ
OP_CLOSURE = 79

abbrev pub OP_VARARG : ℕ
OP_VARARG = 80

abbrev pub OP_VARARGPREP : ℕ
OP_VARARGPREP = 81

abbrev pub OP_EXTRAARG : ℕ
OP_EXTRAARG = 82

-- the lowest unknown value, and the highest that 7 bits hold
abbrev pub OP_UNKNOWN : ℕ
OP_UNKNOWN = 83

abbrev pub OP_LAST : ℕ
OP_LAST = 127

-- the enumeration OpCode, in its order
abbrev pub «OpCode» : List ℕ
«OpCode» =
    OP_MOVE
    ∷ OP_LOADI
    ∷ OP_LOADF
    ∷ OP_LOADK
    ∷ OP_LOADKX
    ∷ OP_LOADFALSE
    ∷ OP_LFALSESKIP
    ∷ OP_LOADTRUE
    ∷ OP_LOADNIL
    ∷ OP_GETUPVAL
    ∷ OP_SETUPVAL
    ∷ OP_GETTABUP
    ∷ OP_GETTABLE
    ∷ OP_GETI
    ∷ OP_GETFIELD
    ∷ OP_SETTABUP
    ∷ OP_SETTABLE
    ∷ OP_SETI
    ∷ OP_SETFIELD
    ∷ OP_NEWTABLE
    ∷ OP_SELF
    ∷ OP_ADDI
    ∷ OP_ADDK
    ∷ OP_SUBK
    ∷ OP_MULK
    ∷ OP_MODK
    ∷ OP_POWK
    ∷ OP_DIVK
    ∷ OP_IDIVK
    ∷ OP_BANDK
    ∷ OP_BORK
    ∷ OP_BXORK
    ∷ OP_SHRI
    ∷ OP_SHLI
    ∷ OP_ADD
    ∷ OP_SUB
    ∷ OP_MUL
    ∷ OP_MOD
    ∷ OP_POW
    ∷ OP_DIV
    ∷ OP_IDIV
    ∷ OP_BAND
    ∷ OP_BOR
    ∷ OP_BXOR
    ∷ OP_SHL
    ∷ OP_SHR
    ∷ OP_MMBIN
    ∷ OP_MMBINI
    ∷ OP_MMBINK
    ∷ OP_UNM
    ∷ OP_BNOT
    ∷ OP_NOT
    ∷ OP_LEN
    ∷ OP_CONCAT
    ∷ OP_CLOSE
    ∷ OP_TBC
    ∷ OP_JMP
    ∷ OP_EQ
    ∷ OP_LT
    ∷ OP_LE
    ∷ OP_EQK
    ∷ OP_EQI
    ∷ OP_LTI
    ∷ OP_LEI
    ∷ OP_GTI
    ∷ OP_GEI
    ∷ OP_TEST
    ∷ OP_TESTSET
    ∷ OP_CALL
    ∷ OP_TAILCALL
    ∷ OP_RETURN
    ∷ OP_RETURN0
    ∷ OP_RETURN1
    ∷ OP_FORLOOP
    ∷ OP_FORPREP
    ∷ OP_TFORPREP
    ∷ OP_TFORCALL
    ∷ OP_TFORLOOP
    ∷ OP_SETLIST
    ∷ OP_CLOSURE
    ∷ OP_VARARG
    ∷ OP_VARARGPREP
    ∷ OP_EXTRAARG
    ∷ []

-- C numbers them from 0 on
abbrev pub Enumerated : Type 0
Enumerated = «OpCode» ≡ numbers 0 OP_UNKNOWN
