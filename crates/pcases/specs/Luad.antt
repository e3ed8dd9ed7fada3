-- luad's own records, number by number: what its lift_proto_lua54, run by compare/oracle, answers of one word
-- or more of each opcode and of document 01's corners ("Records"), as the 53 numbers of include/RECORD.md.
-- The definition's are the same: a record changed in its definition and in the code alike is refused here.
-- Assumes nothing.
use Rattle.std.specs.Prelude.{ℕ, zero, suc, ◌+◌, ◌-◌, ◌*◌, ◌≤◌, ◌<◌, ◌≡◌, List, [], ◌∷◌, ◌++◌, length}
use Rattle.std.specs.Prelude.{get_or, replicate}
use Rattle.fields.specs.lua54.Word.{opcode_of}
use Rattle.records.specs.Lift.{lift_of}
use Rattle.lifted.specs.Record.{numbers_of}

-- a word without its opcode, by its fields
abbrev pub abc : ℕ → ℕ → ℕ → ℕ → ℕ
abc a k b c = 128 * a + 32768 * k + 65536 * b + 16777216 * c

abbrev pub abx : ℕ → ℕ → ℕ
abx a bx = 128 * a + 32768 * bx

abbrev pub ax : ℕ → ℕ
ax n = 128 * n

-- -n as 64 bits
abbrev pub below0 : ℕ → ℕ
below0 n = 18446744073709551616 - n

-- an operand, a read or a write: its kind and three numbers

abbrev pub reg : ℕ → List ℕ
reg index = 0 ∷ index ∷ 0 ∷ 0 ∷ []

-- operands

abbrev pub const : ℕ → ℕ → ℕ → List ℕ
const index kind value = 1 ∷ index ∷ kind ∷ value ∷ []

abbrev pub up : ℕ → ℕ → ℕ → List ℕ
up index named place = 2 ∷ index ∷ named ∷ place ∷ []

abbrev pub proto : ℕ → List ℕ
proto index = 3 ∷ index ∷ 0 ∷ 0 ∷ []

abbrev pub int : ℕ → List ℕ
int value = 4 ∷ value ∷ 0 ∷ 0 ∷ []

abbrev pub float : ℕ → List ℕ
float bits = 5 ∷ bits ∷ 0 ∷ 0 ∷ []

abbrev pub jump : ℕ → ℕ → List ℕ
jump offset pc = 6 ∷ offset ∷ pc ∷ 0 ∷ []

abbrev pub count : ℕ → ℕ → List ℕ
count value variable = 7 ∷ value ∷ variable ∷ 0 ∷ []

abbrev pub flag : ℕ → List ℕ
flag value = 8 ∷ value ∷ 0 ∷ 0 ∷ []

abbrev pub extra : ℕ → List ℕ
extra value = 9 ∷ value ∷ 0 ∷ 0 ∷ []

-- reads and writes

abbrev pub range : ℕ → ℕ → List ℕ
range start end = 1 ∷ start ∷ end ∷ 0 ∷ []

abbrev pub top : ℕ → List ℕ
top start = 2 ∷ start ∷ 0 ∷ 0 ∷ []

abbrev pub up_at : ℕ → ℕ → ℕ → List ℕ
up_at index named place = 3 ∷ index ∷ named ∷ place ∷ []

abbrev pub const_at : ℕ → List ℕ
const_at index = 4 ∷ index ∷ 0 ∷ 0 ∷ []

abbrev pub proto_at : ℕ → List ℕ
proto_at index = 5 ∷ index ∷ 0 ∷ 0 ∷ []

abbrev pub target : ℕ → List ℕ
target pc = 6 ∷ pc ∷ 0 ∷ 0 ∷ []

-- jump target, companion, fallback and implicit effect: ten numbers

abbrev pub nothing : List ℕ
nothing = replicate 10 0

abbrev pub goes : ℕ → List ℕ
goes pc = 1 ∷ pc ∷ replicate 8 0

abbrev pub beside : ℕ → List ℕ
beside pc = 0 ∷ 0 ∷ 1 ∷ pc ∷ replicate 6 0

abbrev pub falls : ℕ → List ℕ
falls event = replicate 4 0 ++ (1 ∷ event ∷ replicate 4 0)

abbrev pub closes : ℕ → List ℕ
closes index = replicate 6 0 ++ (4 ∷ index ∷ 0 ∷ 0 ∷ [])

abbrev pub skips : ℕ → List ℕ
skips pc = replicate 6 0 ++ (5 ∷ pc ∷ 0 ∷ 0 ∷ [])

-- LOADKX's: the companion, and the pair that names it with role EXTRAARG
abbrev pub extends : ℕ → List ℕ
extends pc = 0 ∷ 0 ∷ 1 ∷ pc ∷ 0 ∷ 0 ∷ 7 ∷ pc ∷ 0 ∷ 0 ∷ []

-- those of 46 to 48: the companion, the event as fallback, and the pair that names both; at word 0 there
-- is no companion, and the pair names 0

abbrev pub follows : ℕ → ℕ → List ℕ
follows pc event = 0 ∷ 0 ∷ 1 ∷ pc ∷ 1 ∷ event ∷ 7 ∷ pc ∷ 1 ∷ event ∷ []

abbrev pub first : ℕ → List ℕ
first event = 0 ∷ 0 ∷ 0 ∷ 0 ∷ 1 ∷ event ∷ 7 ∷ 0 ∷ 1 ∷ event ∷ []

-- a count, then the places, those past the count being register 0
abbrev pub joined : List (List ℕ) → List ℕ
joined [] = []
joined (slot ∷ slots) = slot ++ joined slots

abbrev pub places : ℕ → List (List ℕ) → List ℕ
places n slots = length slots ∷ (joined slots ++ joined (replicate (n - length slots) (reg 0)))

-- opcode and the word's other fields; then target, companion, fallback and effect; operands, reads, writes
pub data Row : Type 0 where
  -- word 2 of four, after MOVE 0 0 twice and before EXTRAARG 2, with the tables below
  row : ℕ → ℕ → List ℕ → List (List ℕ) → List (List ℕ) → List (List ℕ) → Row
  -- word 0, alone, with empty tables
  alone : ℕ → ℕ → List ℕ → List (List ℕ) → List (List ℕ) → List (List ℕ) → Row

-- the same of so many opcodes from the given one on
abbrev pub each : ℕ → ℕ → (ℕ → Row) → List Row
each op zero f = []
each op (suc n) f = f op ∷ each (suc op) n f

-- constants: a short string, -1, a float, true, a long string, nil, false, and a float that is no number;
-- names: two strings, one unnamed between them, and an empty one
abbrev pub tags : List ℕ
tags = 4 ∷ 3 ∷ 19 ∷ 17 ∷ 20 ∷ 0 ∷ 1 ∷ 19 ∷ []

abbrev pub payloads : List ℕ
payloads =
    17179869184 ∷ 18446744073709551615 ∷ 4614256656552045848 ∷ 7 ∷ 21474836484 ∷ 9 ∷ 11
    ∷ 9221120237041090561 ∷ []

abbrev pub names : List ℕ
names = 17179869184 ∷ 18446744073709551615 ∷ 21474836484 ∷ 9 ∷ []

-- the definition's numbers
abbrev pub defined : List Row → List (List ℕ)
defined [] = []
defined (row op rest head os rs ws ∷ rows) =
    numbers_of (lift_of (0 ∷ 0 ∷ (op + rest) ∷ 338 ∷ []) tags payloads names 2) ∷ defined rows
defined (alone op rest head os rs ws ∷ rows) =
    numbers_of (lift_of ((op + rest) ∷ []) [] [] [] 0) ∷ defined rows

-- luad's; each of these opcodes is Reviewed
abbrev pub told : List Row → List (List ℕ)
told [] = []
told (row op rest head os rs ws ∷ rows) =
    ((2 ∷ (op + rest) ∷ op ∷ 1 ∷ []) ++ head ++ places 4 os ++ places 3 rs ++ places 2 ws) ∷ told rows
told (alone op rest head os rs ws ∷ rows) =
    ((0 ∷ (op + rest) ∷ op ∷ 1 ∷ []) ++ head ++ places 4 os ++ places 3 rs ++ places 2 ws) ∷ told rows

-- MOVE to LOADNIL, 0 to 8. LOADK with each constant, and past the table, which reads nil; "LOADKX without
-- EXTRAARG after it uses constant 0 and still names companion pc + 1"; LOADNIL's sum stops at 255
abbrev pub loads : List Row
loads =
    row 0 (abc 2 0 3 4) nothing (reg 2 ∷ reg 3 ∷ []) (reg 3 ∷ []) (reg 2 ∷ [])
    ∷ row 1 (abx 2 65536) nothing (reg 2 ∷ int 1 ∷ []) [] (reg 2 ∷ [])
    ∷ row 1 (abx 2 0) nothing (reg 2 ∷ int (below0 65535) ∷ []) [] (reg 2 ∷ [])
    ∷ row 1 (abx 255 131071) nothing (reg 255 ∷ int 65536 ∷ []) [] (reg 255 ∷ [])
    ∷ row 2 (abx 2 65536) nothing (reg 2 ∷ float 4607182418800017408 ∷ []) [] (reg 2 ∷ [])
    ∷ row 2 (abx 2 0) nothing (reg 2 ∷ float 13902611912253767680 ∷ []) [] (reg 2 ∷ [])
    ∷ row 2 (abx 255 131071) nothing (reg 255 ∷ float 4679240012837945344 ∷ []) [] (reg 255 ∷ [])
    ∷ row 3 (abx 2 0) nothing (reg 2 ∷ const 0 4 17179869184 ∷ []) (const_at 0 ∷ []) (reg 2 ∷ [])
    ∷ row 3 (abx 2 1) nothing (reg 2 ∷ const 1 2 (below0 1) ∷ []) (const_at 1 ∷ []) (reg 2 ∷ [])
    ∷ row 3 (abx 2 2) nothing (reg 2 ∷ const 2 3 4614256656552045848 ∷ []) (const_at 2 ∷ []) (reg 2 ∷ [])
    ∷ row 3 (abx 2 3) nothing (reg 2 ∷ const 3 1 1 ∷ []) (const_at 3 ∷ []) (reg 2 ∷ [])
    ∷ row 3 (abx 2 4) nothing (reg 2 ∷ const 4 5 21474836484 ∷ []) (const_at 4 ∷ []) (reg 2 ∷ [])
    ∷ row 3 (abx 2 5) nothing (reg 2 ∷ const 5 0 0 ∷ []) (const_at 5 ∷ []) (reg 2 ∷ [])
    ∷ row 3 (abx 2 6) nothing (reg 2 ∷ const 6 1 0 ∷ []) (const_at 6 ∷ []) (reg 2 ∷ [])
    ∷ row 3 (abx 2 7) nothing (reg 2 ∷ const 7 3 9221120237041090561 ∷ []) (const_at 7 ∷ []) (reg 2 ∷ [])
    ∷ row 3 (abx 2 8) nothing (reg 2 ∷ const 8 0 0 ∷ []) (const_at 8 ∷ []) (reg 2 ∷ [])
    ∷ row 4 (abc 2 0 0 0) (extends 3) (reg 2 ∷ const 2 3 4614256656552045848 ∷ [])
    (const_at 2 ∷ []) (reg 2 ∷ [])
    ∷ alone 4 (abc 0 0 0 0) (extends 1) (reg 0 ∷ const 0 0 0 ∷ []) (const_at 0 ∷ []) (reg 0 ∷ [])
    ∷ row 5 (abc 2 0 3 4) nothing (reg 2 ∷ flag 0 ∷ []) [] (reg 2 ∷ [])
    ∷ row 6 (abc 2 0 3 4) (skips 4) (reg 2 ∷ flag 0 ∷ []) [] (reg 2 ∷ [])
    ∷ row 7 (abc 2 0 3 4) nothing (reg 2 ∷ flag 1 ∷ []) [] (reg 2 ∷ [])
    ∷ row 8 (abc 2 0 3 4) nothing (reg 2 ∷ count 4 0 ∷ []) [] (range 2 5 ∷ [])
    ∷ row 8 (abc 255 0 1 0) nothing (reg 255 ∷ count 2 0 ∷ []) [] (range 255 255 ∷ [])
    ∷ row 8 (abc 254 0 255 0) nothing (reg 254 ∷ count 256 0 ∷ []) [] (range 254 255 ∷ [])
    ∷ []

-- GETUPVAL to SELF, 9 to 20. "an upvalue index past the table has no name"; where k is 1, a constant;
-- "NEWTABLE's hints are exchanged and its EXTRAARG unmentioned"
abbrev pub tables : List Row
tables =
    row 9 (abc 2 0 2 0) nothing (reg 2 ∷ up 2 1 21474836484 ∷ []) (up_at 2 1 21474836484 ∷ []) (reg 2 ∷ [])
    ∷ row 9 (abc 2 0 1 0) nothing (reg 2 ∷ up 1 0 0 ∷ []) (up_at 1 0 0 ∷ []) (reg 2 ∷ [])
    ∷ row 9 (abc 2 0 3 0) nothing (reg 2 ∷ up 3 1 9 ∷ []) (up_at 3 1 9 ∷ []) (reg 2 ∷ [])
    ∷ row 9 (abc 2 0 4 0) nothing (reg 2 ∷ up 4 0 0 ∷ []) (up_at 4 0 0 ∷ []) (reg 2 ∷ [])
    ∷ row 10 (abc 2 0 2 0) nothing (reg 2 ∷ up 2 1 21474836484 ∷ []) (reg 2 ∷ []) (up_at 2 1 21474836484 ∷ [])
    ∷ row 10 (abc 2 0 4 0) nothing (reg 2 ∷ up 4 0 0 ∷ []) (reg 2 ∷ []) (up_at 4 0 0 ∷ [])
    ∷ row 11 (abc 2 0 2 4) (falls 0) (reg 2 ∷ up 2 1 21474836484 ∷ reg 4 ∷ [])
    (reg 4 ∷ up_at 2 1 21474836484 ∷ []) (reg 2 ∷ [])
    ∷ row 11 (abc 2 1 2 4) (falls 0) (reg 2 ∷ up 2 1 21474836484 ∷ const 4 5 21474836484 ∷ [])
    (const_at 4 ∷ up_at 2 1 21474836484 ∷ []) (reg 2 ∷ [])
    ∷ row 12 (abc 2 0 3 4) (falls 0) (reg 2 ∷ reg 3 ∷ reg 4 ∷ []) (reg 3 ∷ reg 4 ∷ []) (reg 2 ∷ [])
    ∷ row 13 (abc 2 0 3 4) (falls 0) (reg 2 ∷ reg 3 ∷ int 4 ∷ []) (reg 3 ∷ []) (reg 2 ∷ [])
    ∷ row 14 (abc 2 0 3 4) (falls 0) (reg 2 ∷ reg 3 ∷ const 4 5 21474836484 ∷ [])
    (reg 3 ∷ const_at 4 ∷ []) (reg 2 ∷ [])
    ∷ row 15 (abc 2 0 3 4) (falls 1) (up 2 1 21474836484 ∷ reg 3 ∷ reg 4 ∷ [])
    (reg 3 ∷ reg 4 ∷ []) (up_at 2 1 21474836484 ∷ [])
    ∷ row 15 (abc 2 1 3 4) (falls 1) (up 2 1 21474836484 ∷ const 3 1 1 ∷ reg 4 ∷ [])
    (const_at 3 ∷ reg 4 ∷ []) (up_at 2 1 21474836484 ∷ [])
    ∷ row 16 (abc 2 0 3 4) (falls 1) (reg 2 ∷ reg 3 ∷ reg 4 ∷ []) (reg 4 ∷ reg 2 ∷ reg 3 ∷ []) []
    ∷ row 16 (abc 2 1 3 4) (falls 1) (reg 2 ∷ reg 3 ∷ const 4 5 21474836484 ∷ [])
    (const_at 4 ∷ reg 2 ∷ reg 3 ∷ []) []
    ∷ row 17 (abc 2 0 3 4) (falls 1) (reg 2 ∷ int 3 ∷ reg 4 ∷ []) (reg 4 ∷ reg 2 ∷ []) []
    ∷ row 17 (abc 2 1 3 4) (falls 1) (reg 2 ∷ int 3 ∷ const 4 5 21474836484 ∷ []) (const_at 4 ∷ reg 2 ∷ []) []
    ∷ row 18 (abc 2 0 3 4) (falls 1) (reg 2 ∷ const 3 1 1 ∷ reg 4 ∷ []) (reg 4 ∷ reg 2 ∷ const_at 3 ∷ []) []
    ∷ row 18 (abc 2 1 3 4) (falls 1) (reg 2 ∷ const 3 1 1 ∷ const 4 5 21474836484 ∷ [])
    (const_at 4 ∷ reg 2 ∷ const_at 3 ∷ []) []
    ∷ row 19 (abc 2 0 3 4) nothing (reg 2 ∷ count 3 0 ∷ count 4 0 ∷ []) [] (reg 2 ∷ [])
    ∷ row 19 (abc 2 1 3 4) nothing (reg 2 ∷ count 3 0 ∷ count 4 0 ∷ []) [] (reg 2 ∷ [])
    ∷ row 20 (abc 2 0 3 4) (falls 0) (reg 2 ∷ reg 3 ∷ reg 4 ∷ []) (reg 4 ∷ reg 3 ∷ []) (reg 2 ∷ reg 3 ∷ [])
    ∷ row 20 (abc 2 1 3 4) (falls 0) (reg 2 ∷ reg 3 ∷ const 4 5 21474836484 ∷ [])
    (const_at 4 ∷ reg 3 ∷ []) (reg 2 ∷ reg 3 ∷ [])
    ∷ row 20 (abc 255 0 0 0) (falls 0) (reg 255 ∷ reg 0 ∷ reg 0 ∷ [])
    (reg 0 ∷ reg 0 ∷ []) (reg 255 ∷ reg 255 ∷ [])
    ∷ []

-- ADDI to SHR, 21 to 45
abbrev pub arithmetic : List Row
arithmetic =
    (row 21 (abc 2 0 3 4) nothing (reg 2 ∷ reg 3 ∷ int (below0 123) ∷ []) (reg 3 ∷ []) (reg 2 ∷ [])
    ∷ [])
    ++ each 22 10 (λ op. row op (abc 2 0 3 4) nothing (reg 2 ∷ reg 3 ∷ const 4 5 21474836484 ∷ [])
    (reg 3 ∷ const_at 4 ∷ []) (reg 2 ∷ []))
    ++ each 32 2 (λ op. row op (abc 2 0 3 4) nothing (reg 2 ∷ reg 3 ∷ int (below0 123) ∷ [])
    (reg 3 ∷ []) (reg 2 ∷ []))
    ++ each 34 12 (λ op. row op (abc 2 0 3 4) nothing (reg 2 ∷ reg 3 ∷ reg 4 ∷ [])
    (reg 3 ∷ reg 4 ∷ []) (reg 2 ∷ []))

-- MMBIN, MMBINI, MMBINK, 46 to 48. "`tm_name` in lifter.rs maps C 0 to 16 to events C + 6, 17 to 4, 18 to 5,
-- others to 25"; "no companion at word 0, yet the pair effect of 46 to 48 names 0"
abbrev pub metamethods : List Row
metamethods =
    row 46 (abc 2 0 3 0) (follows 1 6) [] [] []
    ∷ row 46 (abc 2 0 3 1) (follows 1 7) [] [] []
    ∷ row 46 (abc 2 0 3 2) (follows 1 8) [] [] []
    ∷ row 46 (abc 2 0 3 3) (follows 1 9) [] [] []
    ∷ row 46 (abc 2 0 3 4) (follows 1 10) [] [] []
    ∷ row 46 (abc 2 0 3 5) (follows 1 11) [] [] []
    ∷ row 46 (abc 2 0 3 6) (follows 1 12) [] [] []
    ∷ row 46 (abc 2 0 3 7) (follows 1 13) [] [] []
    ∷ row 46 (abc 2 0 3 8) (follows 1 14) [] [] []
    ∷ row 46 (abc 2 0 3 9) (follows 1 15) [] [] []
    ∷ row 46 (abc 2 0 3 10) (follows 1 16) [] [] []
    ∷ row 46 (abc 2 0 3 11) (follows 1 17) [] [] []
    ∷ row 46 (abc 2 0 3 12) (follows 1 18) [] [] []
    ∷ row 46 (abc 2 0 3 13) (follows 1 19) [] [] []
    ∷ row 46 (abc 2 0 3 14) (follows 1 20) [] [] []
    ∷ row 46 (abc 2 0 3 15) (follows 1 21) [] [] []
    ∷ row 46 (abc 2 0 3 16) (follows 1 22) [] [] []
    ∷ row 46 (abc 2 0 3 17) (follows 1 4) [] [] []
    ∷ row 46 (abc 2 0 3 18) (follows 1 5) [] [] []
    ∷ row 46 (abc 2 0 3 19) (follows 1 25) [] [] []
    ∷ row 46 (abc 2 0 3 255) (follows 1 25) [] [] []
    ∷ row 47 (abc 2 0 3 4) (follows 1 10) (reg 2 ∷ int (below0 124) ∷ extra 4 ∷ flag 0 ∷ []) [] []
    ∷ row 47 (abc 2 1 200 4) (follows 1 10) (reg 2 ∷ int 73 ∷ extra 4 ∷ flag 1 ∷ []) [] []
    ∷ row 48 (abc 2 0 3 4) (follows 1 10) [] [] []
    ∷ alone 46 (abc 0 0 0 0) (first 6) [] [] []
    ∷ alone 47 (abc 0 0 0 0) (first 6) (reg 0 ∷ int (below0 127) ∷ extra 0 ∷ flag 0 ∷ []) [] []
    ∷ alone 48 (abc 0 0 0 0) (first 6) [] [] []
    ∷ []

-- UNM to CONCAT, 49 to 53. "CONCAT with A 0, B 0 ends at 0"
abbrev pub unary : List Row
unary =
    row 49 (abc 2 0 3 4) (falls 18) (reg 2 ∷ reg 3 ∷ []) (reg 3 ∷ []) (reg 2 ∷ [])
    ∷ row 50 (abc 2 0 3 4) (falls 19) (reg 2 ∷ reg 3 ∷ []) (reg 3 ∷ []) (reg 2 ∷ [])
    ∷ row 51 (abc 2 0 3 4) nothing (reg 2 ∷ reg 3 ∷ []) (reg 3 ∷ []) (reg 2 ∷ [])
    ∷ row 52 (abc 2 0 3 4) (falls 4) (reg 2 ∷ reg 3 ∷ []) (reg 3 ∷ []) (reg 2 ∷ [])
    ∷ row 53 (abc 2 0 3 4) (falls 22) (reg 2 ∷ count 3 0 ∷ []) (range 2 4 ∷ []) (reg 2 ∷ [])
    ∷ row 53 (abc 0 0 0 0) (falls 22) (reg 0 ∷ count 0 0 ∷ []) (range 0 0 ∷ []) (reg 0 ∷ [])
    ∷ row 53 (abc 255 0 255 0) (falls 22) (reg 255 ∷ count 255 0 ∷ []) (range 255 254 ∷ []) (reg 255 ∷ [])
    ∷ []

-- CLOSE to TESTSET, 54 to 67. "A JMP target below 0 becomes 2^64 plus it"; "opcodes 57 to 60, 66 and 67 list
-- no reads"
abbrev pub control : List Row
control =
    (row 54 (abc 2 0 3 4) (closes 2) (reg 2 ∷ []) [] []
    ∷ row 55 (abc 2 0 3 4) (falls 24) (reg 2 ∷ []) [] []
    ∷ row 56 (ax 16777215) (goes 3) (jump 0 3 ∷ []) (target 3 ∷ []) []
    ∷ row 56 (ax 16777222) (goes 10) (jump 7 10 ∷ []) (target 10 ∷ []) []
    ∷ row 56 (ax 16777212) (goes 0) (jump (below0 3) 0 ∷ []) (target 0 ∷ []) []
    ∷ row 56 (ax 16777211) (goes (below0 1)) (jump (below0 4) (below0 1) ∷ []) (target (below0 1) ∷ []) []
    ∷ row 56 (ax 0) (goes (below0 16777212)) (jump (below0 16777215) (below0 16777212) ∷ [])
    (target (below0 16777212) ∷ []) []
    ∷ row 56 (ax 33554431) (goes 16777219) (jump 16777216 16777219 ∷ []) (target 16777219 ∷ []) []
    ∷ [])
    ++ each 57 4 (λ op. row op (abc 2 0 3 4) (skips 4) [] [] [])
    ++ (row 61 (abc 2 0 3 4) (skips 4) (reg 2 ∷ int (below0 124) ∷ flag 0 ∷ []) (reg 2 ∷ []) []
    ∷ row 61 (abc 2 1 200 4) (skips 4) (reg 2 ∷ int 73 ∷ flag 1 ∷ []) (reg 2 ∷ []) []
    ∷ row 62 (abc 2 0 3 4) (skips 4) (reg 2 ∷ int (below0 124) ∷ flag 0 ∷ []) (reg 2 ∷ []) []
    ∷ row 62 (abc 2 1 200 4) (skips 4) (reg 2 ∷ int 73 ∷ flag 1 ∷ []) (reg 2 ∷ []) []
    ∷ row 63 (abc 2 0 3 4) (skips 4) (reg 2 ∷ int (below0 124) ∷ flag 0 ∷ []) (reg 2 ∷ []) []
    ∷ row 63 (abc 2 1 200 4) (skips 4) (reg 2 ∷ int 73 ∷ flag 1 ∷ []) (reg 2 ∷ []) []
    ∷ row 64 (abc 2 0 3 4) (skips 4) (reg 2 ∷ int (below0 124) ∷ flag 0 ∷ []) (reg 2 ∷ []) []
    ∷ row 64 (abc 2 1 200 4) (skips 4) (reg 2 ∷ int 73 ∷ flag 1 ∷ []) (reg 2 ∷ []) []
    ∷ row 65 (abc 2 0 3 4) (skips 4) (reg 2 ∷ int (below0 124) ∷ flag 0 ∷ []) (reg 2 ∷ []) []
    ∷ row 65 (abc 2 1 200 4) (skips 4) (reg 2 ∷ int 73 ∷ flag 1 ∷ []) (reg 2 ∷ []) []
    ∷ [])
    ++ each 66 2 (λ op. row op (abc 2 0 3 4) (skips 4) [] [] [])

-- CALL to RETURN1, 68 to 72
abbrev pub calls : List Row
calls =
    row 68 (abc 2 0 3 4) (falls 23) (reg 2 ∷ count 2 0 ∷ count 3 0 ∷ [])
    (reg 2 ∷ range 3 4 ∷ []) (range 2 4 ∷ [])
    ∷ row 68 (abc 2 0 2 2) (falls 23) (reg 2 ∷ count 1 0 ∷ count 1 0 ∷ [])
    (reg 2 ∷ range 3 3 ∷ []) (range 2 2 ∷ [])
    ∷ row 68 (abc 2 0 1 1) (falls 23) (reg 2 ∷ count 0 0 ∷ count 0 0 ∷ []) (reg 2 ∷ []) []
    ∷ row 68 (abc 2 0 0 0) (falls 23) (reg 2 ∷ count 0 1 ∷ count 0 1 ∷ []) (reg 2 ∷ top 3 ∷ []) (top 2 ∷ [])
    ∷ row 68 (abc 255 0 2 1) (falls 23) (reg 255 ∷ count 1 0 ∷ count 0 0 ∷ [])
    (reg 255 ∷ range 255 254 ∷ []) []
    ∷ row 68 (abc 254 0 255 255) (falls 23) (reg 254 ∷ count 254 0 ∷ count 254 0 ∷ [])
    (reg 254 ∷ range 255 254 ∷ []) (range 254 253 ∷ [])
    ∷ row 68 (abc 255 0 0 3) (falls 23) (reg 255 ∷ count 0 1 ∷ count 2 0 ∷ [])
    (reg 255 ∷ top 255 ∷ []) (range 255 253 ∷ [])
    ∷ row 69 (abc 2 0 3 4) (falls 23) (reg 2 ∷ count 2 0 ∷ []) (reg 2 ∷ []) []
    ∷ row 69 (abc 2 0 1 4) (falls 23) (reg 2 ∷ count 0 0 ∷ []) (reg 2 ∷ []) []
    ∷ row 69 (abc 2 0 0 4) (falls 23) (reg 2 ∷ count 0 1 ∷ []) (reg 2 ∷ []) []
    ∷ row 70 (abc 2 0 3 4) nothing (reg 2 ∷ count 2 0 ∷ []) (range 2 3 ∷ []) []
    ∷ row 70 (abc 2 0 2 4) nothing (reg 2 ∷ count 1 0 ∷ []) (range 2 2 ∷ []) []
    ∷ row 70 (abc 2 0 1 4) nothing (reg 2 ∷ count 0 0 ∷ []) [] []
    ∷ row 70 (abc 2 0 0 4) nothing (reg 2 ∷ count 0 1 ∷ []) (top 2 ∷ []) []
    ∷ row 70 (abc 255 0 255 0) nothing (reg 255 ∷ count 254 0 ∷ []) (range 255 253 ∷ []) []
    ∷ row 71 (abc 2 0 3 4) nothing [] [] []
    ∷ row 72 (abc 2 0 3 4) nothing (reg 2 ∷ []) (reg 2 ∷ []) []
    ∷ []

-- FORLOOP to TFORLOOP, 73 to 77. "FORLOOP and TFORLOOP targets stop at 0"; "FORPREP's target is one short";
-- "TFORCALL's writes start one register low"
abbrev pub loops : List Row
loops =
    row 73 (abx 2 0) (goes 3) (reg 2 ∷ jump 0 3 ∷ []) [] []
    ∷ row 73 (abx 2 1) (goes 2) (reg 2 ∷ jump (below0 1) 2 ∷ []) [] []
    ∷ row 73 (abx 2 3) (goes 0) (reg 2 ∷ jump (below0 3) 0 ∷ []) [] []
    ∷ row 73 (abx 2 4) (goes 0) (reg 2 ∷ jump (below0 4) 0 ∷ []) [] []
    ∷ row 74 (abx 2 5) (goes 8) (reg 2 ∷ jump 5 8 ∷ []) [] []
    ∷ row 74 (abx 2 131071) (goes 131074) (reg 2 ∷ jump 131071 131074 ∷ []) [] []
    ∷ row 75 (abx 2 5) (goes 8) (reg 2 ∷ jump 5 8 ∷ []) [] []
    ∷ row 75 (abx 2 131071) (goes 131074) (reg 2 ∷ jump 131071 131074 ∷ []) [] []
    ∷ row 76 (abc 2 0 3 4) nothing (reg 2 ∷ int 4 ∷ []) (range 2 4 ∷ []) (range 5 8 ∷ [])
    ∷ row 76 (abc 0 0 0 1) nothing (reg 0 ∷ int 1 ∷ []) (range 0 2 ∷ []) (range 3 3 ∷ [])
    ∷ row 76 (abc 254 0 0 255) nothing (reg 254 ∷ int 255 ∷ []) (range 254 255 ∷ []) (range 255 255 ∷ [])
    ∷ row 76 (abc 255 0 0 0) nothing (reg 255 ∷ int 0 ∷ []) (range 255 255 ∷ []) (range 255 255 ∷ [])
    ∷ row 77 (abx 2 0) (goes 3) (reg 2 ∷ jump 0 3 ∷ []) [] []
    ∷ row 77 (abx 2 1) (goes 2) (reg 2 ∷ jump (below0 1) 2 ∷ []) [] []
    ∷ row 77 (abx 2 3) (goes 0) (reg 2 ∷ jump (below0 3) 0 ∷ []) [] []
    ∷ row 77 (abx 2 4) (goes 0) (reg 2 ∷ jump (below0 4) 0 ∷ []) [] []
    ∷ []

-- SETLIST to EXTRAARG, 78 to 82. EXTRAARG has "no companion at word 0"
abbrev pub last : List Row
last =
    row 78 (abc 2 0 3 4) nothing (reg 2 ∷ count 3 0 ∷ []) (reg 2 ∷ []) []
    ∷ row 78 (abc 2 1 0 4) nothing (reg 2 ∷ count 0 1 ∷ []) (reg 2 ∷ []) []
    ∷ row 79 (abx 2 5) nothing (reg 2 ∷ proto 5 ∷ []) (proto_at 5 ∷ []) (reg 2 ∷ [])
    ∷ row 79 (abx 2 131071) nothing (reg 2 ∷ proto 131071 ∷ []) (proto_at 131071 ∷ []) (reg 2 ∷ [])
    ∷ row 80 (abc 2 0 3 4) nothing (reg 2 ∷ count 3 0 ∷ []) [] []
    ∷ row 80 (abc 2 0 3 1) nothing (reg 2 ∷ count 0 0 ∷ []) [] []
    ∷ row 80 (abc 2 0 3 0) nothing (reg 2 ∷ count 0 1 ∷ []) [] []
    ∷ row 81 (abc 2 0 3 4) nothing (count 2 0 ∷ []) [] []
    ∷ row 82 (ax 5) (beside 1) (extra 5 ∷ []) [] []
    ∷ row 82 (ax 33554431) (beside 1) (extra 33554431 ∷ []) [] []
    ∷ alone 82 (ax 5) nothing (extra 5 ∷ []) [] []
    ∷ []

pub record LuadsRecords : Type 0 where
  pub loads_told : defined loads ≡ told loads
  pub tables_told : defined tables ≡ told tables
  pub arithmetic_told : defined arithmetic ≡ told arithmetic
  pub metamethods_told : defined metamethods ≡ told metamethods
  pub unary_told : defined unary ≡ told unary
  pub control_told : defined control ≡ told control
  pub calls_told : defined calls ≡ told calls
  pub loops_told : defined loops ≡ told loops
  pub last_told : defined last ≡ told last
  -- "Confidence is Unverified exactly for opcodes above 82; then operands, effects, fallback, target and
  -- companion are empty": of any word so, and what is told of the others is Reviewed
  pub unknown :
      (words tags payloads names : List ℕ) (pc : ℕ) → 82 < opcode_of (get_or words pc 0)
      → numbers_of (lift_of words tags payloads names pc)
      ≡ pc ∷ get_or words pc 0 ∷ opcode_of (get_or words pc 0) ∷ replicate 50 0
  pub known :
      (words tags payloads names : List ℕ) (pc : ℕ) → opcode_of (get_or words pc 0) ≤ 82
      → get_or (numbers_of (lift_of words tags payloads names pc)) 3 0 ≡ 1
