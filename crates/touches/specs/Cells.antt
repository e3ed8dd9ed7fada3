-- What can be touched, and what an access of lvm.c (steps/specs/Executions.antt) names in a word, by
-- lopcodes.h's macros: plainly, and at a stack top. What 5.3.6 alone has stands last.
-- Assumes nothing.
use Rattle.std.specs.Prelude.{ℕ, ◌+◌, ◌-◌, ◌≤◌, ◌<◌, ◌≡◌, ◌⊎◌, cond, eqb}
use Rattle.steps.specs.Executions.{
  Access,
  «ra»,
  «ra+1»,
  «ra+2»,
  «ra+3»,
  «ra+4»,
  v_rb,
  v_rc,
  RKC,
  KB,
  KC,
  «k+Bx»,
  «k+Ax»,
  «RA-pi»,
  «upvals[A]»,
  «upvals[B]»,
  nils,
  pieces,
  arguments,
  results,
  iterated,
  returned,
  elements,
  RKB-isk,
  RKC-isk,
  concatenated,
  called,
  varargs,
}
use Rattle.touches.specs.declared.arguments.Arguments.{Arguments}
use Rattle.touches.specs.Isk.{«ISK», «INDEXK»}

-- What can be touched.
pub data Cell : Type 0 where
  register : ℕ → Cell
  constant : ℕ → Cell
  upvalue : ℕ → Cell
  -- the registers from this one up to the stack top, however high that is
  up_to_top : ℕ → Cell

-- A cell that an access names in the word i, by lopcodes.h's macros; pi is the word
-- before i, ni the one after it.
abbrev pub names : Arguments → Arguments → Arguments → Cell → Access → Type 0
names i pi ni c «ra» = c ≡ register i.a
names i pi ni c «ra+1» = c ≡ register (i.a + 1)
names i pi ni c «ra+2» = c ≡ register (i.a + 2)
names i pi ni c «ra+3» = c ≡ register (i.a + 3)
names i pi ni c «ra+4» = c ≡ register (i.a + 4)
names i pi ni c v_rb = c ≡ register i.b
names i pi ni c v_rc = c ≡ register i.c
-- #define RKC(i)  ((TESTARG_k(i)) ? k + GETARG_C(i) : s2v(base + GETARG_C(i)))
names i pi ni c RKC = ((i.k ≡ 0) × (c ≡ register i.c)) ⊎ ((i.k ≡ 0 → ⊥) × (c ≡ constant i.c))
names i pi ni c KB = c ≡ constant i.b
names i pi ni c KC = c ≡ constant i.c
names i pi ni c «k+Bx» = c ≡ constant i.bx
names i pi ni c «k+Ax» = c ≡ constant ni.ax
names i pi ni c «RA-pi» = c ≡ register pi.a
names i pi ni c «upvals[A]» = c ≡ upvalue i.a
names i pi ni c «upvals[B]» = c ≡ upvalue i.b
names i pi ni c nils = (j : ℕ) × ((j ≤ i.b) × (c ≡ register (i.a + j)))
names i pi ni c pieces = (j : ℕ) × ((j < i.b) × (c ≡ register (i.a + j)))
names i pi ni c arguments =
    ((i.b ≡ 0) × (c ≡ up_to_top (i.a + 1))) ⊎ ((j : ℕ) × (((0 < j) × (j < i.b)) × (c ≡ register (i.a + j))))
names i pi ni c results =
    ((i.c ≡ 0) × (c ≡ up_to_top i.a)) ⊎ ((j : ℕ) × ((j + 1 < i.c) × (c ≡ register (i.a + j))))
names i pi ni c iterated = (j : ℕ) × ((j < i.c) × (c ≡ register (i.a + 4 + j)))
names i pi ni c returned =
    ((i.b ≡ 0) × (c ≡ up_to_top i.a)) ⊎ ((j : ℕ) × ((j + 1 < i.b) × (c ≡ register (i.a + j))))
names i pi ni c elements =
    ((i.b ≡ 0) × (c ≡ up_to_top (i.a + 1))) ⊎ ((j : ℕ) × (((0 < j) × (j ≤ i.b)) × (c ≡ register (i.a + j))))
-- #define RKB(i)  ISK(GETARG_B(i)) ? k+INDEXK(GETARG_B(i)) : base+GETARG_B(i)
names i pi ni c RKB-isk =
    ((«ISK» i.b ≡ 0) × (c ≡ register i.b)) ⊎ ((«ISK» i.b ≡ 0 → ⊥) × (c ≡ constant («INDEXK» i.b)))
names i pi ni c RKC-isk =
    ((«ISK» i.c ≡ 0) × (c ≡ register i.c)) ⊎ ((«ISK» i.c ≡ 0 → ⊥) × (c ≡ constant («INDEXK» i.c)))
names i pi ni c concatenated = (j : ℕ) × ((i.b + j ≤ i.c) × (c ≡ register (i.b + j)))
names i pi ni c called = (j : ℕ) × ((j < i.c) × (c ≡ register (i.a + 3 + j)))
names i pi ni c varargs =
    ((i.b ≡ 0) × (c ≡ up_to_top i.a)) ⊎ ((j : ℕ) × ((j + 1 < i.b) × (c ≡ register (i.a + j))))

-- The registers that an access names when L->top.p is base + t; the top after the word for what it stores,
-- before it for what it reads. Only a count of 0 looks at the top.
abbrev counted : ℕ → ℕ → ℕ → ℕ
counted field byTop byField = cond (eqb field 0) byTop byField

abbrev pub names_at : Arguments → Arguments → Arguments → ℕ → ℕ → Access → Type 0
-- "if (B == 0) then B = top - A"
names_at i pi ni t q arguments =
    (j : ℕ) × (((0 < j) × (j < counted i.b (t - i.a) i.b)) × (q ≡ i.a + j))
-- "'top' is set to last_result+1"
names_at i pi ni t q results = (j : ℕ) × ((j < counted i.c (t - i.a) (i.c - 1)) × (q ≡ i.a + j))
-- n = GETARG_B(i) - 1; if (n < 0) n = cast_int(L->top.p - ra);
names_at i pi ni t q returned = (j : ℕ) × ((j < counted i.b (t - i.a) (i.b - 1)) × (q ≡ i.a + j))
-- if (n == 0) n = cast_int(L->top.p - ra) - 1;
names_at i pi ni t q elements =
    (j : ℕ) × (((0 < j) × (j ≤ counted i.b (t - i.a - 1) i.b)) × (q ≡ i.a + j))
-- L->top = ra + n
names_at i pi ni t q varargs = (j : ℕ) × ((j < counted i.b (t - i.a) (i.b - 1)) × (q ≡ i.a + j))
names_at i pi ni t q «ra» = names i pi ni (register q) «ra»
names_at i pi ni t q «ra+1» = names i pi ni (register q) «ra+1»
names_at i pi ni t q «ra+2» = names i pi ni (register q) «ra+2»
names_at i pi ni t q «ra+3» = names i pi ni (register q) «ra+3»
names_at i pi ni t q «ra+4» = names i pi ni (register q) «ra+4»
names_at i pi ni t q v_rb = names i pi ni (register q) v_rb
names_at i pi ni t q v_rc = names i pi ni (register q) v_rc
names_at i pi ni t q RKC = names i pi ni (register q) RKC
names_at i pi ni t q KB = names i pi ni (register q) KB
names_at i pi ni t q KC = names i pi ni (register q) KC
names_at i pi ni t q «k+Bx» = names i pi ni (register q) «k+Bx»
names_at i pi ni t q «k+Ax» = names i pi ni (register q) «k+Ax»
names_at i pi ni t q «RA-pi» = names i pi ni (register q) «RA-pi»
names_at i pi ni t q «upvals[A]» = names i pi ni (register q) «upvals[A]»
names_at i pi ni t q «upvals[B]» = names i pi ni (register q) «upvals[B]»
names_at i pi ni t q nils = names i pi ni (register q) nils
names_at i pi ni t q pieces = names i pi ni (register q) pieces
names_at i pi ni t q iterated = names i pi ni (register q) iterated
names_at i pi ni t q RKB-isk = names i pi ni (register q) RKB-isk
names_at i pi ni t q RKC-isk = names i pi ni (register q) RKC-isk
names_at i pi ni t q concatenated = names i pi ni (register q) concatenated
names_at i pi ni t q called = names i pi ni (register q) called

-- The tops that an access can meet: past the function that is called, and past the table;
-- of values returned and of results there may be none.
abbrev pub Meets : Arguments → ℕ → Access → Type 0
Meets i t arguments = i.b ≡ 0 → i.a < t
Meets i t results = i.c ≡ 0 → i.a ≤ t
Meets i t returned = i.b ≡ 0 → i.a ≤ t
Meets i t elements = i.b ≡ 0 → i.a < t
Meets i t varargs = i.b ≡ 0 → i.a ≤ t
Meets i t «ra» = Unit {0}
Meets i t «ra+1» = Unit {0}
Meets i t «ra+2» = Unit {0}
Meets i t «ra+3» = Unit {0}
Meets i t «ra+4» = Unit {0}
Meets i t v_rb = Unit {0}
Meets i t v_rc = Unit {0}
Meets i t RKC = Unit {0}
Meets i t KB = Unit {0}
Meets i t KC = Unit {0}
Meets i t «k+Bx» = Unit {0}
Meets i t «k+Ax» = Unit {0}
Meets i t «RA-pi» = Unit {0}
Meets i t «upvals[A]» = Unit {0}
Meets i t «upvals[B]» = Unit {0}
Meets i t nils = Unit {0}
Meets i t pieces = Unit {0}
Meets i t iterated = Unit {0}
Meets i t RKB-isk = Unit {0}
Meets i t RKC-isk = Unit {0}
Meets i t concatenated = Unit {0}
Meets i t called = Unit {0}
