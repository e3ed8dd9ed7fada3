-- What the answer says, in document 02's words: that it has the form asked for, and that it lists exactly
-- what lvm.c touches (Lvm.antt in steps/specs/lua54 and lua53): "the registers, constants and upvalues that
-- lvm.c reads and writes in some execution". proofs/Meaning.antt proves it for every word of either version.
-- Assumes nothing.
use Rattle.std.specs.Prelude.{ℕ, ◌≤◌, ◌<◌, ◌≡◌, ◌⊎◌, ◌↔◌, true, false, List, [], ℤ, pos, length}
use Rattle.graph.specs.Graph.{In}
use Rattle.locations.specs.declared.answer.Top.{Top}
use Rattle.locations.specs.declared.answer.Touches.{Touches}
use Rattle.locations.specs.Form.{ranges_in, numbers_in, Within, OnlyOne, Form}
use Rattle.sweep.specs.Steps.{is_invalid, list_of}
use Rattle.steps.specs.Ways.{integers}
use Rattle.fields.specs.declared.version.Version.{Version}
use Rattle.runs.specs.Script.{steps_of}
use Rattle.touches.specs.Versions.{is_step}
use Rattle.touches.specs.Touches.{touches_by, touches_for}
use Rattle.touches.specs.Cells.{Cell, register, constant, upvalue, up_to_top}
use Rattle.touches.specs.Touched.{
  ways_at,
  Any,
  LeadsTo,
  Reads,
  WrittenOnAll,
  WrittenOnlyTo,
  ReadsAt,
  WrittenAt,
  TopBefore,
  TopAfter,
}

-- What an answer names: as read, as written on every way on, and as written on one way on only.

abbrev pub UpFrom : Top → ℕ → Type 0
UpFrom t first = (t.count ≡ 1) × (t.first ≡ first)

abbrev pub NamedRead : Touches → Cell → Type 0
NamedRead t (register q) = Within q (ranges_in t.reads)
NamedRead t (constant q) = In q (numbers_in t.constants)
NamedRead t (upvalue q) = In q (numbers_in t.upvalues)
NamedRead t (up_to_top first) = UpFrom t.reads_to_top first

abbrev pub NamedWritten : Touches → Cell → Type 0
NamedWritten t (register q) = Within q (ranges_in t.writes)
-- an answer has no list of these: nothing of the kind occurs
NamedWritten t (constant q) = ⊥
NamedWritten t (upvalue q) = In q (numbers_in t.upvalue_writes)
NamedWritten t (up_to_top first) = UpFrom t.writes_to_top first

abbrev pub NamedOnEdge : Touches → Cell → Type 0
NamedOnEdge t (register q) = Within q (ranges_in t.edge_writes)
NamedOnEdge t (constant q) = ⊥
NamedOnEdge t (upvalue q) = ⊥
NamedOnEdge t (up_to_top first) = ⊥

-- A word that is not bad: its lists are exactly what lvm.c touches, where lvm.c's ways on lead to its steps
pub record Exact (v : Version) (ws : List ℕ) (p : ℕ) : Type 0 where
  pub ways : (z : ℤ) → Any (LeadsTo v ws p z) (ways_at v ws p) ↔ In z (integers (list_of (steps_of v ws p)))
  pub reads : (c : Cell) → NamedRead (touches_for v ws p) c ↔ Reads v ws p c
  pub writes : (c : Cell) → NamedWritten (touches_for v ws p) c ↔ WrittenOnAll v ws p c
  pub «edge-writes» : (c : Cell) (z : ℤ)
      → (NamedOnEdge (touches_for v ws p) c × (z ≡ pos (touches_for v ws p).edge)) ↔ WrittenOnlyTo v ws p c z
  -- "listed with that step": one of the word's, by document 01's table (RULES 2), or C-24's
  pub edge : 0 < (touches_for v ws p).edge_writes.count → is_step v ws p (touches_for v ws p).edge ≡ true

-- register q is in a range up to the top, when that is t
abbrev pub BelowTop : Top → ℕ → ℕ → Type 0
BelowTop top t q = (top.count ≡ 1) × ((top.first ≤ q) × (q < t))

-- "a range up to the stack top is given apart, by its first register past those touched at every top"
pub record Tops (v : Version) (ws : List ℕ) (p : ℕ) : Type 0 where
  -- the registers listed plainly are those touched at every top
  pub «every-read» : (q : ℕ)
      → NamedRead (touches_for v ws p) (register q) ↔ ((t : ℕ) → TopBefore v ws p t → ReadsAt v ws p t q)
  pub «every-write» : (q : ℕ)
      → NamedWritten (touches_for v ws p) (register q) ↔ ((t : ℕ) → TopAfter v ws p t → WrittenAt v ws p t q)
  -- with the range up to the top they are what is touched at a top
  pub reads : (t q : ℕ)
      → (NamedRead (touches_for v ws p) (register q) ⊎ BelowTop (touches_for v ws p).reads_to_top t q)
      ↔ ReadsAt v ws p t q
  pub writes : (t q : ℕ)
      → (NamedWritten (touches_for v ws p) (register q) ⊎ BelowTop (touches_for v ws p).writes_to_top t q)
      ↔ WrittenAt v ws p t q
  -- and it starts past them
  pub «past-reads» : (q : ℕ) → NamedRead (touches_for v ws p) (register q)
      → (touches_for v ws p).reads_to_top.count ≡ 1 → q < (touches_for v ws p).reads_to_top.first
  pub «past-writes» : (q : ℕ) → NamedWritten (touches_for v ws p) (register q)
      → (touches_for v ws p).writes_to_top.count ≡ 1 → q < (touches_for v ws p).writes_to_top.first

abbrev pub NamesNothing : Touches → Type 0
NamesNothing t = (c : Cell) → (NamedRead t c → ⊥) × ((NamedWritten t c → ⊥) × (NamedOnEdge t c → ⊥))

pub record Meaning (v : Version) : Type 0 where
  pub form : (ws : List ℕ) (p : ℕ) → Form (touches_for v ws p)
  pub «only_one» : OnlyOne
  pub exact : (ws : List ℕ) (p : ℕ) → is_invalid (steps_of v ws p) ≡ false → Exact v ws p
  pub tops : (ws : List ℕ) (p : ℕ) → is_invalid (steps_of v ws p) ≡ false → Tops v ws p
  -- "A bad word touches nothing", nor does a word number of n or more, which has no steps either
  pub bad : (ws : List ℕ) (p : ℕ)
      → is_invalid (steps_of v ws p) ≡ true → touches_for v ws p ≡ touches_by [] [] 0 []
  pub «bad-names-nothing» : (ws : List ℕ) (p : ℕ)
      → is_invalid (steps_of v ws p) ≡ true → NamesNothing (touches_for v ws p)
  pub «nothing-past-end» : (ws : List ℕ) (p : ℕ) → length ws ≤ p → NamesNothing (touches_for v ws p)
