-- What C gets of an answer, number by number (include/lawendeb.h): the answer of number and place, the run's,
-- a word's steps and a word's fields. One that is changed in its definition and in the code alike is refused
-- here; those of service, witness and lua53 stand in these crates.
-- Assumes nothing.
use Rattle.std.specs.Prelude.{ℕ, ◌≡◌, Ok, Err, ⊤}
use Rattle.common.specs.declared.c.FlatAnswer.{FlatAnswer}
use Rattle.common.specs.Flat.{flat_result}
use Rattle.fields.specs.lua54.Word as word
use Rattle.sweep.specs.declared.edges.Successors.TheVariants.{Invalid, Stop, One, Two}
use Rattle.common.specs.declared.refusal.Refusal.{Refusal}
use Rattle.common.specs.Refusals.{refusal_number, refusal_place}
use Rattle.runs.specs.declared.c.FlatSuccessors.{FlatSuccessors}
use Rattle.runs.specs.declared.c.FlatRun.{FlatRun}
use Rattle.runs.specs.Run.{Run, accepted_run, number_of, place_of, longest_of, first_of}
use Rattle.runs.specs.Flat.{flat_successors, flat_run}
use Rattle.exports.specs.Flat.{flat_fields}

-- an answer's two numbers
abbrev pub ToldAnswer : FlatAnswer → ℕ → ℕ → Type 0
ToldAnswer r number place = (r.number ≡ number) × (r.place ≡ place)

-- a run's four numbers
abbrev pub Told : FlatRun → ℕ → ℕ → ℕ → ℕ → Type 0
Told r number place longest first =
    (r.number ≡ number) × ((r.place ≡ place) × ((r.longest ≡ longest) × (r.first ≡ first)))

-- the three numbers of a word's steps
abbrev pub Steps : FlatSuccessors → ℕ → ℕ → ℕ → Type 0
Steps s kind first second = (s.kind ≡ kind) × ((s.first ≡ first) × (s.second ≡ second))

pub record Flattened : Type 0 where
  -- "Each answer carries its number, 0 when accepted, and a place, 0 unless named"
  pub answer :
      ((t : ⊤) → ToldAnswer (flat_result (Ok t)) 0 0)
      × ((e : Refusal) → ToldAnswer (flat_result {X = ⊤} (Err e)) (refusal_number e) (refusal_place e))
  -- "The answer is L and the lowest word at which an L-word stretch begins"
  pub accepted : (l f : ℕ) → Told (flat_run (accepted_run l f)) 0 0 l f
  -- "On refusal L and its first word are 0"
  pub refused : (e : Refusal) → Told (flat_run (Err e)) (refusal_number e) (refusal_place e) 0 0
  -- what contracts elsewhere say of an answer is what C gets
  pub run : (r : Run) → Told (flat_run r) (number_of r) (place_of r) (longest_of r) (first_of r)
  -- the header's kinds: 0 bad, 1 no next word, 2 one, 3 two, "given lower first"
  pub bad : Steps (flat_successors Invalid) 0 0 0
  pub stop : Steps (flat_successors Stop) 1 0 0
  pub one : (q : ℕ) → Steps (flat_successors (One q)) 2 q 0
  pub two : (q r : ℕ) → Steps (flat_successors (Two q r)) 3 q r
  -- "Opcode is bits 0 to 6, A 7 to 14, k 15, B 16 to 23, C 24 to 31, Bx 15 to 31, Ax 7 to 31. Signed: sB, sC,
  -- sBx, sJ": each under its own name, and the mode
  pub mode : (m w : ℕ) → (flat_fields m (word.fields_of w)).mode ≡ m
  pub opcode : (m w : ℕ) → (flat_fields m (word.fields_of w)).opcode ≡ word.opcode_of w
  pub a : (m w : ℕ) → (flat_fields m (word.fields_of w)).a ≡ word.a_of w
  pub k : (m w : ℕ) → (flat_fields m (word.fields_of w)).k ≡ word.k_of w
  pub b : (m w : ℕ) → (flat_fields m (word.fields_of w)).b ≡ word.b_of w
  pub c : (m w : ℕ) → (flat_fields m (word.fields_of w)).c ≡ word.c_of w
  pub bx : (m w : ℕ) → (flat_fields m (word.fields_of w)).bx ≡ word.bx_of w
  pub ax : (m w : ℕ) → (flat_fields m (word.fields_of w)).ax ≡ word.ax_of w
  pub sb : (m w : ℕ) → (flat_fields m (word.fields_of w)).sb ≡ word.sb_of w
  pub sc : (m w : ℕ) → (flat_fields m (word.fields_of w)).sc ≡ word.sc_of w
  pub sbx : (m w : ℕ) → (flat_fields m (word.fields_of w)).sbx ≡ word.sbx_of w
  pub sj : (m w : ℕ) → (flat_fields m (word.fields_of w)).sj ≡ word.sj_of w
