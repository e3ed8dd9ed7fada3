-- How luaV_execute goes on after a word, of either version: what lua54/Lvm.antt and lua53/Lvm.antt share. A
-- version supplies the bodies of its switch, what each does to pc, and by which of them a JMP is run.
-- Assumes nothing.
use Rattle.std.specs.Prelude.{ℕ, ◌≡◌, ◌↔◌, false, cond, List, [], ◌∷◌, eqb, ℤ, pos, negsuc, get_or}
use Rattle.graph.specs.Graph.{In}
use Rattle.sweep.specs.declared.edges.Successors.{Successors}
use Rattle.sweep.specs.Steps.{is_invalid, list_of}

-- how a case goes on
pub data Way (Body : Type 0) : Type 0 where
  -- `vmbreak`: the loop fetches the word at pc
  fetch : ℤ → Way Body
  -- `goto l_tforcall`, `goto l_tforloop`: the word at pc is run by the body at that label, whatever its
  -- opcode is, without a fetch and a dispatch of its own. Document 01 takes going there for a step of
  -- its own, and so it is of 5.3
  along : Body → ℤ → Way Body
  -- the word at the first pc is run as a JMP at once, whatever its opcode is, and leaves pc at the second.
  -- Going there is taken for a step of its own, too
  jumped : ℤ → ℤ → Way Body

-- *pc
abbrev pub word_at : List ℕ → ℤ → ℕ
word_at ws (pos q) = get_or ws q 0
word_at ws (negsuc q) = 0

pub data Case (Body : Type 0) : Type 0 where
  vmcase : ℕ → Body → Case Body

-- the body to which a switch sends an opcode, or what stands for no case and no default
abbrev pub vmdispatch : {Body : Type 0} → List (Case Body) → Body → ℕ → Body
vmdispatch [] absent o = absent
vmdispatch (vmcase opcode body ∷ cases) absent o = cond (eqb o opcode) body (vmdispatch cases absent o)

-- the word that is executed next
abbrev pub target_of : {Body : Type 0} → Way Body → ℤ
target_of (fetch pc) = pc
target_of (along body pc) = pc
target_of (jumped pc after) = pc

abbrev pub targets_of : {Body : Type 0} → List (Way Body) → List ℤ
targets_of [] = []
targets_of (way ∷ ways) = target_of way ∷ targets_of ways

abbrev pub integers : List ℕ → List ℤ
integers [] = []
integers (q ∷ qs) = pos q ∷ integers qs

-- each word that is run without a dispatch of its own is run as the switch would run it: by the body to which
-- its opcode leads, or as the JMP that it is, which leaves pc where that case would
abbrev pub Alike : {Body : Type 0} → Body → (ℕ → Body) → (ℕ → List (Way Body)) → List (Way Body) → Type 0
Alike jmp body_at ways_at [] = Unit {0}
Alike jmp body_at ways_at (fetch pc ∷ ways) = Alike jmp body_at ways_at ways
Alike jmp body_at ways_at (along body (pos q) ∷ ways) = (body_at q ≡ body) × Alike jmp body_at ways_at ways
Alike jmp body_at ways_at (along body (negsuc q) ∷ ways) = ⊥
Alike jmp body_at ways_at (jumped (pos q) after ∷ ways) =
    (body_at q ≡ jmp) × (ways_at q ≡ fetch after ∷ []) × Alike jmp body_at ways_at ways
Alike jmp body_at ways_at (jumped (negsuc q) after ∷ ways) = ⊥

-- for words of a version, and the steps that are given for them
pub record Agree {Body : Type 0} (jmp : Body) (body_at : List ℕ → ℕ → Body)
    (ways_at : List ℕ → ℕ → List (Way Body)) (steps : List ℕ → ℕ → Successors) : Type 0 where
  -- "for a word that is not bad, the set of next words is the same"
  pub same :
      (ws : List ℕ) (p : ℕ) → is_invalid (steps ws p) ≡ false →
      (z : ℤ) → In z (targets_of (ways_at ws p)) ↔ In z (integers (list_of (steps ws p)))
  -- "Where lvm.c takes the next word along without fetching it anew (JMP after a test, TFORCALL after
  -- TFORPREP, TFORLOOP after TFORCALL), going to that word is a step of its own": what is run there, and
  -- where it leads, is what a fetch of that word would run
  pub alike : (ws : List ℕ) (p : ℕ)
      → is_invalid (steps ws p) ≡ false → Alike jmp (body_at ws) (ways_at ws) (ways_at ws p)
