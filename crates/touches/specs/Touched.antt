-- What a word touches in some execution, of either version: on some way, on every way, on a way to a given
-- word, and at a stack top.
-- Assumes nothing.
use Rattle.std.specs.Prelude.{ℕ, ◌+◌, ◌-◌, ◌⊎◌, List, [], ◌∷◌, ◌++◌, ℤ, pos, get_or}
use Rattle.graph.specs.Graph.{In}
use Rattle.fields.specs.declared.version.Version.{Version}
use Rattle.touches.specs.Words.{GET_OPCODE-of, taken}
use Rattle.steps.specs.Executions.{Access, Execution, run, Arm, arm, go_of}
use Rattle.touches.specs.Cells.{Cell, names, names_at, Meets}
use Rattle.touches.specs.Versions.{Way, ways_of, next}

-- Word p of the words, `i = *(pc++)`: its ways.
abbrev pub ways_at : (v : Version) → List ℕ → ℕ → List (Way v)
ways_at v ws p = ways_of v (GET_OPCODE-of v (get_or ws p 0))

-- What is touched in some execution.

abbrev pub Any : {X : Type 0} → (X → Type 0) → List X → Type 0
Any P [] = ⊥
Any P (x ∷ xs) = P x ⊎ Any P xs

abbrev pub All : {X : Type 0} → (X → Type 0) → List X → Type 0
All P [] = Unit {0}
All P (x ∷ xs) = P x × All P xs

abbrev pub execution_reads : List Execution → List Access
execution_reads [] = []
execution_reads (run reads stores ∷ runs) = reads ++ execution_reads runs

abbrev pub stores_of : List Execution → List Access
stores_of [] = []
stores_of (run reads stores ∷ runs) = stores ++ stores_of runs

-- on a way, by some execution that takes it
abbrev pub way_reads : {Go : Type 0} → Arm Go → List Access
way_reads (arm go runs) = execution_reads runs

abbrev pub way_stores : {Go : Type 0} → Arm Go → List Access
way_stores (arm go runs) = stores_of runs

-- the cell is named by one of the accesses, in word p
abbrev pub Touched : Version → List ℕ → ℕ → Cell → List Access → Type 0
Touched v ws p c accesses =
    Any (names (taken v (get_or ws p 0)) (taken v (get_or ws (p - 1) 0))
    (taken v (get_or ws (p + 1) 0)) c) accesses

-- read by some execution of word p
abbrev pub Reads : Version → List ℕ → ℕ → Cell → Type 0
Reads v ws p c = Any (λ (w : Way v). Touched v ws p c (way_reads w)) (ways_at v ws p)

-- written on every way on: listed plainly
abbrev pub WrittenOnAll : Version → List ℕ → ℕ → Cell → Type 0
WrittenOnAll v ws p c =
    Any (λ (w : Way v). Touched v ws p c (way_stores w)) (ways_at v ws p)
    × All (λ (w : Way v). Touched v ws p c (way_stores w)) (ways_at v ws p)

-- the way leads to word z
abbrev pub LeadsTo : (v : Version) → List ℕ → ℕ → ℤ → Way v → Type 0
LeadsTo v ws p z w = In z (next v ws (pos (p + 1)) (get_or ws p 0) (go_of w))

-- "A write that happens on one step only .. is listed with that step": written on a way that leads to
-- word z, and not on every way
abbrev pub WrittenOnlyTo : Version → List ℕ → ℕ → Cell → ℤ → Type 0
WrittenOnlyTo v ws p c z =
    Any (λ (w : Way v). LeadsTo v ws p z w × Touched v ws p c (way_stores w)) (ways_at v ws p)
    × (All (λ (w : Way v). Touched v ws p c (way_stores w)) (ways_at v ws p) → ⊥)

-- The same at a stack top t.

abbrev pub TouchedAt : Version → List ℕ → ℕ → ℕ → ℕ → List Access → Type 0
TouchedAt v ws p t q accesses = Any
    (names_at (taken v (get_or ws p 0)) (taken v (get_or ws (p - 1) 0))
    (taken v (get_or ws (p + 1) 0)) t q) accesses

abbrev pub ReadsAt : Version → List ℕ → ℕ → ℕ → ℕ → Type 0
ReadsAt v ws p t q = Any (λ (w : Way v). TouchedAt v ws p t q (way_reads w)) (ways_at v ws p)

abbrev pub WrittenAt : Version → List ℕ → ℕ → ℕ → ℕ → Type 0
WrittenAt v ws p t q =
    Any (λ (w : Way v). TouchedAt v ws p t q (way_stores w)) (ways_at v ws p)
    × All (λ (w : Way v). TouchedAt v ws p t q (way_stores w)) (ways_at v ws p)

-- the tops that can be: before the word, and after it
abbrev pub TopBefore : Version → List ℕ → ℕ → ℕ → Type 0
TopBefore v ws p t = All (λ (w : Way v). All (Meets (taken v (get_or ws p 0)) t) (way_reads w))
    (ways_at v ws p)

abbrev pub TopAfter : Version → List ℕ → ℕ → ℕ → Type 0
TopAfter v ws p t = All (λ (w : Way v). All (Meets (taken v (get_or ws p 0)) t) (way_stores w))
    (ways_at v ws p)
