-- Request C-15, "Registers set before use", over any graph whose words read registers and set them:
-- definite assignment. For one register, the words that some path reaches without its being set are those
-- that are reachable when the edges are cut on which it is set.
-- Assumes nothing.
use Rattle.std.specs.Prelude.{◌≡◌, ◌⊎◌, ◌↔◌, Bool, true, false, cond, ◌&&◌, ◌||◌, List, [], ◌∷◌, ◌++◌, ℕ}
use Rattle.std.specs.Prelude.{zero, suc, ◌+◌, ◌≤◌, ◌<◌, leb, eqb}
use Rattle.common.specs.Lowest.{lowest}
use Rattle.graph.specs.Graph.{Graph, Lawful, Path}
use Rattle.graph.specs.Marks.{mark_of}
use Rattle.graph.specs.Distance.{last_of}

-- what words read and set
pub record Usage : Type 0 where
  -- "named as read": by word p, register r
  pub reads : ℕ → ℕ → Bool
  -- "named as written": by word p on the step to q, register r
  pub sets : ℕ → ℕ → ℕ → Bool
  -- a number above every register that is read
  pub registers : ℕ

abbrev pub ReadsBounded : Usage → Type 0
ReadsBounded u = (p r : ℕ) → u.reads p r ≡ true → r < u.registers

-- The relation

-- "was named as written earlier on that course", where t says on which steps: on a step from p along ps
abbrev pub SetAlong : (ℕ → ℕ → Bool) → ℕ → List ℕ → Type 0
SetAlong t p [] = ⊥
SetAlong t p (q ∷ qs) = (t p q ≡ true) ⊎ SetAlong t q qs

abbrev pub SetOn : (ℕ → ℕ → Bool) → List ℕ → Type 0
SetOn t [] = ⊥
SetOn t (p ∷ ps) = SetAlong t p ps

-- on none of the steps from p along ps
abbrev pub UnsetAlong : (ℕ → ℕ → Bool) → ℕ → List ℕ → Type 0
UnsetAlong t p [] = Unit {0}
UnsetAlong t p (q ∷ qs) = (t p q ≡ false) × UnsetAlong t q qs

module _ (g : Graph) (u : Usage) (parameters : ℕ) where
  -- "on every course from word 0 each register named as read was a parameter or was named as written
  -- earlier on that course": a word's own write does not serve its own read, and only the steps
  -- that the course takes count
  abbrev pub SetBeforeUse : Type 0
  SetBeforeUse =
      (before : List ℕ) (p : ℕ) (after : List ℕ) → Path g (before ++ (p ∷ after)) → (r : ℕ)
      → u.reads p r ≡ true
      → (r < parameters) ⊎ SetOn (λ x y. u.sets x y r) (before ++ (p ∷ []))

  -- "some course breaks this" at word p: one that ends there, with a register that p reads, that is no
  -- parameter, and that no step of the course sets, "also where that path was broken before"
  pub record Breaks (p : ℕ) : Type 0 where
    pub rest : List ℕ
    pub path : Path g (0 ∷ rest)
    pub ends : last_of 0 rest ≡ p
    pub register : ℕ
    pub no_parameter : parameters ≤ register
    pub read : u.reads p register ≡ true
    pub unset : UnsetAlong (λ x y. u.sets x y register) 0 rest

-- The test

-- a list without what passes the test
abbrev pub without : (ℕ → Bool) → List ℕ → List ℕ
without t [] = []
without t (q ∷ qs) = cond (t q) (without t qs) (q ∷ without t qs)

-- the graph without the edges that pass the test
abbrev pub cut : Graph → (ℕ → ℕ → Bool) → Graph
cut g t = record { size = g.size; successors = λ p. without (t p) (g.successors p); serves = g.serves }

-- some number below k passes the test
unfoldable pub some_below : (ℕ → Bool) → ℕ → Bool
some_below t zero = false
some_below t (suc k) = t k || some_below t k

-- word p reads register r, no parameter, and is reachable with the edges cut on which r is set
unfoldable pub reads_unset : Graph → Usage → ℕ → ℕ → ℕ → Bool
reads_unset g u parameters p r =
    leb parameters r && (u.reads p r && eqb (mark_of (cut g (λ x y. u.sets x y r)) p) 1)

-- word p does so of some register
unfoldable pub unset_at : Graph → Usage → ℕ → ℕ → Bool
unset_at g u parameters p = some_below (reads_unset g u parameters p) u.registers

-- "the lowest word at which one does"; n if there is none
unfoldable pub lowest_unset : Graph → Usage → ℕ → ℕ
lowest_unset g u parameters = lowest (unset_at g u parameters) g.size

-- The test is that of the relation: proofs/Assignment.antt proves it for every lawful graph

pub record Assignment (g : Graph) (u : Usage) (parameters : ℕ) : Type 0 where
  -- at each word
  pub breaks : (p : ℕ) → ((unset_at g u parameters p ≡ true) × (p < g.size)) ↔ Breaks g u parameters p
  -- "the place is the lowest word at which one does"
  pub place : (p : ℕ) → ((lowest_unset g u parameters ≡ p) × (p < g.size))
      ↔ (Breaks g u parameters p × ((q : ℕ) → q < p → Breaks g u parameters q → ⊥))
  -- there is none exactly if every course sets before use
  pub none : (g.size ≤ lowest_unset g u parameters) ↔ SetBeforeUse g u parameters

abbrev pub Assignments : Type 0
Assignments =
    (g : Graph) → Lawful g → (u : Usage) → ReadsBounded u → (parameters : ℕ) → Assignment g u parameters

-- what a search over cut edges goes by
pub record Cutting : Type 0 where
  pub lawful : (g : Graph) → Lawful g → (t : ℕ → ℕ → Bool) → Lawful (cut g t)
  -- the registers below k that matter, one more at a time
  pub more : (t : ℕ → Bool) (k : ℕ) → some_below t (k + 1) ≡ t k || some_below t k
