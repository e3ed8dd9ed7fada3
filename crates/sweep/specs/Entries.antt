-- Request C-12, "settle each word's class and targets in a pass before the search begins": the steps of all
-- words as data, whatever instruction set they come from. Of two steps one is the next word, so a word's
-- steps are a kind and one free target. An element of the lengths is settled, searched, measured, one after
-- the other (src/packing.rt has the bits): settled, it is the word's entry, below 131,072; searched, it has
-- an element of the queue above the entry; measured, it is the word's length. No word is read here, and
-- nothing of crate `fields` is named.
-- Assumes nothing.
use Rattle.std.specs.Prelude.{◌≡◌, ◌⊎◌, Bool, cond, ◌&&◌, List, map, ℕ, ◌+◌, ◌/◌, ◌%◌, ◌<◌, eqb, length}
use Rattle.std.specs.Prelude.{get_or}
use Rattle.common.specs.Lowest.{lowest}
use Rattle.graph.specs.Graph.{Graph}
use Rattle.graph.specs.Marks.{mark_of}
use Rattle.sweep.specs.declared.edges.Successors.{Successors}
use Rattle.sweep.specs.declared.edges.Successors.TheVariants.{Invalid, Stop, One, Two}
use Rattle.sweep.specs.Steps.{ordered, is_invalid, graph_by}

-- an entry is a kind times this, and a target: so many targets there are, one for each of the most words
abbrev pub «TARGETS» : ℕ
«TARGETS» = 32768

-- so many entries there are; what an element holds from here up, once it is searched, is the queue's
abbrev pub «ENTRIES» : ℕ
«ENTRIES» = 131072

-- the kinds: no step; the next word; the target; the next word and the target
abbrev pub KIND_NONE : ℕ
KIND_NONE = 0

abbrev pub KIND_NEXT : ℕ
KIND_NEXT = 1

abbrev pub KIND_TARGET : ℕ
KIND_TARGET = 2

abbrev pub KIND_BOTH : ℕ
KIND_BOTH = 3

-- the target of a word that has no step, and is not bad
abbrev pub «RETURNS» : ℕ
«RETURNS» = 1

-- the steps of word p by the kind and the target of its entry. An entry of 0 is a bad word's, and so is one
-- past the end
abbrev pub by_kind : ℕ → ℕ → ℕ → Successors
by_kind kind target p =
    cond (eqb kind KIND_NONE) (cond (eqb target «RETURNS») Stop Invalid)
    (cond (eqb kind KIND_NEXT) (One (p + 1))
    (cond (eqb kind KIND_TARGET) (One target)
    (ordered (p + 1) target)))

-- what entry e says of word p
unfoldable pub entry_at : ℕ → ℕ → Successors
entry_at e p = by_kind (e / «TARGETS») (e % «TARGETS») p

-- the entries, and the queue, in searched lengths
unfoldable pub entries : List ℕ → List ℕ
entries l = map (λ (x : ℕ). x % «ENTRIES») l

unfoldable pub queue_of : List ℕ → List ℕ
queue_of l = map (λ (x : ℕ). x / «ENTRIES») l

-- the steps that entries hold, and their graph
abbrev pub entry_steps : List ℕ → ℕ → Successors
entry_steps es p = entry_at (get_or es p 0) p

abbrev pub graph_in : List ℕ → Graph
graph_in es = graph_by (length es) (entry_steps es)

-- the entries of n words say of every word its steps, and of a number past them that there are none
pub record Settled (n : ℕ) (steps : ℕ → Successors) (es : List ℕ) : Type 0 where
  pub same : length es ≡ n
  pub each : (p : ℕ) → entry_steps es p ≡ steps p

-- "a reachable bad word", of n words by their steps
abbrev pub invalid_by : ℕ → (ℕ → Successors) → ℕ → Bool
invalid_by n steps p = eqb (mark_of (graph_by n steps) p) 1 && is_invalid (steps p)

-- "place: the lowest"; n if there is none
abbrev pub lowest_by : ℕ → (ℕ → Successors) → ℕ
lowest_by n steps = lowest (invalid_by n steps) n

-- what is said of the entries is said of the words: proofs/Entries.antt proves it
pub record Carries : Type 0 where
  pub graph : (n : ℕ) (steps : ℕ → Successors) (es : List ℕ)
      → Settled n steps es → graph_in es ≡ graph_by n steps
  pub lowest-invalid : (n : ℕ) (steps : ℕ → Successors) (es : List ℕ)
      → Settled n steps es → lowest_by (length es) (entry_steps es) ≡ lowest_by n steps

-- steps that an entry can say: below 32,768, and of two one is the next word
abbrev pub Packs : ℕ → Successors → Type 0
Packs p Invalid = Unit {0}
Packs p Stop = Unit {0}
Packs p (One a) = a < «TARGETS»
Packs p (Two a b) = (a < b) × (b < «TARGETS») × ((a ≡ p + 1) ⊎ (b ≡ p + 1))

-- e is an entry, and says s of word p
pub record Says (e p : ℕ) (s : Successors) : Type 0 where
  pub small : e < «ENTRIES»
  pub steps : entry_at e p ≡ s
