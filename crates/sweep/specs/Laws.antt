-- What callers go by, beside the contracts of module `inner`: of the proofs here crates above cite `laws` of
-- Laws.antt, and `steps`, which settles the entries, two files of plain lemmas, Steps.antt and Settling.antt.
-- Assumes nothing.
use Rattle.std.specs.Prelude.{◌≡◌, ◌↔◌, true, false, List, ℕ, ◌+◌, ◌*◌, ◌/◌, ◌%◌, ◌≤◌, ◌<◌, length, get_or}
use Rattle.std.specs.Prelude.{set}
use Rattle.graph.specs.Graph.{In, Lawful}
use Rattle.sweep.specs.declared.edges.Successors.{Successors}
use Rattle.sweep.specs.declared.edges.Successors.TheVariants.{Invalid, Stop, One}
use Rattle.sweep.specs.Steps.{ordered, list_of, serves_of, graph_by, Below}
use Rattle.sweep.specs.Entries.{
  «TARGETS»,
  «ENTRIES»,
  KIND_NONE,
  KIND_NEXT,
  KIND_TARGET,
  «RETURNS»,
  entry_at,
  entries,
  Settled,
  Carries,
}
use Rattle.sweep.specs.SearchInvariants.{Lent, Held}

-- what entry e says of word p, by its kind
pub record Kinds (e p : ℕ) : Type 0 where
  pub invalid : e / «TARGETS» ≡ KIND_NONE → (e % «TARGETS» ≡ «RETURNS» → ⊥) → entry_at e p ≡ Invalid
  pub returns : e / «TARGETS» ≡ KIND_NONE → e % «TARGETS» ≡ «RETURNS» → entry_at e p ≡ Stop
  pub next : e / «TARGETS» ≡ KIND_NEXT → entry_at e p ≡ One (p + 1)
  pub target : e / «TARGETS» ≡ KIND_TARGET → entry_at e p ≡ One (e % «TARGETS»)
  pub both :
      (e / «TARGETS» ≡ KIND_NONE → ⊥) → (e / «TARGETS» ≡ KIND_NEXT → ⊥)
      → (e / «TARGETS» ≡ KIND_TARGET → ⊥)
      → entry_at e p ≡ ordered (p + 1) (e % «TARGETS»)

pub record Laws : Type 0 where
  -- request C-16: "only a step that does not go forward does" serve
  pub serving : (p q : ℕ) → (serves_of p q ≡ true) ↔ (q ≤ p)
  -- so that a step that does not serve goes forward
  pub forward : (p q : ℕ) → serves_of p q ≡ false → p < q
  -- steps below n are among n words, and their graph is lawful
  pub inside : (n : ℕ) (s : Successors) → Below n s → (q : ℕ) → In q (list_of s) → q < n
  pub lawful : (n : ℕ) (steps : ℕ → Successors) → ((p : ℕ) → Below n (steps p)) → Lawful (graph_by n steps)
  -- how an entry is read
  pub kinds : (e p : ℕ) → Kinds e p
  -- an element's entry
  pub entry_is : (l : List ℕ) (p : ℕ) → get_or (entries l) p 0 ≡ get_or l p 0 % «ENTRIES»
  pub as_long : (l : List ℕ) → length (entries l) ≡ length l
  -- it stays where x is written over what was the queue's
  pub kept : (l : List ℕ) (p x : ℕ) → entries (set l p (get_or l p 0 % «ENTRIES» + x * «ENTRIES»)) ≡ entries l
  -- what is said of settled entries is said of the words, and the search can go by them
  pub carries : Carries
  pub held :
      (n : ℕ) (steps : ℕ → Successors) (m l₀ l : List ℕ) → Lawful (graph_by n steps) → Lent n m l₀
      → Settled n steps (entries l) → length l ≡ length l₀ → Held m l
