-- Inner: no promise and no law between crates rests on what stands here.
-- What the functions of the two passes over the lengths, by a lower and by a higher table of weights, ask and
-- leave (request C-18). The first pass keeps each word's steps beside its length, so that the second needs
-- no entry settled again. No exported contract cites it. Of a word nothing is read but the place of its
-- weight.
-- Assumes nothing.
use Rattle.std.specs.Prelude.{◌≡◌, Bool, cond, Option, List, [], ℕ, ◌+◌, ◌*◌, ◌/◌, ◌%◌, ◌≤◌, ◌<◌, eqb, ltb}
use Rattle.std.specs.Prelude.{length}
use Rattle.std.specs.Prelude.{get_or, set}
use Rattle.common.specs.Limits.{most_words}
use Rattle.common.specs.Lowest.{found}
use Rattle.graph.specs.Graph.{Graph, In, Lawful}
use Rattle.graph.specs.Marks.{mark_of}
use Rattle.graph.specs.Longest.{best, length_of, longest, first}
use Rattle.sweep.specs.declared.edges.Successors.{Successors}
use Rattle.sweep.specs.declared.edges.Successors.TheVariants.{Stop, One}
use Rattle.sweep.specs.Steps.{ordered, list_of}
use Rattle.sweep.specs.Entries.{«TARGETS», «ENTRIES», KIND_NEXT}
use Rattle.sweep.specs.Entries.{entry_at, entries, entry_steps, graph_in, lowest_by}
use Rattle.sweep.specs.SearchInvariants.{Marked}
use Rattle.sweep.specs.PassInvariants.{most_weight, Lengths, steps_in, invalid_in}

-- a kept element is a length, and this times the low bits of a target
abbrev pub KEPT_LENGTHS : ℕ
KEPT_LENGTHS = 8388608

-- a target is those bits, and this times the others
abbrev pub «SHARE» : ℕ
«SHARE» = 512

-- the length in an element
abbrev pub low_at : List ℕ → ℕ → ℕ
low_at l p = get_or l p 0 % KEPT_LENGTHS

-- the entry that a byte b of marks and a kept element e make
abbrev pub kept_entry : ℕ → ℕ → ℕ
kept_entry b e = b * «SHARE» + e / KEPT_LENGTHS % «SHARE»

-- the bytes of words with the next word alone, and, from these up, with that and the one after it, and with a
-- target of their own
abbrev pub KEPT_NEXT : ℕ
KEPT_NEXT = 1

abbrev pub KEPT_SKIP : ℕ
KEPT_SKIP = 3

abbrev pub KEPT_TARGET : ℕ
KEPT_TARGET = 128

-- the steps of word p that they tell
abbrev pub kept_steps : ℕ → ℕ → ℕ → Successors
kept_steps b e p =
    cond (eqb b KEPT_NEXT) (One (p + 1))
    (cond (ltb b KEPT_SKIP) Stop
    (cond (ltb b KEPT_TARGET) (ordered (p + 1) (p + 2))
    (entry_at (kept_entry b e) p)))

abbrev pub kept_in : List ℕ → List ℕ → ℕ → Successors
kept_in m l p = kept_steps (get_or m p 0) (get_or l p 0) p

-- the length of word p, which weighs x, has this mark and these steps, from the lengths f of those above it
abbrev pub length_by : (ℕ → ℕ) → ℕ → ℕ → Successors → ℕ → ℕ
length_by f x mark s p = cond (eqb mark 0) 0 (x + best (graph_in []) p f (list_of s))

-- word q of a graph is kept by the byte b and the element e: a byte of 0 says that it is not reachable, and
-- of one that is the steps can be told
pub record KeptAs (g : Graph) (q b e : ℕ) : Type 0 where
  pub none : b ≡ 0 → mark_of g q ≡ 0
  pub some : (b ≡ 0 → ⊥) → mark_of g q ≡ 1
  pub steps : (b ≡ 0 → ⊥) → list_of (kept_steps b e q) ≡ g.successors q

-- what keeping word p asks: the words above it are kept, none with a length above the limit, and a and f are
-- the lengths of the next two
pub record KeepAsks (m l : List ℕ) (p a f : ℕ) : Type 0 where
  pub in_m : p < length m
  pub in_l : p < length l
  pub few : length l ≤ most_words
  pub bit : get_or m p 0 ≤ 1
  pub steps : (q : ℕ) → In q (list_of (steps_in l p)) → q < length l
  pub low : (q : ℕ) → p < q → low_at l q ≤ most_weight
  pub next : a ≡ low_at l (p + 1)
  pub skip : f ≡ low_at l (p + 2)

-- and of a word that is reachable and does more than go on to the next
pub record KeepsApart (m l : List ℕ) (p a : ℕ) : Type 0 where
  pub after : ℕ
  pub asks : KeepAsks m l p a after
  pub reached : get_or m p 0 ≡ 0 → ⊥
  pub apart : get_or l p 0 % «ENTRIES» / «TARGETS» ≡ KIND_NEXT → ⊥

-- and what it finds: the word's element e and byte b, and whether it is reachable and invalid
pub record KeepsWord (x : ℕ) (m l : List ℕ) (p e b : ℕ) (bad : Bool) : Type 0 where
  pub length_is : e % KEPT_LENGTHS ≡ length_by (low_at l) x (get_or m p 0) (steps_in l p) p
  pub invalid_is : bad ≡ invalid_in m l p
  pub none : get_or m p 0 ≡ 0 → b ≡ 0
  pub some : (get_or m p 0 ≡ 0 → ⊥) → b ≡ 0 → ⊥
  pub steps : (get_or m p 0 ≡ 0 → ⊥) → list_of (kept_steps b e p) ≡ list_of (steps_in l p)

-- and leaves: these stand at p, and v is the length in the element
pub record Keeps (x : ℕ) (m l : List ℕ) (p v : ℕ) (bad : Bool) (m' l' : List ℕ) : Type 0 where
  pub element : ℕ
  pub byte : ℕ
  pub word : KeepsWord x m l p element byte bad
  pub handed : v ≡ element % KEPT_LENGTHS
  pub m_is : m' ≡ set m p byte
  pub l_is : l' ≡ set l p element

-- the words of entries es are kept, and their graph is lawful
pub record KeptWords (es m l : List ℕ) : Type 0 where
  pub law : Lawful (graph_in es)
  pub few : length es ≤ most_words
  pub m_same : length m ≡ length es
  pub l_same : length l ≡ length es
  pub kept : (q : ℕ) → q < length es → KeptAs (graph_in es) q (get_or m q 0) (get_or l q 0)

-- what the first pass leaves: the lengths by w, kept words, and the lowest reachable invalid one
pub record KeepsAll (w : ℕ → ℕ) (l m' l' : List ℕ) (r : Option ℕ) : Type 0 where
  pub lows : (p : ℕ) → p < length (entries l) → low_at l' p ≡ length_of (graph_in (entries l)) w p
  pub kept : KeptWords (entries l) m' l'
  pub lowest-invalid :
      r ≡ found (length (entries l)) (lowest_by (length (entries l)) (entry_steps (entries l)))

-- what raising word p asks: its steps are words, those above it have their lengths, and a and f are those of
-- the next two
pub record RaiseAsks (m l : List ℕ) (p a f : ℕ) : Type 0 where
  pub in_m : p < length m
  pub in_l : p < length l
  pub steps : (get_or m p 0 ≡ 0 → ⊥) → (q : ℕ) → In q (list_of (kept_in m l p)) → q < length l
  pub low : (q : ℕ) → p < q → get_or l q 0 ≤ most_weight
  pub next : a ≡ get_or l (p + 1) 0
  pub skip : f ≡ get_or l (p + 2) 0

-- words that are kept, of whatever entries
pub record SomeKept (m l : List ℕ) : Type 0 where
  pub es : List ℕ
  pub words : KeptWords es m l

-- what the second pass leaves: whatever the entries were, the lengths by w
abbrev pub Raises : (ℕ → ℕ) → List ℕ → List ℕ → List ℕ → Type 0
Raises w m l l' = (es : List ℕ) → KeptWords es m l → Lengths (graph_in es) w l'

-- bytes that are marks again
abbrev pub Restored : List ℕ → List ℕ → Type 0
Restored m m' = (p : ℕ) → p < length m → get_or m' p 0 ≡ cond (eqb (get_or m p 0) 0) 0 1

-- what both passes leave of searched lengths l: the marks, the lengths by the higher weights, and of the
-- lower ones the longest and its first word
pub record Twice (low high : ℕ → ℕ) (l : List ℕ) (invalid : Option ℕ) (most lowest : ℕ)
    (m' l' : List ℕ) : Type 0 where
  pub marked : Marked (graph_in (entries l)) m'
  pub lengths : Lengths (graph_in (entries l)) high l'
  pub lowest-invalid :
      invalid ≡ found (length (entries l)) (lowest_by (length (entries l)) (entry_steps (entries l)))
  pub longest_is : most ≡ longest (graph_in (entries l)) low
  pub first_is : lowest ≡ first (graph_in (entries l)) low
