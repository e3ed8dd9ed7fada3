-- What the functions of the pass over the lengths, from searched ones to measured ones, ask and leave, over
-- any weights w. No exported contract cites it. Of a word nothing is read but the place of its weight.
-- Assumes nothing.
use Rattle.std.specs.Prelude.{◌≡◌, Bool, false, cond, Option, List, ℕ, ◌+◌, ◌*◌, ◌%◌, ◌≤◌, ◌<◌, eqb, length}
use Rattle.std.specs.Prelude.{get_or, set}
use Rattle.std.specs.Int.Bits.{bit_and}
use Rattle.common.specs.Limits.{most_words, heaviest_weight}
use Rattle.common.specs.Lowest.{found}
use Rattle.graph.specs.Graph.{Graph, In, Lawful}
use Rattle.graph.specs.Longest.{best, length_of}
use Rattle.sweep.specs.declared.edges.Successors.{Successors}
use Rattle.sweep.specs.Steps.{list_of, is_invalid}
use Rattle.sweep.specs.Entries.{«ENTRIES», entry_at, entries, entry_steps, graph_in, lowest_by}
use Rattle.sweep.specs.SearchInvariants.{Held, Marked}

-- no length is above it: as many words as are allowed, each of the heaviest weight
abbrev pub most_weight : ℕ
most_weight = heaviest_weight * most_words

-- what word p weighs, by a table and the bits of the word that a mask leaves, whatever they mean
abbrev pub weight_by : ℕ → List ℕ → List ℕ → ℕ → ℕ
weight_by mask ws weights p = get_or weights (bit_and (get_or ws p 0) mask) 0

abbrev pub at : List ℕ → ℕ → ℕ
at l p = get_or l p 0

-- the lengths
abbrev pub Lengths : Graph → (ℕ → ℕ) → List ℕ → Type 0
Lengths g w l = (p : ℕ) → p < g.size → get_or l p 0 ≡ length_of g w p

-- the marks are right, and so are the lengths of the words from k on; the words below have their entries yet
pub record Filled (es : List ℕ) (w : ℕ → ℕ) (m l : List ℕ) (k : ℕ) : Type 0 where
  pub law : Lawful (graph_in es)
  pub few : length es ≤ most_words
  pub m_same : length m ≡ length es
  pub l_same : length l ≡ length es
  pub marks : Marked (graph_in es) m
  pub from : (q : ℕ) → k ≤ q → q < length es → get_or l q 0 ≡ length_of (graph_in es) w q
  pub below : (q : ℕ) → q < k → get_or l q 0 % «ENTRIES» ≡ get_or es q 0

-- word p's steps by the entry in the lengths
abbrev pub steps_in : List ℕ → ℕ → Successors
steps_in l p = entry_at (get_or l p 0 % «ENTRIES») p

-- the length of word p from those above it, and whether it is reachable and invalid
abbrev pub length_in : (ℕ → ℕ) → List ℕ → List ℕ → ℕ → ℕ
length_in w m l p = cond (eqb (get_or m p 0) 0) 0 (w p + best (graph_in l) p (at l) (list_of (steps_in l p)))

abbrev pub invalid_in : List ℕ → List ℕ → ℕ → Bool
invalid_in m l p = cond (eqb (get_or m p 0) 0) false (is_invalid (steps_in l p))

-- what measuring word p asks: the words above it have their lengths, none above the limit, and a is that of
-- the next
pub record Measuring (limit : ℕ) (m l : List ℕ) (p a : ℕ) : Type 0 where
  pub in_m : p < length m
  pub in_l : p < length l
  pub steps : (q : ℕ) → In q (list_of (steps_in l p)) → q < length l
  pub low : (q : ℕ) → p < q → get_or l q 0 ≤ limit
  pub next : a ≡ get_or l (p + 1) 0

-- and what it finds: the word's length, and whether it is reachable and invalid
pub record Measures (w : ℕ → ℕ) (m l : List ℕ) (p v : ℕ) (bad : Bool) : Type 0 where
  pub length_is : v ≡ length_in w m l p
  pub invalid_is : bad ≡ invalid_in m l p

-- two lists differ at p alone: whatever is put there, they are the same
abbrev pub SameBut : ℕ → List ℕ → List ℕ → Type 0
SameBut p l l' = (v : ℕ) → set l' p v ≡ set l p v

-- what the pass asks: the entries, and the marks of the graph that they hold
pub record FillAsks (m l : List ℕ) : Type 0 where
  pub held : Held m l
  pub marked : Marked (graph_in (entries l)) m

-- and leaves, measured: the lengths where the entries stood. It finds the lowest reachable invalid word
pub record Fills (w : ℕ → ℕ) (l l' : List ℕ) (r : Option ℕ) : Type 0 where
  pub lengths : Lengths (graph_in (entries l)) w l'
  pub lowest-invalid :
      r ≡ found (length (entries l)) (lowest_by (length (entries l)) (entry_steps (entries l)))
