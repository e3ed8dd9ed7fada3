-- Inner: no promise and no law between crates rests on what stands here.
-- What the functions ask and leave: the registers of a block as the bits of a number, and a search that goes
-- for all of them at once. No exported contract cites it.
-- Assumes nothing.
use Rattle.std.specs.Prelude.{◌≡◌, ◌⊎◌, Bool, true, false, cond, ◌&&◌, List, [], ◌∷◌, ℕ, zero, suc, ◌+◌}
use Rattle.std.specs.Prelude.{Option, None, Some}
use Rattle.std.specs.Prelude.{◌*◌, ◌-◌, ◌/◌, ◌%◌, ◌≤◌, ◌<◌, min, max, leb, ltb, eqb, length, get_or, set}
use Rattle.std.specs.Int.Bits.{bit_and, bit_or}
use Rattle.common.specs.Limits.{most_words, most_registers}
use Rattle.graph.specs.Graph.{Graph, In, Reachable}
use Rattle.graph.specs.Assignment.{cut}
use Rattle.graph.specs.Laws.{marked_count}
use Rattle.sweep.specs.declared.edges.Successors.{Successors}
use Rattle.sweep.specs.declared.edges.Successors.TheVariants.{Invalid, Stop, One, Two}
use Rattle.runs.specs.Script.{lua54, graph_of}
use Rattle.sweep.specs.Steps.{is_invalid, Below}
use Rattle.steps.specs.lua54.Successors.{successors_of}
use Rattle.locations.specs.declared.answer.Range.{Range}
use Rattle.locations.specs.declared.answer.Touches.{Touches}
use Rattle.touches.specs.Touches.{touches_of}
use Rattle.locations.specs.Form.{ranges_in}
use Rattle.blocks.specs.declared.search.Seen.{Seen}
use Rattle.blocks.specs.Uses.{reads_by, sets_by, end_of}

-- Sets of registers

-- the lowest register from r on in a range, and in one of several; past all registers if there is none
abbrev pub next_register : ℕ → Range → ℕ
next_register r x = cond (leb (max x.first r) x.last) (max x.first r) most_registers

unfoldable pub next_in : ℕ → List Range → ℕ
next_in r [] = most_registers
next_in r (x ∷ xs) = min (next_register r x) (next_in r xs)

-- bit i of a number
unfoldable pub has_bit : ℕ → ℕ → Bool
has_bit x zero = eqb (x % 2) 1
has_bit x (suc i) = has_bit (x / 2) i

-- so many registers a block has, and so many bits a number
abbrev pub «BLOCK» : ℕ
«BLOCK» = 63

abbrev pub bit_count : ℕ
bit_count = 64

-- all registers of a block, and with them the bit that is no register's
abbrev pub «ALL» : ℕ
«ALL» = 9223372036854775807

abbrev pub «EVERY» : ℕ
«EVERY» = 18446744073709551615

-- a number has, of the registers from r on, those that pass the test
pub record HoldsBits (r : ℕ) (t : ℕ → Bool) (x : ℕ) : Type 0 where
  pub small : x ≤ «ALL»
  pub bits : (i : ℕ) → i < «BLOCK» → has_bit x i ≡ t (r + i)

-- Words that wait

-- so many words a page has, and so many pages there are
abbrev pub «PAGE» : ℕ
«PAGE» = 128

abbrev pub most_pages : ℕ
most_pages = 256

abbrev pub WordWaits : List ℕ → ℕ → Type 0
WordWaits waiting p = get_or waiting p 0 ≡ 1

-- a page in which one of n words waits is marked
abbrev pub Paged : ℕ → List ℕ → List ℕ → Type 0
Paged n waiting pages = (p : ℕ) → p < n → WordWaits waiting p → get_or pages (p / «PAGE») 0 ≡ 1

-- none of the words from i up to p waits
abbrev pub NoneWaits : List ℕ → ℕ → ℕ → Type 0
NoneWaits waiting i p = (q : ℕ) → i ≤ q → q < p → WordWaits waiting q → ⊥

-- p is the first word from i on, before the end, that waits
pub record FirstWaits (waiting : List ℕ) (i end p : ℕ) : Type 0 where
  pub before : p < end
  pub none : NoneWaits waiting i p
  pub waits : WordWaits waiting p

abbrev pub Finds : List ℕ → ℕ → ℕ → Option ℕ → Type 0
Finds waiting i end None = NoneWaits waiting i end
Finds waiting i end (Some p) = FirstWaits waiting i end p

-- a look at the marks may take a page's mark away
pub record Looks (n : ℕ) (waiting pages' : List ℕ) : Type 0 where
  pub paged : Paged n waiting pages'
  pub pages_same : length pages' ≡ most_pages

-- one of n words that waits, if any does
abbrev pub Next : List ℕ → ℕ → Option ℕ → Type 0
Next waiting n None = NoneWaits waiting 0 n
Next waiting n (Some p) = (p < n) × WordWaits waiting p

-- The search

pub record JoinAsks (unset waiting pages : List ℕ) (q : ℕ) : Type 0 where
  pub in_unset : q < length unset
  pub in_waiting : q < length waiting
  pub in_pages : q / «PAGE» < length pages

-- registers are added to those that are unset at word q, and it waits, or they were there
pub data Joins (unset waiting pages : List ℕ) (q more : ℕ) : List ℕ → List ℕ → List ℕ → Type 0 where
  grown :
      (bit_or (get_or unset q 0) more ≡ get_or unset q 0 → ⊥)
      → Joins unset waiting pages q more (set unset q (bit_or (get_or unset q 0) more)) (set waiting q 1)
      (set pages (q / «PAGE») 1)
  there : bit_or (get_or unset q 0) more ≡ get_or unset q 0
      → Joins unset waiting pages q more unset waiting pages

-- what is left of a state when some registers are set
abbrev pub leaves : ℕ → ℕ → ℕ
leaves at sets = bit_and at («EVERY» - sets)

-- the step to q is taken by a word that touches t and at which some registers are unset
pub record Steps (r : ℕ) (t : Touches) (at q : ℕ) (unset waiting pages unset' waiting' pages' : List ℕ)
    : Type 0 where
  pub sets : ℕ
  pub holds : HoldsBits r (sets_by t q) sets
  pub joins : Joins unset waiting pages q (leaves at sets) unset' waiting' pages'

-- one step after the other
pub record StepsBoth (r : ℕ) (t : Touches) (at a b : ℕ) (unset waiting pages unset' waiting' pages' : List ℕ)
    : Type 0 where
  pub unset₁ : List ℕ
  pub waiting₁ : List ℕ
  pub pages₁ : List ℕ
  pub first : Steps r t at a unset waiting pages unset₁ waiting₁ pages₁
  pub second : Steps r t at b unset₁ waiting₁ pages₁ unset' waiting' pages'

abbrev pub Spreads :
    ℕ → Touches → ℕ → Successors → List ℕ → List ℕ → List ℕ → List ℕ → List ℕ → List ℕ → Type 0
Spreads r t at Invalid unset waiting pages unset' waiting' pages' =
    (unset' ≡ unset) × (waiting' ≡ waiting) × (pages' ≡ pages)
Spreads r t at Stop unset waiting pages unset' waiting' pages' =
    (unset' ≡ unset) × (waiting' ≡ waiting) × (pages' ≡ pages)
Spreads r t at (One a) unset waiting pages unset' waiting' pages' =
    Steps r t at a unset waiting pages unset' waiting' pages'
Spreads r t at (Two a b) unset waiting pages unset' waiting' pages' =
    StepsBoth r t at a b unset waiting pages unset' waiting' pages'

-- steps to words that the tables have
pub record SpreadAsks (s : Successors) (unset waiting pages : List ℕ) : Type 0 where
  pub size : ℕ
  pub below : Below size s
  pub few : size ≤ most_words
  pub unset_long : size ≤ length unset
  pub waiting_long : size ≤ length waiting
  pub pages_same : length pages ≡ most_pages

-- a word that touches t reads one of the registers that are unset
pub record HitsBy (r : ℕ) (t : Touches) (at : ℕ) : Type 0 where
  pub bit : ℕ
  pub few : bit < «BLOCK»
  pub read : reads_by t (r + bit) ≡ true
  pub unset : has_bit at bit ≡ true

-- what is to be seen of a word that touches t and goes on by s: the lowest register past the block that it
-- reads, that it reads none past all registers, and whether it is bad
pub record Sees (r : ℕ) (t : Touches) (s : Successors) (next : ℕ) (bad : Bool) : Type 0 where
  pub next_read : next ≤ next_in (r + «BLOCK») (ranges_in t.reads)
  pub few : end_of (ranges_in t.reads) ≤ most_registers
  pub bad_seen : is_invalid s ≡ true → bad ≡ true

-- what a visit of word p notes
pub record BlockNotes (r : ℕ) (t : Touches) (s : Successors) (at p : ℕ) (seen seen' : Seen) : Type 0 where
  pub down : seen'.least ≤ seen.least
  pub noted : HitsBy r t at → seen'.least ≤ p
  pub new : (seen'.least ≡ seen.least) ⊎ ((seen'.least ≡ p) × HitsBy r t at)
  pub next_down : seen'.next ≤ seen.next
  pub next_from : min (r + «BLOCK») most_registers ≤ seen.next → min (r + «BLOCK») most_registers ≤ seen'.next
  pub bad_stays : seen.bad ≡ true → seen'.bad ≡ true
  pub sees : Sees r t s seen'.next seen'.bad

-- of n words the first alone waits, where all bits are
pub record Started (n : ℕ) (unset waiting pages : List ℕ) : Type 0 where
  pub unset_long : n ≤ length unset
  pub waiting_long : n ≤ length waiting
  pub pages_same : length pages ≡ most_pages
  pub first : get_or unset 0 0 ≡ «EVERY»
  pub others : (p : ℕ) → 0 < p → p < n → get_or unset p 0 ≡ 0
  pub waits : WordWaits waiting 0
  pub quiet : (p : ℕ) → 0 < p → p < n → get_or waiting p 0 ≡ 0
  pub page : get_or pages 0 0 ≡ 1

module _ (ws : List ℕ) (r : ℕ) where
  -- bit i is lost on the step from p to q: its register is set there. The last bit is no register's, and is
  -- never lost
  abbrev pub loses_bit : ℕ → ℕ → ℕ → Bool
  loses_bit i p q = ltb i «BLOCK» && sets_by (touches_of ws p) q (r + i)

  -- the steps on which bit i stays
  abbrev pub graph_at : ℕ → Graph
  graph_at i = cut (graph_of (lua54 ws)) (loses_bit i)

  abbrev pub Hits : List ℕ → ℕ → Type 0
  Hits unset p = HitsBy r (touches_of ws p) (get_or unset p 0)

  -- all that word p's state asks is done
  pub record Done (unset : List ℕ) (seen : Seen) (p : ℕ) : Type 0 where
    pub closed :
        (q : ℕ) → In q ((graph_of (lua54 ws)).successors p) → (i : ℕ) → i < bit_count
        → has_bit (get_or unset p 0) i ≡ true → loses_bit i p q ≡ false → has_bit (get_or unset q 0) i ≡ true
    pub noted : Hits unset p → seen.least ≤ p
    pub sees :
        (i : ℕ) → has_bit (get_or unset p 0) i ≡ true
        → Sees r (touches_of ws p) (successors_of ws p) seen.next seen.bad

  -- a search under way: every word but the one in hand waits, or all is done that its state asks
  pub record Under (hand : ℕ) (unset waiting pages : List ℕ) (limit : ℕ) (seen : Seen) : Type 0 where
    pub unset_long : length ws ≤ length unset
    pub waiting_long : length ws ≤ length waiting
    pub pages_same : length pages ≡ most_pages
    pub wide : (p : ℕ) → p < length ws → get_or unset p 0 ≤ «EVERY»
    pub first : (i : ℕ) → i < bit_count → has_bit (get_or unset 0 0) i ≡ true
    pub sound :
        (p : ℕ) → p < length ws → (i : ℕ) → i < bit_count → has_bit (get_or unset p 0) i ≡ true
        → Reachable (graph_at i) p
    pub marks : (p : ℕ) → p < length ws → get_or waiting p 0 ≤ 1
    pub paged : Paged (length ws) waiting pages
    pub limit_few : limit ≤ length ws
    pub least_few : seen.least ≤ limit
    pub least_hits : seen.least < limit → Hits unset seen.least
    pub next_from : min (r + «BLOCK») most_registers ≤ seen.next
    pub todo : (p : ℕ) → p < length ws → (p ≡ hand → ⊥) → WordWaits waiting p ⊎ Done unset seen p

  -- no word is in hand
  abbrev pub Searching : List ℕ → List ℕ → List ℕ → ℕ → Seen → Type 0
  Searching unset waiting pages limit seen = Under (length ws) unset waiting pages limit seen

  -- word p is visited
  pub record BlockVisits (p : ℕ) (unset waiting pages : List ℕ) (seen : Seen)
      (unset' waiting' pages' : List ℕ)
      (seen' : Seen) : Type 0 where
    pub spreads :
        Spreads r (touches_of ws p) (get_or unset p 0) (successors_of ws p) unset
        (set waiting p 0) pages unset' waiting'
        pages'
    pub notes : BlockNotes r (touches_of ws p) (successors_of ws p) (get_or unset p 0) p seen seen'

  -- it ends: each state has so many numbers above it, and each visit is of a word that waits
  unfoldable pub left : List ℕ → List ℕ → ℕ
  left unset waiting =
      (length ws * (1 + «EVERY») - marked_count (length ws) unset) + marked_count (length ws) waiting

  -- all is done
  pub record BlockSearched (unset waiting pages : List ℕ) (limit : ℕ) (seen : Seen) : Type 0 where
    pub under : Searching unset waiting pages limit seen
    pub none : (p : ℕ) → p < length ws → WordWaits waiting p → ⊥

-- some words, not too many, and tables that are long enough
pub record SearchRoom (ws unset waiting pages : List ℕ) : Type 0 where
  pub some : 0 < length ws
  pub few : length ws ≤ most_words
  pub unset_long : length ws ≤ length unset
  pub waiting_long : length ws ≤ length waiting
  pub pages_same : length pages ≡ most_pages
