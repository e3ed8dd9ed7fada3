-- What the functions of the search ask and leave, over any graph, and over entries that the lengths hold,
-- settled before it and searched after. No exported contract cites it. No word is read here, and nothing of
-- crate `fields` is named.
-- Assumes nothing.
use Rattle.std.specs.Prelude.{◌≡◌, ◌⊎◌, Option, Some, None, List, [], ◌∷◌, ℕ, ◌+◌, ◌≤◌, ◌<◌, length}
use Rattle.std.specs.Prelude.{get_or, set}
use Rattle.common.specs.Limits.{most_words}
use Rattle.graph.specs.Graph.{Graph, In, Lawful, Reachable}
use Rattle.graph.specs.Marks.{mark_of}
use Rattle.graph.specs.Laws.{marked_count}
use Rattle.sweep.specs.Entries.{entries, queue_of, graph_in}

-- some words, not too many, and slices with an element for each
pub record Lent (n : ℕ) (m l : List ℕ) : Type 0 where
  pub some : 0 < n
  pub few : n ≤ most_words
  pub m_same : length m ≡ n
  pub l_same : length l ≡ n

-- slices of which the lengths hold entries, whose steps are words
pub record Held (m l : List ℕ) : Type 0 where
  pub lent : Lent (length (entries l)) m l
  pub law : Lawful (graph_in (entries l))

-- the marks
abbrev pub Marked : Graph → List ℕ → Type 0
Marked g m = (p : ℕ) → p < g.size → get_or m p 0 ≡ mark_of g p

-- every successor of p is marked
abbrev pub Closed : Graph → List ℕ → ℕ → Type 0
Closed g m p = (q : ℕ) → In q (g.successors p) → get_or m q 0 ≡ 1

-- p stands in the queue between head h and tail t
abbrev pub QueueWaits : List ℕ → ℕ → ℕ → ℕ → Type 0
QueueWaits qu h t p = (i : ℕ) × (h ≤ i) × (i < t) × (get_or qu i 0 ≡ p)

-- the marks m and the queue qu, up to its tail t, have room for the words: a word that enters the queue is
-- marked then, so that no more words are queued than are marked
pub record Room (g : Graph) (m qu : List ℕ) (t : ℕ) : Type 0 where
  pub m_long : g.size ≤ length m
  pub qu_long : g.size ≤ length qu
  pub bits : (p : ℕ) → p < g.size → get_or m p 0 ≤ 1
  pub count : t ≤ marked_count g.size m

-- a search under way: of the marked words some wait in the queue from head h to tail t, some are in hand, and
-- the successors of the others are marked
pub record Marking (g : Graph) (hand m qu : List ℕ) (h t : ℕ) : Type 0 where
  pub room : Room g m qu t
  pub order : h ≤ t
  pub sound : (p : ℕ) → p < g.size → get_or m p 0 ≡ 1 → Reachable g p
  pub queued : (i : ℕ) → i < t → (get_or qu i 0 < g.size) × (get_or m (get_or qu i 0) 0 ≡ 1)
  pub held : (p : ℕ) → In p hand → (p < g.size) × (get_or m p 0 ≡ 1)
  pub todo : (p : ℕ) → p < g.size → get_or m p 0 ≡ 1 → QueueWaits qu h t p ⊎ (Closed g m p ⊎ In p hand)

-- the word in hand, if there is one, and how many there are
abbrev pub in_hand : Option ℕ → List ℕ
in_hand None = []
in_hand (Some p) = p ∷ []

abbrev pub hands : Option ℕ → ℕ
hands None = 0
hands (Some p) = 1

-- after a visit of word p: the word in hand, if there is one, is another, and is marked only now
pub record Turned (g : Graph) (m qu : List ℕ) (p t : ℕ) (m' qu' : List ℕ) (hand : Option ℕ)
    (t' : ℕ) : Type 0 where
  pub under : (h : ℕ) → Marking g (p ∷ []) m qu h t → Marking g (in_hand hand) m' qu' h t'
  pub keeps : (x : ℕ) → get_or m x 0 ≡ 1 → get_or m' x 0 ≡ 1
  pub grows : marked_count g.size m + hands hand ≤ marked_count g.size m'

-- a search with a word to take from the queue
pub record Visiting (g : Graph) (m qu : List ℕ) (h t : ℕ) : Type 0 where
  pub few : g.size ≤ most_words
  pub some : h < t
  pub under : Marking g [] m qu h t

-- after that word and all that were followed from it
pub record Visited (g : Graph) (m qu : List ℕ) (h : ℕ) (m' qu' : List ℕ) (t' : ℕ) : Type 0 where
  pub under : Marking g [] m' qu' (h + 1) t'
  pub keeps : (x : ℕ) → get_or m x 0 ≡ 1 → get_or m' x 0 ≡ 1

-- Word q is marked and taken in hand, or was marked.
pub data Reaches (m : List ℕ) (q : ℕ) : List ℕ → Option ℕ → Type 0 where
  fresh : get_or m q 0 ≡ 0 → Reaches m q (set m q 1) (Some q)
  seen : (get_or m q 0 ≡ 0 → ⊥) → Reaches m q m None

-- Word q is marked and put at the end t of the queue qu, or was marked.
pub data Queued (m qu : List ℕ) (t q : ℕ) : List ℕ → List ℕ → ℕ → Type 0 where
  entered : get_or m q 0 ≡ 0 → Queued m qu t q (set m q 1) (set qu t q) (t + 1)
  there : (get_or m q 0 ≡ 0 → ⊥) → Queued m qu t q m qu t

-- What the functions of the search ask of the marks m and the lengths l, and leave: the entries stay.
pub record PushAsks (m l : List ℕ) (t q : ℕ) : Type 0 where
  pub in_m : q < length m
  pub in_l : get_or m q 0 ≡ 0 → t < length l
  pub few : q < most_words

pub record Pushes (m l : List ℕ) (t q : ℕ) (m' l' : List ℕ) (t' : ℕ) : Type 0 where
  pub queued : Queued m (queue_of l) t q m' (queue_of l') t'
  pub kept : entries l' ≡ entries l

pub record VisitAsks (m l : List ℕ) (p t : ℕ) : Type 0 where
  pub held : Held m l
  pub in_l : p < length (entries l)
  pub room : Room (graph_in (entries l)) m (queue_of l) t

pub record Visits (m l : List ℕ) (p t : ℕ) (m' l' : List ℕ) (hand : Option ℕ) (t' : ℕ) : Type 0 where
  pub turned : Turned (graph_in (entries l)) m (queue_of l) p t m' (queue_of l') hand t'
  pub kept : entries l' ≡ entries l

pub record FollowAsks (m l : List ℕ) (h t : ℕ) : Type 0 where
  pub held : Held m l
  pub visiting : Visiting (graph_in (entries l)) m (queue_of l) h t

pub record Follows (m l : List ℕ) (h : ℕ) (m' l' : List ℕ) (t' : ℕ) : Type 0 where
  pub visited : Visited (graph_in (entries l)) m (queue_of l) h m' (queue_of l') t'
  pub kept : entries l' ≡ entries l

-- what the search leaves: the marks of the graph that the entries hold
pub record Marks (l m' l' : List ℕ) : Type 0 where
  pub marked : Marked (graph_in (entries l)) m'
  pub kept : entries l' ≡ entries l
