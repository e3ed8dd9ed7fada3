-- Request C-22, "For a word w, count the steps from reachable words that pass strictly over w, forward or
-- back", over any graph: crossing edges.
-- Assumes nothing.
use Rattle.std.specs.Prelude.{◌≡◌, ◌⊎◌, ◌↔◌, Bool, cond, ◌&&◌, ◌||◌, List, [], ◌∷◌, ◌++◌, ℕ, zero, suc, ◌≤◌}
use Rattle.std.specs.Prelude.{◌<◌, ltb, eqb, length}
use Rattle.graph.specs.Graph.{Graph, In, Lawful, Reachable}
use Rattle.graph.specs.Marks.{mark_of}

-- "a step p to q"
pub record Edge : Type 0 where
  pub from : ℕ
  pub to : ℕ

-- "pass strictly over w, forward or back"
abbrev pub Crosses : ℕ → Edge → Type 0
Crosses w e = ((e.from < w) × (w < e.to)) ⊎ ((e.to < w) × (w < e.from))

-- the same as a test
abbrev pub crosses : ℕ → ℕ → ℕ → Bool
crosses w p q = (ltb p w && ltb w q) || (ltb q w && ltb w p)

-- the edges from p to the words of a list that pass over w
abbrev pub crossing_from : ℕ → ℕ → List ℕ → List Edge
crossing_from w p [] = []
crossing_from w p (q ∷ qs) =
    cond (crosses w p q) (record { from = p; to = q } ∷ crossing_from w p qs) (crossing_from w p qs)

-- those from the reachable words below k
unfoldable pub crossing_below : Graph → ℕ → ℕ → List Edge
crossing_below g w zero = []
crossing_below g w (suc k) =
    cond (eqb (mark_of g k) 1) (crossing_from w k (g.successors k)) [] ++ crossing_below g w k

-- "the steps from reachable words that pass strictly over w", and how many they are
abbrev pub crossing_edges : Graph → ℕ → List Edge
crossing_edges g w = crossing_below g w g.size

unfoldable pub crossing_of : Graph → ℕ → ℕ
crossing_of g w = length (crossing_edges g w)

-- an edge stands in a list, and a list has each edge once
abbrev pub EdgeListed : Edge → List Edge → Type 0
EdgeListed e [] = ⊥
EdgeListed e (x ∷ xs) = (e ≡ x) ⊎ EdgeListed e xs

abbrev pub EachOnce : List Edge → Type 0
EachOnce [] = Unit {0}
EachOnce (x ∷ xs) = (EdgeListed x xs → ⊥) × EachOnce xs

-- the successors of a word are all different: "Two equal steps are one"
abbrev pub Different : List ℕ → Type 0
Different [] = Unit {0}
Different (x ∷ xs) = (In x xs → ⊥) × Different xs

pub record Crossing (g : Graph) (w : ℕ) : Type 0 where
  -- what is counted are exactly the edges from reachable words that pass over w
  pub listed : (e : Edge) → EdgeListed e (crossing_edges g w)
      ↔ (Reachable g e.from × In e.to (g.successors e.from) × Crosses w e)
  -- each of them once
  pub once : ((p : ℕ) → Different (g.successors p)) → EachOnce (crossing_edges g w)
  -- "past the end the crossing count is 0"
  pub past_end : g.size ≤ w → crossing_of g w ≡ 0

abbrev pub Crossings : Type 0
Crossings = (g : Graph) → Lawful g → (w : ℕ) → Crossing g w
