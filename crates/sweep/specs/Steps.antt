-- The steps of words, whatever instruction set gives them, and the graph that they make. No word is read
-- here, and nothing of crate `fields` is named: a search or a pass over such a graph holds for any
-- instruction set (request C-24). Crate `steps` supplies those of Lua 5.4, in its
-- specs/lua54/Successors.antt, and those of 5.3, in specs/lua53/Successors.antt.
-- Assumes nothing.
use Rattle.std.specs.Prelude.{ℕ, ◌<◌, Bool, true, false, cond, List, [], ◌∷◌, ltb, leb, ℤ, pos, negsuc}
use Rattle.graph.specs.Graph.{Graph}
use Rattle.sweep.specs.declared.edges.Successors.{Successors}
use Rattle.sweep.specs.declared.edges.Successors.TheVariants.{Invalid, Stop, One, Two}

-- "bad unless"
unfoldable pub unless : Bool → Successors → Successors
unless t s = cond t s Invalid

-- one next word: "a word is also bad if a next word is below 0, or n or more"
unfoldable pub one : ℕ → ℤ → Successors
one n (pos q) = unless (ltb q n) (One q)
one n (negsuc q) = Invalid

-- "two equal steps are one; steps are given lower first"
unfoldable pub ordered : ℕ → ℕ → Successors
ordered q r = cond (ltb q r) (Two q r) (cond (ltb r q) (Two r q) (One q))

-- two next words, each below 0 or n or more making the word bad
unfoldable pub two : ℕ → ℤ → ℤ → Successors
two n (pos q) (pos r) = unless (ltb q n) (unless (ltb r n) (ordered q r))
two n (pos q) (negsuc r) = Invalid
two n (negsuc q) r = Invalid

-- the word is bad
abbrev pub is_invalid : Successors → Bool
is_invalid Invalid = true
is_invalid Stop = false
is_invalid (One a) = false
is_invalid (Two a b) = false

-- the steps themselves
abbrev pub list_of : Successors → List ℕ
list_of Invalid = []
list_of Stop = []
list_of (One a) = a ∷ []
list_of (Two a b) = a ∷ b ∷ []

-- request C-16: "From this release the steps after CALL and TFORCALL do not serve; only a step that does not
-- go forward does."
unfoldable pub serves_of : ℕ → ℕ → Bool
serves_of p q = leb q p

-- the graph of n words, by the steps of each
abbrev pub graph_by : ℕ → (ℕ → Successors) → Graph
graph_by n steps = record { size = n; successors = λ p. list_of (steps p); serves = serves_of }

-- every word weighs 1, so that a weight counts words
abbrev pub unit_weight : ℕ → ℕ
unit_weight p = 1

-- the steps are below n, the lower first
abbrev pub Below : ℕ → Successors → Type 0
Below n Invalid = Unit {0}
Below n Stop = Unit {0}
Below n (One q) = q < n
Below n (Two q r) = (q < r) × (r < n)
