-- The lengths, L and its first word, computed. `Meaning` says what they mean. w is what each word weighs.
-- Assumes nothing.
use Rattle.std.specs.Prelude.{cond, List, [], ◌∷◌, ℕ, zero, suc, ◌+◌, ◌-◌, max, eqb}
use Rattle.common.specs.Lowest.{lowest}
use Rattle.graph.specs.Graph.{Graph}
use Rattle.graph.specs.Marks.{mark_of}

-- the largest f q of those q in a list to which the edge from p does not serve; 0 if there is none
abbrev pub best : Graph → ℕ → (ℕ → ℕ) → List ℕ → ℕ
best g p f [] = 0
best g p f (q ∷ qs) = max (cond (g.serves p q) 0 (f q)) (best g p f qs)

-- the most that k words from p on weigh, with no serving edge between them
unfoldable pub within : Graph → (ℕ → ℕ) → ℕ → ℕ → ℕ
within g w zero p = 0
within g w (suc k) p = w p + best g p (λ q. within g w k q) (g.successors p)

-- an edge that does not serve goes forward, so that no more than n - p words follow one another
unfoldable pub heaviest : Graph → (ℕ → ℕ) → ℕ → ℕ
heaviest g w p = within g w (g.size - p) p

-- "the most words in a stretch that starts there, 0 if unreachable"
unfoldable pub length_of : Graph → (ℕ → ℕ) → ℕ → ℕ
length_of g w p = cond (eqb (mark_of g p) 1) (heaviest g w p) 0

-- the largest f p of the p below k
unfoldable pub most : (ℕ → ℕ) → ℕ → ℕ
most f zero = 0
most f (suc k) = max (most f k) (f k)

-- "The longest run, L, is the most words any stretch has."
unfoldable pub longest : Graph → (ℕ → ℕ) → ℕ
longest g w = most (length_of g w) g.size

-- "the lowest word at which an L-word stretch begins"
unfoldable pub first : Graph → (ℕ → ℕ) → ℕ
first g w = lowest (λ p. eqb (length_of g w p) (longest g w)) g.size
