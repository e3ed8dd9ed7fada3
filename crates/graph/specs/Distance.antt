-- Request C-22, "the fewest words to the next serving step or return, counting the word itself", over any
-- graph: the distance to service.
-- Assumes nothing.
use Rattle.std.specs.Prelude.{◌≡◌, ◌⊎◌, Bool, true, false, cond, ◌||◌, List, [], ◌∷◌, ℕ, zero, suc, ◌+◌}
use Rattle.std.specs.Prelude.{◌-◌, ◌≤◌, ◌<◌, min, length}
use Rattle.graph.specs.Graph.{Graph, In, Lawful, Reachable, Segment}

-- "a return or a word with a serving step". "A return .. is a word that is not bad and has no step":
-- where no word that is met is bad, one with no step is a return
abbrev pub Ends : Graph → ℕ → Type 0
Ends g p = (g.successors p ≡ []) ⊎ ((q : ℕ) × In q (g.successors p) × (g.serves p q ≡ true))

-- the same as a test
abbrev pub some_serves : Graph → ℕ → List ℕ → Bool
some_serves g p [] = false
some_serves g p (q ∷ qs) = g.serves p q || some_serves g p qs

abbrev pub ends_by : Graph → ℕ → List ℕ → Bool
ends_by g p [] = true
ends_by g p (q ∷ qs) = some_serves g p (q ∷ qs)

-- the least f q of those q in a list; 0 if there is none
abbrev pub least_of : (ℕ → ℕ) → List ℕ → ℕ
least_of f [] = 0
least_of f (x ∷ []) = f x
least_of f (x ∷ y ∷ ys) = min (f x) (least_of f (y ∷ ys))

-- a turn: 1 where it ends, else one more than the nearest successor has
abbrev pub nearer : Graph → (ℕ → ℕ) → ℕ → ℕ
nearer g f p = 1 + cond (ends_by g p (g.successors p)) 0 (least_of f (g.successors p))

-- the fewest words from p on, of at most k
unfoldable pub nearest : Graph → ℕ → ℕ → ℕ
nearest g zero p = 0
nearest g (suc k) p = nearer g (λ q. nearest g k q) p

-- "the fewest words to the next serving step or return, counting the word itself"
unfoldable pub distance_of : Graph → ℕ → ℕ
distance_of g p = nearest g (g.size - p) p

-- the last of the words p and ps
abbrev pub last_of : ℕ → List ℕ → ℕ
last_of p [] = p
last_of p (q ∷ qs) = last_of q qs

-- "The fewest is exact"
pub record Distance (g : Graph) : Type 0 where
  -- "a stretch of that many words from there ends at a return or a word with a serving step"
  pub reached : (p : ℕ) → Reachable g p
      → (ps : List ℕ) × Segment g p ps × Ends g (last_of p ps) × (length (p ∷ ps) ≡ distance_of g p)
  -- "and no shorter one does"
  pub fewest : (p : ℕ) (ps : List ℕ)
      → Segment g p ps → Ends g (last_of p ps) → distance_of g p ≤ length (p ∷ ps)
  -- so every reachable word has one, of at least a word and at most as many as are left
  pub some : (p : ℕ) → Reachable g p → 0 < distance_of g p
  pub few : (p : ℕ) → p < g.size → distance_of g p + p ≤ g.size
  -- the pass from the highest word down that finds all of them; f stands for the
  -- distances of the words above p
  pub turn : (f : ℕ → ℕ) (p : ℕ)
      → p < g.size → ((q : ℕ) → p < q → q < g.size → f q ≡ distance_of g q) → distance_of g p ≡ nearer g f p

abbrev pub Distances : Type 0
Distances = (g : Graph) → Lawful g → Distance g
