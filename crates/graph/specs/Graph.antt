-- Document 01, "Longest run", RULES 3, over any graph: which words follow which, and which edges serve.
-- Nothing here knows what a word is.
-- Assumes nothing.
use Rattle.std.specs.Prelude.{◌≡◌, ◌⊎◌, Bool, false, ◌||◌, List, [], ◌∷◌, ◌++◌, ℕ, ◌+◌, ◌<◌, eqb}

-- a thing stands in a list
abbrev pub In : {X : Type 0} → X → List X → Type 0
In x [] = ⊥
In x (y ∷ ys) = (x ≡ y) ⊎ In x ys

-- the same of a number, as a test
abbrev pub member : ℕ → List ℕ → Bool
member q [] = false
member q (x ∷ xs) = eqb x q || member q xs

pub record Graph : Type 0 where
  -- n, the number of words
  pub size : ℕ
  -- "steps": the words that can follow a word
  pub successors : ℕ → List ℕ
  -- "a step p to q serves"
  pub serves : ℕ → ℕ → Bool

-- all that is used of a graph, whatever instruction set it comes from
pub record Lawful (g : Graph) : Type 0 where
  pub inside : (p q : ℕ) → In q (g.successors p) → q < g.size
  pub forward : (p q : ℕ) → In q (g.successors p) → g.serves p q ≡ false → p < q

-- word numbers below n from p on, "each a step from the one before"
abbrev pub Along : Graph → ℕ → List ℕ → Type 0
Along g p [] = p < g.size
Along g p (q ∷ qs) = (p < g.size) × In q (g.successors p) × Along g q qs

-- "A course is one or more word numbers below n: first 0, then each a step from the one
-- before, ending anywhere."
abbrev pub Path : Graph → List ℕ → Type 0
Path g [] = ⊥
Path g (p ∷ ps) = (p ≡ 0) × Along g p ps

-- "A word on some course is reachable."
pub record Reachable (g : Graph) (p : ℕ) : Type 0 where
  pub words : List ℕ
  pub path : Path g words
  pub on : In p words

-- "no serving step between them", from p on
abbrev pub Unserved : Graph → ℕ → List ℕ → Type 0
Unserved g p [] = Unit {0}
Unserved g p (q ∷ qs) = (g.serves p q ≡ false) × Unserved g q qs

-- "A stretch is one or more consecutive words of a course with no serving step between them":
-- p, where it starts, and ps
pub record Segment (g : Graph) (p : ℕ) (ps : List ℕ) : Type 0 where
  pub before : List ℕ
  pub after : List ℕ
  pub path : Path g (before ++ ((p ∷ ps) ++ after))
  pub unserved : Unserved g p ps

-- what words weigh together, where w is the weight of each
abbrev pub weigh : (ℕ → ℕ) → List ℕ → ℕ
weigh w [] = 0
weigh w (p ∷ ps) = w p + weigh w ps
