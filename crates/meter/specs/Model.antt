-- The reference model: document 01's "Feeding book (what demand 3 holds a meter
-- against)", over any graph of words.
-- Assumes nothing.
use Rattle.std.specs.Prelude.{Bool, true, false, cond, ◌&&◌, ◌||◌, List, [], ◌∷◌, ◌++◌, ℕ, ◌+◌, ltb, eqb}
use Rattle.common.specs.Numbers.{«ACCEPTED», NO_STEP}
use Rattle.graph.specs.Graph.{Graph, weigh}
use Rattle.meter.specs.Feed.{follows}

-- "the calls: begin, or feed with its word number". Request C-19: "Demand 3's lists may hold resets,
-- which its book passes over"
pub data Call : Type 0 where
  begin : Call
  feed : ℕ → Call
  reset : Call

-- "It keeps a course .. and a tally of services passed"
pub record Model : Type 0 where
  pub path : List ℕ
  pub tally : ℕ

-- "empty at first", "0 at first"
abbrev pub empty_model : Model
empty_model = record { path = []; tally = 0 }

-- the last of p and the words after it
abbrev pub last_from : ℕ → List ℕ → ℕ
last_from p [] = p
last_from p (q ∷ qs) = last_from q qs

-- "writes q at the course's end if the course is empty, q is 0 and n is above 0, or if q is a step
-- from the course's last word"
abbrev pub writes : Graph → List ℕ → ℕ → Bool
writes g [] q = eqb q 0 && ltb 0 g.size
writes g (p ∷ ps) q = follows g (last_from p ps) q

-- the step to q from the course's last word serves
abbrev pub serves_to : Graph → List ℕ → ℕ → Bool
serves_to g [] q = false
serves_to g (p ∷ ps) q = g.serves (last_from p ps) q

-- "a serving step adds 1 to the tally. Any other feed writes nothing"
abbrev pub fed : Graph → Model → ℕ → Model
fed g b q =
    cond (writes g b.path q)
    (record { path = b.path ++ (q ∷ []); tally = cond (serves_to g b.path q) (b.tally + 1) b.tally })
    b

-- "A begin empties the course and keeps the tally." A reset changes nothing here.
abbrev pub called : Graph → Model → Call → Model
called g b begin = record { path = []; tally = b.tally }
called g b (feed q) = fed g b q
called g b reset = b

-- "its answer is 10, and that of a written one 0"
abbrev pub answer_to : Graph → Model → ℕ → ℕ
answer_to g b q = cond (writes g b.path q) «ACCEPTED» NO_STEP

-- "The list may have any length.": the model after the calls, and its answers to the feeds among them
abbrev pub model_after : Graph → Model → List Call → Model
model_after g b [] = b
model_after g b (c ∷ cs) = model_after g (called g b c) cs

abbrev pub model_answers : Graph → Model → List Call → List ℕ
model_answers g b [] = []
model_answers g b (begin ∷ cs) = model_answers g (called g b begin) cs
model_answers g b (feed q ∷ cs) = answer_to g b q ∷ model_answers g (called g b (feed q)) cs
model_answers g b (reset ∷ cs) = model_answers g (called g b reset) cs

-- "the course has a word"
abbrev pub has_word : List ℕ → Bool
has_word [] = false
has_word (p ∷ ps) = true

-- "the course's last word, or 0"
abbrev pub last_or0 : List ℕ → ℕ
last_or0 [] = 0
last_or0 (p ∷ ps) = last_from p ps

-- some step from p on serves
abbrev pub any_serves : Graph → ℕ → List ℕ → Bool
any_serves g p [] = false
any_serves g p (q ∷ qs) = g.serves p q || any_serves g q qs

-- the words of a course "from the word its last serving step leads to (all of them if none serves ..)":
-- words go as long as a serving step is left
abbrev pub since_service : Graph → ℕ → List ℕ → List ℕ
since_service g p [] = p ∷ []
since_service g p (q ∷ qs) = cond (any_serves g p (q ∷ qs)) (since_service g q qs) (p ∷ q ∷ qs)

-- "words since service count" these, by request C-17 what they weigh, ".. 0 if empty"
abbrev pub weight_since : Graph → (ℕ → ℕ) → List ℕ → ℕ
weight_since g w [] = 0
weight_since g w (p ∷ ps) = weigh w (since_service g p ps)
