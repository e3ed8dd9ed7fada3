-- Request C-21, "in rotation, the first given first, finished ones passed over ..": what a trace is, a
-- sentence at a time, told by its events alone, with no queue. proofs/Schedule.antt proves `Scheduled` of
-- every trace of the machine, over any graphs, choices and limit.
-- Assumes nothing.
use Rattle.std.specs.Prelude.{◌≡◌, ◌⊎◌, true, cond, List, [], ◌∷◌, ℕ, ◌+◌, ◌≤◌, ◌<◌, eqb, length, get_or}
use Rattle.graph.specs.Graph.{Graph}
use Rattle.rehearsal.specs.Machine.{Event}

-- 1 if a word with these steps needs a choice: "at words with two"
abbrev pub needed : List ℕ → ℕ
needed [] = 0
needed (a ∷ []) = 0
needed (a ∷ b ∷ more) = 1

-- script j comes after a and before b, counting up, and on from the last script to script 0
abbrev pub BetweenInTurn : ℕ → ℕ → ℕ → Type 0
BetweenInTurn a j b = ((a < j) × (j < b)) ⊎ ((b ≤ a) × ((a < j) ⊎ (j < b)))

-- the scripts' graphs, how many there are, the quantum, the choices, the stated number of words
module _ (graphs : ℕ → Graph) (k q : ℕ) (choices : List ℕ) (limit : ℕ) where
  -- the steps of an event's word
  abbrev pub event_steps : Event → List ℕ
  event_steps e = (graphs e.script).successors e.word

  -- In what follows `before` are the events so far, the latest first.

  -- choices that are used up
  abbrev pub used_up : List Event → ℕ
  used_up [] = 0
  used_up (e ∷ before) = used_up before + needed (event_steps e)

  -- script j has run a word that has no step
  abbrev pub Returned : ℕ → List Event → Type 0
  Returned j [] = ⊥
  Returned j (e ∷ before) = ((e.script ≡ j) × (event_steps e ≡ [])) ⊎ Returned j before

  -- where a word with these steps leads, so many choices being used up: "A lent list of 0s and 1s chooses the
  -- lower or higher step at words with two"
  abbrev pub EventLeadsTo : List ℕ → ℕ → ℕ → Type 0
  EventLeadsTo [] used to = ⊥
  EventLeadsTo (a ∷ []) used to = to ≡ a
  EventLeadsTo (a ∷ b ∷ more) used to = to ≡ cond (eqb (get_or choices used 0) 0) a b

  -- script j is at word p: its first, or where its latest led
  abbrev pub At : List Event → ℕ → ℕ → Type 0
  At [] j p = p ≡ 0
  At (e ∷ before) j p =
      ((e.script ≡ j) × EventLeadsTo (event_steps e) (used_up before) p) ⊎ ((e.script ≡ j
      → ⊥) × At before j p)

  -- its step serves
  pub record Serving (before : List Event) (e : Event) : Type 0 where
    pub to : ℕ
    pub leads : EventLeadsTo (event_steps e) (used_up before) to
    pub serves : (graphs e.script).serves e.word to ≡ true

  -- "a turn ends after q words .. or just after a serving step or a return"
  abbrev pub TurnEnds : List Event → Event → Type 0
  TurnEnds before e = (e.nth + 1 ≡ q) ⊎ (Serving before e ⊎ (event_steps e ≡ []))

  -- the turn of e goes on
  pub record GoesOn (before : List Event) (e : Event) (script nth : ℕ) : Type 0 where
    pub lasts : TurnEnds before e → ⊥
    pub same : script ≡ e.script
    pub count : nth ≡ e.nth + 1

  -- it is over, and the next script has the turn
  pub record PassesOn (before : List Event) (e : Event) (script nth : ℕ) : Type 0 where
    pub over : TurnEnds before e
    pub starts : nth ≡ 0
    -- "in rotation .., finished ones passed over"
    pub rotates : (j : ℕ) → j < k → BetweenInTurn e.script j script → Returned j (e ∷ before)

  -- whose word is next, and how many words of that turn ran before it
  abbrev pub NextEvent : List Event → ℕ → ℕ → Type 0
  -- "the first given first"
  NextEvent [] script nth = (script ≡ 0) × (nth ≡ 0)
  NextEvent (e ∷ before) script nth = GoesOn before e script nth ⊎ PassesOn before e script nth

  -- it is the turn of a script that has not returned, and it is at a word
  pub record Due (before : List Event) (f : Event) : Type 0 where
    pub known : f.script < k
    pub unfinished : Returned f.script before → ⊥
    pub next : NextEvent before f.script f.nth
    pub at : At before f.script f.word

  -- a word that ran
  pub record Ran (before : List Event) (f : Event) : Type 0 where
    pub due : Due before f
    -- "A word runs with its choice, so without one it has not run"
    pub chosen : used_up (f ∷ before) ≤ length choices
    pub allowed : length before < limit

  -- "a choice is needed and none is left"
  pub record Starves (before : List Event) : Type 0 where
    pub event : Event
    pub due : Due before event
    pub needs : needed (event_steps event) ≡ 1
    pub none : used_up before ≡ length choices

  -- "The rehearsal stops when all have returned, a choice is needed and none is left, or a stated
  -- number of words .. is used"
  abbrev pub Stops : List Event → Type 0
  Stops before = ((j : ℕ) → j < k → Returned j before) ⊎ (Starves before ⊎ (length before ≡ limit))

  -- what follows those before: each word ran, and after the last the rehearsal stops
  abbrev pub Scheduled : List Event → List Event → Type 0
  Scheduled before [] = Stops before
  Scheduled before (f ∷ es) = Ran before f × Scheduled (f ∷ before) es
