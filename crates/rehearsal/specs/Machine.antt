-- Request C-21: a machine that runs scripts in rotation, one word at a step, over any graphs.
-- Its trace is all that it ran.
-- Assumes nothing.
use Rattle.std.specs.Prelude.{Bool, cond, ◌||◌, List, [], ◌∷◌, ◌++◌, ℕ, zero, suc, ◌+◌, ltb, eqb, length}
use Rattle.std.specs.Prelude.{get_or}
use Rattle.graph.specs.Graph.{Graph}
use Rattle.rehearsal.specs.declared.machine.Task.{Task}
use Rattle.rehearsal.specs.declared.machine.Move.{Move}
use Rattle.rehearsal.specs.declared.machine.Move.TheVariants.{Return, Starve, Go}

-- a word that ran: of which script, which word, and how many words of the same turn ran before it
pub record Event : Type 0 where
  pub script : ℕ
  pub word : ℕ
  pub nth : ℕ

pub record State : Type 0 where
  -- "in rotation, the first given first, finished ones passed over": the scripts that have not returned, each
  -- with the word it is at. The first has the turn; after it, it goes to the end
  pub queue : List Task
  -- words of this turn that have run
  pub used : ℕ
  -- choices that are used up
  pub taken : ℕ

pub data Step : Type 0 where
  halt : Step
  ran : Event → State → Step

abbrev pub task_at : ℕ → ℕ → Task
task_at script word = record { script = script; word = word }

-- "A lent list of 0s and 1s chooses the lower or higher step at words with two." A return has no step.
-- "A word runs with its choice, so without one it has not run"
abbrev pub move_of : List ℕ → ℕ → List ℕ → Move
move_of choices taken [] = Return
move_of choices taken (a ∷ []) = Go a taken
move_of choices taken (a ∷ b ∷ more) =
    cond (ltb taken (length choices)) (Go (cond (eqb (get_or choices taken 0) 0) a b) (taken + 1)) Starve

-- the scripts' graphs, the quantum, the choices
module _ (graphs : ℕ → Graph) (q : ℕ) (choices : List ℕ) where
  -- "a turn ends after q words .. or just after a serving step or a return"
  abbrev pub turn_ends : Task → ℕ → ℕ → Bool
  turn_ends t used to = (graphs t.script).serves t.word to || eqb (used + 1) q

  -- the word of t runs, or a choice is needed and none is left
  abbrev pub moved : Task → List Task → ℕ → ℕ → Move → Step
  moved t rest used taken Return =
      ran (record { script = t.script; word = t.word; nth = used })
      (record { queue = rest; used = 0; taken = taken })
  moved t rest used taken Starve = halt
  moved t rest used taken (Go to at) =
      ran
      (record { script = t.script; word = t.word; nth = used })
      (cond (turn_ends t used to)
      (record { queue = rest ++ (task_at t.script to ∷ []); used = 0; taken = at })
      (record { queue = task_at t.script to ∷ rest; used = used + 1; taken = at }))

  abbrev pub step_from : List Task → ℕ → ℕ → Step
  step_from [] used taken = halt
  step_from (t ∷ rest) used taken =
      moved t rest used taken (move_of choices taken ((graphs t.script).successors t.word))

  -- what a step adds to the trace, where more is what the rest of it is
  abbrev pub followed : Step → (State → List Event) → List Event
  followed halt more = []
  followed (ran e s) more = e ∷ more s

  -- "The rehearsal stops when all have returned, a choice is needed and none is left, or a stated
  -- number of words .. is used."
  unfoldable pub trace : ℕ → State → List Event
  trace zero s = []
  trace (suc left) s = followed (step_from s.queue s.used s.taken) (trace left)

-- scripts i, i + 1, .., k of them, each at its first word
abbrev pub tasks_from : ℕ → ℕ → List Task
tasks_from i zero = []
tasks_from i (suc k) = task_at i 0 ∷ tasks_from (suc i) k

-- k scripts before anything ran
abbrev pub start_of : ℕ → State
start_of k = record { queue = tasks_from 0 k; used = 0; taken = 0 }
