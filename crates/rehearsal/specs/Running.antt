-- What the code keeps: a turn at a time, and running numbers in place of the trace. The contracts of private
-- functions cite it; proofs/Turns.antt joins it to the machine and to the waits.
-- Assumes nothing.
use Rattle.std.specs.Prelude.{◌≡◌, cond, List, [], ◌∷◌, ◌++◌, ℕ, zero, suc, ◌+◌, ◌-◌, ◌≤◌, ◌<◌, min, max, eqb}
use Rattle.std.specs.Prelude.{length, get_or, set, replicate, Option, Some, None}
use Rattle.graph.specs.Graph.{Graph}
use Rattle.rehearsal.specs.declared.machine.Task.{Task}
use Rattle.rehearsal.specs.declared.machine.Move.{Move}
use Rattle.rehearsal.specs.declared.machine.Move.TheVariants.{Return, Starve, Go}
use Rattle.rehearsal.specs.declared.machine.Turn.{Turn}
use Rattle.rehearsal.specs.declared.machine.Turn.TheVariants.{Over, Returned, Starved}
use Rattle.rehearsal.specs.declared.machine.Tally.{Tally}
use Rattle.rehearsal.specs.declared.machine.Stage.{Stage}
use Rattle.rehearsal.specs.Machine.{task_at, move_of, tasks_from}

-- a word's move within a turn of which so many words ran, where `on` is the rest of the turn
abbrev pub turned : Graph → ℕ → ℕ → ℕ → Move → (ℕ → ℕ → Turn) → Turn
turned g p taken ran Return on = Returned (ran + 1) taken
turned g p taken ran Starve on = Starved ran
turned g p taken ran (Go to at) on = cond (g.serves p to) (Over (ran + 1) to at) (on to at)

-- a turn of at most `room` words more, from word p
unfoldable pub turn_of : Graph → List ℕ → ℕ → ℕ → ℕ → ℕ → Turn
turn_of g choices zero p taken ran = Over ran p taken
turn_of g choices (suc room) p taken ran =
    turned g p taken ran (move_of choices taken (g.successors p))
    (λ to at. turn_of g choices room to at (ran + 1))

-- so many words of the turn ran
abbrev pub ran_of : Turn → ℕ
ran_of (Over n p at) = n
ran_of (Returned n at) = n
ran_of (Starved n) = n

-- the words since a turn ended with so many words left, now that `left` are: 0 if there was none
abbrev pub waited : Option ℕ → ℕ → ℕ
waited None left = 0
waited (Some ended) left = ended - left

-- a turn that ended, if there was one, left no fewer words
abbrev pub NotBefore : ℕ → Option ℕ → Type 0
NotBefore left None = Unit {0}
NotBefore left (Some ended) = left ≤ ended

-- the tally of a script that ran so many words, of those that were left. "a turn of no words is none"
unfoldable pub noted_tally : Tally → ℕ → ℕ → Tally
noted_tally t left ran =
    cond (eqb ran 0) t
    (record { ended = Some (left - ran); longest = max t.longest (waited t.ended left) })

abbrev pub new_tally : Tally
new_tally = record { ended = None; longest = 0 }

abbrev pub tally_at : List Tally → ℕ → Tally
tally_at b i = get_or b i new_tally

unfoldable pub noted_tallies : List Tally → ℕ → ℕ → ℕ → List Tally
noted_tallies b who left ran = set b who (noted_tally (tally_at b who) left ran)

-- "when all have returned": the last that returns leaves no words to run
abbrev pub left_for : List Task → ℕ → ℕ
left_for [] left = 0
left_for (s ∷ rest) left = left

-- a stage after a turn of s, its queue's first, where `rest` comes after s
abbrev pub staged : Stage → Task → List Task → Turn → Stage
-- a choice is needed and none is left: no words are left to run
staged st s rest (Starved n) =
    record {
      queue = rest;
      tallies = noted_tallies st.tallies s.script st.left n;
      left = 0;
      taken = st.taken;
    }
staged st s rest (Returned n at) =
    record {
      queue = rest;
      tallies = noted_tallies st.tallies s.script st.left n;
      left = left_for rest (st.left - n);
      taken = at;
    }
staged st s rest (Over n p at) =
    record {
      queue = rest ++ (task_at s.script p ∷ []);
      tallies = noted_tallies st.tallies s.script st.left n;
      left = st.left - n;
      taken = at;
    }

module _ (graphs : ℕ → Graph) (q : ℕ) (choices : List ℕ) where
  abbrev pub first_turn : Stage → Task → Turn
  first_turn st s = turn_of (graphs s.script) choices (min q st.left) s.word st.taken 0

  -- after a turn of the first of these tasks
  abbrev pub stage_after : Stage → List Task → Stage
  stage_after st [] = st
  stage_after st (s ∷ rest) = staged st s rest (first_turn st s)

  unfoldable pub next_stage : Stage → Stage
  next_stage st = stage_after st st.queue

-- k scripts before anything ran
unfoldable pub start_stage : ℕ → ℕ → Stage
start_stage k limit =
    record { queue = tasks_from 0 k; tallies = replicate 4 new_tally; left = limit; taken = 0 }

-- the tasks are of the four scripts
abbrev pub TasksListed : List Task → Type 0
TasksListed [] = Unit {0}
TasksListed (s ∷ ss) = (s.script < 4) × TasksListed ss

-- what holds between two turns
pub record Fine (st : Stage) : Type 0 where
  pub some : 0 < st.left → 0 < length st.queue
  pub few : length st.queue ≤ 4
  pub tasks : TasksListed st.queue
  pub four : length st.tallies ≡ 4
  pub ends : (i : ℕ) → i < 4 → NotBefore st.left (tally_at st.tallies i).ended
