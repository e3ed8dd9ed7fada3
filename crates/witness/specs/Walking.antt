-- Inner: no promise and no law between crates rests on what stands here.
-- What the private functions ask and leave. No exported contract cites it.
-- Assumes nothing.
use Rattle.std.specs.Prelude.{◌≡◌, List, ◌++◌, ℕ, ◌≤◌, ◌<◌, ltb, length, drop}
use Rattle.common.specs.Limits.{most_words}
use Rattle.common.specs.Chain.{refuse_if, check_room}
use Rattle.sweep.specs.Steps.{serves_of}
use Rattle.sweep.specs.PassInvariants.{at}
use Rattle.runs.specs.Script.{Script, Sound, graph_of}
use Rattle.runs.specs.Run.{Run, run_of}
use Rattle.witness.specs.Following.{follow}

-- n words that are not too many, a length and a place in the path for each, and a word to start at
pub record Walks (ws : Script) (n : ℕ) (l : List ℕ) (first : ℕ) (path : List ℕ) : Type 0 where
  pub sound : Sound ws
  pub serving : ws.serves ≡ serves_of
  pub size : ws.size ≡ n
  pub few : ws.size ≤ most_words
  pub lengths_long : ws.size ≤ length l
  pub path_long : ws.size ≤ length path
  pub inside : first < ws.size

abbrev pub walked_by : Script → List ℕ → ℕ → List ℕ
walked_by ws l first = follow (graph_of ws) (at l) ws.size first

pub record Walked (ws : Script) (l : List ℕ) (first : ℕ) (path path' : List ℕ) (r : ℕ) : Type 0 where
  pub count : r ≡ length (walked_by ws l first)
  pub written : path' ≡ walked_by ws l first ++ drop (length (walked_by ws l first)) path

-- the run before the walk: numbers 1 and 6 of a path with so much room go before its own
unfoldable pub run_within : Script → List ℕ → ℕ → ℕ → ℕ → Run
run_within ws weights marks lengths room =
    check_room ws.size (ltb room ws.size) (run_of ws weights marks lengths)

-- a slice that the run leaves as `later`, where there was room for the path
abbrev pub kept : Script → ℕ → List ℕ → List ℕ → List ℕ
kept ws room slice later = refuse_if (ltb room ws.size) slice later
