-- The whole outcome of `longest_path`: its answer and the three lent slices, refusals included.
-- Assumes nothing.
use Rattle.std.specs.Prelude.{Result, Ok, Err, List, ◌++◌, ℕ, ltb, length, drop}
use Rattle.common.specs.declared.refusal.Refusal.{Refusal}
use Rattle.common.specs.Chain.{refuse_if, check_room}
use Rattle.graph.specs.Longest.{length_of, first}
use Rattle.runs.specs.Script.{Script, graph_of, weight_of}
use Rattle.runs.specs.Run.{Run, run_of, marks_after, lengths_after}
use Rattle.witness.specs.declared.longest.PathRun.{PathRun}
use Rattle.witness.specs.Following.{follow}

-- the words of one longest stretch: from the first word on, where lengths are greatest. A stretch has no
-- more words than there are
unfoldable pub path_of : Script → List ℕ → List ℕ
path_of ws weights =
    follow (graph_of ws) (length_of (graph_of ws) (weight_of ws weights)) ws.size
    (first (graph_of ws) (weight_of ws weights))

-- the answer of the run, with how many words those are
abbrev pub path_answer_by : Run → List ℕ → Result PathRun Refusal
path_answer_by (Ok r) path = Ok (record { run = r; count = length path })
path_answer_by (Err e) path = Err e

-- L, its first word, and so many words
abbrev pub accepted_path : ℕ → ℕ → ℕ → Result PathRun Refusal
accepted_path l f c = Ok (record { run = record { longest = l; first = f }; count = c })

-- of the words, the weights, and the lengths of the three slices. The path's is checked with the
-- run's two, after number 1
unfoldable pub path_run_of : Script → List ℕ → ℕ → ℕ → ℕ → Result PathRun Refusal
path_run_of ws weights marks lengths path =
    check_room ws.size (ltb path ws.size)
    (path_answer_by (run_of ws weights marks lengths) (path_of ws weights))

-- "Elements past the count untouched; nothing written on a refusal"
abbrev pub path_by : Run → List ℕ → List ℕ → List ℕ
path_by (Ok r) words path = words ++ drop (length words) path
path_by (Err e) words path = path

module _ (ws : Script) (weights marks lengths path : List ℕ) where
  -- the marks and the lengths are as the run leaves them; nothing lent is altered where the path is short
  unfoldable pub marks_witnessed : List ℕ
  marks_witnessed = refuse_if (ltb (length path) ws.size) marks (marks_after ws weights marks lengths)

  unfoldable pub lengths_witnessed : List ℕ
  lengths_witnessed = refuse_if (ltb (length path) ws.size) lengths (lengths_after ws weights marks lengths)

  unfoldable pub path_witnessed : List ℕ
  path_witnessed =
      refuse_if (ltb (length path) ws.size) path
      (path_by (run_of ws weights (length marks) (length lengths)) (path_of ws weights) path)
