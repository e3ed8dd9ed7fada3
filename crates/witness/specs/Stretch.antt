-- What the path of `longest_path` is: a stretch of a course, from the first word on, that weighs exactly L.
-- proofs/Stretch.antt proves it of `path_of`, `path_run_of` and the slices, which the contract cites, for any
-- words, weights and slices.
-- Assumes nothing.
use Rattle.std.specs.Prelude.{◌≡◌, true, false, Err, List, [], ◌∷◌, ℕ, ◌≤◌, ◌<◌, length, take, drop}
use Rattle.common.specs.Limits.{most_words}
use Rattle.common.specs.declared.refusal.Refusal.{Refusal}
use Rattle.common.specs.declared.refusal.Refusal.TheVariants.{TooManyWords, ShortSlice}
use Rattle.graph.specs.Graph.{Graph, In, Segment, weigh}
use Rattle.graph.specs.Longest.{length_of}
use Rattle.fields.specs.declared.version.Version.{Version}
use Rattle.runs.specs.Script.{Script, Sound, script_of, graph_of, weight_of}
use Rattle.runs.specs.Run.{accepted_run, run_of, marks_after, lengths_after}
use Rattle.witness.specs.Witness.{accepted_path, path_of, path_run_of, marks_witnessed, lengths_witnessed}
use Rattle.witness.specs.Witness.{path_witnessed}

-- of a list, q is one to which the edge from p does not serve, with the greatest f of
-- those, and the lowest with it
pub record Greatest (g : Graph) (f : ℕ → ℕ) (p : ℕ) (l : List ℕ) (q : ℕ) : Type 0 where
  pub step : In q l
  pub unserved : g.serves p q ≡ false
  pub most : (r : ℕ) → In r l → g.serves p r ≡ false → f r ≤ f q
  pub lowest : (r : ℕ) → In r l → g.serves p r ≡ false → f r ≡ f q → q ≤ r

-- from p along ps each word is "the non-serving successor with the greatest length (the lower on a tie)" of
-- the one before, "and ends where there is none"
abbrev pub FollowsLengths : Graph → (ℕ → ℕ) → ℕ → List ℕ → Type 0
FollowsLengths g f p [] = (r : ℕ) → In r (g.successors p) → g.serves p r ≡ true
FollowsLengths g f p (q ∷ qs) = Greatest g f p (g.successors p) q × FollowsLengths g f q qs

-- the words of a stretch that weighs L, from the first word on
pub record LongestStretch (ws : Script) (weights : List ℕ) (longest first : ℕ) (path : List ℕ) : Type 0 where
  pub rest : List ℕ
  pub starts : path ≡ first ∷ rest
  -- "A stretch is one or more consecutive words of a course with no serving step between them"
  pub stretch : Segment (graph_of ws) first rest
  pub weight : weigh (weight_of ws weights) (first ∷ rest) ≡ longest
  -- which of them it is, where there are several
  pub chosen : FollowsLengths (graph_of ws) (length_of (graph_of ws) (weight_of ws weights)) first rest
  pub few : length path ≤ ws.size

module _ (ws : Script) (weights marks lengths path : List ℕ) where
  abbrev after : List ℕ
  after = path_witnessed ws weights marks lengths path

  -- an accepted function, and a path with a place for each word
  pub record Witnessed (longest first : ℕ) : Type 0 where
    pub answered :
        path_run_of ws weights (length marks) (length lengths) (length path)
        ≡ accepted_path longest first (length (path_of ws weights))
    pub words : LongestStretch ws weights longest first (path_of ws weights)
    -- what is written, and "Elements past the count untouched"
    pub written : take (length (path_of ws weights)) after ≡ path_of ws weights
    pub past : drop (length (path_of ws weights)) after ≡ drop (length (path_of ws weights)) path

  pub record LongestPath : Type 0 where
    pub accepted :
        ws.size ≤ length path → (longest first : ℕ)
        → run_of ws weights (length marks) (length lengths) ≡ accepted_run longest first
        → Witnessed longest first
    -- the run's refusals
    pub refused :
        ws.size ≤ length path → (e : Refusal)
        → run_of ws weights (length marks) (length lengths) ≡ Err e
        → path_run_of ws weights (length marks) (length lengths) (length path) ≡ Err e
    -- number 6 covers the path: after number 1, and before the others
    pub many : most_words < ws.size → path_run_of ws weights (length marks) (length lengths) (length path)
        ≡ Err TooManyWords
    pub short :
        ws.size ≤ most_words → length path < ws.size
        → path_run_of ws weights (length marks) (length lengths) (length path) ≡ Err ShortSlice
    -- the marks and the lengths are as the run leaves them
    pub marks_as_run : ws.size ≤ length path
        → marks_witnessed ws weights marks lengths path ≡ marks_after ws weights marks lengths
    pub lengths_as_run : ws.size ≤ length path
        → lengths_witnessed ws weights marks lengths path ≡ lengths_after ws weights marks lengths
    -- "Nothing lent is altered": the path on a refusal, and the other two where it is short
    pub path_untouched : (e : Refusal)
        → run_of ws weights (length marks) (length lengths) ≡ Err e → after ≡ path
    pub short_untouched :
        length path < ws.size
        → (after ≡ path) × (marks_witnessed ws weights marks lengths path ≡ marks)
        × (lengths_witnessed ws weights marks lengths path ≡ lengths)

pub record Paths : Type 0 where
  -- of any sound script
  pub any : (ws : Script) → Sound ws → (weights marks lengths path : List ℕ)
      → LongestPath ws weights marks lengths path
  -- and of the words of either version, where nothing is left to suppose of their steps
  pub paths_of :
      (version : Version) (ws weights marks lengths path : List ℕ)
      → LongestPath (script_of version ws) weights marks lengths path
