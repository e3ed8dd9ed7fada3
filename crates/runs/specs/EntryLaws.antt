-- What crates that go by settled entries rest on, beside the contracts of the modules `inner` and the laws of
-- crate `sweep`: what the search leaves, and what the outcome of a run in the first parts of two slices is
-- for the whole. proofs/EntryLaws.antt proves `EntryLaws`, and `Laws` has it.
-- Assumes nothing.
use Rattle.std.specs.Prelude.{◌≡◌, true, false, List, ◌++◌, ℕ, ◌≤◌, ◌<◌, length, drop, Err}
use Rattle.common.specs.Limits.{most_words}
use Rattle.common.specs.declared.refusal.Refusal.{Refusal}
use Rattle.common.specs.Refusals.{refusal_number}
use Rattle.fields.specs.declared.version.Version.{Version}
use Rattle.runs.specs.Script.{Script, script_of, graph_of}
use Rattle.runs.specs.Weights.{refuses_weights}
use Rattle.runs.specs.Run.{run_of, untouched, lowest_invalid, marks_after, lengths_after}
use Rattle.sweep.specs.Entries.{entries, entry_steps, graph_in, lowest_by}
use Rattle.sweep.specs.PassInvariants.{FillAsks}
use Rattle.runs.specs.Outcome.{Searched, decided, Decided}

pub record EntryLaws : Type 0 where
  -- of words that are searched: the entries hold their graph, and the marks are its
  pub asks : (version : Version) (ws m l : List ℕ) → Searched (script_of version ws) m l → FillAsks m l
  pub graph_is : (version : Version) (ws m l : List ℕ)
      → Searched (script_of version ws) m l → graph_in (entries l) ≡ graph_of (script_of version ws)
  pub lowest_is :
      (version : Version) (ws m l : List ℕ) → Searched (script_of version ws) m l
      → lowest_by (length (entries l)) (entry_steps (entries l)) ≡ lowest_invalid (script_of version ws)
  -- past the checks of the sizes and of the weights, the outcome of the words, whose slices are the first
  -- parts
  pub outcome :
      (ws : Script) (weights m l : List ℕ) → ws.size ≤ most_words → ws.size ≤ length m → ws.size ≤ length l
      → refuses_weights weights ≡ false → 0 < ws.size
      → (m' l' : List ℕ) → Decided ws weights (decided ws weights) m' l'
      → (run_of ws weights (length m) (length l) ≡ decided ws weights)
      × (m' ++ drop ws.size m ≡ marks_after ws weights m l)
      × (l' ++ drop ws.size l ≡ lengths_after ws weights m l)
  -- a refusal that comes before the search leaves the slices
  pub refused :
      (ws : Script) (weights m l : List ℕ) (e : Refusal)
      → run_of ws weights (length m) (length l) ≡ Err e → untouched (refusal_number e) ≡ true
      → (m ≡ marks_after ws weights m l) × (l ≡ lengths_after ws weights m l)
