-- Request C-23, "Dead words may change": "Owners patch script tables that sit in words no course meets."
-- proofs/Patches.antt proves `DeadWordsMayChange`.
-- Assumes nothing.
use Rattle.std.specs.Prelude.{◌≡◌, ◌⊎◌, ◌↔◌, List, ℕ, ◌+◌, ◌<◌, length, get_or}
use Rattle.common.specs.Numbers.{«ACCEPTED»}
use Rattle.fields.specs.declared.version.Version.{Version}
use Rattle.graph.specs.Graph.{Graph, Reachable, Segment}
use Rattle.runs.specs.Script.{script_of, graph_of}
use Rattle.runs.specs.Run.{run_of, number_is, marks_after, lengths_after}
use Rattle.runs.specs.Slices.{Kept}
use Rattle.patches.specs.Alike.{SameAt}

-- "next to": p - 1 and p + 1 of p
abbrev pub NextTo : ℕ → ℕ → Type 0
NextTo p q = (q + 1 ≡ p) ⊎ (q ≡ p + 1)

-- "neither reachable in the first nor next to a reachable word"
pub record Dead (g : Graph) (q : ℕ) : Type 0 where
  pub unreachable : Reachable g q → ⊥
  pub apart : (p : ℕ) → Reachable g p → NextTo p q → ⊥

-- ws, vs: "two equally long word lists, given the same weights", of one version (request C-24:
-- "in earlier claims a script's words include its version"); the slices that each of the two runs
-- is lent, whatever they hold
module _ (version : Version) (ws vs weights marks lengths marks' lengths' : List ℕ) where
  pub record Patched : Type 0 where
    -- "two equally long word lists"
    pub count : length ws ≡ length vs
    -- "slices of the same lengths"
    pub marks_count : length marks ≡ length marks'
    pub lengths_count : length lengths ≡ length lengths'
    -- "the first accepted"
    pub accepted : number_is (script_of version ws) weights marks lengths ≡ «ACCEPTED»
    -- "they differ only in words that are neither reachable in the first nor next to a reachable word"
    pub differ : (p : ℕ) → p < length ws → (SameAt ws vs p → ⊥) → Dead (graph_of (script_of version ws)) p

  pub record SameRun : Type 0 where
    -- "the second is accepted too"
    pub accepted : number_is (script_of version vs) weights marks' lengths' ≡ «ACCEPTED»
    -- "with the same marks"
    pub same_marks : (p : ℕ)
        → p < length ws → get_or (marks_after (script_of version ws) weights marks lengths) p 0
        ≡ get_or (marks_after (script_of version vs) weights marks' lengths') p 0
    -- "stretches": their lengths, and they themselves
    pub same_lengths : (p : ℕ)
        → p < length ws → get_or (lengths_after (script_of version ws) weights marks lengths) p 0
        ≡ get_or (lengths_after (script_of version vs) weights marks' lengths') p 0
    pub same_segments : (p : ℕ) (ps : List ℕ)
        → Segment (graph_of (script_of version ws)) p ps ↔ Segment (graph_of (script_of version vs)) p ps
    -- "L and first word", which with the acceptance are the whole answer
    pub same_answer : run_of (script_of version ws) weights (length marks) (length lengths)
        ≡ run_of (script_of version vs) weights (length marks') (length lengths')
    -- document 01's "Elements past n are untouched": there each slice of the second run keeps its own
    pub marks_kept : Kept (length vs) marks' (marks_after (script_of version vs) weights marks' lengths')
    pub lengths_kept : Kept (length vs) lengths'
        (lengths_after (script_of version vs) weights marks' lengths')

abbrev pub DeadWordsMayChange : Type 0
DeadWordsMayChange =
    (version : Version) (ws vs weights marks lengths marks' lengths' : List ℕ)
    → Patched version ws vs weights marks lengths marks' lengths'
    → SameRun version ws vs weights marks lengths marks' lengths'
