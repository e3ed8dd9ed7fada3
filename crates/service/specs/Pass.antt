-- Inner: no promise and no law between crates rests on what stands here.
-- What the private functions ask and leave. No exported contract cites it. What goes by entries reads no
-- word, and holds for any steps.
-- Assumes nothing.
use Rattle.std.specs.Prelude.{◌≡◌, cond, ◌&&◌, Option, None, Some, List, [], ℕ, ◌+◌, ◌/◌, ◌%◌, ◌≤◌, ◌<◌, ltb}
use Rattle.std.specs.Prelude.{eqb, length, get_or}
use Rattle.common.specs.Limits.{most_words}
use Rattle.graph.specs.Graph.{Graph, In, Lawful}
use Rattle.graph.specs.Marks.{mark_of}
use Rattle.graph.specs.Distance.{distance_of}
use Rattle.graph.specs.Crossing.{crossing_from}
use Rattle.sweep.specs.declared.edges.Successors.{Successors}
use Rattle.sweep.specs.Steps.{list_of}
use Rattle.sweep.specs.Entries.{«ENTRIES», entry_at, entries, graph_in}

-- n words, some and not too many, with a place for each in both slices
pub record Fits (n marks lengths : ℕ) : Type 0 where
  pub some : 0 < n
  pub few : n ≤ most_words
  pub marks_long : n ≤ marks
  pub lengths_long : n ≤ lengths

-- a word's distance, where the search had its queue: less 1
abbrev pub noted : List ℕ → ℕ → ℕ
noted l p = get_or l p 0 / «ENTRIES» + 1

-- what finding the distance of word p asks: those of the words above it are noted, none too large,
-- and a is that of the next
pub record Nearing (l : List ℕ) (p a : ℕ) : Type 0 where
  pub in_l : p < length l
  pub steps : (q : ℕ) → In q (list_of (entry_at (get_or l p 0 % «ENTRIES») p)) → q < length l
  pub next : a ≡ get_or l (p + 1) 0 / «ENTRIES»
  pub low : (q : ℕ) → p < q → get_or l q 0 / «ENTRIES» < most_words

-- what noting the distances asks: entries of words that are not too many
pub record Holds (l : List ℕ) : Type 0 where
  pub law : Lawful (graph_in (entries l))
  pub few : length l ≤ most_words

-- and leaves
pub record Notes (from : ℕ) (l l' : List ℕ) : Type 0 where
  pub kept : entries l' ≡ entries l
  pub each : (q : ℕ) → from ≤ q → q < length l → noted l' q ≡ distance_of (graph_in (entries l)) q

-- the fewest words from word w of a graph
abbrev pub fewest_in : Graph → ℕ → Option ℕ
fewest_in g w = cond (ltb w g.size && eqb (mark_of g w) 1) (Some (distance_of g w)) None

-- r edges of a word p with these steps pass over w, if its mark is 1
pub record CrossesFrom (w p mark : ℕ) (s : Successors) (r : ℕ) : Type 0 where
  pub count : r ≡ length (cond (eqb mark 1) (crossing_from w p (list_of s)) [])
  pub few : r ≤ 1
