-- What the computed marks, lengths, L and first word are, in the document's words: over any graph and any
-- weights. proofs/Meaning.antt proves it for every lawful graph whose words all weigh something.
-- Assumes nothing.
use Rattle.std.specs.Prelude.{◌≡◌, ◌↔◌, List, ◌∷◌, ℕ, ◌≤◌, ◌<◌}
use Rattle.graph.specs.Graph.{Graph, Reachable, Segment, weigh}
use Rattle.graph.specs.Marks.{mark_of}
use Rattle.graph.specs.Longest.{length_of, longest, first}

pub record Meaning (g : Graph) (w : ℕ → ℕ) : Type 0 where
  -- "for each of the n words, 1 if reachable, else 0"
  pub mark_one : (p : ℕ) → p < g.size → (mark_of g p ≡ 1) ↔ Reachable g p
  pub mark_zero : (p : ℕ) → p < g.size → (mark_of g p ≡ 0) ↔ (Reachable g p → ⊥)
  -- "the most words in a stretch that starts there": none has more, and one has as many
  pub length_most : (p : ℕ) (ps : List ℕ) → Segment g p ps → weigh w (p ∷ ps) ≤ length_of g w p
  pub length_some : (p : ℕ)
      → Reachable g p → (ps : List ℕ) × Segment g p ps × (weigh w (p ∷ ps) ≡ length_of g w p)
  -- "0 if unreachable"
  pub length_none : (p : ℕ) → p < g.size → (Reachable g p → ⊥) → length_of g w p ≡ 0
  -- "The longest run, L, is the most words any stretch has"
  pub longest_most : (p : ℕ) (ps : List ℕ) → Segment g p ps → weigh w (p ∷ ps) ≤ longest g w
  pub longest_some : 0 < g.size → (p : ℕ) × (ps : List ℕ) × Segment g p ps × (weigh w (p ∷ ps) ≡ longest g w)
  -- "the lowest word at which an L-word stretch begins"
  pub first_some : 0 < g.size
      → (ps : List ℕ) × Segment g (first g w) ps × (weigh w (first g w ∷ ps) ≡ longest g w)
  pub first_lowest : (p : ℕ) (ps : List ℕ) → Segment g p ps → weigh w (p ∷ ps) ≡ longest g w → first g w ≤ p
