-- The computed marks, lengths, L and first word are what the document says. Assumes nothing.
use mathlib.Core.Path.{◌≡◌, refl, sym, ap₂, ◌∙◌}
use mathlib.Core.Logic.{◌↔◌, ⊎_elim}
use mathlib.Core.List.{List, [], ◌∷◌}
use Prim.Native.Nat.{ℕ, ◌≤◌, ◌<◌}
use native.Mathlib.Omega.{arith}
use borrow.Author.Tests.{eqb-true, eqb-false}
use lib.Dec.{eqb}
use Rattle.graph.specs.Graph.{Graph, Lawful, Reachable, Segment, weigh}
use Rattle.graph.specs.Marks.{mark_of}
use Rattle.graph.specs.Longest.{length_of, most, longest, first}
use Rattle.graph.specs.Meaning.{Meaning}
use Rattle.common.proofs.Order.{split, bit}
use Rattle.graph.proofs.Paths.{Reach, start, reach_in, reach_of, reachable_of, segment_of, segment_free, segment_start}
use Rattle.graph.proofs.Heaviest.{heaviest_upper, heaviest_attained}
use Rattle.graph.proofs.Marks.{mark_of_reach, reach_of_mark, mark_bit}
use Rattle.graph.proofs.Lengths.{length_of_reach, length_unmarked}
use Rattle.common.specs.Lowest.{lowest_from}
use Rattle.common.proofs.Lowest.{lowest_laws}
use Rattle.graph.proofs.Numbers.{most_upper, most_attained, most_same}

module _ (g : Graph) (law : Lawful g) where
  marked : (p : ℕ) → p < g.size → (mark_of g p ≡ 1) ↔ Reachable g p
  marked p l = (λ e. reachable_of g (reach_of_mark g law p l e), λ r. mark_of_reach g law p (reach_of g r))

  unmarked : (p : ℕ) → p < g.size → (mark_of g p ≡ 0) ↔ (Reachable g p → ⊥)
  unmarked p l = (
    λ e r. omega (arith, mark_of_reach g law p (reach_of g r)),
    λ n. ⊎_elim (λ e. e) (λ e. absurd (n (reachable_of g (reach_of_mark g law p l e)))) (bit (mark_bit g law p)),
  )

module _ (g : Graph) (law : Lawful g) (w : ℕ → ℕ) where
  length_most : (p : ℕ) (ps : List ℕ) → Segment g p ps → weigh w (p ∷ ps) ≤ length_of g w p
  length_most p ps s =
      let r = segment_start g s in
      omega (arith, length_of_reach g w law p r, heaviest_upper g law w p ps (reach_in g r) (segment_free g s))

  length_some : (p : ℕ) → Reach g p → (ps : List ℕ) × Segment g p ps × (weigh w (p ∷ ps) ≡ length_of g w p)
  length_some p r =
      let a = heaviest_attained g law w p (reach_in g r) in
      (a.0, segment_of g law a.0 r a.1, a.2 ∙ sym (length_of_reach g w law p r))

  longest_upper : (p : ℕ) → p < g.size → length_of g w p ≤ longest g w
  unfolding longest
  longest_upper p l = most_upper (length_of g w) g.size p l

  longest_most : (p : ℕ) (ps : List ℕ) → Segment g p ps → weigh w (p ∷ ps) ≤ longest g w
  longest_most p ps s = omega (arith, length_most p ps s, longest_upper p (reach_in g (segment_start g s)))

  -- the first word is no higher than any word of that length
  first_least : (p : ℕ) → p < g.size → length_of g w p ≡ longest g w → first g w ≤ p
  unfolding first
  first_least p l e =
      ⊎_elim (λ d. d)
      (λ d. absurd (eqb-false _ _ ((lowest_laws.first (λ q. eqb (length_of g w q) (longest g w)) 0 g.size).not_before p (omega arith) d) e))
      (split (lowest_from (λ q. eqb (length_of g w q) (longest g w)) 0 g.size) p)

  module _ (pos : (p : ℕ) → 0 < w p) (some : 0 < g.size) where
    root_length : 0 < length_of g w 0
    root_length = omega (arith, pos 0, length_most 0 [] (segment_of g law [] (start refl some) tt))

    longest_pos : 0 < longest g w
    longest_pos = omega (arith, root_length, longest_upper 0 some)

    -- a word of that length stands somewhere, so that the first is one
    attained : (p : ℕ) × (p < g.size) × (length_of g w p ≡ longest g w)
    unfolding longest
    attained = most_attained (length_of g w) g.size longest_pos

    first_in : first g w < g.size
    first_in = let a = attained in omega (arith, a.1, first_least a.0 a.1 a.2)

    first_length : length_of g w (first g w) ≡ longest g w
    unfolding first
    first_length = eqb-true _ _ ((lowest_laws.first (λ q. eqb (length_of g w q) (longest g w)) 0 g.size).holds (omega (arith, first_in)))

    first_reached : Reach g (first g w)
    first_reached =
        ⊎_elim
        (λ e. absurd (omega (arith, length_unmarked g w (first g w) e, first_length, longest_pos)))
        (λ e. reach_of_mark g law (first g w) first_in e)
        (bit (mark_bit g law (first g w)))

    first_some : (ps : List ℕ) × Segment g (first g w) ps × (weigh w (first g w ∷ ps) ≡ longest g w)
    first_some = let a = length_some (first g w) first_reached in (a.0, a.1, a.2 ∙ first_length)

-- what is found in a list f of the lengths
module _ (g : Graph) (w : ℕ → ℕ) (f : ℕ → ℕ) (e : (p : ℕ) → p < g.size → f p ≡ length_of g w p) where
  pub longest_found : {v : ℕ} → v ≡ most f g.size → v ≡ longest g w
  unfolding longest
  longest_found q = q ∙ most_same f (length_of g w) g.size e

  pub first_found : {v a : ℕ} → v ≡ longest g w → a ≡ lowest_from (λ p. eqb (f p) v) 0 g.size → a ≡ first g w
  unfolding first
  first_found {v} q d =
      d ∙ lowest_laws.same (λ p. eqb (f p) v) (λ p. eqb (length_of g w p) (longest g w)) 0 g.size (λ p l. ap₂ (λ (y z : ℕ). eqb y z) (e p (omega arith)) q)

pub meaning : (g : Graph) → Lawful g → (w : ℕ → ℕ) → ((p : ℕ) → 0 < w p) → Meaning g w
meaning g law w pos =
    record {
      mark_one = marked g law;
      mark_zero = unmarked g law;
      length_most = length_most g law w;
      length_some = λ p r. length_some g law w p (reach_of g r);
      length_none = λ p l n. length_unmarked g w p ((unmarked g law p l).1 n);
      longest_most = longest_most g law w;
      longest_some = λ z. let a = first_some g law w pos z in (first g w, a.0, a.1, a.2);
      first_some = first_some g law w pos;
      first_lowest =
          λ p ps s e.
          let l = reach_in g (segment_start g s) in
          first_least g law w p l
          (omega (arith, e, length_most g law w p ps s, longest_upper g law w p l));
    }
