-- The laws that other crates cite. Assumes nothing.
use mathlib.Core.Path.{◌≡◌, refl, sym, ap, subst}
use mathlib.Core.Logic.{inl, inr}
use mathlib.Core.Bool.{Bool, true, false, ◌||◌, or-true, false≢true}
use mathlib.Core.List.{List, [], ◌∷◌}
use Prim.Native.Nat.{ℕ, ◌<◌}
use native.Mathlib.Omega.{arith}
use borrow.Author.Tests.{eqb-true, eq-eqb}
use lib.Dec.{eqb}
use Rattle.common.specs.Lowest.{lowest_from}
use Rattle.common.proofs.Lowest.{lowest_laws}
use Rattle.graph.specs.Graph.{Graph, In, member, Lawful, Reachable}
use Rattle.graph.specs.Longest.{length_of, most, longest, first}
use Rattle.graph.specs.Laws.{Reaching, Bits, Passing, Laws}
use Rattle.graph.proofs.Paths.{Reach, start, next, along_in, reach_in, reach_of, reachable_of, reachable_next, segment_start}
use Rattle.graph.proofs.Numbers.{most_same, most_more, ones_set, ones_le}
use Rattle.graph.proofs.Marks.{mark_of_reach, reach_of_mark, mark_bit}
use Rattle.graph.proofs.Lengths.{length_unmarked, length_is}

by_reach : (g : Graph) (P : ℕ → Type 0) → P 0 → ((p q : ℕ) → Reachable g p → P p → In q (g.successors p) → P q) → {p : ℕ} → Reach g p → P p
by_reach g P z s (start e h) = subst P (sym e) z
by_reach g P z s (next {p = p} {q = q} r i h) = s p q (reachable_of g r) (by_reach g P z s r) i

pub reaching : (g : Graph) → Lawful g → Reaching g
reaching g law =
    record {
      start = λ h. reachable_of g (start refl h);
      next = λ p q r i. reachable_next g law r i;
      below = λ p r. reach_in g (reach_of g r);
      segment = λ p ps s. reachable_of g (segment_start g s);
      induction = λ P z s p r. by_reach g P z s (reach_of g r);
    }

pub marking : (g : Graph) → Lawful g → Bits g
marking g law =
    record {
      bit = mark_bit g law;
      one = λ p r. mark_of_reach g law p (reach_of g r);
      reachable = λ p h e. reachable_of g (reach_of_mark g law p h e);
    }

module _ (g : Graph) (w f : ℕ → ℕ) (e : (p : ℕ) → p < g.size → f p ≡ length_of g w p) where
  longest_found : most f g.size ≡ longest g w
  unfolding longest
  longest_found = most_same f (length_of g w) g.size e

  first_found : lowest_from (λ p. eqb (f p) (longest g w)) 0 g.size ≡ first g w
  unfolding first
  first_found =
      lowest_laws.same (λ p. eqb (f p) (longest g w)) (λ p. eqb (length_of g w p) (longest g w)) 0
      g.size (λ p l. ap (λ (y : ℕ). eqb y (longest g w)) (e p (omega arith)))

pub passing : (g : Graph) → Lawful g → (w : ℕ → ℕ) → Passing g w
passing g law w =
    record {
      unmarked = length_unmarked g w;
      marked = length_is g w law;
      longest_found = longest_found g w;
      first_found = first_found g w;
    }

in_of_member : (q : ℕ) (xs : List ℕ) → member q xs ≡ true → In q xs
in_of_member q [] h = absurd (false≢true h)
in_of_member q (x ∷ xs) h = go (eqb x q) refl (in_of_member q xs) h
  where
    go : (t : Bool) → eqb x q ≡ t → (member q xs ≡ true → In q xs) → t || member q xs ≡ true → In q (x ∷ xs)
    go true e later d = inl (sym (eqb-true x q e))
    go false e later d = inr (later d)

member_of_in : (q : ℕ) (xs : List ℕ) → In q xs → member q xs ≡ true
member_of_in q [] i = absurd i
member_of_in q (x ∷ xs) (inl e) = rw (eq-eqb x q (sym e))
member_of_in q (x ∷ xs) (inr i) = rw (member_of_in q xs i, or-true)

pub laws : Laws
laws =
    record {
      member_in = λ q xs. (in_of_member q xs, member_of_in q xs);
      along_inside = along_in;
      most_more = most_more;
      counting = record { one_more = ones_set; few = ones_le };
      reaching = reaching;
      marking = marking;
      passing = passing;
    }
