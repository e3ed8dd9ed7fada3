-- Words that no path meets do not matter. Assumes nothing.
use mathlib.Core.Path.{◌≡◌, refl, sym, ap, ap₂, subst, ◌∙◌}
use mathlib.Core.Logic.{inl, inr, ⊎_elim}
use mathlib.Core.Bool.{Bool, cond}
use mathlib.Core.List.{List, [], ◌∷◌}
use Prim.Native.Nat.{ℕ, zero, suc, ◌+◌, ◌-◌, ◌<◌, max}
use native.Mathlib.Omega.{arith}
use lib.Dec.{eqb}
use Rattle.common.proofs.Order.{bit}
use Rattle.common.specs.Lowest.{lowest_from}
use Rattle.common.proofs.Lowest.{lowest_laws}
use Rattle.graph.specs.Graph.{Graph, In, Lawful, Reachable, Segment}
use Rattle.graph.specs.Marks.{mark_of}
use Rattle.graph.specs.Longest.{best, within, heaviest, length_of, most, longest, first}
use Rattle.graph.specs.Unreachable.{SameWhereReachable, Unreachable}
use Rattle.graph.proofs.Paths.{Free, reach_of, reachable_of, segment_free, segment_start, segment_of}
use Rattle.graph.proofs.Numbers.{most_same}
use Rattle.graph.proofs.Lengths.{length_marked, length_unmarked}
use Rattle.graph.proofs.Laws.{reaching, marking}

-- what edges add, where the serving rule and the numbers are the same
best_alike : (g h : Graph) (p : ℕ) (f k : ℕ → ℕ) (l : List ℕ) → ((q : ℕ) → In q l → (g.serves p q ≡ h.serves p q) × (f q ≡ k q)) → best g p f l ≡ best h p k l
best_alike g h p f k [] e = refl
best_alike g h p f k (x ∷ xs) e =
    ap₂ max (ap₂ (λ (b : Bool) (y : ℕ). cond b 0 y) (e x (inl refl)).0 (e x (inl refl)).1) (best_alike g h p f k xs (λ q i. e q (inr i)))

module _ (g h : Graph) (w v : ℕ → ℕ) (lg : Lawful g) (lh : Lawful h) (s : SameWhereReachable g h w v) where
  there : (p : ℕ) → Reachable g p → Reachable h p
  there p r =
      (reaching g lg).induction (λ q. Reachable h q) ((reaching h lh).start (omega (arith, s.size, (reaching g lg).below p r)))
      (λ o q ro u i. (reaching h lh).next o q u (subst (λ (l : List ℕ). In q l) (s.edges o ro) i)) p r

  back : (p : ℕ) → Reachable h p → Reachable g p
  back p r =
      (reaching h lh).induction (λ q. Reachable g q) ((reaching g lg).start (omega (arith, s.size, (reaching h lh).below p r)))
      (λ o q ro u i. (reaching g lg).next o q u (subst (λ (l : List ℕ). In q l) (sym (s.edges o u)) i)) p r

  free_there : (p : ℕ) (ps : List ℕ) → Reachable g p → Free g p ps → Free h p ps
  free_there p [] r f = tt
  free_there p (q ∷ qs) r f = (
    (subst (λ (l : List ℕ). In q l) (s.edges p r) f.0.0, sym (s.serving p q r) ∙ f.0.1),
    free_there q qs ((reaching g lg).next p q r f.0.0) f.1,
  )

  segment_there : (p : ℕ) (ps : List ℕ) → Segment g p ps → Segment h p ps
  segment_there p ps x =
      let r : Reachable g p = reachable_of g (segment_start g x) in
      segment_of h lh ps (reach_of h (there p r)) (free_there p ps r (segment_free g x))

  -- the other way about
  turned : SameWhereReachable h g v w
  turned =
      record {
        size = sym s.size;
        edges = λ p r. sym (s.edges p (back p r));
        serving = λ p q r. sym (s.serving p q (back p r));
        weights = λ p r. sym (s.weights p (back p r));
      }

  mark_same : (p : ℕ) → p < g.size → mark_of g p ≡ mark_of h p
  mark_same p l =
      ⊎_elim
      (λ z. ⊎_elim
      (λ y. z ∙ sym y)
      (λ y. absurd (omega (arith, z, (marking g lg).one p (back p ((marking h lh).reachable p (omega (arith, s.size)) y)))))
      (bit ((marking h lh).bit p)))
      (λ o. o ∙ sym ((marking h lh).one p (there p ((marking g lg).reachable p l o))))
      (bit ((marking g lg).bit p))

  within_same : (k p : ℕ) → Reachable g p → within g w k p ≡ within h v k p
  unfolding within
  within_same zero p r = refl
  within_same (suc k) p r =
      ap₂ (λ (a b : ℕ). a + b) (s.weights p r)
      (best_alike g h p (λ q. within g w k q) (λ q. within h v k q) (g.successors p) (λ q i. (s.serving p q r, within_same k q ((reaching g lg).next p q r i)))
      ∙ ap (λ (l : List ℕ). best h p (λ q. within h v k q) l) (s.edges p r))

  heaviest_same : (p : ℕ) → Reachable g p → heaviest g w p ≡ heaviest h v p
  unfolding heaviest
  heaviest_same p r = within_same (g.size - p) p r ∙ ap (λ (n : ℕ). within h v (n - p) p) s.size

  length_same : (p : ℕ) → p < g.size → length_of g w p ≡ length_of h v p
  length_same p l =
      ⊎_elim
      (λ z. length_unmarked g w p z ∙ sym (length_unmarked h v p (sym (mark_same p l) ∙ z)))
      (λ o. length_marked g w p o ∙ heaviest_same p ((marking g lg).reachable p l o) ∙ sym (length_marked h v p (sym (mark_same p l) ∙ o)))
      (bit ((marking g lg).bit p))

  longest_same : longest g w ≡ longest h v
  unfolding longest
  longest_same = most_same (length_of g w) (length_of h v) g.size length_same ∙ ap (most (length_of h v)) s.size

  first_same : first g w ≡ first h v
  unfolding first
  first_same =
      lowest_laws.same (λ p. eqb (length_of g w p) (longest g w)) (λ p. eqb (length_of h v p) (longest h v)) 0 g.size
      (λ p l. ap₂ (λ (a b : ℕ). eqb a b) (length_same p (omega arith)) longest_same)
      ∙ ap (lowest_from (λ p. eqb (length_of h v p) (longest h v)) 0) s.size

pub unreachable : Unreachable
unreachable =
    record {
      reachable = λ g h w v lg lh s p. (there g h w v lg lh s p, back g h w v lg lh s p);
      segments = λ g h w v lg lh s p ps. (segment_there g h w v lg lh s p ps, segment_there h g v w lh lg (turned g h w v lg lh s) p ps);
      marks = mark_same;
      lengths = length_same;
      longest-run = longest_same;
      first_word = first_same;
    }
