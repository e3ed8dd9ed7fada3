-- The order of the checks of two tables, by their tests. Assumes nothing.
use mathlib.Core.Path.{◌≡◌, refl, sym, ap, subst, ◌∙◌}
use mathlib.Core.Logic.{◌↔◌, ◌⊎◌, inl, inr, ⊎_elim}
use mathlib.Core.Bool.{Bool, true, false, cond, ◌||◌, true≢false, false≢true}
use mathlib.Core.List.{List}
use Prim.Native.Nat.{ℕ, ◌≤◌}
use native.Mathlib.Omega.{arith}
use lib.Dec.{ltb, eqb}
use lib.ListN.{length, get_or}
use borrow.Author.Tests.{ltb-true, ltb-false, lt-ltb, le-ltb, eqb-true, eq-eqb, ne_eqb}
use Rattle.common.specs.Limits.{most_words}
use Rattle.common.specs.Lowest.{First}
use Rattle.common.proofs.Lowest.{lowest_laws}
use Rattle.common.proofs.Order.{split, yes, no}
use Rattle.graph.specs.Longest.{longest, first}
use Rattle.std.specs.Prelude.{Ok, Err}
use Rattle.common.specs.declared.refusal.Refusal.TheVariants.{TooManyWords, ShortSlice, NoWords, ReachesInvalid, WeightsRefused, LowAboveHigh}
use Rattle.runs.specs.Script.{Script, Sound, graph_of, weight_of}
use Rattle.runs.specs.Weights.{refuses_weights, weights_place}
use Rattle.runs.specs.Run.{Run, number_of, place_of, lowest_invalid, run_of, untouched, marks_after, lengths_after}
use Rattle.ranges.specs.Range.{RunRange, accepted_range, low_run, high_run, is_above, lowest_above, runs_of, refuses_range, marks_after_both, lengths_after_both}
use Rattle.ranges.specs.RangeOrder.{AboveAt, report, Sized, RangeOrder, RangeKept, RangeLeft}
use Rattle.runs.proofs.Order.{few, short, shorter, long, longer, order}
use Rattle.ranges.proofs.Between.{ends}

-- The place of 19.

module _ (low high : List ℕ) where
  above : First (is_above low high) 0 128 (lowest_above low high)
  unfolding lowest_above
  above = lowest_laws.first (is_above low high) 0 128

  above_there : ltb (lowest_above low high) 128 ≡ true → AboveAt low high (lowest_above low high)
  above_there e =
      let h = ltb-true (lowest_above low high) 128 e in
      (h, ltb-true (get_or high (lowest_above low high) 0) (get_or low (lowest_above low high) 0) (above.holds (omega (arith, h))))

  above_lowest : (i : ℕ) → AboveAt low high i → lowest_above low high ≤ i
  above_lowest i a =
      ⊎_elim (λ h. h)
      (λ h. absurd (omega (arith, a.1, ltb-false (get_or high i 0) (get_or low i 0) (above.not_before i (omega arith) h))))
      (split (lowest_above low high) i)

  above_some : (i : ℕ) → AboveAt low high i → ltb (lowest_above low high) 128 ≡ true
  above_some i a = lt-ltb (lowest_above low high) 128 (omega (arith, above_lowest i a, a.0))

  above_none : ltb (lowest_above low high) 128 ≡ false → (i : ℕ) → AboveAt low high i → ⊥
  above_none e i a = true≢false (sym (above_some i a) ∙ e)

  none_above : ((i : ℕ) → AboveAt low high i → ⊥) → ltb (lowest_above low high) 128 ≡ false
  none_above h = go (ltb (lowest_above low high) 128) refl
    where
      go : (t : Bool) → ltb (lowest_above low high) 128 ≡ t → t ≡ false
      go true e = absurd (h (lowest_above low high) (above_there e))
      go false e = refl

-- The chain.

module _ (x y z w : ℕ) (r : RunRange) (accepted : number_of (low_run r) ≡ 0) (placed : place_of (low_run r) ≡ 0) where
  abbrev run : Bool → Bool → Bool → Bool → Bool → Bool → Bool → Run
  run a b c d e f g =
      low_run (cond a (Err TooManyWords) (cond b (Err ShortSlice) (cond c (Err (WeightsRefused x)) (cond d (Err (WeightsRefused y))
      (cond e (Err (LowAboveHigh z)) (cond f (Err NoWords) (cond g (Err (ReachesInvalid w)) r)))))))

  record By (a b c d e f g : Bool) : Type 0 where
    one : (number_of (run a b c d e f g) ≡ 1) ↔ (a ≡ true)
    six : (number_of (run a b c d e f g) ≡ 6) ↔ ((a ≡ false) × (b ≡ true))
    eighteen : (number_of (run a b c d e f g) ≡ 18) ↔ ((a ≡ false) × (b ≡ false) × ((c ≡ true) ⊎ (d ≡ true)))
    nineteen : (number_of (run a b c d e f g) ≡ 19) ↔ ((a ≡ false) × (b ≡ false) × (c ≡ false) × (d ≡ false) × (e ≡ true))
    seven : (number_of (run a b c d e f g) ≡ 7) ↔ ((a ≡ false) × (b ≡ false) × (c ≡ false) × (d ≡ false) × (e ≡ false) × (f ≡ true))
    place_low : number_of (run a b c d e f g) ≡ 18 → c ≡ true → place_of (run a b c d e f g) ≡ x
    place_high : number_of (run a b c d e f g) ≡ 18 → c ≡ false → place_of (run a b c d e f g) ≡ y
    place_19 : number_of (run a b c d e f g) ≡ 19 → place_of (run a b c d e f g) ≡ z
    no_place :
        (number_of (run a b c d e f g) ≡ 18 → ⊥) → (number_of (run a b c d e f g) ≡ 19 → ⊥) → (number_of (run a b c d e f g) ≡ 8 → ⊥)
        → place_of (run a b c d e f g) ≡ 0

  by : (a b c d e f g : Bool) → By a b c d e f g
  by true b c d e f g =
      record {
        one = yes refl refl;
        six = no (λ h. omega (arith, h)) (λ h. true≢false h.0);
        eighteen = no (λ h. omega (arith, h)) (λ h. true≢false h.0);
        nineteen = no (λ h. omega (arith, h)) (λ h. true≢false h.0);
        seven = no (λ h. omega (arith, h)) (λ h. true≢false h.0);
        place_low = λ h. absurd (omega (arith, h));
        place_high = λ h. absurd (omega (arith, h));
        place_19 = λ h. absurd (omega (arith, h));
        no_place = λ h k l. refl;
      }
  by false true c d e f g =
      record {
        one = no (λ h. omega (arith, h)) false≢true;
        six = yes refl (refl, refl);
        eighteen = no (λ h. omega (arith, h)) (λ h. true≢false h.1);
        nineteen = no (λ h. omega (arith, h)) (λ h. true≢false h.1);
        seven = no (λ h. omega (arith, h)) (λ h. true≢false h.1);
        place_low = λ h. absurd (omega (arith, h));
        place_high = λ h. absurd (omega (arith, h));
        place_19 = λ h. absurd (omega (arith, h));
        no_place = λ h k l. refl;
      }
  by false false true d e f g =
      record {
        one = no (λ h. omega (arith, h)) false≢true;
        six = no (λ h. omega (arith, h)) (λ h. false≢true h.1);
        eighteen = yes refl (refl, refl, inl refl);
        nineteen = no (λ h. omega (arith, h)) (λ h. true≢false h.2);
        seven = no (λ h. omega (arith, h)) (λ h. true≢false h.2);
        place_low = λ h k. refl;
        place_high = λ h k. absurd (true≢false k);
        place_19 = λ h. absurd (omega (arith, h));
        no_place = λ h k l. absurd (h refl);
      }
  by false false false true e f g =
      record {
        one = no (λ h. omega (arith, h)) false≢true;
        six = no (λ h. omega (arith, h)) (λ h. false≢true h.1);
        eighteen = yes refl (refl, refl, inr refl);
        nineteen = no (λ h. omega (arith, h)) (λ h. true≢false h.3);
        seven = no (λ h. omega (arith, h)) (λ h. true≢false h.3);
        place_low = λ h k. absurd (false≢true k);
        place_high = λ h k. refl;
        place_19 = λ h. absurd (omega (arith, h));
        no_place = λ h k l. absurd (h refl);
      }
  by false false false false true f g =
      record {
        one = no (λ h. omega (arith, h)) false≢true;
        six = no (λ h. omega (arith, h)) (λ h. false≢true h.1);
        eighteen = no (λ h. omega (arith, h)) (λ h. ⊎_elim false≢true false≢true h.2);
        nineteen = yes refl (refl, refl, refl, refl, refl);
        seven = no (λ h. omega (arith, h)) (λ h. true≢false h.4);
        place_low = λ h. absurd (omega (arith, h));
        place_high = λ h. absurd (omega (arith, h));
        place_19 = λ h. refl;
        no_place = λ h k l. absurd (k refl);
      }
  by false false false false false true g =
      record {
        one = no (λ h. omega (arith, h)) false≢true;
        six = no (λ h. omega (arith, h)) (λ h. false≢true h.1);
        eighteen = no (λ h. omega (arith, h)) (λ h. ⊎_elim false≢true false≢true h.2);
        nineteen = no (λ h. omega (arith, h)) (λ h. false≢true h.4);
        seven = yes refl (refl, refl, refl, refl, refl, refl);
        place_low = λ h. absurd (omega (arith, h));
        place_high = λ h. absurd (omega (arith, h));
        place_19 = λ h. absurd (omega (arith, h));
        no_place = λ h k l. refl;
      }
  by false false false false false false true =
      record {
        one = no (λ h. omega (arith, h)) false≢true;
        six = no (λ h. omega (arith, h)) (λ h. false≢true h.1);
        eighteen = no (λ h. omega (arith, h)) (λ h. ⊎_elim false≢true false≢true h.2);
        nineteen = no (λ h. omega (arith, h)) (λ h. false≢true h.4);
        seven = no (λ h. omega (arith, h)) (λ h. false≢true h.5);
        place_low = λ h. absurd (omega (arith, h));
        place_high = λ h. absurd (omega (arith, h));
        place_19 = λ h. absurd (omega (arith, h));
        no_place = λ h k l. absurd (l refl);
      }
  by false false false false false false false =
      record {
        one = no (λ h. omega (arith, h, accepted)) false≢true;
        six = no (λ h. omega (arith, h, accepted)) (λ h. false≢true h.1);
        eighteen = no (λ h. omega (arith, h, accepted)) (λ h. ⊎_elim false≢true false≢true h.2);
        nineteen = no (λ h. omega (arith, h, accepted)) (λ h. false≢true h.4);
        seven = no (λ h. omega (arith, h, accepted)) (λ h. false≢true h.5);
        place_low = λ h. absurd (omega (arith, h, accepted));
        place_high = λ h. absurd (omega (arith, h, accepted));
        place_19 = λ h. absurd (omega (arith, h, accepted));
        no_place = λ h k l. placed;
      }

module _ (ws : Script) (low high : List ℕ) (marks lengths : ℕ) where
  abbrev n : ℕ
  n = ws.size

  pub range_order : RangeOrder ws low high marks lengths
  unfolding runs_of
  range_order =
      let b = by (weights_place low) (weights_place high) (lowest_above low high) (lowest_invalid ws)
      (accepted_range (longest (graph_of ws) (weight_of ws low)) (first (graph_of ws) (weight_of ws low))
      (longest (graph_of ws) (weight_of ws high)) (first (graph_of ws) (weight_of ws high)))
      refl refl
      (ltb most_words n) (ltb marks n || ltb lengths n) (refuses_weights low) (refuses_weights high)
      (ltb (lowest_above low high) 128) (eqb n 0) (ltb (lowest_invalid ws) n) in
      record {
        one = (λ h. ltb-true most_words n (b.one.0 h), λ h. b.one.1 (lt-ltb most_words n h));
        six = (
          λ h. let t = b.six.0 h in (few ws low marks lengths t.0, short ws low marks lengths t.1),
          λ h. b.six.1 (le-ltb most_words n h.0, shorter ws low marks lengths h.1),
        );
        eighteen = (
          λ h. let t = b.eighteen.0 h in ((few ws low marks lengths t.0, long ws low marks lengths t.1), t.2),
          λ h. b.eighteen.1 (le-ltb most_words n h.0.0, longer ws low marks lengths h.0.1, h.1),
        );
        nineteen = (
          λ h.
              let t = b.nineteen.0 h in (
                (few ws low marks lengths t.0, long ws low marks lengths t.1),
                (t.2, t.3),
                (lowest_above low high, above_there low high t.4),
              ),
          λ h. b.nineteen.1 (le-ltb most_words n h.0.0, longer ws low marks lengths h.0.1, h.1.0, h.1.1, above_some low high h.2.0 h.2.1),
        );
        seven = (
          λ h.
              let t = b.seven.0 h in (
                (few ws low marks lengths t.0, long ws low marks lengths t.1),
                (t.2, t.3),
                above_none low high t.4,
                eqb-true n 0 t.5,
              ),
          λ h.
              b.seven.1 (
                le-ltb most_words n h.0.0,
                longer ws low marks lengths h.0.1,
                h.1.0,
                h.1.1,
                none_above low high h.2,
                eq-eqb n 0 h.3,
              ),
        );
        place_low = b.place_low;
        place_high = b.place_high;
        place_19 = λ h. subst (AboveAt low high) (sym (b.place_19 h)) (above_there low high (b.nineteen.0 h).4);
        lowest_19 = λ h i a. omega (arith, b.place_19 h, above_lowest low high i a);
        no_place = b.no_place;
      }

-- The slices.

same_number : (r : RunRange) → number_of (high_run r) ≡ number_of (low_run r)
same_number (Ok r) = refl
same_number (Err e) = refl

untouched_by : (k : ℕ) → (k ≡ 0 → ⊥) → (k ≡ 8 → ⊥) → untouched k ≡ true
untouched_by k a b = rw (ne_eqb k 0 a, ne_eqb k 8 b)

module _ (ws : Script) (sound : Sound ws) (low high marks lengths : List ℕ) where
  abbrev number : ℕ
  number = number_of (report ws low high (length marks) (length lengths))

  untouched_high : refuses_range low high ≡ false → (number ≡ 0 → ⊥) → (number ≡ 8 → ⊥)
      → untouched (number_of (run_of ws high (length marks) (length lengths))) ≡ true
  untouched_high e a b =
      ap untouched (ap number_of (ends ws sound low high (length marks) (length lengths) e).high_reached
      ∙ same_number (runs_of ws low high (length marks) (length lengths)))
      ∙ untouched_by number a b

  of_marks : (t : Bool) → refuses_range low high ≡ t → (number ≡ 0 → ⊥) → (number ≡ 8 → ⊥) → cond t marks (marks_after ws high marks lengths) ≡ marks
  unfolding marks_after
  of_marks true e a b = refl
  of_marks false e a b = rw (untouched_high e a b)

  of_lengths : (t : Bool) → refuses_range low high ≡ t → (number ≡ 0 → ⊥) → (number ≡ 8 → ⊥) → cond t lengths (lengths_after ws high marks lengths) ≡ lengths
  unfolding lengths_after
  of_lengths true e a b = refl
  of_lengths false e a b = rw (untouched_high e a b)

  pub range_kept : RangeKept ws low high marks lengths
  unfolding marks_after_both lengths_after_both
  range_kept = record { marks_kept = of_marks (refuses_range low high) refl; lengths_kept = of_lengths (refuses_range low high) refl }

  -- What the high table's run leaves.

  turned : Sized ws low high (length marks) (length lengths) → (t u v : Bool) → refuses_weights low ≡ t → refuses_weights high ≡ u
      → ltb (lowest_above low high) 128 ≡ v → t || (u || v) ≡ true → (number ≡ 18 → ⊥) → (number ≡ 19 → ⊥) → ⊥
  turned s true u v e f g r a b = a ((range_order ws low high (length marks) (length lengths)).eighteen.1 (s, inl e))
  turned s false true v e f g r a b = a ((range_order ws low high (length marks) (length lengths)).eighteen.1 (s, inr f))
  turned s false false true e f g r a b =
      b ((range_order ws low high (length marks) (length lengths)).nineteen.1 (s, (e, f), (lowest_above low high, above_there low high g)))
  turned s false false false e f g r a b = false≢true r

  -- tables that are refused, though with neither 18 nor 19: the sizes are, and before them
  unsized : refuses_range low high ≡ true → (number ≡ 18 → ⊥) → (number ≡ 19 → ⊥)
      → untouched (number_of (run_of ws high (length marks) (length lengths))) ≡ true
  unsized r a b = go (ltb most_words ws.size) refl (ltb (length marks) ws.size || ltb (length lengths) ws.size) refl
    where
      go : (t : Bool) → ltb most_words ws.size ≡ t → (u : Bool) → ltb (length marks) ws.size || ltb (length lengths) ws.size ≡ u
          → untouched (number_of (run_of ws high (length marks) (length lengths))) ≡ true
      go true e u f = ap untouched ((order ws high (length marks) (length lengths)).one.1 (ltb-true most_words ws.size e))
      go false e true f =
          ap untouched
          ((order ws high (length marks) (length lengths)).six.1
          (few ws high (length marks) (length lengths) e, short ws high (length marks) (length lengths) f))
      go false e false f =
          absurd
          (turned (few ws low (length marks) (length lengths) e, long ws low (length marks) (length lengths) f)
          (refuses_weights low) (refuses_weights high) (ltb (lowest_above low high) 128) refl refl refl r a b)

  left_marks : (t : Bool) → refuses_range low high ≡ t → (number ≡ 18 → ⊥) → (number ≡ 19 → ⊥)
      → cond t marks (marks_after ws high marks lengths) ≡ marks_after ws high marks lengths
  unfolding marks_after
  left_marks true e a b = rw (unsized e a b)
  left_marks false e a b = refl

  left_lengths : (t : Bool) → refuses_range low high ≡ t → (number ≡ 18 → ⊥) → (number ≡ 19 → ⊥)
      → cond t lengths (lengths_after ws high marks lengths) ≡ lengths_after ws high marks lengths
  unfolding lengths_after
  left_lengths true e a b = rw (unsized e a b)
  left_lengths false e a b = refl

  pub range_left : RangeLeft ws low high marks lengths
  unfolding marks_after_both lengths_after_both
  range_left = record { marks-left = left_marks (refuses_range low high) refl; lengths-left = left_lengths (refuses_range low high) refl }
