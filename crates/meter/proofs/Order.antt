-- The order of a feed's checks, by their tests. Assumes nothing.
use mathlib.Core.Path.{◌≡◌, refl, sym, ap, subst, ◌∙◌}
use mathlib.Core.Logic.{◌↔◌, ◌⊎◌, inl, inr, ⊎_elim}
use mathlib.Core.Bool.{Bool, true, false, cond, not, ◌||◌, true≢false, false≢true}
use Prim.Native.Nat.{ℕ, ◌+◌, ◌*◌, min}
use native.Mathlib.Omega.{arith}
use lib.Dec.{ltb, leb, eqb}
use borrow.Author.Tests.{ltb-true, ltb-false, lt-ltb, le-ltb, leb-true, le-leb, eqb-true, eqb-false, eq-eqb, ne_eqb}
use Rattle.common.proofs.Tests.{not_so}
use Rattle.common.specs.Limits.{most_words, most_services}
use Rattle.common.proofs.Order.{no}
use Rattle.graph.specs.Graph.{In}
use Rattle.graph.proofs.Laws as graph
use Rattle.runs.specs.Weights.{refuses_weights, weights_place}
use Rattle.meter.specs.declared.step.Meter.{Meter}
use Rattle.meter.specs.Feed.{Fed}
use Rattle.meter.specs.Feed.{Scale, follows, is_begun, one_service, showing, is_foreign, is_stray, moved_to, refusal, feed_of}
use Rattle.meter.specs.Order.{Foreign, below, far, none, much, last, count, Stray, past, no_step, not_first, Moved, Order}

-- a test of two is so exactly if one of them is
or_so : (t u : Bool) → t || u ≡ true → (t ≡ true) ⊎ (u ≡ true)
or_so true u h = inl refl
or_so false u h = inr h

so_left : (t u : Bool) → t ≡ true → t || u ≡ true
so_left true u h = refl
so_left false u h = absurd (false≢true h)

so_right : (t u : Bool) → u ≡ true → t || u ≡ true
so_right true u h = refl
so_right false u h = h

so_not : (t : Bool) → t ≡ false → not t ≡ true
so_not true h = absurd (true≢false h)
so_not false h = refl

module _ (n : ℕ) (m : Meter) where
  begun_by : (t : Bool) → is_begun m ≡ t → Type 0
  begun_by true e = m.begun ≡ 0 → ⊥
  begun_by false e = m.begun ≡ 0

  is-begun : is_begun m ≡ true → m.begun ≡ 0 → ⊥
  is-begun e = eqb-false m.begun 0 (not_so (eqb m.begun 0) e)

  not_begun : is_begun m ≡ false → m.begun ≡ 0
  not_begun e = go (eqb m.begun 0) refl e
    where
      go : (t : Bool) → eqb m.begun 0 ≡ t → not t ≡ false → m.begun ≡ 0
      go true d h = eqb-true m.begun 0 d
      go false d h = absurd (true≢false h)

  begun_so : (m.begun ≡ 0 → ⊥) → is_begun m ≡ true
  begun_so h = so_not (eqb m.begun 0) (ne_eqb m.begun 0 h)

  begun_none : m.begun ≡ 0 → is_begun m ≡ false
  begun_none h = ap not (eq-eqb m.begun 0 h)

  abbrev count_test : Bool
  count_test = eqb m.count 0 || ltb (255 * (m.last + 1)) m.count

  abbrev begun_test : Bool
  begun_test = leb n m.last || count_test

  abbrev new_test : Bool
  new_test = not (eqb m.last 0) || not (eqb m.count 0)

  from_begun : is_begun m ≡ true → begun_test ≡ true → Foreign n m
  from_begun b h =
      ⊎_elim (λ e. far (is-begun b) (leb-true n m.last e))
      (λ e. ⊎_elim (λ d. none (is-begun b) (eqb-true m.count 0 d))
      (λ d. much (is-begun b) (ltb-true (255 * (m.last + 1)) m.count d))
      (or_so (eqb m.count 0) (ltb (255 * (m.last + 1)) m.count) e))
      (or_so (leb n m.last) count_test h)

  from_new : is_begun m ≡ false → new_test ≡ true → Foreign n m
  from_new b h =
      ⊎_elim
      (λ e. last (not_begun b) (eqb-false m.last 0 (not_so (eqb m.last 0) e)))
      (λ e. count (not_begun b) (eqb-false m.count 0 (not_so (eqb m.count 0) e)))
      (or_so (not (eqb m.last 0)) (not (eqb m.count 0)) h)

  foreign_of : is_foreign n m ≡ true → Foreign n m
  unfolding is_foreign
  foreign_of h =
      ⊎_elim (λ e. below (ltb-true m.highest m.count e)) (λ e. go (is_begun m) refl e)
      (or_so (ltb m.highest m.count) (cond (is_begun m) begun_test new_test) h)
    where
      go : (t : Bool) → is_begun m ≡ t → cond t begun_test new_test ≡ true → Foreign n m
      go true b e = from_begun b e
      go false b e = from_new b e

  of_begun : is_begun m ≡ true → begun_test ≡ true → is_foreign n m ≡ true
  unfolding is_foreign
  of_begun b h = so_right (ltb m.highest m.count) (cond (is_begun m) begun_test new_test) (ap (λ (t : Bool). cond t begun_test new_test) b ∙ h)

  of_new : is_begun m ≡ false → new_test ≡ true → is_foreign n m ≡ true
  unfolding is_foreign
  of_new b h = so_right (ltb m.highest m.count) (cond (is_begun m) begun_test new_test) (ap (λ (t : Bool). cond t begun_test new_test) b ∙ h)

  of_foreign : Foreign n m → is_foreign n m ≡ true
  unfolding is_foreign
  of_foreign (below h) = so_left (ltb m.highest m.count) (cond (is_begun m) begun_test new_test) (lt-ltb m.highest m.count h)
  of_foreign (far b h) = of_begun (begun_so b) (so_left (leb n m.last) count_test (le-leb n m.last h))
  of_foreign (none b h) =
      of_begun (begun_so b) (so_right (leb n m.last) count_test
      (so_left (eqb m.count 0) (ltb (255 * (m.last + 1)) m.count) (eq-eqb m.count 0 h)))
  of_foreign (much b h) =
      of_begun (begun_so b) (so_right (leb n m.last) count_test
      (so_right (eqb m.count 0) (ltb (255 * (m.last + 1)) m.count) (lt-ltb (255 * (m.last + 1)) m.count h)))
  of_foreign (last b h) = of_new (begun_none b) (so_left (not (eqb m.last 0)) (not (eqb m.count 0)) (so_not (eqb m.last 0) (ne_eqb m.last 0 h)))
  of_foreign (count b h) = of_new (begun_none b) (so_right (not (eqb m.last 0)) (not (eqb m.count 0)) (so_not (eqb m.count 0) (ne_eqb m.count 0 h)))

module _ (s : Scale) (m : Meter) (q : ℕ) where
  abbrev steps : Bool
  steps = follows s.graph m.last q

  steps_so : In q (s.graph.successors m.last) → steps ≡ true
  steps_so = ((graph.laws).member_in q (s.graph.successors m.last)).1

  stray_of : is_stray s.graph m q ≡ true → Stray s m q
  unfolding is_stray
  stray_of h =
      ⊎_elim (λ e. past (leb-true s.graph.size q e)) (λ e. go (is_begun m) refl e)
      (or_so (leb s.graph.size q) (cond (is_begun m) (not steps) (not (eqb q 0))) h)
    where
      go : (t : Bool) → is_begun m ≡ t → cond t (not steps) (not (eqb q 0)) ≡ true → Stray s m q
      go true b e = no_step (is-begun 0 m b) (λ i. true≢false (sym (steps_so i) ∙ not_so steps e))
      go false b e = not_first (not_begun 0 m b) (eqb-false q 0 (not_so (eqb q 0) e))

  no_steps : (In q (s.graph.successors m.last) → ⊥) → steps ≡ false
  no_steps h = go steps refl
    where
      go : (t : Bool) → steps ≡ t → t ≡ false
      go true e = absurd (h (((graph.laws).member_in q (s.graph.successors m.last)).0 e))
      go false e = refl

  of_stray : Stray s m q → is_stray s.graph m q ≡ true
  unfolding is_stray
  of_stray (past h) = so_left (leb s.graph.size q) (cond (is_begun m) (not steps) (not (eqb q 0))) (le-leb s.graph.size q h)
  of_stray (no_step b h) =
      so_right (leb s.graph.size q) (cond (is_begun m) (not steps) (not (eqb q 0)))
      (ap (λ (t : Bool). cond t (not steps) (not (eqb q 0))) (begun_so 0 m b) ∙ so_not steps (no_steps h))
  of_stray (not_first b h) =
      so_right (leb s.graph.size q) (cond (is_begun m) (not steps) (not (eqb q 0)))
      (ap (λ (t : Bool). cond t (not steps) (not (eqb q 0))) (begun_none 0 m b) ∙ so_not (eqb q 0) (ne_eqb q 0 h))

-- What an accepted feed makes of the meter.

one_more : (k : ℕ) → one_service k ≡ min (k + 1) 4294967295
unfolding one_service
one_more k = go (ltb k most_services) refl
  where
    go : (t : Bool) → ltb k most_services ≡ t → cond t (k + 1) most_services ≡ min (k + 1) 4294967295
    go true e = omega (arith, ltb-true k most_services e)
    go false e = omega (arith, ltb-false k most_services e)

module _ (s : Scale) (m : Meter) (q : ℕ) (first : m.begun ≡ 0 → q ≡ 0) where
  moves_as : Moved s m q (moved_to s m q)
  unfolding moved_to showing
  moves_as = go (is_begun m) refl (s.graph.serves m.last q) refl
    where
      go : (t : Bool) → is_begun m ≡ t → (u : Bool) → s.graph.serves m.last q ≡ u
          → Moved s m q (cond t (cond u (showing q (s.weight q) (one_service m.services) m.highest)
          (showing q (m.count + s.weight q) m.services m.highest))
          (showing q (s.weight q) m.services m.highest))
      go true b true e =
          record {
            begun = λ h. omega (arith, h);
            last = refl;
            first = λ h. absurd (is-begun 0 m b h);
            serving = λ h d. (refl, one_more m.services);
            other = λ h d. absurd (true≢false (sym e ∙ d));
            highest = refl;
          }
      go true b false e =
          record {
            begun = λ h. omega (arith, h);
            last = refl;
            first = λ h. absurd (is-begun 0 m b h);
            serving = λ h d. absurd (false≢true (sym e ∙ d));
            other = λ h d. (refl, refl);
            highest = refl;
          }
      go false b u e =
          record {
            begun = λ h. omega (arith, h);
            last = refl;
            first = λ h. (first h, (refl, refl));
            serving = λ h d. absurd (h (not_begun 0 m b));
            other = λ h d. absurd (h (not_begun 0 m b));
            highest = refl;
          }

-- The chain.

module _ (m next : Meter) (p : ℕ) where
  abbrev chain : Bool → Bool → Bool → Bool → Fed
  chain a b c d =
      cond a (refusal 1 0 m) (cond b (refusal 18 p m) (cond c (refusal 11 0 m)
      (cond d (refusal 10 0 m) (record { meter = next; answer = record { number = 0; place = 0 } }))))

  abbrev number : Bool → Bool → Bool → Bool → ℕ
  number a b c d = (chain a b c d).answer.number

  record By (a b c d : Bool) : Type 0 where
    one : (number a b c d ≡ 1) ↔ (a ≡ true)
    eighteen : (number a b c d ≡ 18) ↔ ((a ≡ false) × (b ≡ true))
    eleven : (number a b c d ≡ 11) ↔ ((a ≡ false) × (b ≡ false) × (c ≡ true))
    ten : (number a b c d ≡ 10) ↔ ((a ≡ false) × (b ≡ false) × (c ≡ false) × (d ≡ true))
    accepted : (number a b c d ≡ 0) ↔ ((a ≡ false) × (b ≡ false) × (c ≡ false) × (d ≡ false))
    place_18 : number a b c d ≡ 18 → (chain a b c d).answer.place ≡ p
    no_place : (number a b c d ≡ 18 → ⊥) → (chain a b c d).answer.place ≡ 0
    kept : (number a b c d ≡ 0 → ⊥) → (chain a b c d).meter ≡ m
    moved : number a b c d ≡ 0 → (chain a b c d).meter ≡ next

  by : (a b c d : Bool) → By a b c d
  by true b c d =
      record {
        one = (λ h. refl, λ h. refl);
        eighteen = no (λ h. omega (arith, h)) (λ h. true≢false h.0);
        eleven = no (λ h. omega (arith, h)) (λ h. true≢false h.0);
        ten = no (λ h. omega (arith, h)) (λ h. true≢false h.0);
        accepted = no (λ h. omega (arith, h)) (λ h. true≢false h.0);
        place_18 = λ h. absurd (omega (arith, h));
        no_place = λ h. refl;
        kept = λ h. refl;
        moved = λ h. absurd (omega (arith, h));
      }
  by false true c d =
      record {
        one = no (λ h. omega (arith, h)) false≢true;
        eighteen = (λ h. (refl, refl), λ h. refl);
        eleven = no (λ h. omega (arith, h)) (λ h. true≢false h.1);
        ten = no (λ h. omega (arith, h)) (λ h. true≢false h.1);
        accepted = no (λ h. omega (arith, h)) (λ h. true≢false h.1);
        place_18 = λ h. refl;
        no_place = λ h. absurd (h refl);
        kept = λ h. refl;
        moved = λ h. absurd (omega (arith, h));
      }
  by false false true d =
      record {
        one = no (λ h. omega (arith, h)) false≢true;
        eighteen = no (λ h. omega (arith, h)) (λ h. false≢true h.1);
        eleven = (λ h. (refl, refl, refl), λ h. refl);
        ten = no (λ h. omega (arith, h)) (λ h. true≢false h.2);
        accepted = no (λ h. omega (arith, h)) (λ h. true≢false h.2);
        place_18 = λ h. absurd (omega (arith, h));
        no_place = λ h. refl;
        kept = λ h. refl;
        moved = λ h. absurd (omega (arith, h));
      }
  by false false false true =
      record {
        one = no (λ h. omega (arith, h)) false≢true;
        eighteen = no (λ h. omega (arith, h)) (λ h. false≢true h.1);
        eleven = no (λ h. omega (arith, h)) (λ h. false≢true h.2);
        ten = (λ h. (refl, refl, refl, refl), λ h. refl);
        accepted = no (λ h. omega (arith, h)) (λ h. true≢false h.3);
        place_18 = λ h. absurd (omega (arith, h));
        no_place = λ h. refl;
        kept = λ h. refl;
        moved = λ h. absurd (omega (arith, h));
      }
  by false false false false =
      record {
        one = no (λ h. omega (arith, h)) false≢true;
        eighteen = no (λ h. omega (arith, h)) (λ h. false≢true h.1);
        eleven = no (λ h. omega (arith, h)) (λ h. false≢true h.2);
        ten = no (λ h. omega (arith, h)) (λ h. false≢true h.3);
        accepted = (λ h. (refl, refl, refl, refl), λ h. refl);
        place_18 = λ h. absurd (omega (arith, h));
        no_place = λ h. refl;
        kept = λ h. absurd (h refl);
        moved = λ h. refl;
      }

module _ (s : Scale) (m : Meter) (q : ℕ) where
  abbrev n : ℕ
  n = s.graph.size

  not_foreign : is_foreign n m ≡ false → Foreign n m → ⊥
  not_foreign e f = true≢false (sym (of_foreign n m f) ∙ e)

  foreign_not : (Foreign n m → ⊥) → is_foreign n m ≡ false
  foreign_not h = go (is_foreign n m) refl
    where
      go : (t : Bool) → is_foreign n m ≡ t → t ≡ false
      go true e = absurd (h (foreign_of n m e))
      go false e = refl

  not_stray : is_stray s.graph m q ≡ false → Stray s m q → ⊥
  not_stray e f = true≢false (sym (of_stray s m q f) ∙ e)

  stray_not : (Stray s m q → ⊥) → is_stray s.graph m q ≡ false
  stray_not h = go (is_stray s.graph m q) refl
    where
      go : (t : Bool) → is_stray s.graph m q ≡ t → t ≡ false
      go true e = absurd (h (stray_of s m q e))
      go false e = refl

  -- the first word that is no stray is 0
  first_zero : is_stray s.graph m q ≡ false → m.begun ≡ 0 → q ≡ 0
  first_zero e b = go (eqb q 0) refl
    where
      go : (t : Bool) → eqb q 0 ≡ t → q ≡ 0
      go true d = eqb-true q 0 d
      go false d = absurd (not_stray e (not_first b (eqb-false q 0 d)))

  pub order : Order s m q
  unfolding feed_of
  order =
      let b = by m (moved_to s m q) (weights_place s.table) (ltb most_words n) (refuses_weights s.table) (is_foreign n m) (is_stray s.graph m q) in
      record {
        one = (λ h. ltb-true most_words n (b.one.0 h), λ h. b.one.1 (lt-ltb most_words n h));
        eighteen = (λ h. let x = b.eighteen.0 h in (ltb-false most_words n x.0, x.1), λ h. b.eighteen.1 (le-ltb most_words n h.0, h.1));
        eleven = (
          λ h. let x = b.eleven.0 h in ((ltb-false most_words n x.0, x.1), foreign_of n m x.2),
          λ h. b.eleven.1 (le-ltb most_words n h.0.0, h.0.1, of_foreign n m h.1),
        );
        ten = (
          λ h. let x = b.ten.0 h in ((ltb-false most_words n x.0, x.1), not_foreign x.2, stray_of s m q x.3),
          λ h. b.ten.1 (le-ltb most_words n h.0.0, h.0.1, foreign_not h.1, of_stray s m q h.2),
        );
        accepted = (
          λ h. let x = b.accepted.0 h in ((ltb-false most_words n x.0, x.1), not_foreign x.2, not_stray x.3),
          λ h. b.accepted.1 (le-ltb most_words n h.0.0, h.0.1, foreign_not h.1, stray_not h.2),
        );
        place_18 = b.place_18;
        no_place = b.no_place;
        kept = b.kept;
        moved = b.moved;
        moves = λ h. subst (Moved s m q) (sym (b.moved h)) (moves_as s m q (first_zero (b.accepted.0 h).3));
      }
