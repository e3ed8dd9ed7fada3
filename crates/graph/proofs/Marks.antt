-- The computed marks are 1 at the words that are reachable and 0 at the others: marks that grow word by word until they are closed have
-- at each word as many steps as are marked, and so no more than there are words. Assumes nothing.
use mathlib.Core.Path.{◌≡◌, refl, sym, ap, subst, ◌∙◌}
use mathlib.Core.Logic.{◌⊎◌, inl, inr, ⊎_elim}
use mathlib.Core.Bool.{Bool, true, false, cond, ◌||◌, false≢true}
use mathlib.Core.List.{List, [], ◌∷◌}
use Prim.Native.Nat.{ℕ, zero, suc, ◌+◌, ◌≤◌, ◌<◌, zero-le}
use native.Mathlib.Nat.{not-suc-le-zero, le_antisymm}
use native.Mathlib.Numerals.{add-one}
use native.Mathlib.Omega.{arith}
use borrow.Author.Tests.{eq-eqb, eqb-true}
use lib.Dec.{eqb}
use lib.ListN.{length, get_or, set, replicate, length-set, length-replicate, get_or-replicate}
use lib.Seq.{get_or-set_same}
use Rattle.graph.specs.Graph.{Graph, In, Lawful}
use Rattle.graph.specs.Laws.{marked_count}
use Rattle.common.proofs.Stores.{at_set, stays}
use Rattle.graph.proofs.Numbers.{ones_set, ones_le}
use Rattle.graph.specs.Marks.{some_of, leads, mark_of}
use Rattle.graph.proofs.Paths.{Reach, start, next, some_word}
use Rattle.common.proofs.Order.{bit, same_or_not, past}

-- every successor of p is marked
abbrev Closed : Graph → List ℕ → ℕ → Type 0
Closed g m p = (q : ℕ) → In q (g.successors p) → get_or m q 0 ≡ 1

-- one of two tests
first_holds : (a b : Bool) → a ≡ true → a || b ≡ true
first_holds true b e = refl
first_holds false b e = absurd (false≢true e)

second_holds : (a b : Bool) → b ≡ true → a || b ≡ true
second_holds true b e = refl
second_holds false b e = e

either : (a b : Bool) → a || b ≡ true → (a ≡ true) ⊎ (b ≡ true)
either true b e = inl refl
either false b e = inr e

some_in : (t : ℕ → Bool) (l : List ℕ) (x : ℕ) → In x l → t x ≡ true → some_of t l ≡ true
some_in t [] x i h = absurd i
some_in t (y ∷ ys) x (inl e) h = first_holds (t y) (some_of t ys) (ap t (sym e) ∙ h)
some_in t (y ∷ ys) x (inr i) h = second_holds (t y) (some_of t ys) (some_in t ys x i h)

some-of : (t : ℕ → Bool) (l : List ℕ) → some_of t l ≡ true → (x : ℕ) × In x l × (t x ≡ true)
some-of t [] e = absurd (false≢true e)
some-of t (y ∷ ys) e =
    ⊎_elim (λ h. (y, inl refl, h)) (λ h. let r = some-of t ys h in (r.0, inr r.1, r.2)) (either (t y) (some_of t ys) e)

module _ (g : Graph) where
  leads_none : (k p : ℕ) → leads g k p p ≡ true
  unfolding leads
  leads_none zero p = eq-eqb p p refl
  leads_none (suc k) p = first_holds (eqb p p) _ (eq-eqb p p refl)

  -- by a first step
  leads_first : (k p s q : ℕ) → In s (g.successors p) → leads g k s q ≡ true → leads g (suc k) p q ≡ true
  unfolding leads
  leads_first k p s q i h = second_holds (eqb p q) _ (some_in (λ x. leads g k x q) (g.successors p) s i h)

  -- by a last step
  leads_last : (k a p q : ℕ) → leads g k a p ≡ true → In q (g.successors p) → leads g (suc k) a q ≡ true
  unfolding leads
  leads_last zero a p q h i = leads_first zero a q q (subst (λ (x : ℕ). In q (g.successors x)) (sym (eqb-true a p h)) i) (leads_none zero q)
  leads_last (suc k) a p q h i =
      ⊎_elim
      (λ e. leads_first (suc k) a q q (subst (λ (x : ℕ). In q (g.successors x)) (sym (eqb-true a p e)) i) (leads_none (suc k) q))
      (λ e. let r = some-of (λ x. leads g k x p) (g.successors a) e in leads_first (suc k) a r.0 q r.1 (leads_last k r.0 p q r.2 i))
      (either (eqb a p) _ h)

  leads_more : (k a p : ℕ) → leads g k a p ≡ true → leads g (suc k) a p ≡ true
  unfolding leads
  leads_more zero a p h = first_holds (eqb a p) _ h
  leads_more (suc k) a p h =
      ⊎_elim
      (λ e. first_holds (eqb a p) _ e)
      (λ e. let r = some-of (λ x. leads g k x p) (g.successors a) e in leads_first (suc k) a r.0 p r.1 (leads_more k r.0 p r.2))
      (either (eqb a p) _ h)

  leads_le : (n k a p : ℕ) → k ≤ n → leads g k a p ≡ true → leads g n a p ≡ true
  leads_le zero k a p h e = subst (λ (j : ℕ). leads g j a p ≡ true) (le_antisymm h zero-le) e
  leads_le (suc n) k a p h e =
      ⊎_elim
      (λ d. subst (λ (j : ℕ). leads g j a p ≡ true) d e)
      (λ d. leads_more n a p (leads_le n k a p (omega (arith, past h (λ z. d (sym z)))) e))
      (same_or_not k (suc n))

  leads_reach : Lawful g → (k a p : ℕ) → Reach g a → leads g k a p ≡ true → Reach g p
  unfolding leads
  leads_reach law zero a p r h = subst (λ (x : ℕ). Reach g x) (eqb-true a p h) r
  leads_reach law (suc k) a p r h =
      ⊎_elim
      (λ e. subst (λ (x : ℕ). Reach g x) (eqb-true a p e) r)
      (λ e. let s = some-of (λ x. leads g k x p) (g.successors a) e in leads_reach law k s.0 p (next r s.1 (law.inside a s.0 s.1)) s.2)
      (either (eqb a p) _ h)

  -- marks of words to which no more steps lead than words are marked
  record Grown (m : List ℕ) : Type 0 where
    long : g.size ≤ length m
    bits : (p : ℕ) → p < g.size → get_or m p 0 ≤ 1
    root : get_or m 0 0 ≡ 1
    near : (p : ℕ) → p < g.size → get_or m p 0 ≡ 1 → leads g (marked_count g.size m) 0 p ≡ true

  -- a marked word with a successor that is not
  record Open (m : List ℕ) : Type 0 where
    from : ℕ
    to : ℕ
    inside : from < g.size
    marked : get_or m from 0 ≡ 1
    edge : In to (g.successors from)
    unmarked : get_or m to 0 ≡ 0

  module _ (law : Lawful g) where
    module _ (m : List ℕ) (w : Grown m) where
      -- the successors in a list are marked, or one is not
      unmarked_in : (l : List ℕ) → ((q : ℕ) → In q l → q < g.size) → ((q : ℕ) → In q l → get_or m q 0 ≡ 1) ⊎ ((q : ℕ) × In q l × (get_or m q 0 ≡ 0))
      unmarked_in [] b = inl (λ q i. absurd i)
      unmarked_in (x ∷ xs) b =
          ⊎_elim
          (λ z. inr (x, inl refl, z))
          (λ o. ⊎_elim
          (λ f. inl (λ q i. ⊎_elim (λ e. ap (λ (y : ℕ). get_or m y 0) e ∙ o) (λ j. f q j) i))
          (λ r. inr (r.0, inr r.1, r.2))
          (unmarked_in xs (λ q i. b q (inr i))))
          (bit (w.bits x (b x (inl refl))))

      -- the marked words below k are closed, or one is open
      open_below : (k : ℕ) → k ≤ g.size → ((p : ℕ) → p < k → get_or m p 0 ≡ 1 → Closed g m p) ⊎ Open m
      open_below zero h = inl (λ p l e. absurd (not-suc-le-zero l))
      open_below (suc k) h =
          ⊎_elim
          (λ f. ⊎_elim
          (λ z. inl (λ p l e. f p (past (omega arith) (λ d. zero_one (sym (ap (λ (y : ℕ). get_or m y 0) d) ∙ z) e)) e))
          (λ o. ⊎_elim
          (λ c. inl (λ p l e. ⊎_elim (λ d. subst (λ (y : ℕ). Closed g m y) (sym d) c) (λ n. f p (past (omega arith) (λ d. n (sym d))) e) (same_or_not p k)))
          (λ r. inr (record { from = k; to = r.0; inside = h; marked = o; edge = r.1; unmarked = r.2 }))
          (unmarked_in (g.successors k) (λ q i. law.inside k q i)))
          (bit (w.bits k h)))
          (λ o. inr o)
          (open_below k (omega arith))
        where
          zero_one : {x : ℕ} → x ≡ 0 → x ≡ 1 → ⊥
          zero_one {x} a b = omega arith

      -- a word more
      module _ (o : Open m) where
        new : o.to < g.size
        new = law.inside o.from o.to o.edge

        in_m : o.to < length m
        in_m = omega (arith, new, w.long)

        more : marked_count g.size (set m o.to 1) ≡ suc (marked_count g.size m)
        more = ones_set g.size m o.to new in_m o.unmarked ∙ add-one (marked_count g.size m)

        grown_more : Grown (set m o.to 1)
        grown_more =
            record {
              long = simp length-set w.long;
              bits = λ p h. ⊎_elim (λ x. omega arith) (λ x. omega (arith, w.bits p h)) (at_set m o.to 1 p in_m);
              root = stays m o.to 1 0 in_m w.root;
              near = λ p h e. subst (λ (k : ℕ). leads g k 0 p ≡ true) (sym more) (⊎_elim
                  (λ x. subst (λ (y : ℕ). leads g (suc (marked_count g.size m)) 0 y ≡ true) (sym x.0)
                  (leads_last (marked_count g.size m) 0 o.from o.to
                  (w.near o.from o.inside o.marked) o.edge))
                  (λ x. leads_more (marked_count g.size m) 0 p (w.near p h (sym x.1 ∙ e)))
                  (at_set m o.to 1 p in_m));
            }

    -- marks that are grown and closed
    record Whole : Type 0 where
      marks : List ℕ
      grown : Grown marks
      closed : (p : ℕ) → p < g.size → get_or marks p 0 ≡ 1 → Closed g marks p

    grow : (j : ℕ) (m : List ℕ) → Grown m → g.size ≤ marked_count g.size m + j → Whole
    grow zero m w h =
        ⊎_elim
        (λ c. record { marks = m; grown = w; closed = c })
        (λ o. absurd (omega (arith, more m w o, ones_le g.size (set m o.to 1) (grown_more m w o).bits)))
        (open_below m w g.size (omega arith))
    grow (suc j) m w h =
        ⊎_elim
        (λ c. record { marks = m; grown = w; closed = c })
        (λ o. grow j (set m o.to 1) (grown_more m w o) (omega (arith, more m w o)))
        (open_below m w g.size (omega arith))

    module _ (z : 0 < g.size) where
      zeros : List ℕ
      zeros = replicate g.size 0

      zeros_long : 0 < length zeros
      unfolding zeros
      zeros_long = omega (arith, length-replicate g.size (zero))

      root_alone : Grown (set zeros 0 1)
      unfolding zeros
      root_alone =
          record {
            long = simp length-set (omega (arith, length-replicate g.size (zero)));
            bits = λ p h. ⊎_elim (λ x. omega arith) (λ x. omega (arith, get_or-replicate {A = ℕ} g.size p 0 0 h)) (at_set zeros 0 1 p zeros_long);
            root = get_or-set_same zeros 0 1 0 zeros_long;
            near = λ p h e. ⊎_elim
                (λ x. subst (λ (y : ℕ). leads g (marked_count g.size (set zeros 0 1)) 0 y ≡ true) (sym x.0) (leads_none _ 0))
                (λ x. absurd (omega (arith, get_or-replicate {A = ℕ} g.size p 0 0 h)))
                (at_set zeros 0 1 p zeros_long);
          }

      whole : Whole
      whole = grow g.size (set zeros 0 1) root_alone (omega arith)

      whole_has : {p : ℕ} → Reach g p → (p < g.size) × (get_or whole.marks p 0 ≡ 1)
      whole_has (start e h) = (omega arith, ap (λ (y : ℕ). get_or whole.marks y 0) e ∙ whole.grown.root)
      whole_has (next {p = o} {q = q} r i l) = let ih = whole_has r in (l, whole.closed o ih.0 ih.1 q i)

    leads_of_reach : (p : ℕ) → Reach g p → leads g g.size 0 p ≡ true
    leads_of_reach p r =
        let z = some_word g r in
        let h = whole_has z r in
        let w = whole z in
        let le = ones_le g.size w.marks w.grown.bits in
        leads_le g.size (marked_count g.size w.marks) 0 p le (w.grown.near p h.0 h.1)

    mark_cond : (b : Bool) → ◌≡◌ {A = ℕ} (cond b 1 0) 1 → b ≡ true
    mark_cond true e = refl
    mark_cond false e = absurd (omega arith)

    cond_bit : (b : Bool) → ◌≤◌ (cond b 1 0) 1
    cond_bit true = omega arith
    cond_bit false = omega arith

    pub mark_of_reach : (p : ℕ) → Reach g p → mark_of g p ≡ 1
    unfolding mark_of
    mark_of_reach p r = ap (λ (b : Bool). cond b 1 0) (leads_of_reach p r)

    pub reach_of_mark : (p : ℕ) → p < g.size → mark_of g p ≡ 1 → Reach g p
    unfolding mark_of
    reach_of_mark p l e = leads_reach law g.size 0 p (start refl (omega arith)) (mark_cond (leads g g.size 0 p) e)

    pub mark_bit : (p : ℕ) → mark_of g p ≤ 1
    unfolding mark_of
    mark_bit p = cond_bit (leads g g.size 0 p)
