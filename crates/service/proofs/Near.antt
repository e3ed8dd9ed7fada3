-- The pass over the distances: one word's from those above it, and all of them. Assumes nothing.
use mathlib.Core.Path.{◌≡◌, refl, sym, ap, subst, ◌∙◌}
use mathlib.Core.Logic.{inl, inr, ⊎_elim}
use mathlib.Core.Bool.{true, false, cond}
use mathlib.Core.List.{List}
use Prim.Native.Nat.{ℕ, ◌+◌, ◌-◌, ◌*◌, ◌/◌, ◌%◌, ◌≤◌, ◌<◌, min}
use native.Mathlib.Omega.{arith}
use borrow.Author.Tests.{lt-ltb, le-ltb, lt-leb, leb-true}
use lib.ListN.{length, get_or, set, get_or-eq_default}
use Rattle.common.specs.Limits.{most_words}
use Rattle.common.proofs.Order.{split, same_or_not}
use Rattle.common.proofs.Stores.{at_set}
use Rattle.graph.specs.Graph.{In}
use Rattle.graph.specs.Distance.{ends_by, least_of, nearer, distance_of}
use Rattle.graph.proofs.Distance.{distances}
use Rattle.sweep.specs.declared.edges.Successors.{Successors}
use Rattle.sweep.specs.declared.edges.Successors.TheVariants.{One, Two}
use Rattle.sweep.specs.Steps.{list_of, ordered, serves_of}
use Rattle.sweep.specs.Entries.{«TARGETS», «ENTRIES», entry_at, entries, graph_in}
use Rattle.sweep.specs.Laws.{Laws}
use Rattle.sweep.proofs.Laws.{laws}
use Rattle.service.specs.Pass.{noted, Nearing, Holds}

-- the laws of settled entries
abbrev pub entering : Laws
entering = laws

pub going : (p q : ℕ) → p < q → serves_of p q ≡ false
unfolding serves_of
going p q h = lt-leb q p h

behind : (p q : ℕ) → serves_of p q ≡ true → q ≤ p
unfolding serves_of
behind p q e = leb-true q p e

-- two words in order
module _ (q r : ℕ) where
  pub in_order_one : r ≤ q → q ≤ r → ordered q r ≡ One q
  unfolding ordered
  in_order_one a b = simp (le-ltb q r a, le-ltb r q b)

  pub in_order_up : q < r → ordered q r ≡ Two q r
  unfolding ordered
  in_order_up a = simp (lt-ltb q r a)

  pub in_order_down : r < q → ordered q r ≡ Two r q
  unfolding ordered
  in_order_down a = let b : r ≤ q = omega arith in simp (le-ltb q r b, lt-ltb r q a)

  ordered_has : In r (list_of (ordered q r))
  ordered_has =
      ⊎_elim
      (λ a. ⊎_elim
      (λ b. let z : r ≡ q = omega arith in subst (λ (s : Successors). In r (list_of s)) (sym (in_order_one a b)) (inl z))
      (λ b. subst (λ (s : Successors). In r (list_of s)) (sym (in_order_down b)) (inl refl))
      (split q r))
      (λ a. subst (λ (s : Successors). In r (list_of s)) (sym (in_order_up a)) (inr (inl refl)))
      (split r q)

-- the distance of word p by its entry
module _ (l : List ℕ) (p : ℕ) where
  abbrev entry : ℕ
  entry = get_or l p 0 % «ENTRIES»

  abbrev target : ℕ
  target = entry % «TARGETS»

  abbrev Near : ℕ → Type 0
  Near r = r + 1 ≡ nearer (graph_in (entries l)) (noted l) p

  abbrev by : Successors → ℕ
  by s = 1 + cond (ends_by (graph_in (entries l)) p (list_of s)) 0 (least_of (noted l) (list_of s))

  -- what the steps s give, and the entry says s
  by_entry : (r : ℕ) {s : Successors} → entry_at entry p ≡ s → r + 1 ≡ by s → Near r
  by_entry r {s} h e = e ∙ ap by (sym h) ∙ ap (λ (x : ℕ). by (entry_at x p)) (sym (entering.entry_is l p))

  pub near_none : entry / «TARGETS» ≡ 0 → Near 0
  near_none k =
      ⊎_elim (λ e. by_entry 0 ((entering.kinds entry p).returns k e) refl) (λ n. by_entry 0 ((entering.kinds entry p).invalid k n) refl) (same_or_not target 1)

  module _ {a : ℕ} (next : a ≡ get_or l (p + 1) 0 / «ENTRIES») where
    pub near_next : entry / «TARGETS» ≡ 1 → Near (a + 1)
    near_next k = by_entry (a + 1) ((entering.kinds entry p).next k) (rw (going p (p + 1) (omega arith)) (omega arith))

    pub near_both :
        (entry / «TARGETS» ≡ 0 → ⊥) → (entry / «TARGETS» ≡ 1 → ⊥) → (entry / «TARGETS» ≡ 2 → ⊥) → serves_of p target ≡ false
        → (r : ℕ) → r ≡ min a (get_or l target 0 / «ENTRIES») → Near (r + 1)
    near_both x y z e r h = ⊎_elim same above (same_or_not (p + 1) target)
      where
        said : entry_at entry p ≡ ordered (p + 1) target
        said = (entering.kinds entry p).both x y z

        after : p < target
        after = laws.forward p target e

        same : p + 1 ≡ target → Near (r + 1)
        same q =
            let o : ordered (p + 1) target ≡ One (p + 1) = in_order_one (p + 1) target (omega arith) (omega arith) in
            let f : get_or l (p + 1) 0 ≡ get_or l target 0 = ap (λ (i : ℕ). get_or l i 0) q in
            by_entry (r + 1) (said ∙ o) (rw (going p (p + 1) (omega arith)) (omega (arith, f)))

        above : (p + 1 ≡ target → ⊥) → Near (r + 1)
        above q = by_entry (r + 1) (said ∙ in_order_up (p + 1) target (omega (arith, after))) (rw (going p (p + 1) (omega arith), e) (omega arith))

  -- a target that serves
  pub near_serves : (entry / «TARGETS» ≡ 0 → ⊥) → (entry / «TARGETS» ≡ 1 → ⊥) → serves_of p target ≡ true → Near 0
  near_serves x y e =
      ⊎_elim
      (λ k. by_entry 0 ((entering.kinds entry p).target k) (rw e))
      (λ z. let b = behind p target e in by_entry 0 ((entering.kinds entry p).both x y z ∙ in_order_down (p + 1) target (omega arith)) (rw e))
      (same_or_not (entry / «TARGETS») 2)

  pub near_target : entry / «TARGETS» ≡ 2 → serves_of p target ≡ false → Near (get_or l target 0 / «ENTRIES» + 1)
  near_target k e = by_entry (get_or l target 0 / «ENTRIES» + 1) ((entering.kinds entry p).target k) (rw e (omega arith))

-- a target is an element
module _ (l : List ℕ) (p : ℕ) (steps : (q : ℕ) → In q (list_of (entry_at (entry l p) p)) → q < length l) where
  pub target-in : (entry l p / «TARGETS» ≡ 0 → ⊥) → (entry l p / «TARGETS» ≡ 1 → ⊥) → target l p < length l
  target-in x y = steps (target l p) (⊎_elim one both (same_or_not (entry l p / «TARGETS») 2))
    where
      one : entry l p / «TARGETS» ≡ 2 → In (target l p) (list_of (entry_at (entry l p) p))
      one k = subst (λ (s : Successors). In (target l p) (list_of s)) (sym ((entering.kinds (entry l p) p).target k)) (inl refl)

      both : (entry l p / «TARGETS» ≡ 2 → ⊥) → In (target l p) (list_of (entry_at (entry l p) p))
      both z = subst (λ (s : Successors). In (target l p) (list_of s)) (sym ((entering.kinds (entry l p) p).both x y z)) (ordered_has (p + 1) (target l p))

-- the distances of the words from k on are noted in l, which was l₀, and a is that of word k
pub record Noting (l₀ l : List ℕ) (k a : ℕ) : Type 0 where
  pub holds : Holds l₀
  pub kept : entries l ≡ entries l₀
  pub upto : k ≤ length l₀
  pub from : (q : ℕ) → k ≤ q → q < length l₀ → noted l q ≡ distance_of (graph_in (entries l₀)) q
  pub next : a ≡ get_or l k 0 / «ENTRIES»

pub same_length : (l₀ l : List ℕ) → entries l ≡ entries l₀ → length l ≡ length l₀
same_length l₀ l e = sym (entering.as_long l) ∙ ap length e ∙ entering.as_long l₀

module _ (l₀ : List ℕ) where
  -- a turn's word is the one below
  pub noting_turn : {l : List ℕ} {i a : ℕ} → Noting l₀ l i a → 0 < i → Noting l₀ l (i - 1 + 1) a
  noting_turn {l} {i} {a} f h = let e : i ≡ i - 1 + 1 = omega arith in subst (λ (x : ℕ). Noting l₀ l x a) e f

  module _ {l : List ℕ} (p : ℕ) {a : ℕ} (f : Noting l₀ l (p + 1) a) where
    long : length l ≡ length l₀
    long = same_length l₀ l f.kept

    inside : p < length l
    inside = omega (arith, f.upto, long)

    low : (q : ℕ) → p < q → get_or l q 0 / «ENTRIES» < most_words
    low q h = ⊎_elim out in_words (split (length l) q)
      where
        out : length l ≤ q → get_or l q 0 / «ENTRIES» < most_words
        out o = let z : get_or l q 0 ≡ 0 = get_or-eq_default l 0 o in omega (arith, ap (λ (x : ℕ). x / «ENTRIES») z)

        in_words : q < length l → get_or l q 0 / «ENTRIES» < most_words
        in_words b =
            let s = entering.as_long l₀ in
            let d = (distances (graph_in (entries l₀)) f.holds.law).few q (omega (arith, long)) in
            omega (arith, f.from q (omega arith) (omega (arith, long)), d, f.holds.few)

    pub noting_asks : Nearing l p a
    noting_asks =
        record {
          in_l = inside;
          steps =
              λ q i.
              let e : get_or l p 0 % «ENTRIES» ≡ get_or (entries l₀) p 0 = sym (entering.entry_is l p) ∙ ap (λ (x : List ℕ). get_or x p 0) f.kept in
              let s = entering.as_long l₀ in
              let b = f.holds.law.inside p q (subst (λ (x : ℕ). In q (list_of (entry_at x p))) e i) in
              omega (arith, long);
          next = f.next;
          low = low;
        }

    there : nearer (graph_in (entries l)) (noted l) p ≡ nearer (graph_in (entries l₀)) (noted l) p
    there = ap (λ (es : List ℕ). nearer (graph_in es) (noted l) p) f.kept

    turn : distance_of (graph_in (entries l₀)) p ≡ nearer (graph_in (entries l₀)) (noted l) p
    turn =
        let s = entering.as_long l₀ in
        (distances (graph_in (entries l₀)) f.holds.law).turn (noted l) p (omega (arith, f.upto)) (λ q x y. f.from q (omega arith) (omega arith))

    -- what is noted has room above an entry
    pub noting_low : (v : ℕ) → v + 1 ≡ nearer (graph_in (entries l)) (noted l) p → v < most_words
    noting_low v e =
        let s = entering.as_long l₀ in
        let d = (distances (graph_in (entries l₀)) f.holds.law).few p (omega (arith, f.upto)) in
        let t = e ∙ there ∙ sym turn in
        omega (arith, d, t, f.holds.few)

    pub noting_more : (v : ℕ) → v + 1 ≡ nearer (graph_in (entries l)) (noted l) p → Noting l₀ (set l p (get_or l p 0 % «ENTRIES» + v * «ENTRIES»)) p v
    noting_more v e =
        record {
          holds = f.holds;
          kept = entering.kept l p v ∙ f.kept;
          upto = omega (arith, f.upto);
          from =
              λ q x y.
              ⊎_elim
              (λ w. ap (λ (i : ℕ). i / «ENTRIES» + 1) w.1 ∙ high ∙ e ∙ there ∙ sym turn ∙ ap (distance_of (graph_in (entries l₀))) (sym w.0))
              (λ w. ap (λ (i : ℕ). i / «ENTRIES» + 1) w.1 ∙ f.from q (above q x w.0) y)
              (at_set l p stored q inside);
          next = here;
        }
      where
        stored : ℕ
        stored = get_or l p 0 % «ENTRIES» + v * «ENTRIES»

        high : stored / «ENTRIES» + 1 ≡ v + 1
        high = omega arith

        here : v ≡ get_or (set l p stored) p 0 / «ENTRIES»
        here = ⊎_elim (λ w. let h : get_or (set l p stored) p 0 ≡ stored = w.1 in omega (arith, h)) (λ w. absurd (w.0 refl)) (at_set l p stored p inside)

        above : (q : ℕ) → p ≤ q → (q ≡ p → ⊥) → p + 1 ≤ q
        above q x n = omega arith
