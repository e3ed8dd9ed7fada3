-- Bits come to a word: what a search under way keeps. Assumes nothing.
use mathlib.Core.Path.{◌≡◌, refl, sym, ap, subst, ◌∙◌}
use mathlib.Core.Logic.{◌⊎◌, inl, inr, ⊎_elim}
use mathlib.Core.Bool.{Bool, true, false, cond, false≢true}
use mathlib.Core.List.{List, [], ◌∷◌}
use Prim.Native.Nat.{ℕ, zero, suc, ◌+◌, ◌*◌, ◌/◌, ◌≤◌, ◌<◌, zero-le}
use native.Mathlib.Nat.{not-suc-le-zero}
use native.Mathlib.Omega.{arith}
use lib.Bits.{bit_or}
use lib.ListN.{length, get_or, set, length-set}
use lib.Seq.{get_or-set_same, get_or-set_other}
use Rattle.common.specs.Limits.{most_words}
use Rattle.common.proofs.Order.{past}
use Rattle.common.proofs.Stores.{at_set, stays}
use Rattle.graph.specs.Graph.{In, Reachable}
use Rattle.graph.specs.Assignment.{without}
use Rattle.graph.specs.Laws.{marked_count}
use Rattle.blocks.specs.declared.search.Seen.{Seen}
use Rattle.blocks.specs.Blocks.{«EVERY», bit_count, has_bit, WordWaits, Joins, grown, there, graph_at, Hits, Done, Under, left}
use Rattle.blocks.proofs.Bits.{or_left, or_right, or_either, or_more, or_small}

-- a list without what passes the test
module _ (t : ℕ → Bool) where
  pub without_in : (q : ℕ) (l : List ℕ) → In q (without t l) → In q l × (t q ≡ false)
  without_in q [] i = absurd i
  without_in q (x ∷ xs) i = go (λ j. without_in q xs j) (t x) refl i
    where
      go : (In q (without t xs) → In q xs × (t q ≡ false)) → (b : Bool) → t x ≡ b
          → In q (cond b (without t xs) (x ∷ without t xs)) → In q (x ∷ xs) × (t q ≡ false)
      go rec true e j = let r = rec j in (inr r.0, r.1)
      go rec false e (inl d) = (inl d, ap t d ∙ e)
      go rec false e (inr j) = let r = rec j in (inr r.0, r.1)

  pub in_without : (q : ℕ) (l : List ℕ) → In q l → t q ≡ false → In q (without t l)
  in_without q [] i f = absurd i
  in_without q (x ∷ xs) i f = go (λ j. in_without q xs j f) (t x) refl i
    where
      go : (In q xs → In q (without t xs)) → (b : Bool) → t x ≡ b → In q (x ∷ xs) → In q (cond b (without t xs) (x ∷ without t xs))
      go rec true e (inl d) = absurd (false≢true (sym f ∙ ap t d ∙ e))
      go rec true e (inr j) = rec j
      go rec false e (inl d) = inl d
      go rec false e (inr j) = inr (rec j)

-- sums over a list
sum_out : (k : ℕ) (m : List ℕ) (q v : ℕ) → k ≤ q → marked_count k (set m q v) ≡ marked_count k m
unfolding marked_count
sum_out zero m q v h = refl
sum_out (suc k) m q v h =
    let a = get_or-set_other m q k v 0 (λ e. omega arith) in
    let b = sum_out k m q v (omega arith) in
    omega arith

pub sum_set : (k : ℕ) (m : List ℕ) (q v : ℕ) → q < k → q < length m → marked_count k (set m q v) + get_or m q 0 ≡ marked_count k m + v
unfolding marked_count
sum_set zero m q v h l = absurd (not-suc-le-zero h)
sum_set (suc k) m q v h l =
    ⊎_elim
    (λ w. let o = sum_out k m q v (omega arith) in let z : get_or m k 0 ≡ get_or m q 0 = ap (λ (y : ℕ). get_or m y 0) w.0 in omega arith)
    (λ w. let o = sum_set k m q v (past (omega arith) w.0) l in omega arith)
    (at_set m q v k l)

pub sum_small : (k : ℕ) (m : List ℕ) → ((p : ℕ) → p < k → get_or m p 0 ≤ «EVERY») → marked_count k m ≤ k * «EVERY»
unfolding marked_count
sum_small zero m b = zero-le
sum_small (suc k) m b = let h = sum_small k m (λ p d. b p (omega arith)) in omega (arith, b k (omega arith))

module _ (ws : List ℕ) (r : ℕ) where
  -- a word's state stays, others grow
  pub hits_on : (unset unset' : List ℕ) (p : ℕ)
      → ((i : ℕ) → has_bit (get_or unset p 0) i ≡ true → has_bit (get_or unset' p 0) i ≡ true)
      → Hits ws r unset p → Hits ws r unset' p
  hits_on unset unset' p grows h = record { bit = h.bit; few = h.few; read = h.read; unset = grows h.bit h.unset }

  pub done_on :
      {unset unset' : List ℕ} {seen : Seen} {p : ℕ} → get_or unset' p 0 ≡ get_or unset p 0
      → ((x i : ℕ) → has_bit (get_or unset x 0) i ≡ true → has_bit (get_or unset' x 0) i ≡ true) → Done ws r unset seen p → Done ws r unset' seen p
  done_on {unset} {unset'} {seen} {p} e grows d =
      record {
        closed = λ q j i h b f. grows q i (d.closed q j i h (ap (λ (x : ℕ). has_bit x i) (sym e) ∙ b) f);
        noted = λ h. d.noted (hits_on unset' unset p (λ i b. ap (λ (x : ℕ). has_bit x i) (sym e) ∙ b) h);
        sees = λ i b. d.sees i (ap (λ (x : ℕ). has_bit x i) (sym e) ∙ b);
      }

  -- after bits came to word q
  pub record Joined (unset waiting unset' waiting' : List ℕ) (q more : ℕ) : Type 0 where
    pub has : (i : ℕ) → has_bit more i ≡ true → has_bit (get_or unset' q 0) i ≡ true
    pub grows : (x i : ℕ) → has_bit (get_or unset x 0) i ≡ true → has_bit (get_or unset' x 0) i ≡ true
    pub raised : (x : ℕ) → WordWaits waiting' x ⊎ (get_or unset' x 0 ≡ get_or unset x 0)
    pub keeps : (x : ℕ) → WordWaits waiting x → WordWaits waiting' x
    pub less : left ws r unset' waiting' ≤ left ws r unset waiting

  module _ {hand : ℕ} {unset waiting pages : List ℕ} {limit : ℕ} {seen : Seen} {q more : ℕ} (s : Under ws r hand unset waiting pages limit seen)
      (inside : q < length ws) (few : length ws ≤ most_words) (small : more ≤ «EVERY»)
      (comes : (i : ℕ) → i < bit_count → has_bit more i ≡ true → Reachable (graph_at ws r i) q) where
    abbrev v : ℕ
    v = bit_or (get_or unset q 0) more

    abbrev unset₁ : List ℕ
    unset₁ = set unset q v

    abbrev waiting₁ : List ℕ
    waiting₁ = set waiting q 1

    in_unset : q < length unset
    in_unset = omega (arith, s.unset_long)

    in_waiting : q < length waiting
    in_waiting = omega (arith, s.waiting_long)

    in_pages : q / 128 < length pages
    in_pages = omega (arith, s.pages_same)

    grows_to : (x i : ℕ) → has_bit (get_or unset x 0) i ≡ true → has_bit (get_or unset₁ x 0) i ≡ true
    grows_to x i b =
        ⊎_elim
        (λ w. ap (λ (y : ℕ). has_bit y i) w.1 ∙ or_left (get_or unset q 0) more i (ap (λ (y : ℕ). has_bit (get_or unset y 0) i) (sym w.0) ∙ b))
        (λ w. ap (λ (y : ℕ). has_bit y i) w.1 ∙ b)
        (at_set unset q v x in_unset)

    new : (bit_or (get_or unset q 0) more ≡ get_or unset q 0 → ⊥) → get_or unset q 0 < v
    new n = past (or_more (get_or unset q 0) more) n

    wide_to : (p : ℕ) → p < length ws → get_or unset₁ p 0 ≤ «EVERY»
    wide_to p h =
        ⊎_elim
        (λ w. subst (λ (y : ℕ). y ≤ «EVERY») (sym w.1) (or_small (get_or unset q 0) more (s.wide q inside) small))
        (λ w. subst (λ (y : ℕ). y ≤ «EVERY») (sym w.1) (s.wide p h))
        (at_set unset q v p in_unset)

    under_to : Under ws r hand unset₁ waiting₁ (set pages (q / 128) 1) limit seen
    under_to =
        record {
          unset_long = simp length-set s.unset_long;
          waiting_long = simp length-set s.waiting_long;
          pages_same = simp length-set s.pages_same;
          wide = wide_to;
          first = λ i h. grows_to 0 i (s.first i h);
          sound = λ p h i l b.
              ⊎_elim
              (λ w.
              subst (λ (y : ℕ). Reachable (graph_at ws r i) y) (sym w.0)
              (⊎_elim (λ a. s.sound q inside i l a) (λ a. comes i l a) (or_either (get_or unset q 0) more i (ap (λ (y : ℕ). has_bit y i) (sym w.1) ∙ b))))
              (λ w. s.sound p h i l (ap (λ (y : ℕ). has_bit y i) (sym w.1) ∙ b))
              (at_set unset q v p in_unset);
          marks = λ p h.
              ⊎_elim
              (λ w. omega (arith, w.1))
              (λ w. omega (arith, w.1, s.marks p h))
              (at_set waiting q 1 p in_waiting);
          paged = λ p h b.
              ⊎_elim
              (λ w. ap (λ (y : ℕ). get_or (set pages (q / 128) 1) (y / 128) 0) w.0 ∙ get_or-set_same pages (q / 128) 1 0 in_pages)
              (λ w. stays pages (q / 128) 1 (p / 128) in_pages (s.paged p h (sym w.1 ∙ b)))
              (at_set waiting q 1 p in_waiting);
          limit_few = s.limit_few;
          least_few = s.least_few;
          least_hits = λ h. hits_on unset unset₁ seen.least (λ i b. grows_to seen.least i b) (s.least_hits h);
          next_from = s.next_from;
          todo = λ p h n.
              ⊎_elim
              (λ w. inl (stays waiting q 1 p in_waiting w))
              (λ d.
              ⊎_elim
              (λ w. inl (ap (λ (y : ℕ). get_or waiting₁ y 0) w.0 ∙ get_or-set_same waiting q 1 0 in_waiting))
              (λ w. inr (done_on w.1 grows_to d))
              (at_set unset q v p in_unset))
              (s.todo p h n);
        }

    less_to : (bit_or (get_or unset q 0) more ≡ get_or unset q 0 → ⊥) → left ws r unset₁ waiting₁ ≤ left ws r unset waiting
    unfolding left
    less_to n =
        let a = sum_set (length ws) unset q v inside in_unset in
        let b = sum_set (length ws) waiting q 1 inside in_waiting in
        let d = new n in
        let f = sum_small (length ws) unset₁ wide_to in
        omega arith

    joined_to : (bit_or (get_or unset q 0) more ≡ get_or unset q 0 → ⊥) → Joined unset waiting unset₁ waiting₁ q more
    joined_to n =
        record {
          has = λ i b. ap (λ (y : ℕ). has_bit y i) (get_or-set_same unset q v 0 in_unset) ∙ or_right (get_or unset q 0) more i b;
          grows = grows_to;
          raised = λ x.
              ⊎_elim
              (λ w. inl (ap (λ (y : ℕ). get_or waiting₁ y 0) w.0 ∙ get_or-set_same waiting q 1 0 in_waiting))
              (λ w. inr w.1)
              (at_set unset q v x in_unset);
          keeps = λ x w. stays waiting q 1 x in_waiting w;
          less = less_to n;
        }

    pub join_under :
        {unset' waiting' pages' : List ℕ} → Joins unset waiting pages q more unset' waiting' pages'
        → Under ws r hand unset' waiting' pages' limit seen × Joined unset waiting unset' waiting' q more
    join_under (grown n) = (under_to, joined_to n)
    join_under (there e) = (
      s,
      record {
        has = λ i b. ap (λ (y : ℕ). has_bit y i) (sym e) ∙ or_right (get_or unset q 0) more i b;
        grows = λ x i b. b;
        raised = λ x. inr refl;
        keeps = λ x w. w;
        less = omega arith;
      },
    )
