-- The moves of a search, over any graph. Assumes nothing.
use mathlib.Core.Path.{◌≡◌, sym, ap, subst, ◌∙◌}
use mathlib.Core.Logic.{◌⊎◌, inl, inr, ⊎_elim}
use mathlib.Core.List.{List, [], ◌∷◌}
use Prim.Native.Nat.{ℕ, ◌+◌, ◌≤◌, ◌<◌, zero-le}
use native.Mathlib.Nat.{not-suc-le-zero}
use native.Mathlib.Omega.{arith}
use lib.ListN.{length, get_or, set, length-set}
use lib.Seq.{get_or-set_same, get_or-set_other}
use Rattle.common.proofs.Order.{same_or_not, past}
use Rattle.common.proofs.Stores.{at_set, stays}
use Rattle.graph.specs.Graph.{Graph, In, Lawful, Reachable}
use Rattle.graph.specs.Laws.{marked_count}
use Rattle.graph.proofs.Laws.{laws}
use Rattle.sweep.specs.SearchInvariants.{Closed, Room, Marking}

-- from m, qu, t to m', qu', t' the words of l were marked, and those among them that were not yet were queued
pub record Pushed (g : Graph) (hand m qu : List ℕ) (h t : ℕ) (l : List ℕ) (m' qu' : List ℕ) (t' : ℕ) : Type 0 where
  pub under : Marking g hand m' qu' h t'
  pub keeps : (x : ℕ) → get_or m x 0 ≡ 1 → get_or m' x 0 ≡ 1
  pub marked : (q : ℕ) → In q l → get_or m' q 0 ≡ 1

pub in_one : {x q : ℕ} → In x (q ∷ []) → x ≡ q
in_one {x} {q} i = ⊎_elim (λ e. e) (λ n. absurd n) i

module _ (g : Graph) where
  -- a word that is not marked yet is marked: the count, and what else it leaves of the marks
  module _ (m qu : List ℕ) (t : ℕ) (r : Room g m qu t) where
    pub tail_le : t ≤ g.size
    tail_le = omega (arith, laws.counting.few g.size m r.bits, r.count)

    module _ (q : ℕ) (l : q < g.size) (new : get_or m q 0 ≡ 0) where
      in_m : q < length m
      in_m = omega (arith, r.m_long)

      pub count_set : marked_count g.size (set m q 1) ≡ marked_count g.size m + 1
      count_set = laws.counting.one_more g.size m q l in_m new

      pub bits_set : (p : ℕ) → p < g.size → get_or (set m q 1) p 0 ≤ 1
      bits_set p h = ⊎_elim (λ w. omega arith) (λ w. omega (arith, r.bits p h)) (at_set m q 1 p in_m)

      -- there is room in the queue for it
      pub tail_lt : t < g.size
      tail_lt = omega (arith, laws.counting.few g.size (set m q 1) bits_set, count_set, r.count)

      pub room_hold : Room g (set m q 1) qu t
      room_hold = record { m_long = simp length-set r.m_long; qu_long = r.qu_long; bits = bits_set; count = omega (arith, count_set, r.count) }

      pub room_push : Room g (set m q 1) (set qu t q) (t + 1)
      room_push =
          record {
            m_long = simp length-set r.m_long;
            qu_long = simp length-set r.qu_long;
            bits = bits_set;
            count = omega (arith, count_set, r.count);
          }

  pub marking_none : (m qu : List ℕ) → g.size ≤ length m → g.size ≤ length qu → ((p : ℕ) → p < g.size → get_or m p 0 ≡ 0) → Marking g [] m qu 0 0
  marking_none m qu lm lq z = record {
    room = record { m_long = lm; qu_long = lq; bits = λ p h. omega (arith, z p h); count = zero-le };
    order = zero-le;
    sound = λ p h e. absurd (omega (arith, z p h));
    queued = λ i h. absurd (not-suc-le-zero h);
    held = λ p i. absurd i;
    todo = λ p h e. absurd (omega (arith, z p h));
  }

  module _ (hand m qu : List ℕ) (h t : ℕ) (k : Marking g hand m qu h t) where
    -- the words in hand are others, and those that are not any more are done
    pub marking_hand : (hand' : List ℕ) → ((x : ℕ) → In x hand' → In x hand) → ((x : ℕ) → In x hand → Closed g m x ⊎ In x hand') → Marking g hand' m qu h t
    marking_hand hand' sub done = record {
      room = k.room;
      order = k.order;
      sound = k.sound;
      queued = k.queued;
      held = λ x i. k.held x (sub x i);
      todo = λ p l e. ⊎_elim (λ u. inl u) (λ u. inr (⊎_elim (λ c. inl c) (λ i. done p i) u)) (k.todo p l e);
    }

    -- the word at the queue's head is taken in hand
    pub marking_take : h < t → Marking g (get_or qu h 0 ∷ hand) m qu (h + 1) t
    marking_take l = record {
      room = k.room;
      order = omega arith;
      sound = k.sound;
      queued = k.queued;
      held = λ x i. ⊎_elim (λ e. subst (λ (y : ℕ). (y < g.size) × (get_or m y 0 ≡ 1)) (sym e) (k.queued h l)) (λ j. k.held x j) i;
      todo = λ p lp e. ⊎_elim
          (λ u. ⊎_elim
          (λ d. inr (inr (inl (sym (ap (λ (y : ℕ). get_or qu y 0) (sym d) ∙ u.3)))))
          (λ n. inl (u.0, omega (arith, past u.1 n), u.2, u.3))
          (same_or_not u.0 h))
          (λ u. inr (⊎_elim (λ c. inl c) (λ i. inr (inr i)) u))
          (k.todo p lp e);
    }

    module _ (q : ℕ) (lq : q < g.size) (new : get_or m q 0 ≡ 0) (r : Reachable g q) where
      inside : q < length m
      inside = omega (arith, k.room.m_long)

      sound_set : (p : ℕ) → p < g.size → get_or (set m q 1) p 0 ≡ 1 → Reachable g p
      sound_set p l e = ⊎_elim (λ w. subst (λ (x : ℕ). Reachable g x) (sym w.0) r) (λ w. k.sound p l (sym w.1 ∙ e)) (at_set m q 1 p inside)

      closed_set : (x : ℕ) → Closed g m x → Closed g (set m q 1) x
      closed_set x c s i = stays m q 1 s inside (c s i)

      held_set : (x : ℕ) → In x hand → (x < g.size) × (get_or (set m q 1) x 0 ≡ 1)
      held_set x i = let o = k.held x i in (o.0, stays m q 1 x inside o.1)

      -- a new word is marked and queued
      pub marking_push : Marking g hand (set m q 1) (set qu t q) h (t + 1)
      marking_push = record {
        room = room_push m qu t k.room q lq new;
        order = omega (arith, k.order);
        sound = sound_set;
        queued = λ i l. ⊎_elim
            (λ w. (omega arith, ap (λ (x : ℕ). get_or (set m q 1) x 0) w.1 ∙ get_or-set_same m q 1 0 inside))
            (λ w.
            let o = k.queued i (past (omega arith) (λ e. w.0 (sym e))) in (
              omega arith,
              ap (λ (x : ℕ). get_or (set m q 1) x 0) w.1 ∙ stays m q 1 (get_or qu i 0) inside o.1,
            ))
            (at_set qu t q i in_qu);
        held = held_set;
        todo = λ p l e. ⊎_elim
            (λ w. inl (t, k.order, omega arith, get_or-set_same qu t q 0 in_qu ∙ sym w.0))
            (λ w. ⊎_elim
            (λ u. inl (u.0, u.1, omega arith, get_or-set_other qu t u.0 q 0 (λ b. omega arith) ∙ u.3))
            (λ u. inr (⊎_elim (λ c. inl (closed_set p c)) (λ i. inr i) u))
            (k.todo p l (sym w.1 ∙ e)))
            (at_set m q 1 p inside);
      }
        where
          in_qu : t < length qu
          in_qu = omega (arith, k.room.qu_long, tail_lt m qu t k.room q lq new)

      -- a new word is marked and taken in hand
      pub marking_hold : Marking g (q ∷ hand) (set m q 1) qu h t
      marking_hold = record {
        room = room_hold m qu t k.room q lq new;
        order = k.order;
        sound = sound_set;
        queued = λ i l. let o = k.queued i l in (o.0, stays m q 1 (get_or qu i 0) inside o.1);
        held = λ x i. ⊎_elim (λ e. (omega arith, ap (λ (y : ℕ). get_or (set m q 1) y 0) e ∙ get_or-set_same m q 1 0 inside)) (λ j. held_set x j) i;
        todo = λ p l e. ⊎_elim
            (λ w. inr (inr (inl w.0)))
            (λ w. ⊎_elim (λ u. inl u) (λ u. inr (⊎_elim (λ c. inl (closed_set p c)) (λ i. inr (inr i)) u)) (k.todo p l (sym w.1 ∙ e)))
            (at_set m q 1 p inside);
      }

    pub pushed_old : (q : ℕ) → get_or m q 0 ≡ 1 → Pushed g hand m qu h t (q ∷ []) m qu t
    pushed_old q o = record { under = k; keeps = λ x e. e; marked = λ x i. ap (λ (y : ℕ). get_or m y 0) (in_one i) ∙ o }

    pub pushed_new : (q : ℕ) → q < g.size → get_or m q 0 ≡ 0 → Reachable g q → Pushed g hand m qu h t (q ∷ []) (set m q 1) (set qu t q) (t + 1)
    pushed_new q lq new r =
        record {
          under = marking_push q lq new r;
          keeps = λ x e. stays m q 1 x (omega (arith, k.room.m_long)) e;
          marked = λ x i. ap (λ (y : ℕ). get_or (set m q 1) y 0) (in_one i) ∙ get_or-set_same m q 1 0 (omega (arith, k.room.m_long));
        }

  -- a search with nothing to do has marked every word that is reachable
  pub marking_done : Lawful g → (m qu : List ℕ) (h t : ℕ) → Marking g [] m qu h t → t ≤ h → get_or m 0 0 ≡ 1 → (p : ℕ) → Reachable g p → get_or m p 0 ≡ 1
  marking_done law m qu h t k d root =
      (laws.reaching g law).induction (λ (p : ℕ). get_or m p 0 ≡ 1) root
      (λ p q r e i. ⊎_elim (λ u. absurd (omega (arith, u.1, u.2)))
      (λ u. ⊎_elim (λ c. c q i) (λ n. absurd n) u) (k.todo p ((laws.reaching g law).below p r) e))
