-- The search in the terms of the code: a turn, and the loop. Assumes nothing.
use mathlib.Core.Path.{◌≡◌, refl, sym, ap, subst, ◌∙◌}
use mathlib.Core.Logic.{◌⊎◌, inl, inr, ⊎_elim}
use Rattle.std.specs.Prelude.{Option, None, Some}
use mathlib.Core.List.{List, [], ◌∷◌}
use Prim.Native.Nat.{ℕ, zero, ◌+◌, ◌-◌, ◌≤◌, ◌<◌}
use native.Mathlib.Nat.{le_refl}
use native.Mathlib.Omega.{arith}
use lib.ListN.{length, get_or, set, replicate, length-replicate, get_or-replicate}
use lib.Seq.{get_or-set_same}
use Rattle.common.specs.Limits.{most_words}
use Rattle.common.proofs.Order.{one_of, bit}
use Rattle.common.proofs.Stores.{stays}
use Rattle.graph.specs.Graph.{Graph, In, Lawful, Reachable}
use Rattle.graph.specs.Marks.{mark_of}
use Rattle.graph.specs.Laws.{marked_count}
use Rattle.graph.proofs.Laws.{laws}
use Rattle.sweep.specs.SearchInvariants.{Closed, Room, Marking, in_hand, hands, Reaches, fresh, seen, Turned, Queued, entered, there, PushAsks, Visiting, Visited}
use Rattle.sweep.proofs.Moves.{in_one, Pushed, count_set, tail_lt, tail_le, room_push, pushed_old}
use Rattle.sweep.proofs.Moves.{pushed_new, marking_none, marking_take, marking_hand, marking_hold}
use Rattle.sweep.proofs.Moves.{marking_done}

-- what a push leaves, whatever the search
pub record Kept (g : Graph) (m qu : List ℕ) (t : ℕ) (m' qu' : List ℕ) (t' : ℕ) : Type 0 where
  pub room : Room g m' qu' t'
  pub keeps : (x : ℕ) → get_or m x 0 ≡ 1 → get_or m' x 0 ≡ 1
  pub grows : marked_count g.size m ≤ marked_count g.size m'

module _ (g : Graph) (m qu : List ℕ) (t : ℕ) (r : Room g m qu t) (q : ℕ) (l : q < g.size) where
  pub push_asks : g.size ≤ most_words → PushAsks m qu t q
  push_asks s = record { in_m = omega (arith, r.m_long); in_l = λ e. omega (arith, r.qu_long, tail_lt g m qu t r q l e); few = omega arith }

  pub push_keeps : {m' qu' : List ℕ} {t' : ℕ} → Queued m qu t q m' qu' t' → Kept g m qu t m' qu' t'
  push_keeps (entered h) =
      record {
        room = room_push g m qu t r q l h;
        keeps = λ x o. stays m q 1 x (omega (arith, r.m_long)) o;
        grows = omega (arith, count_set g m qu t r q l h);
      }
  push_keeps (there h) = record { room = r; keeps = λ x o. o; grows = le_refl (marked_count g.size m) }

  pub push_gives : {m' qu' : List ℕ} {t' : ℕ} → Queued m qu t q m' qu' t' → (hand : List ℕ) (h : ℕ)
      → Marking g hand m qu h t → Reachable g q → Pushed g hand m qu h t (q ∷ []) m' qu' t'
  push_gives (entered e) hand h k w = pushed_new g hand m qu h t k q l e w
  push_gives (there e) hand h k w = pushed_old g hand m qu h t k q (one_of (r.bits q l) e)

-- a and b are the successors of p, in either order
pub record Both (g : Graph) (p a b : ℕ) : Type 0 where
  pub one : In a (g.successors p)
  pub other : In b (g.successors p)
  pub only : (q : ℕ) → In q (g.successors p) → (q ≡ a) ⊎ (q ≡ b)

pub other_way : {g : Graph} {p a b : ℕ} → Both g p a b → Both g p b a
other_way e = record { one = e.other; other = e.one; only = λ q i. ⊎_elim inr inl (e.only q i) }

-- a visit of word p
module _ (g : Graph) (law : Lawful g) (m qu : List ℕ) (p t : ℕ) (r : Room g m qu t) where
  successor_reached : (hand : List ℕ) (h : ℕ) → Marking g (p ∷ hand) m qu h t → (q : ℕ) → In q (g.successors p) → Reachable g q
  successor_reached hand h k q i = let o = k.held p (inl refl) in (laws.reaching g law).next p q (k.sound p o.0 o.1) i

  -- the word in hand is done with
  done : (m' qu' : List ℕ) (h t' : ℕ) → Marking g (p ∷ []) m' qu' h t' → Closed g m' p → Marking g [] m' qu' h t'
  done m' qu' h t' k c = marking_hand g (p ∷ []) m' qu' h t' k [] (λ x i. absurd i) (λ x i. inl (subst (λ (y : ℕ). Closed g m' y) (sym (in_one i)) c))

  -- and another is in hand
  swap : (m' qu' : List ℕ) (h t' a : ℕ) → Marking g (a ∷ p ∷ []) m' qu' h t' → Closed g m' p → Marking g (a ∷ []) m' qu' h t'
  swap m' qu' h t' a k c =
      marking_hand g (a ∷ p ∷ []) m' qu' h t' k (a ∷ []) (λ x i. inl (in_one i))
      (λ x i. ⊎_elim (λ e. inr (inl e)) (λ j. inl (subst (λ (y : ℕ). Closed g m' y) (sym (in_one j)) c)) i)

  closed_by : (m' l : List ℕ) → l ≡ g.successors p → ((q : ℕ) → In q l → get_or m' q 0 ≡ 1) → Closed g m' p
  closed_by m' l e f q i = f q (subst (λ (x : List ℕ). In q x) (sym e) i)

  module _ {a : ℕ} {l : List ℕ} (e : a ∷ l ≡ g.successors p) where
    pub first_in : a < g.size
    first_in = law.inside p a (subst (λ (x : List ℕ). In a x) e (inl refl))

    first_reached : (h : ℕ) → Marking g (p ∷ []) m qu h t → Reachable g a
    first_reached h k = successor_reached [] h k a (subst (λ (x : List ℕ). In a x) e (inl refl))

  -- no successor
  pub turned_none : [] ≡ g.successors p → Turned g m qu p t m qu None t
  turned_none e =
      record {
        under = λ h k. done m qu h t k (closed_by m [] e (λ q i. absurd i));
        keeps = λ x o. o;
        grows = omega arith;
      }

  -- one successor
  module _ {a : ℕ} (e : a ∷ [] ≡ g.successors p) where
    turned_old : (get_or m a 0 ≡ 0 → ⊥) → Turned g m qu p t m qu None t
    turned_old n =
        record {
          under = λ h k. done m qu h t k (closed_by m (a ∷ []) e (λ q i. ap (λ (y : ℕ). get_or m y 0) (in_one i) ∙ one_of (r.bits a (first_in e)) n));
          keeps = λ x o. o;
          grows = omega arith;
        }

    turned_new : get_or m a 0 ≡ 0 → Turned g m qu p t (set m a 1) qu (Some a) t
    turned_new new =
        record {
          under = λ h k. swap (set m a 1) qu h t a (marking_hold g (p ∷ []) m qu h t k a (first_in e) new (first_reached e h k))
              (closed_by (set m a 1) (a ∷ []) e (λ q i. ap (λ (y : ℕ). get_or (set m a 1) y 0) (in_one i) ∙ get_or-set_same m a 1 0 in_m));
          keeps = λ x o. stays m a 1 x in_m o;
          grows = omega (arith, count_set g m qu t r a (first_in e) new);
        }
      where
        in_m : a < length m
        in_m = omega (arith, r.m_long, first_in e)

    pub turned_one : {m' : List ℕ} {hand : Option ℕ} → Reaches m a m' hand → Turned g m qu p t m' qu hand t
    turned_one (fresh h) = turned_new h
    turned_one (seen h) = turned_old h

  -- two successors: b is pushed first, whichever is the lower
  module _ {a b : ℕ} (e : Both g p a b) where
    a_in : a < g.size
    a_in = law.inside p a e.one

    b_in : b < g.size
    b_in = law.inside p b e.other

    pub second_asks : g.size ≤ most_words → PushAsks m qu t b
    second_asks = push_asks g m qu t r b b_in

    module _ {m₁ qu₁ : List ℕ} {t₁ : ℕ} (u : Queued m qu t b m₁ qu₁ t₁) where
      kept : Kept g m qu t m₁ qu₁ t₁
      kept = push_keeps g m qu t r b b_in u

      pub first_long : a < length m₁
      first_long = omega (arith, kept.room.m_long, a_in)

      pushed : (h : ℕ) → Marking g (p ∷ []) m qu h t → Pushed g (p ∷ []) m qu h t (b ∷ []) m₁ qu₁ t₁
      pushed h k = push_gives g m qu t r b b_in u (p ∷ []) h k (successor_reached [] h k b e.other)

      both : (m' : List ℕ) → get_or m' a 0 ≡ 1 → get_or m' b 0 ≡ 1 → Closed g m' p
      both m' x y q i = ⊎_elim (λ d. ap (λ (z : ℕ). get_or m' z 0) d ∙ x) (λ d. ap (λ (z : ℕ). get_or m' z 0) d ∙ y) (e.only q i)

      turned_two_old : (get_or m₁ a 0 ≡ 0 → ⊥) → Turned g m qu p t m₁ qu₁ None t₁
      turned_two_old n =
          record {
            under = λ h k. let v = pushed h k in done m₁ qu₁ h t₁ v.under (both m₁ (one_of (kept.room.bits a a_in) n) (v.marked b (inl refl)));
            keeps = kept.keeps;
            grows = omega (arith, kept.grows);
          }

      turned_two_new : get_or m₁ a 0 ≡ 0 → Turned g m qu p t (set m₁ a 1) qu₁ (Some a) t₁
      turned_two_new new =
          record {
            under = λ h k. let v = pushed h k in
                swap (set m₁ a 1) qu₁ h t₁ a (marking_hold g (p ∷ []) m₁ qu₁ h t₁ v.under a a_in new (successor_reached [] h k a e.one))
                (both (set m₁ a 1) (get_or-set_same m₁ a 1 0 first_long) (stays m₁ a 1 b first_long (v.marked b (inl refl))));
            keeps = λ x o. stays m₁ a 1 x first_long (kept.keeps x o);
            grows = omega (arith, kept.grows, count_set g m₁ qu₁ t₁ kept.room a a_in new);
          }

      pub turned_two : {m' : List ℕ} {hand : Option ℕ} → Reaches m₁ a m' hand → Turned g m qu p t m' qu₁ hand t₁
      turned_two (fresh h) = turned_two_new h
      turned_two (seen h) = turned_two_old h

-- words followed from the one at the queue's head h: the lists as they were there, and as they are
pub record Following (g : Graph) (m₀ : List ℕ) (h : ℕ) (m qu : List ℕ) (hand : Option ℕ) (t : ℕ) : Type 0 where
  pub under : Marking g (in_hand hand) m qu (h + 1) t
  pub keeps : (x : ℕ) → get_or m₀ x 0 ≡ 1 → get_or m x 0 ≡ 1
  pub m_same : length m ≡ length m₀

module _ (g : Graph) (m qu : List ℕ) (h t : ℕ) (v : Visiting g m qu h t) where
  pub head_in : h < length qu
  head_in = omega (arith, v.some, tail_le g m qu t v.under.room, v.under.room.qu_long)

  pub following_none : Following g m h m qu (Some (get_or qu h 0)) t
  following_none = record { under = marking_take g [] m qu h t v.under v.some; keeps = λ x e. e; m_same = refl }

module _ (g : Graph) (m₀ : List ℕ) (h : ℕ) where
  pub following_on : {m qu m' qu' : List ℕ} {word t t' : ℕ} {hand' : Option ℕ}
      → Following g m₀ h m qu (Some word) t → Turned g m qu word t m' qu' hand' t'
      → length m' ≡ length m → Following g m₀ h m' qu' hand' t'
  following_on f u lm =
      record {
        under = u.under (h + 1) f.under;
        keeps = λ x o. u.keeps x (f.keeps x o);
        m_same = lm ∙ f.m_same;
      }

  pub followed : {qu₀ m qu : List ℕ} {t : ℕ} → Following g m₀ h m qu None t → Visited g m₀ qu₀ h m qu t
  followed f = record { under = f.under; keeps = f.keeps }

  -- each visit marks a word, or is the last
  pub fewer : {m qu m' qu' : List ℕ} {word t t' : ℕ} {hand' : Option ℕ}
      → Turned g m qu word t m' qu' hand' t' → Following g m₀ h m' qu' hand' t'
      → (g.size - marked_count g.size m') + hands hand' < (g.size - marked_count g.size m) + 1
  fewer {m' = m'} {hand' = None} u f = omega (arith, u.grows, laws.counting.few g.size m' f.under.room.bits)
  fewer {m' = m'} {hand' = Some q} u f = omega (arith, u.grows, laws.counting.few g.size m' f.under.room.bits)

-- the loop's invariant, with the lists as they were where the loop began
pub record Searching (g : Graph) (m₀ m qu : List ℕ) (h t : ℕ) : Type 0 where
  pub under : Marking g [] m qu h t
  pub root : get_or m 0 0 ≡ 1
  pub m_same : length m ≡ length m₀

module _ (g : Graph) where
  -- cleared marks are a search that has not begun
  pub cleared : {n : ℕ} {m qu : List ℕ} → g.size ≤ n → g.size ≤ length qu → m ≡ replicate n 0 → Marking g [] m qu 0 0
  cleared {n} {m} {qu} h k e =
      marking_none g m qu (omega (arith, ap length e, length-replicate n zero)) k
      (λ p i. ap (λ (x : List ℕ). get_or x p 0) e ∙ get_or-replicate n p 0 0 (omega arith))

  pub searching_on : {m₀ m qu m' qu' : List ℕ} {h t t' : ℕ} → Searching g m₀ m qu h t
      → Visited g m qu h m' qu' t' → length m' ≡ length m → Searching g m₀ m' qu' (h + 1) t'
  searching_on s v lm =
      record {
        under = v.under;
        root = v.keeps 0 s.root;
        m_same = lm ∙ s.m_same;
      }

  -- a search that is done has the marks
  pub searched : Lawful g → {m₀ m qu : List ℕ} {h t : ℕ} → Searching g m₀ m qu h t → t ≤ h → (p : ℕ) → p < g.size → get_or m p 0 ≡ mark_of g p
  searched law {m = m} {qu = qu} {h = h} {t = t} s d p l =
      ⊎_elim
      (λ z. ⊎_elim (λ y. z ∙ sym y)
      (λ y. absurd (omega (
        arith,
        z,
        marking_done g law m qu h t s.under d s.root p ((laws.marking g law).reachable p l y),
      )))
      (bit ((laws.marking g law).bit p)))
      (λ o. o ∙ sym ((laws.marking g law).one p (s.under.sound p l o)))
      (bit (s.under.room.bits p l))
