-- The search over entries that the lengths hold, and the queue above them. No word is read here. Assumes nothing.
use mathlib.Core.Path.{◌≡◌, refl, sym, ap, subst, ◌∙◌}
use mathlib.Core.Logic.{inl}
use Rattle.std.specs.Prelude.{Option, None, Some}
use mathlib.Core.List.{List, []}
use Prim.Native.Nat.{ℕ, zero, ◌+◌, ◌-◌, ◌/◌, ◌≤◌, ◌<◌}
use native.Mathlib.Omega.{arith}
use lib.ListN.{length, get_or, replicate, length-replicate}
use Rattle.graph.specs.Graph.{Graph, Lawful}
use Rattle.graph.specs.Laws.{marked_count}
use Rattle.graph.specs.Laws.{marked_count}
use Rattle.graph.proofs.Laws.{laws}
use Rattle.sweep.specs.declared.edges.Successors.{Successors}
use Rattle.sweep.specs.Steps.{graph_by}
use Rattle.sweep.specs.Entries.{«ENTRIES», entries, queue_of, Settled, graph_in}
use Rattle.sweep.specs.SearchInvariants.{hands, Room, Turned, Visiting, Visited, Lent, Held, PushAsks, VisitAsks, Visits, FollowAsks, Follows, Pushes, Marks}
use Rattle.sweep.proofs.Entries.{queue_is, queue_length, same_length, settled_graph}
use Rattle.sweep.proofs.Turn.{Following, following_none, following_on, followed, fewer, Searching, searching_on, cleared, push_gives, searched}

pub held_on : {m₀ l₀ m l : List ℕ} → Held m₀ l₀ → entries l ≡ entries l₀ → length m ≡ length m₀ → Held m l
held_on {m₀} {l₀} {m} {l} k e s =
    let n = ap length e in
    let a = k.lent in
    record {
      lent =
          record {
            some = omega (arith, a.some);
            few = omega (arith, a.few);
            m_same = s ∙ a.m_same ∙ sym n;
            l_same = same_length l l₀ e ∙ a.l_same ∙ sym n;
          };
      law = subst (λ (es : List ℕ). Lawful (graph_in es)) (sym e) k.law;
    }

-- the queue has room if the lengths have
pub push_asks_in : {m l : List ℕ} {t q : ℕ} → PushAsks m (queue_of l) t q → PushAsks m l t q
push_asks_in {m} {l} a = record { in_m = a.in_m; in_l = λ e. omega (arith, a.in_l e, queue_length l); few = a.few }

-- words followed from the one at the queue's head: the slices as they were there, and as they are
pub record FollowingIn (m₀ l₀ : List ℕ) (h : ℕ) (m l : List ℕ) (hand : Option ℕ) (t : ℕ) : Type 0 where
  pub following : Following (graph_in (entries l₀)) m₀ h m (queue_of l) hand t
  pub kept : entries l ≡ entries l₀

-- how many words are not marked, and one more while a word is in hand
abbrev pub left_to_follow : List ℕ → List ℕ → Option ℕ → ℕ
left_to_follow l m hand = (length (entries l) - marked_count (length (entries l)) m) + hands hand

module _ (m₀ l₀ : List ℕ) (h : ℕ) (held : Held m₀ l₀) {m l : List ℕ} {word t : ℕ} (f : FollowingIn m₀ l₀ h m l (Some word) t) where
  pub visit_asks : VisitAsks m l word t
  visit_asks =
      let k = f.following.under in
      record {
        held = held_on held f.kept f.following.m_same;
        in_l = omega (arith, (k.held word (inl refl)).0, ap length f.kept);
        room = subst (λ (es : List ℕ). Room (graph_in es) m (queue_of l) t) (sym f.kept) k.room;
      }

  module _ {m' l' : List ℕ} {hand' : Option ℕ} {t' : ℕ} (v : Visits m l word t m' l' hand' t') where
    turned : Turned (graph_in (entries l₀)) m (queue_of l) word t m' (queue_of l') hand' t'
    turned = subst (λ (es : List ℕ). Turned (graph_in es) m (queue_of l) word t m' (queue_of l') hand' t') f.kept v.turned

    pub following_in : length m' ≡ length m → FollowingIn m₀ l₀ h m' l' hand' t'
    following_in s = record { following = following_on (graph_in (entries l₀)) m₀ h f.following turned s; kept = v.kept ∙ f.kept }

    pub fewer_in : length m' ≡ length m → left_to_follow l₀ m' hand' < left_to_follow l₀ m (Some word)
    fewer_in s = fewer (graph_in (entries l₀)) m₀ h turned (following_in s).following

pub following_first : (m l : List ℕ) (h t : ℕ) → Visiting (graph_in (entries l)) m (queue_of l) h t → FollowingIn m l h m l (Some (get_or l h 0 / «ENTRIES»)) t
following_first m l h t v =
    record {
      following =
          subst (λ (x : ℕ). Following (graph_in (entries l)) m h m (queue_of l) (Some x) t) (queue_is l h)
          (following_none (graph_in (entries l)) m (queue_of l) h t v);
      kept = refl;
    }

pub follows : (m₀ l₀ : List ℕ) (h : ℕ) {m l : List ℕ} {t : ℕ} → FollowingIn m₀ l₀ h m l None t → Follows m₀ l₀ h m l t
follows m₀ l₀ h f = record { visited = followed _ _ _ f.following; kept = f.kept }

-- the loop's invariant, with the slices as they were where the loop began
pub record SearchingIn (m₀ l₀ m l : List ℕ) (h t : ℕ) : Type 0 where
  pub searching : Searching (graph_in (entries l₀)) m₀ m (queue_of l) h t
  pub kept : entries l ≡ entries l₀

module _ (m₀ l₀ : List ℕ) (held : Held m₀ l₀) {m l : List ℕ} {h t : ℕ} (s : SearchingIn m₀ l₀ m l h t) where
  pub follow_asks : h < t → FollowAsks m l h t
  follow_asks d =
      record {
        held = held_on held s.kept s.searching.m_same;
        visiting =
            subst (λ (es : List ℕ). Visiting (graph_in es) m (queue_of l) h t) (sym s.kept)
            (record { few = held.lent.few; some = d; under = s.searching.under });
      }

  pub searching_in : {m' l' : List ℕ} {t' : ℕ} → Follows m l h m' l' t' → length m' ≡ length m → SearchingIn m₀ l₀ m' l' (h + 1) t'
  searching_in {m'} {l'} {t'} v e =
      record {
        searching =
            searching_on (graph_in (entries l₀)) s.searching
            (subst (λ (es : List ℕ). Visited (graph_in es) m (queue_of l) h m' (queue_of l') t') s.kept
            v.visited)
            e;
        kept = v.kept ∙ s.kept;
      }

-- the loop begins where the marks are cleared and word 0 is pushed
pub begun : {m₀ l₀ m₁ m l : List ℕ} {t : ℕ} → Held m₀ l₀ → m₁ ≡ replicate (length m₀) 0 → Pushes m₁ l₀ 0 0 m l t → length m ≡ length m₁ → SearchingIn m₀ l₀ m l 0 t
begun {m₀} {l₀} {m₁} {m} {l} {t} held clear p same =
    let g = graph_in (entries l₀) in
    let k = held.lent in
    let none = cleared g {n = length m₀} {m = m₁} {qu = queue_of l₀} (omega (arith, k.m_same)) (omega (arith, queue_length l₀, k.l_same)) clear in
    let first = push_gives g m₁ (queue_of l₀) 0 none.room 0 k.some p.queued [] 0 none ((laws.reaching g held.law).start k.some) in
    record {
      searching = record {
        under = first.under;
        root = first.marked 0 (inl refl);
        m_same = same ∙ ap length clear ∙ length-replicate (length m₀) zero;
      };
      kept = p.kept;
    }

-- and ends where no word waits
pub marks_of : {m₀ l₀ m l : List ℕ} {h t : ℕ} → Held m₀ l₀ → SearchingIn m₀ l₀ m l h t → t ≤ h → Marks l₀ m l
marks_of {l₀ = l₀} held s d = record { marked = searched (graph_in (entries l₀)) held.law s.searching d; kept = s.kept }

-- settled entries are held
pub held_of : (n : ℕ) (steps : ℕ → Successors) (m l₀ l : List ℕ) → Lawful (graph_by n steps) → Lent n m l₀
    → Settled n steps (entries l) → length l ≡ length l₀ → Held m l
held_of n steps m l₀ l law k s e =
    record {
      lent =
          record {
            some = omega (arith, s.same, k.some);
            few = omega (arith, s.same, k.few);
            m_same = k.m_same ∙ sym s.same;
            l_same = e ∙ k.l_same ∙ sym s.same;
          };
      law = subst (λ (g : Graph). Lawful g) (sym (settled_graph n steps (entries l) s)) law;
    }
