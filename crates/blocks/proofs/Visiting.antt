-- A visit of a word, and the search from its start to its end. Assumes nothing.
use mathlib.Core.Path.{◌≡◌, refl, sym, ap, subst, ◌∙◌}
use mathlib.Core.Logic.{◌⊎◌, inl, inr, ⊎_elim}
use mathlib.Core.Bool.{Bool, true, false, not, ◌&&◌, true≢false, false≢true}
use mathlib.Core.List.{List, [], ◌∷◌}
use Prim.Native.Nat.{ℕ, ◌+◌, ◌-◌, ◌/◌, ◌≤◌, ◌<◌}
use native.Mathlib.Omega.{arith}
use borrow.Author.Tests.{lt-ltb, le-ltb, not-true}
use lib.Bits.{and_le_l}
use lib.ListN.{length, get_or, set, length-set}
use lib.Seq.{get_or-set_other}
use Rattle.std.proofs.Common.{Option, None, Some}
use Rattle.common.specs.Limits.{most_words, most_registers}
use Rattle.common.proofs.Order.{split, same_or_not}
use Rattle.common.proofs.Stores.{at_set}
use Rattle.graph.specs.Graph.{In, Lawful, Reachable}
use Rattle.graph.proofs.Laws as graph
use Rattle.graph.proofs.Assignment.{cutting}
use Rattle.fields.specs.declared.version.Version.TheVariants.{Lua54}
use Rattle.sweep.specs.declared.edges.Successors.{Successors}
use Rattle.sweep.specs.declared.edges.Successors.TheVariants.{Invalid, Stop, One, Two}
use Rattle.runs.specs.Script.{lua54, graph_of}
use Rattle.sweep.specs.Steps.{list_of}
use Rattle.steps.specs.lua54.Successors.{successors_of}
use Rattle.runs.proofs.Laws as runs
use Rattle.locations.specs.declared.answer.Touches.{Touches}
use Rattle.touches.specs.Touches.{touches_of}
use Rattle.blocks.specs.Uses.{sets_by}
use Rattle.blocks.specs.declared.search.Seen.{Seen}
use Rattle.blocks.specs.Blocks.{«EVERY», bit_count, has_bit, HoldsBits, WordWaits}
use Rattle.blocks.specs.Blocks.{most_pages, Paged, Next, SearchRoom, leaves, Steps, Spreads, BlockNotes}
use Rattle.blocks.specs.Blocks.{Started, loses_bit, graph_at, Hits, Done, Under, Searching}
use Rattle.blocks.specs.Blocks.{BlockVisits, left, BlockSearched}
use Rattle.blocks.proofs.Bits.{and_bit, zero_bit, full_all, full_every, not_bit, full_bit, small_bit}
use Rattle.blocks.proofs.Moves.{without_in, in_without, sum_set, hits_on, Joined, join_under}

module _ (ws : List ℕ) where
  pub law : Lawful (graph_of (lua54 ws))
  law = (runs.laws).lawful_of Lua54 ws

module _ (ws : List ℕ) (r : ℕ) where
  pub cut_law : (i : ℕ) → Lawful (graph_at ws r i)
  cut_law i = cutting.lawful (graph_of (lua54 ws)) (law ws) (loses_bit ws r i)

  -- which bits a step loses
  module _ (p q : ℕ) {sets : ℕ} (holds : HoldsBits r (sets_by (touches_of ws p) q) sets) where
    sets_bit : (i : ℕ) → has_bit sets i ≡ loses_bit ws r i p q
    sets_bit i =
        ⊎_elim
        (λ h. small_bit 63 sets i h (omega (arith, holds.small, full_all)) ∙ ap (λ (b : Bool). b && sets_by (touches_of ws p) q (r + i)) (sym (le-ltb i 63 h)))
        (λ h. holds.bits i h ∙ ap (λ (b : Bool). b && sets_by (touches_of ws p) q (r + i)) (sym (lt-ltb i 63 h)))
        (split 63 i)

    pub leaves_bit : (at i : ℕ) → i < bit_count → has_bit (leaves at sets) i ≡ has_bit at i && not (loses_bit ws r i p q)
    leaves_bit at i h =
        and_bit at («EVERY» - sets) i
        ∙ ap (λ (b : Bool). has_bit at i && b)
        (ap (λ (x : ℕ). has_bit (x - sets) i) (sym full_every) ∙ not_bit 64 sets i h (omega (arith, holds.small, full_every)) ∙ ap not (sets_bit i))

  and_both : (a b : Bool) → a && b ≡ true → (a ≡ true) × (b ≡ true)
  and_both true b e = (refl, e)
  and_both false b e = absurd (false≢true e)

  kept : (a c : Bool) → a ≡ true → c ≡ false → a && not c ≡ true
  kept true false e f = refl
  kept true true e f = absurd (true≢false f)
  kept false c e f = absurd (false≢true e)

  -- word p is in hand, and its steps are taken
  module _ (few : length ws ≤ most_words) (p at : ℕ) (at_small : at ≤ «EVERY»)
      (at-sound : (i : ℕ) → i < bit_count → has_bit at i ≡ true → Reachable (graph_at ws r i) p) where
    pub record Stepped (unset waiting unset' waiting' : List ℕ) (s : List ℕ) : Type 0 where
      pub comes : (q : ℕ) → In q s → (i : ℕ) → i < bit_count → has_bit at i ≡ true → loses_bit ws r i p q ≡ false → has_bit (get_or unset' q 0) i ≡ true
      pub grows : (x i : ℕ) → has_bit (get_or unset x 0) i ≡ true → has_bit (get_or unset' x 0) i ≡ true
      pub raised : (x : ℕ) → WordWaits waiting' x ⊎ (get_or unset' x 0 ≡ get_or unset x 0)
      pub keeps : (x : ℕ) → WordWaits waiting x → WordWaits waiting' x
      pub less : left ws r unset' waiting' ≤ left ws r unset waiting

    module _ {limit : ℕ} {seen : Seen} where
      one_step :
          (q : ℕ) → In q ((graph_of (lua54 ws)).successors p)
          → {unset waiting pages unset' waiting' pages' : List ℕ}
          → Under ws r p unset waiting pages limit seen
          → Steps r (touches_of ws p) at q unset waiting pages unset' waiting' pages'
          → Under ws r p unset' waiting' pages' limit seen × Stepped unset waiting unset' waiting' (q ∷ [])
      one_step q j {unset} {waiting} {pages} {unset'} {waiting'} {pages'} s st =
          let u = join_under ws r s ((law ws).inside p q j) few (omega (arith, and_le_l at («EVERY» - st.sets))) reached st.joins in (
            u.0,
            record {
              comes = λ x k i h b f. arrives u.1 x k i h b f;
              grows = u.1.grows;
              raised = u.1.raised;
              keeps = u.1.keeps;
              less = u.1.less;
            },
          )
        where
          reached : (i : ℕ) → i < bit_count → has_bit (leaves at st.sets) i ≡ true → Reachable (graph_at ws r i) q
          reached i h b =
              let c = and_both (has_bit at i) (not (loses_bit ws r i p q)) (sym (leaves_bit p q st.holds at i h) ∙ b) in
              ((graph.laws).reaching (graph_at ws r i) (cut_law i)).next p q (at-sound i h c.0)
              (in_without (loses_bit ws r i p) q ((graph_of (lua54 ws)).successors p) j (not-true (loses_bit ws r i p q) c.1))

          arrives : Joined ws r unset waiting unset' waiting' q (leaves at st.sets) → (x : ℕ)
              → In x (q ∷ []) → (i : ℕ) → i < bit_count → has_bit at i ≡ true → loses_bit ws r i p x ≡ false
              → has_bit (get_or unset' x 0) i ≡ true
          arrives m x (inl e) i h b f =
              subst (λ (y : ℕ). has_bit (get_or unset' y 0) i ≡ true) (sym e)
              (m.has i (leaves_bit p q st.holds at i h ∙ kept (has_bit at i) (loses_bit ws r i p q) b (ap (loses_bit ws r i p) (sym e) ∙ f)))
          arrives m x (inr k) i h b f = absurd k

      stayed :
          {unset waiting pages unset' waiting' pages' : List ℕ} → Under ws r p unset waiting pages limit seen
          → (unset' ≡ unset) × (waiting' ≡ waiting) × (pages' ≡ pages)
          → Under ws r p unset' waiting' pages' limit seen × Stepped unset waiting unset' waiting' []
      stayed {unset} {waiting} {pages} {unset'} {waiting'} {pages'} s e = (
        subst (λ (x : List ℕ). Under ws r p x waiting' pages' limit seen) (sym e.0)
            (subst (λ (x : List ℕ). Under ws r p unset x pages' limit seen) (sym e.1)
            (subst (λ (x : List ℕ). Under ws r p unset waiting x limit seen) (sym e.2) s)),
        record {
          comes = λ x k i h b f. absurd k;
          grows = λ x i b. ap (λ (l : List ℕ). has_bit (get_or l x 0) i) e.0 ∙ b;
          raised = λ x. inr (ap (λ (l : List ℕ). get_or l x 0) e.0);
          keeps = λ x w. ap (λ (l : List ℕ). get_or l x 0) e.1 ∙ w;
          less =
              subst (λ (x : List ℕ). left ws r x waiting' ≤ left ws r unset waiting) (sym e.0)
              (subst (λ (x : List ℕ). left ws r unset x ≤ left ws r unset waiting) (sym e.1)
              (omega arith));
        },
      )

      pub spread_under :
          (s : Successors) → ((q : ℕ) → In q (list_of s) → In q ((graph_of (lua54 ws)).successors p)) → {unset waiting pages unset' waiting' pages' : List ℕ}
          → Under ws r p unset waiting pages limit seen → Spreads r (touches_of ws p) at s unset waiting pages unset' waiting' pages'
          → Under ws r p unset' waiting' pages' limit seen × Stepped unset waiting unset' waiting' (list_of s)
      spread_under Invalid ins u sp = stayed u sp
      spread_under Stop ins u sp = stayed u sp
      spread_under (One a) ins u sp = one_step a (ins a (inl refl)) u sp
      spread_under (Two a b) ins u sp =
          let x = one_step a (ins a (inl refl)) u sp.first in
          let y = one_step b (ins b (inr (inl refl))) x.0 sp.second in (
            y.0,
            record {
              comes = λ q k i h c f.
                  ⊎_elim
                  (λ e. y.1.grows q i (x.1.comes q (inl e) i h c f))
                  (λ j. y.1.comes q j i h c f)
                  k;
              grows = λ q i c. y.1.grows q i (x.1.grows q i c);
              raised = λ q.
                  ⊎_elim
                  (λ w. inl w)
                  (λ e. ⊎_elim (λ w. inl (y.1.keeps q w)) (λ d. inr (e ∙ d)) (x.1.raised q))
                  (y.1.raised q);
              keeps = λ q w. y.1.keeps q (x.1.keeps q w);
              less = omega (arith, x.1.less, y.1.less);
            },
          )

  -- a word that waits is visited
  module _ (few : length ws ≤ most_words) {unset waiting pages : List ℕ} {limit : ℕ} {seen : Seen} {p : ℕ}
      (s : Searching ws r unset waiting pages limit seen) (inside : p < length ws)
      (waits : WordWaits waiting p) where
    in_waiting : p < length waiting
    in_waiting = omega (arith, s.waiting_long)

    popped : Under ws r p unset (set waiting p 0) pages limit seen
    popped =
        record {
          unset_long = s.unset_long;
          waiting_long = simp length-set s.waiting_long;
          pages_same = s.pages_same;
          wide = s.wide;
          first = s.first;
          sound = s.sound;
          marks = λ q h. ⊎_elim (λ w. omega (arith, w.1)) (λ w. omega (arith, w.1, s.marks q h)) (at_set waiting p 0 q in_waiting);
          paged = λ q h b. ⊎_elim (λ w. absurd (omega (arith, w.1, b))) (λ w. s.paged q h (sym w.1 ∙ b)) (at_set waiting p 0 q in_waiting);
          limit_few = s.limit_few;
          least_few = s.least_few;
          least_hits = s.least_hits;
          next_from = s.next_from;
          todo = λ q h n. ⊎_elim (λ w. inl (get_or-set_other waiting p q 0 0 n ∙ w)) (λ d. inr d) (s.todo q h (λ e. omega arith));
        }

    popped_less : left ws r unset (set waiting p 0) < left ws r unset waiting
    unfolding left
    popped_less = let a = sum_set (length ws) waiting p 0 inside in_waiting in omega arith

    module _ {unset' waiting' pages' : List ℕ} {seen' : Seen} (v : BlockVisits ws r p unset waiting pages seen unset' waiting' pages' seen') where
      moved :
          Under ws r p unset' waiting' pages' limit seen
          × Stepped few p (get_or unset p 0) (s.wide p inside) (s.sound p inside) unset (set waiting p 0) unset' waiting' (list_of (successors_of ws p))
      moved = spread_under few p (get_or unset p 0) (s.wide p inside) (s.sound p inside) (successors_of ws p) (λ q k. k) popped v.spreads

      later : (q : ℕ) → Done ws r unset' seen q → Done ws r unset' seen' q
      later q d =
          record {
            closed = d.closed;
            noted = λ h. omega (arith, d.noted h, v.notes.down);
            sees = λ i b.
                let k = d.sees i b in
                record { next_read = omega (arith, k.next_read, v.notes.next_down); few = k.few; bad_seen = λ e. v.notes.bad_stays (k.bad_seen e) };
          }

      done : get_or unset' p 0 ≡ get_or unset p 0 → Done ws r unset' seen' p
      done e =
          record {
            closed = λ q k i h b f. moved.1.comes q k i h (ap (λ (x : ℕ). has_bit x i) (sym e) ∙ b) f;
            noted = λ h. v.notes.noted (hits_on ws r unset' unset p (λ i b. ap (λ (x : ℕ). has_bit x i) (sym e) ∙ b) h);
            sees = λ i b. v.notes.sees;
          }

      pub visited : Searching ws r unset' waiting' pages' limit seen'
      visited =
          let u = moved.0 in
          record {
            unset_long = u.unset_long;
            waiting_long = u.waiting_long;
            pages_same = u.pages_same;
            wide = u.wide;
            first = u.first;
            sound = u.sound;
            marks = u.marks;
            paged = u.paged;
            limit_few = u.limit_few;
            least_few = omega (arith, u.least_few, v.notes.down);
            least_hits = λ h.
                ⊎_elim
                (λ e. subst (λ (x : ℕ). Hits ws r unset' x) (sym e) (u.least_hits (omega (arith, e, h))))
                (λ e. subst (λ (x : ℕ). Hits ws r unset' x) (sym e.0) (hits_on ws r unset unset' p (λ i b. moved.1.grows p i b) e.1))
                v.notes.new;
            next_from = v.notes.next_from u.next_from;
            todo = λ q h n.
                ⊎_elim
                (λ e.
                subst (λ (x : ℕ). WordWaits waiting' x ⊎ Done ws r unset' seen' x) (sym e)
                (⊎_elim (λ w. inl w) (λ d. inr (done d)) (moved.1.raised p)))
                (λ k. ⊎_elim (λ w. inl w) (λ d. inr (later q d)) (u.todo q h k))
                (same_or_not q p);
          }

      pub visited_less : left ws r unset' waiting' < left ws r unset waiting
      visited_less = omega (arith, popped_less, moved.1.less)

  -- at the start
  module _ {unset waiting pages : List ℕ} {limit : ℕ} (some : 0 < length ws) (l : limit ≤ length ws) (s : Started (length ws) unset waiting pages) where
    no_bit : (p i : ℕ) → get_or unset p 0 ≡ 0 → has_bit (get_or unset p 0) i ≡ true → ⊥
    no_bit p i e b = false≢true (sym (zero_bit i) ∙ ap (λ (x : ℕ). has_bit x i) (sym e) ∙ b)

    at_0 : (p : ℕ) → p < length ws → (p ≡ 0) ⊎ (0 < p)
    at_0 p h = ⊎_elim (λ e. inl (omega arith)) (λ e. inr e) (split p 0)

    pub begun : Searching ws r unset waiting pages limit (record { least = limit; next = most_registers; bad = false; to = 0 })
    begun =
        record {
          unset_long = s.unset_long;
          waiting_long = s.waiting_long;
          pages_same = s.pages_same;
          wide = λ p h. ⊎_elim (λ e. omega (arith, ap (λ (x : ℕ). get_or unset x 0) e, s.first)) (λ k. omega (arith, s.others p k h)) (at_0 p h);
          first = λ i h. ap (λ (x : ℕ). has_bit x i) (s.first ∙ sym full_every) ∙ full_bit 64 i h;
          sound = λ p h i k b.
              ⊎_elim
              (λ e. subst (λ (x : ℕ). Reachable (graph_at ws r i) x) (sym e) (((graph.laws).reaching (graph_at ws r i) (cut_law i)).start some))
              (λ k. absurd (no_bit p i (s.others p k h) b))
              (at_0 p h);
          marks = λ p h. ⊎_elim (λ e. omega (arith, ap (λ (x : ℕ). get_or waiting x 0) e, s.waits)) (λ k. omega (arith, s.quiet p k h)) (at_0 p h);
          paged = λ p h b.
              ⊎_elim
              (λ e. subst (λ (x : ℕ). get_or pages (x / 128) 0 ≡ 1) (sym e) s.page)
              (λ k. absurd (omega (arith, s.quiet p k h, b)))
              (at_0 p h);
          limit_few = l;
          least_few = omega arith;
          least_hits = λ h. absurd (omega arith);
          next_from = omega arith;
          todo = λ p h n.
              ⊎_elim
              (λ e. inl (ap (λ (x : ℕ). get_or waiting x 0) e ∙ s.waits))
              (λ k.
              inr
              (record {
                closed = λ q j i m b f. absurd (no_bit p i (s.others p k h) b);
                noted = λ x. absurd (no_bit p x.bit (s.others p k h) x.unset);
                sees = λ i b. absurd (no_bit p i (s.others p k h) b);
              }))
              (at_0 p h);
        }

  -- what a visit does, by what the word touches and where it goes
  pub visits_by :
      (p : ℕ) {t : Touches} {s : Successors} {unset waiting pages unset' waiting' pages' : List ℕ}
      {seen seen' : Seen}
      → t ≡ touches_of ws p → s ≡ successors_of ws p
      → Spreads r t (get_or unset p 0) s unset (set waiting p 0) pages unset' waiting' pages' → BlockNotes r t s (get_or unset p 0) p seen seen'
      → BlockVisits ws r p unset waiting pages seen unset' waiting' pages' seen'
  visits_by p {t} {s} {unset} {waiting} {pages} {unset'} {waiting'} {pages'} {seen} {seen'} e f a b =
      record {
        spreads =
            subst (λ (x : Successors). Spreads r (touches_of ws p) (get_or unset p 0) x unset (set waiting p 0) pages unset' waiting' pages') f
            (subst (λ (x : Touches). Spreads r x (get_or unset p 0) s unset (set waiting p 0) pages unset' waiting' pages') e a);
        notes =
            subst (λ (x : Successors). BlockNotes r (touches_of ws p) x (get_or unset p 0) p seen seen') f
            (subst (λ (x : Touches). BlockNotes r x s (get_or unset p 0) p seen seen') e b);
      }

  -- the loop of the search, at the next word
  pub record Going (limit : ℕ) (unset waiting pages : List ℕ) (seen : Seen) (on : Option ℕ) : Type 0 where
    pub under : Searching ws r unset waiting pages limit seen
    pub next : Next waiting (length ws) on

  pub going_first :
      {unset waiting pages : List ℕ} {limit : ℕ} → 0 < length ws → limit ≤ length ws → Started (length ws) unset waiting pages
      → Going limit unset waiting pages (record { least = limit; next = most_registers; bad = false; to = 0 }) (Some 0)
  going_first some l s = record { under = begun some l s; next = (some, s.waits) }

  pub going_room :
      {unset waiting pages : List ℕ} {limit : ℕ} {seen : Seen} {next : Option ℕ} → 0 < length ws → length ws ≤ most_words
      → Going limit unset waiting pages seen next → SearchRoom ws unset waiting pages
  going_room some few o =
      record { some = some; few = few; unset_long = o.under.unset_long; waiting_long = o.under.waiting_long; pages_same = o.under.pages_same }

  -- a turn
  module _ (few : length ws ≤ most_words) {unset waiting pages : List ℕ} {limit : ℕ}
      {seen : Seen} {p : ℕ} (o : Going limit unset waiting pages seen (Some p))
      {unset' waiting' pages' : List ℕ} {seen' : Seen}
      (v : BlockVisits ws r p unset waiting pages seen unset' waiting' pages' seen') where
    pub going_visited : Searching ws r unset' waiting' pages' limit seen'
    going_visited = visited few o.under o.next.0 o.next.1 v

    pub going_less : left ws r unset' waiting' < left ws r unset waiting
    going_less = visited_less few o.under o.next.0 o.next.1 v

    pub going_more :
        {pages'' : List ℕ} {next' : Option ℕ} → length pages'' ≡ most_pages
        → Paged (length ws) waiting' pages'' → Next waiting' (length ws) next' → Going limit unset' waiting' pages'' seen' next'
    going_more eh paged n =
        let u = going_visited in
        record {
          under =
              record {
                unset_long = u.unset_long;
                waiting_long = u.waiting_long;
                pages_same = eh;
                wide = u.wide;
                first = u.first;
                sound = u.sound;
                marks = u.marks;
                paged = paged;
                limit_few = u.limit_few;
                least_few = u.least_few;
                least_hits = u.least_hits;
                next_from = u.next_from;
                todo = u.todo;
              };
          next = n;
        }

  pub going_done :
      {unset waiting pages : List ℕ} {limit : ℕ} {seen : Seen}
      → Going limit unset waiting pages seen None → BlockSearched ws r unset waiting pages limit seen
  going_done o = record { under = o.under; none = λ p l w. o.next p (omega arith) l w }

  -- at the end the states are those of the paths
  module _ {unset waiting pages : List ℕ} {limit : ℕ} {seen : Seen} (s : BlockSearched ws r unset waiting pages limit seen) where
    pub all_done : (p : ℕ) → p < length ws → Done ws r unset seen p
    all_done p h = ⊎_elim (λ w. absurd (s.none p h w)) (λ d. d) (s.under.todo p h (λ e. omega arith))

    pub complete : (i : ℕ) → i < bit_count → (p : ℕ) → Reachable (graph_at ws r i) p → has_bit (get_or unset p 0) i ≡ true
    complete i h p k =
        let rs = (graph.laws).reaching (graph_at ws r i) (cut_law i) in
        rs.induction (λ (x : ℕ). has_bit (get_or unset x 0) i ≡ true) (s.under.first i h)
        (λ x q y b j.
        let w = without_in (loses_bit ws r i x) q ((graph_of (lua54 ws)).successors x) j in
        (all_done x (rs.below x y)).closed q w.0 i h b w.1)
        p k
