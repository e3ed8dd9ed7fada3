-- What the states tell: who is reachable, and the lowest word that reads a register unset. Assumes nothing.
use mathlib.Core.Path.{◌≡◌, refl, sym, ap, subst, ◌∙◌}
use mathlib.Core.Logic.{⊎_elim}
use mathlib.Core.Bool.{Bool, true, false, cond, ◌&&◌, true≢false, false≢true}
use mathlib.Core.List.{List}
use Prim.Native.Nat.{ℕ, ◌+◌, ◌-◌, ◌≤◌, ◌<◌}
use native.Mathlib.Omega.{arith}
use borrow.Author.Tests.{le-leb, lt-leb, lt-ltb, eq-eqb, ne_eqb, eqb-true}
use lib.Dec.{leb, eqb}
use lib.ListN.{length, get_or}
use Rattle.common.specs.Lists.{tabulate}
use Rattle.common.specs.Lowest.{lowest}
use Rattle.common.proofs.Lowest.{lowest_laws}
use Rattle.common.proofs.Order.{bit, split, same_or_not}
use Rattle.common.proofs.Over.{over_laws}
use Rattle.graph.specs.Graph.{Graph, Reachable}
use Rattle.graph.specs.Marks.{mark_of}
use Rattle.graph.specs.Assignment.{cut, reads_unset, unset_at, lowest_unset}
use Rattle.graph.proofs.Laws as graph
use Rattle.runs.specs.Script.{lua54, graph_of}
use Rattle.sweep.specs.Steps.{is_invalid}
use Rattle.steps.specs.lua54.Successors.{successors_of}
use Rattle.runs.specs.Run.{reaches_invalid, lowest_invalid}
use Rattle.touches.specs.Touches.{touches_of}
use Rattle.locations.specs.Form.{ranges_in}
use Rattle.blocks.specs.Uses.{reads_by, sets_by, registers_of, usage_of}
use Rattle.assignment.specs.Answers.{unset_of}
use Rattle.blocks.specs.declared.search.Seen.{Seen}
use Rattle.common.specs.Limits.{most_registers}
use Rattle.blocks.specs.Blocks.{has_bit, loses_bit, graph_at, Sees, Hits, BlockSearched, SearchRoom}
use Rattle.assignment.specs.Rest.{RegistersEnd, marked, unset_below, Rest}
use Rattle.blocks.proofs.Bits.{zero_bit, full_every, some_bit}
use Rattle.assignment.proofs.Some.{none-of, some_at, none_at, some_stays}
use Rattle.blocks.proofs.Moves.{without_in, in_without}
use Rattle.blocks.proofs.Visiting.{law, cut_law, all_done, complete}
use Rattle.blocks.proofs.Within.{in-ranges, before_end, next_none}
use Rattle.blocks.proofs.Uses.{bounded}

module _ (ws : List ℕ) where
  abbrev g : Graph
  g = graph_of (lua54 ws)

  -- a word that a path reaches on which a bit stays is reachable, and a path on which nothing is asked is any path
  cut_reached : (r i p : ℕ) → Reachable (graph_at ws r i) p → Reachable g p
  cut_reached r i p k =
      let rs = (graph.laws).reaching g (law ws) in
      let cs = (graph.laws).reaching (graph_at ws r i) (cut_law ws r i) in
      cs.induction (λ (x : ℕ). Reachable g x) (rs.start (omega (arith, cs.below p k)))
      (λ x q y z j. rs.next x q z (without_in (loses_bit ws r i x) q (g.successors x) j).0) p k

  reached_cut : (r p : ℕ) → Reachable g p → Reachable (graph_at ws r 63) p
  reached_cut r p k =
      let rs = (graph.laws).reaching g (law ws) in
      let cs = (graph.laws).reaching (graph_at ws r 63) (cut_law ws r 63) in
      rs.induction (λ (x : ℕ). Reachable (graph_at ws r 63) x) (cs.start (omega (arith, rs.below p k)))
      (λ x q y z j. cs.next x q z (in_without (loses_bit ws r 63 x) q (g.successors x) j refl)) p k

  module _ {r : ℕ} {unset waiting pages : List ℕ} {limit : ℕ} {seen : Seen} (s : BlockSearched ws r unset waiting pages limit seen) where
    mark_is : (p : ℕ) → p < length ws → marked unset p ≡ mark_of g p
    mark_is p h =
        ⊎_elim (λ e. ap (λ (b : Bool). cond b 0 1) (eq-eqb (get_or unset p 0) 0 e) ∙ sym (nowhere e))
        (λ n. ap (λ (b : Bool). cond b 0 1) (ne_eqb (get_or unset p 0) 0 n) ∙ sym (somewhere n))
        (same_or_not (get_or unset p 0) 0)
      where
        nowhere : get_or unset p 0 ≡ 0 → mark_of g p ≡ 0
        nowhere e =
            ⊎_elim
            (λ z. z)
            (λ z. absurd
            (false≢true (sym (zero_bit 63) ∙ ap (λ (x : ℕ). has_bit x 63) (sym e) ∙ complete ws r s 63
            (omega arith) p (reached_cut r p (((graph.laws).marking g (law ws)).reachable p h z)))))
            (bit (((graph.laws).marking g (law ws)).bit p))

        somewhere : (get_or unset p 0 ≡ 0 → ⊥) → mark_of g p ≡ 1
        somewhere n =
            let b = some_bit 64 (get_or unset p 0) (omega (arith, s.under.wide p h, full_every)) n in
            ((graph.laws).marking g (law ws)).one p (cut_reached r b.0 p (s.under.sound p h b.0 b.1 b.2))

    pub marks_are : {marks : List ℕ} {n : ℕ} → n ≡ length ws → marks ≡ tabulate (marked unset) 0 n → marks ≡ tabulate (mark_of g) 0 (length ws)
    marks_are {marks} l d =
        let e = subst (λ (x : ℕ). marks ≡ tabulate (marked unset) 0 x) l d in
        over_laws.whole (mark_of g) (length ws) marks (ap length e ∙ over_laws.length_tabulate (marked unset) 0 (length ws))
        (λ p h.
        let z : 0 + p ≡ p = omega arith in
        ap (λ (x : List ℕ). get_or x p 0) e ∙ over_laws.get_d_tabulate (marked unset) 0 (length ws) p h ∙ ap (marked unset) z ∙ mark_is p h)

    seen-of : (p : ℕ) → Reachable g p → Sees r (touches_of ws p) (successors_of ws p) seen.next seen.bad
    seen-of p k =
        (all_done ws r s p (((graph.laws).reaching g (law ws)).below p k)).sees 63 (complete ws r s 63 (omega arith) p (reached_cut r p k))

    pub ends : RegistersEnd ws
    ends p k = (seen-of p k).few

    -- no bad word was seen
    pub none_bad : seen.bad ≡ false → lowest_invalid (lua54 ws) ≡ length ws
    unfolding lowest_invalid
    none_bad e =
        sym (lowest_laws.nowhere (reaches_invalid (lua54 ws)) (length ws)
        (λ p h. go p h (eqb (mark_of g p) 1) refl (is_invalid (successors_of ws p)) refl))
      where
        go : (p : ℕ) → p < length ws → (a : Bool) → eqb (mark_of g p) 1 ≡ a → (b : Bool) → is_invalid (successors_of ws p) ≡ b → a && b ≡ false
        go p h true d true f = absurd (false≢true (sym e ∙ (seen-of p (((graph.laws).marking g (law ws)).reachable p h (eqb-true _ 1 d))).bad_seen f))
        go p h true d false f = refl
        go p h false d b f = refl

    -- the lowest word
    module _ (k : ℕ) (from : k ≤ r) where
      abbrev test : ℕ → ℕ → Bool
      test p x = reads_unset g (usage_of ws) k p x

      graph_is : (i : ℕ) → i < 63 → graph_at ws r i ≡ cut g (λ x y. (usage_of ws).sets x y (r + i))
      graph_is i h = ap (λ (b : Bool). cut g (λ x y. b && sets_by (touches_of ws x) y (r + i))) (lt-ltb i 63 h)

      and_both : (a b : Bool) → a && b ≡ true → (a ≡ true) × (b ≡ true)
      and_both true b e = (refl, e)
      and_both false b e = absurd (false≢true e)

      hits_of : (p : ℕ) → p < length ws → (i : ℕ) → i < 63 → test p (r + i) ≡ true → Hits ws r unset p
      unfolding reads_unset
      hits_of p h i l e =
          let a = and_both (leb k (r + i)) _ e in
          let b = and_both (reads_by (touches_of ws p) (r + i)) _ a.1 in
          let m : eqb (mark_of (graph_at ws r i) p) 1 ≡ true = ap (λ (x : Graph). eqb (mark_of x p) 1) (graph_is i l) ∙ b.1 in
          record {
            bit = i;
            few = l;
            read = b.0;
            unset = complete ws r s i (omega arith) p (((graph.laws).marking (graph_at ws r i) (cut_law ws r i)).reachable p h (eqb-true _ 1 m));
          }

      of_hits : (p : ℕ) → p < length ws → (x : Hits ws r unset p) → test p (r + x.bit) ≡ true
      unfolding reads_unset
      of_hits p h x =
          let i = x.bit in
          let m = ((graph.laws).marking (graph_at ws r i) (cut_law ws r i)).one p (s.under.sound p h i (omega (arith, x.few)) x.unset) in
          let e : eqb (mark_of (cut g (λ y z. (usage_of ws).sets y z (r + i))) p) 1
          ≡ true = ap (λ (y : Graph). eqb (mark_of y p) 1) (sym (graph_is i x.few))
          ∙ eq-eqb _ 1 m in
          simp (le-leb k (r + i) (omega arith), x.read, e)

      module _ (limit_is : limit ≡ lowest (unset_below ws k r) (length ws)) where
        none_before : (p : ℕ) → p < seen.least → unset_below ws k (r + 63) p ≡ false
        none_before p h = none-of (test p) (r + 63) each
          where
            inside : p < length ws
            inside = omega (arith, s.under.least_few, s.under.limit_few)

            each : (x : ℕ) → x < r + 63 → test p x ≡ false
            each x l =
                ⊎_elim
                (λ d. go (test p x) refl d)
                (λ d. none_at (test p) r x
                ((lowest_laws.first (unset_below ws k r) 0 (length ws)).not_before p (omega arith)
                (omega (arith, limit_is, s.under.least_few)))
                d)
                (split r x)
              where
                go : (b : Bool) → test p x ≡ b → r ≤ x → b ≡ false
                go true e d =
                    let z : x ≡ r + (x - r) = omega arith in
                    absurd (omega (arith, (all_done ws r s p inside).noted (hits_of p inside (x - r) (omega arith) (ap (test p) (sym z) ∙ e))))
                go false e d = refl

        found : seen.least < length ws → unset_below ws k (r + 63) seen.least ≡ true
        found h =
            ⊎_elim
            (λ d.
            let e : seen.least ≡ limit = omega (arith, s.under.least_few) in
            subst (λ (x : ℕ). unset_below ws k (r + 63) x ≡ true) (sym e)
            (more limit (subst (λ (x : ℕ). unset_below ws k r x ≡ true) (sym limit_is) ((lowest_laws.first
            (unset_below ws k r) 0 (length ws)).holds (omega (arith, limit_is, e))))))
            (λ d. let x = s.under.least_hits d in some_at (test seen.least) (r + 63) (r + x.bit) (omega (arith, x.few)) (of_hits seen.least h x))
            (split limit seen.least)
          where
            more : (p : ℕ) → unset_below ws k r p ≡ true → unset_below ws k (r + 63) p ≡ true
            more p e = go (unset_below ws k (r + 63) p) refl
              where
                go : (b : Bool) → unset_below ws k (r + 63) p ≡ b → b ≡ true
                go true f = refl
                go false f = absurd (true≢false (sym e ∙ none-of (test p) r (λ x l. none_at (test p) (r + 63) x f (omega arith))))

        pub least_is : seen.least ≡ lowest (unset_below ws k (r + 63)) (length ws)
        least_is =
            ⊎_elim
            (λ h.
            let e : seen.least ≡ length ws = omega (arith, s.under.least_few, s.under.limit_few) in
            e ∙ lowest_laws.nowhere (unset_below ws k (r + 63)) (length ws) (λ p l. none_before p (omega arith)))
            (λ h. lowest_laws.is (unset_below ws k (r + 63)) (length ws) seen.least h (found h) none_before)
            (split (length ws) seen.least)

  -- from no register to all
  module _ (k : ℕ) where
    abbrev tested : ℕ → ℕ → Bool
    tested p x = reads_unset g (usage_of ws) k p x

    low : (p x : ℕ) → x < k → tested p x ≡ false
    unfolding reads_unset
    low p x h = rw (lt-leb k x h)

    pub none_is : length ws ≡ lowest (unset_below ws k k) (length ws)
    none_is = lowest_laws.nowhere (unset_below ws k k) (length ws) (λ p h. none-of (tested p) k (low p))

    both : (a b c : Bool) → a && (b && c) ≡ true → (b ≡ true) × (c ≡ true)
    both true true c e = (refl, e)
    both true false c e = absurd (false≢true e)
    both false b c e = absurd (false≢true e)

    -- what is read unset
    pub record ReadUnset (p x : ℕ) : Type 0 where
      pub read : reads_by (touches_of ws p) x ≡ true
      pub reached : p < length ws → Reachable g p

    read_unset : (p x : ℕ) → tested p x ≡ true → ReadUnset p x
    unfolding reads_unset
    read_unset p x e =
        let b = both (leb k x) (reads_by (touches_of ws p) x) _ e in
        let m : eqb (mark_of (graph_at ws x 0) p) 1 ≡ true = ap (λ (y : Graph). eqb (mark_of y p) 1) same ∙ b.1 in
        record { read = b.0; reached = λ h. cut_reached x 0 p (((graph.laws).marking (graph_at ws x 0) (cut_law ws x 0)).reachable p h (eqb-true _ 1 m)) }
      where
        same : graph_at ws x 0 ≡ cut g (λ y z. (usage_of ws).sets y z x)
        same = let z : x + 0 ≡ x = omega arith in ap (λ (w : ℕ). cut g (λ y v. sets_by (touches_of ws y) v w)) z

    -- a register that no reachable word reads
    unread : (p : ℕ) → p < length ws → (x : ℕ) → (Reachable g p → reads_by (touches_of ws p) x ≡ false) → tested p x ≡ false
    unread p h x n = go (tested p x) refl
      where
        go : (b : Bool) → tested p x ≡ b → b ≡ false
        go true f = let u = read_unset p x f in absurd (false≢true (sym (n (u.reached h)) ∙ u.read))
        go false f = refl

    -- none is read past all
    past_all : RegistersEnd ws → (p : ℕ) → Reachable g p → (x : ℕ) → most_registers ≤ x → reads_by (touches_of ws p) x ≡ false
    past_all e p k x h = go (reads_by (touches_of ws p) x) refl
      where
        go : (b : Bool) → reads_by (touches_of ws p) x ≡ b → b ≡ false
        go true f = absurd (omega (arith, before_end x (ranges_in (touches_of ws p).reads) ((in-ranges x (ranges_in (touches_of ws p).reads)).0 f), e p k))
        go false f = refl

    -- on to the next that is read
    module _ {r : ℕ} {unset waiting pages : List ℕ} {limit : ℕ} {seen : Seen} (s : BlockSearched ws r unset waiting pages limit seen) where
      same_on : (p : ℕ) → p < length ws → unset_below ws k (r + 63) p ≡ unset_below ws k seen.next p
      same_on p h =
          ⊎_elim
          (λ l.
          sym (some_stays (tested p) (r + 63) seen.next l
          (λ x i b. unread p h x (λ q. next_none (r + 63) x (ranges_in (touches_of ws p).reads) i (omega (arith, (seen-of s p q).next_read))))))
          (λ l. some_stays (tested p) seen.next (r + 63) (omega arith)
          (λ x i b. unread p h x (λ q. past_all (ends s) p q x (omega (arith, s.under.next_from)))))
          (split (r + 63) seen.next)

      pub least_on : k ≤ r → limit ≡ lowest (unset_below ws k r) (length ws) → seen.least ≡ lowest (unset_below ws k seen.next) (length ws)
      least_on from e =
          least_is s k from e
          ∙ lowest_laws.same (unset_below ws k (r + 63)) (unset_below ws k seen.next) 0 (length ws) (λ p h. same_on p (omega arith))

    pub rest_is : {least r : ℕ} → RegistersEnd ws → most_registers ≤ r → least ≡ lowest (unset_below ws k r) (length ws) → least ≡ unset_of ws k
    unfolding lowest_unset unset_at
    rest_is {least} {r} e l d =
        d ∙ lowest_laws.same (unset_below ws k r) (unset_at g (usage_of ws) k) 0 (length ws)
        (λ p h.
        ⊎_elim
        (λ b. some_stays (tested p) (registers_of ws) r b (λ x i _. beyond p x i))
        (λ b. sym (some_stays (tested p) r (registers_of ws) (omega arith) (λ x i _. unread p (omega arith) x (λ q. past_all e p q x (omega arith)))))
        (split (registers_of ws) r))
      where
        beyond : (p x : ℕ) → registers_of ws ≤ x → tested p x ≡ false
        beyond p x h = go (tested p x) refl
          where
            go : (b : Bool) → tested p x ≡ b → b ≡ false
            go true f = absurd (omega (arith, bounded ws p x (read_unset p x f).read))
            go false f = refl

  -- the tables have room as before
  pub room_on :
      {r : ℕ} {unset waiting pages unset' waiting' pages' : List ℕ} {limit : ℕ} {seen : Seen} → SearchRoom ws unset waiting pages
      → BlockSearched ws r unset' waiting' pages' limit seen → SearchRoom ws unset' waiting' pages'
  room_on o s =
      record { some = o.some; few = o.few; unset_long = s.under.unset_long; waiting_long = s.under.waiting_long; pages_same = s.under.pages_same }

  pub least_few : (k r : ℕ) {least : ℕ} → least ≡ lowest (unset_below ws k r) (length ws) → least ≤ length ws
  least_few k r e = omega (arith, e, (lowest_laws.first (unset_below ws k r) 0 (length ws)).upto)

  -- after the first block
  pub rest_of :
      (k : ℕ) {unset waiting pages : List ℕ} {seen : Seen} → k ≤ 255
      → BlockSearched ws k unset waiting pages (length ws) seen → Rest ws k seen.least seen.next
  rest_of k h s = record { from = omega (arith, s.under.next_from); least_is = least_on k s (omega arith) (none_is k); ends = ends s }

  -- the lowest reachable bad word by the marks
  abbrev pub bad_by : List ℕ → ℕ → Bool
  bad_by marks p = eqb (get_or marks p 0) 1 && is_invalid (successors_of ws p)

  pub bad_is : {marks : List ℕ} → marks ≡ tabulate (mark_of (graph_of (lua54 ws))) 0 (length ws) → lowest (bad_by marks) (length ws) ≡ lowest_invalid (lua54 ws)
  unfolding lowest_invalid
  bad_is {marks} e =
      lowest_laws.same (bad_by marks) (λ p. eqb (mark_of (graph_of (lua54 ws)) p) 1 && is_invalid (successors_of ws p)) 0 (length ws)
      (λ p l.
      let z : 0 + p ≡ p = omega arith in
      ap (λ (x : ℕ). eqb x 1 && is_invalid (successors_of ws p)) (ap (λ (x : List ℕ). get_or x p 0) e
      ∙ over_laws.get_d_tabulate (mark_of (graph_of (lua54 ws))) 0 (length ws) p (omega arith)
      ∙ ap (mark_of (graph_of (lua54 ws))) z))
