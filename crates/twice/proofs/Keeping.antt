-- Words kept beside their lengths, and the passes by two tables over them, over any weights. No word is read here. Assumes nothing.
use mathlib.Core.Path.{◌≡◌, refl, sym, ap, subst, ◌∙◌}
use mathlib.Core.Logic.{inl, ⊎_elim}
use mathlib.Core.Bool.{Bool, true, false, cond, not}
use mathlib.Core.List.{List, []}
use Prim.Native.Nat.{ℕ, ◌+◌, ◌-◌, ◌*◌, ◌/◌, ◌%◌, ◌≤◌, ◌<◌, max, min}
use native.Mathlib.Nat.{le_trans, mul-le-mul_left}
use native.Mathlib.Omega.{arith}
use borrow.Author.Tests.{eq-eqb, ne_eqb, leb-false, lt-leb, ltb-false, lt-ltb, le-ltb}
use lib.Dec.{ltb, leb, eqb}
use lib.ListN.{length, get_or, set, length-set, get_or-eq_default}
use lib.Seq.{get_or-set_same, get_or-set_other, set-get_or, set-set}
use Rattle.common.specs.Limits.{most_words, heaviest_weight}
use Rattle.std.specs.Prelude.{Option, Some, None}
use Rattle.common.specs.Lowest.{lowest_from, found}
use Rattle.common.proofs.Order.{split, same_or_not, past, one_of}
use Rattle.common.proofs.Stores.{at_set}
use Rattle.common.proofs.Lowest.{lowest_laws, nothing_found, found_first}
use Rattle.graph.specs.Graph.{Graph, In, Lawful}
use Rattle.graph.specs.Marks.{mark_of}
use Rattle.graph.specs.Longest.{best, length_of, most}
use Rattle.graph.proofs.Laws.{laws}
use Rattle.graph.proofs.Ceiling.{ceiling}
use Rattle.sweep.specs.declared.edges.Successors.{Successors}
use Rattle.sweep.specs.declared.edges.Successors.TheVariants.{Stop, One, Two}
use Rattle.sweep.specs.Steps.{ordered, list_of, is_invalid, serves_of}
use Rattle.sweep.specs.Entries.{«TARGETS», «ENTRIES», KIND_NONE, KIND_NEXT, KIND_TARGET}
use Rattle.sweep.specs.Entries.{«RETURNS», entry_at, entries, entry_steps, graph_in, invalid_by}
use Rattle.sweep.specs.SearchInvariants.{Marked}
use Rattle.sweep.specs.PassInvariants.{most_weight, FillAsks, Lengths, steps_in, at}
use Rattle.twice.specs.TwiceInvariants.{KEPT_LENGTHS, «SHARE», KEPT_NEXT, KEPT_SKIP, KEPT_TARGET, low_at, kept_entry, kept_steps, kept_in, length_by, KeptAs, KeepAsks}
use Rattle.twice.specs.TwiceInvariants.{KeepsWord, Keeps, KeptWords, KeepsAll, RaiseAsks, Raises, Restored}
use Rattle.twice.specs.TwiceInvariants.{Twice}
use Rattle.sweep.proofs.Entries.{ordered_among, entries_length, entry_is, entry_next, entry_target, entry_stop, entry_invalid, entry_both}
use Rattle.sweep.proofs.Measures.{next_unserved, best_in, both_valid, valid_unmarked, invalid_by_steps}

-- a step that goes forward is no service
forward_unserved : (p q : ℕ) → p < q → serves_of p q ≡ false
unfolding serves_of
forward_unserved p q h = lt-leb q p h

-- the steps that a byte and an element tell
module _ (b e p : ℕ) where
  pub told_next : b ≡ KEPT_NEXT → kept_steps b e p ≡ One (p + 1)
  told_next z = simp (eq-eqb b KEPT_NEXT z)

  pub told_none : (b ≡ KEPT_NEXT → ⊥) → b < KEPT_SKIP → kept_steps b e p ≡ Stop
  told_none n h = simp (ne_eqb b KEPT_NEXT n, lt-ltb b KEPT_SKIP h)

  pub told_skip : KEPT_SKIP ≤ b → b < KEPT_TARGET → kept_steps b e p ≡ ordered (p + 1) (p + 2)
  told_skip o h = simp (ne_eqb b KEPT_NEXT (λ z. omega arith), le-ltb b KEPT_SKIP o, lt-ltb b KEPT_TARGET h)

  pub told_target : KEPT_TARGET ≤ b → kept_steps b e p ≡ entry_at (kept_entry b e) p
  told_target h =
      let o : KEPT_SKIP ≤ b = omega arith in
      simp (ne_eqb b KEPT_NEXT (λ z. omega arith), le-ltb b KEPT_SKIP o, le-ltb b KEPT_TARGET h)

-- what an edge adds, by the lengths f
abbrev pub beyond_by : (ℕ → ℕ) → ℕ → ℕ → ℕ
beyond_by f p q = cond (serves_of p q) 0 (f q)

-- the best of a word's steps
module _ (f : ℕ → ℕ) (p : ℕ) where
  abbrev pub best_by : Successors → ℕ
  best_by s = best (graph_in []) p f (list_of s)

  pub best_next : f (p + 1) ≡ best_by (One (p + 1))
  best_next = let z : beyond_by f p (p + 1) ≡ f (p + 1) = simp (next_unserved p) in omega arith

  pub best_one : (q x : ℕ) → x ≡ beyond_by f p q → x ≡ best_by (One q)
  best_one q x e = omega arith

  best_ordered : (q r : ℕ) → best_by (ordered q r) ≡ max (beyond_by f p q) (beyond_by f p r)
  unfolding ordered
  best_ordered q r = go (ltb q r) refl (ltb r q) refl
    where
      go : (b : Bool) → ltb q r ≡ b → (d : Bool) → ltb r q ≡ d → best_by (cond b (Two q r) (cond d (Two r q) (One q))) ≡ max (beyond_by f p q) (beyond_by f p r)
      go true e d k = omega arith
      go false e true k = omega arith
      go false e false k = let x = ltb-false q r e in let y = ltb-false r q k in let z : q ≡ r = omega arith in let w = ap (beyond_by f p) z in omega arith

  pub best_two : (q x : ℕ) → x ≡ beyond_by f p q → max (f (p + 1)) x ≡ best_by (ordered (p + 1) q)
  best_two q x e = let z : beyond_by f p (p + 1) ≡ f (p + 1) = simp (next_unserved p) in omega (arith, best_ordered (p + 1) q)

  pub best_skip : max (f (p + 1)) (f (p + 2)) ≡ best_by (ordered (p + 1) (p + 2))
  best_skip = best_two (p + 2) (f (p + 2)) (sym (skip_unserved p))
    where
      skip_unserved : (p : ℕ) → beyond_by f p (p + 2) ≡ f (p + 2)
      skip_unserved p = simp (forward_unserved p (p + 2) (omega arith))

-- the length of a word by its steps
module _ (f : ℕ → ℕ) (x mark p : ℕ) where
  pub by_none : (s : Successors) → mark ≡ 0 → 0 ≡ length_by f x mark s p
  by_none s e = simp (eq-eqb mark 0 e)

  pub by_some : (mark ≡ 0 → ⊥) → (s : Successors) {qs : List ℕ} → list_of s ≡ qs → {v : ℕ} → v ≡ x + best (graph_in []) p f qs → v ≡ length_by f x mark s p
  by_some n s {qs} e {v} q = simp (ne_eqb mark 0 n) (q ∙ ap (λ (y : List ℕ). x + best (graph_in []) p f y) (sym e))

-- what an edge adds of kept elements, the one that the edge starts from cleared
module _ (l : List ℕ) (p : ℕ) where
  pub beyond_kept : (q : ℕ) {x : ℕ} → x ≡ cond (serves_of p q) 0 (at (set l p 0) q) → x % KEPT_LENGTHS ≡ beyond_by (low_at l) p q
  unfolding serves_of
  beyond_kept q {x} e = go (leb q p) refl e
    where
      go : (b : Bool) → leb q p ≡ b → x ≡ cond b 0 (at (set l p 0) q) → x % KEPT_LENGTHS ≡ cond b 0 (low_at l q)
      go true d z = omega arith
      go false d z = omega (arith, get_or-set_other l p q 0 0 (λ y. omega (arith, leb-false q p d)))

  pub beyond_raised : (q : ℕ) {x : ℕ} → x ≡ cond (serves_of p q) 0 (at (set l p 0) q) → x ≡ beyond_by (at l) p q
  unfolding serves_of
  beyond_raised q {x} e = go (leb q p) refl e
    where
      go : (b : Bool) → leb q p ≡ b → x ≡ cond b 0 (at (set l p 0) q) → x ≡ cond b 0 (at l q)
      go true d z = z
      go false d z = z ∙ get_or-set_other l p q 0 0 (λ y. omega (arith, leb-false q p d))

  -- and it is none above the limit
  pub beyond_under : (f : ℕ → ℕ) (limit : ℕ) → ((q : ℕ) → p < q → f q ≤ limit) → (q : ℕ) → beyond_by f p q ≤ limit
  unfolding serves_of
  beyond_under f limit k q = go (leb q p) refl
    where
      go : (b : Bool) → leb q p ≡ b → cond b 0 (f q) ≤ limit
      go true e = omega arith
      go false e = k q (leb-false q p e)

-- the target of an entry that has one is among its steps
steps-in : (l : List ℕ) (p e : ℕ) → ((q : ℕ) → In q (list_of (entry_at e p)) → q < length l) → KIND_TARGET ≤ e / «TARGETS» → e % «TARGETS» < length l
steps-in l p e k h =
    ⊎_elim
    (λ d. k (e % «TARGETS») (subst (λ (s : Successors). In (e % «TARGETS») (list_of s)) (sym (entry_target e p d)) (inl refl)))
    (λ d. k (e % «TARGETS») (subst (λ (s : Successors). In (e % «TARGETS») (list_of s))
    (sym (entry_both e p (λ z. omega arith) (λ z. omega arith) d))
    (ordered_among (p + 1) (e % «TARGETS»)).other))
    (same_or_not (e / «TARGETS») KIND_TARGET)

-- the arms of the first pass, at word p
module _ (m l : List ℕ) (p a f x : ℕ) (k : KeepAsks m l p a f) (light : x ≤ heaviest_weight) where
  abbrev entry : ℕ
  entry = get_or l p 0 % «ENTRIES»

  pub above_under : a ≤ most_weight
  above_under = omega (arith, k.next, k.low (p + 1) (omega arith))

  pub after_under : f ≤ most_weight
  after_under = omega (arith, k.skip, k.low (p + 2) (omega arith))

  pub keeps_none : get_or m p 0 ≡ 0 → Keeps x m l p 0 false m (set l p 0)
  keeps_none z =
      record {
        element = 0;
        byte = 0;
        word =
            record {
              length_is = by_none (low_at l) x (get_or m p 0) p (steps_in l p) z;
              invalid_is = valid_unmarked m l p z;
              none = λ _. refl;
              some = λ n. absurd (n z);
              steps = λ n. absurd (n z);
            };
        handed = refl;
        m_is = sym (set-get_or m p 0) ∙ ap (set m p) z;
        l_is = refl;
      }

  module _ (n : get_or m p 0 ≡ 0 → ⊥) where
    keeps_by : {s : Successors} → steps_in l p ≡ s → (v e b : ℕ) {bad : Bool} {m' : List ℕ} → v ≡ x + best_by (low_at l) p s → bad ≡ is_invalid s
        → v ≡ e % KEPT_LENGTHS → (b ≡ 0 → ⊥) → list_of (kept_steps b e p) ≡ list_of s → m' ≡ set m p b → Keeps x m l p v bad m' (set l p e)
    keeps_by {s} d v e b q j h o r y =
        record {
          element = e;
          byte = b;
          word =
              record {
                length_is = by_some (low_at l) x (get_or m p 0) p n (steps_in l p) (ap list_of d) (sym h ∙ q);
                invalid_is = invalid_by_steps m l p n d j;
                none = λ z. absurd (n z);
                some = λ _. o;
                steps = λ _. r ∙ ap list_of (sym d);
              };
          handed = h;
          m_is = y;
          l_is = refl;
        }

    pub keeps_next : entry / «TARGETS» ≡ KIND_NEXT → Keeps x m l p (a + x) false m (set l p (a + x))
    keeps_next d =
        keeps_by (entry_next entry p d) (a + x) (a + x) 1 (omega (arith, best_next (low_at l) p, k.next)) refl
        (omega (arith, above_under)) (λ z. omega arith) refl
        (sym (set-get_or m p 0) ∙ ap (set m p) (one_of k.bit n))

    pub keeps_skip : entry ≡ 98304 + (p + 2) → {v : ℕ} → v ≡ max a f → Keeps x m l p (v + x) false (set m p 3) (set l p (v + x))
    keeps_skip d {v} q =
        let t : entry % «TARGETS» ≡ p + 2 = omega (arith, d) in
        let s = entry_both entry p (λ z. omega (arith, d, z)) (λ z. omega (arith, d, z)) (λ z. omega (arith, d, z)) ∙ ap (ordered (p + 1)) t in
        keeps_by s (v + x) (v + x) 3 (omega (arith, best_skip (low_at l) p, k.next, k.skip)) (both_valid _ _)
        (omega (arith, above_under, after_under)) (λ z. omega arith) refl refl

    keeps_stop : entry / «TARGETS» ≡ KIND_NONE → entry % «TARGETS» ≡ «RETURNS» → Keeps x m l p x false (set m p 2) (set l p x)
    keeps_stop d r = keeps_by (entry_stop entry p d r) x x 2 (omega arith) refl (omega arith) (λ z. omega arith) refl refl

    keeps_invalid : entry / «TARGETS» ≡ KIND_NONE → (entry % «TARGETS» ≡ «RETURNS» → ⊥) → Keeps x m l p x true (set m p 2) (set l p x)
    keeps_invalid d r = keeps_by (entry_invalid entry p d r) x x 2 (omega arith) refl (omega arith) (λ z. omega arith) refl refl

    -- with no step: invalid, if it does not return
    pub keeps_ended : entry / «TARGETS» ≡ KIND_NONE → Keeps x m l p x (not (eqb (entry % «TARGETS») «RETURNS»)) (set m p 2) (set l p x)
    keeps_ended d =
        ⊎_elim
        (λ r. subst (λ (b : Bool). Keeps x m l p x b (set m p 2) (set l p x)) (sym (ap not (eq-eqb (entry % «TARGETS») «RETURNS» r))) (keeps_stop d r))
        (λ r. subst (λ (b : Bool). Keeps x m l p x b (set m p 2) (set l p x)) (sym (ap not (ne_eqb (entry % «TARGETS») «RETURNS» r))) (keeps_invalid d r))
        (same_or_not (entry % «TARGETS») «RETURNS»)

    -- with a target, of which y is added
    module _ (h : KIND_TARGET ≤ entry / «TARGETS») (y : ℕ) (e : y ≡ beyond_by (low_at l) p (entry % «TARGETS»)) where
      abbrev element : ℕ → ℕ
      element v = v + entry % «SHARE» * KEPT_LENGTHS

      added_under : y ≤ most_weight
      added_under = omega (arith, e, beyond_under l p (low_at l) most_weight k.low (entry % «TARGETS»))

      as_was : (v : ℕ) → v < KEPT_LENGTHS → {s : Successors} → steps_in l p ≡ s → list_of (kept_steps (entry / «SHARE») (element v) p) ≡ list_of s
      as_was v o d =
          let z : kept_entry (entry / «SHARE») (element v) ≡ entry = omega arith in
          ap list_of (told_target (entry / «SHARE») (element v) p (omega arith))
          ∙ ap (λ (u : ℕ). list_of (entry_at u p)) z ∙ ap list_of d

      pub keeps_target : entry / «TARGETS» ≡ KIND_TARGET → Keeps x m l p (y + x) false (set m p (entry / «SHARE»)) (set l p (y + x + entry % «SHARE» * KEPT_LENGTHS))
      keeps_target d =
          keeps_by (entry_target entry p d) (y + x) (element (y + x)) (entry / «SHARE»)
          (omega (arith, best_one (low_at l) p (entry % «TARGETS») y e)) refl
          (omega (arith, added_under)) (λ z. omega arith)
          (as_was (y + x) (omega (arith, added_under)) (entry_target entry p d)) refl

      two : (entry / «TARGETS» ≡ KIND_TARGET → ⊥) → steps_in l p ≡ ordered (p + 1) (entry % «TARGETS»)
      two o = entry_both entry p (λ z. omega arith) (λ z. omega arith) o

      pub keeps_both : (entry / «TARGETS» ≡ KIND_TARGET → ⊥) → {v : ℕ} → v ≡ max a y
          → Keeps x m l p (v + x) false (set m p (entry / «SHARE»)) (set l p (v + x + entry % «SHARE» * KEPT_LENGTHS))
      keeps_both o {v} q =
          keeps_by (two o) (v + x) (element (v + x)) (entry / «SHARE»)
          (omega (arith, best_two (low_at l) p (entry % «TARGETS») y e, k.next)) (both_valid _ _)
          (omega (arith, added_under, above_under)) (λ z. omega arith)
          (as_was (v + x) (omega (arith, added_under, above_under)) (two o)) refl

  -- the target of an entry that has one is a word
  pub target-in : KIND_TARGET ≤ entry / «TARGETS» → entry % «TARGETS» < length l
  target-in h = steps-in l p entry k.steps h

-- the lengths where the word's own place was cleared first
pub keeps_cleared : {x : ℕ} (m l : List ℕ) (p v : ℕ) {bad : Bool} (e : ℕ) {m' : List ℕ} → Keeps x m l p v bad m' (set l p e) → Keeps x m l p v bad m' (set (set l p 0) p e)
keeps_cleared {x} m l p v {bad} e {m'} d = subst (λ (z : List ℕ). Keeps x m l p v bad m' z) (sym (set-set l p 0 e)) d

-- only the word's own weight counts
pub keeps_at : {x y : ℕ} (m l : List ℕ) (p v : ℕ) {bad : Bool} {m' l' : List ℕ} → x ≡ y → Keeps x m l p v bad m' l' → Keeps y m l p v bad m' l'
keeps_at m l p v {bad} {m'} {l'} z d = subst (λ (u : ℕ). Keeps u m l p v bad m' l') z d

-- the arms of the second pass, at word p
module _ (m l : List ℕ) (p a f x : ℕ) (k : RaiseAsks m l p a f) where
  abbrev byte : ℕ
  byte = get_or m p 0

  abbrev told : ℕ
  told = kept_entry byte (get_or l p 0)

  abbrev target : ℕ
  target = told % «TARGETS»

  abbrev Rises : ℕ → Type 0
  Rises v = v ≡ length_by (at l) x byte (kept_in m l p) p

  pub raised_under : a ≤ most_weight
  raised_under = omega (arith, k.next, k.low (p + 1) (omega arith))

  pub raised_after : f ≤ most_weight
  raised_after = omega (arith, k.skip, k.low (p + 2) (omega arith))

  rises_by : (byte ≡ 0 → ⊥) → {s : Successors} → kept_in m l p ≡ s → {v : ℕ} → v ≡ x + best_by (at l) p s → Rises v
  rises_by n d q = by_some (at l) x byte p n (kept_in m l p) (ap list_of d) q

  pub rises_none : byte ≡ 0 → Rises 0
  rises_none z = by_none (at l) x byte p (kept_in m l p) z

  pub rises_stop : (byte ≡ 0 → ⊥) → (byte ≡ KEPT_NEXT → ⊥) → byte < KEPT_SKIP → Rises x
  rises_stop n o h = rises_by n (told_none byte (get_or l p 0) p o h) (omega arith)

  pub rises_next : byte ≡ KEPT_NEXT → Rises (a + x)
  rises_next z = rises_by (λ o. omega arith) (told_next byte (get_or l p 0) p z) (omega (arith, best_next (at l) p, k.next))

  pub rises_skip : KEPT_SKIP ≤ byte → byte < KEPT_TARGET → {v : ℕ} → v ≡ max a f → Rises (v + x)
  rises_skip o h {v} q = rises_by (λ z. omega arith) (told_skip byte (get_or l p 0) p o h) (omega (arith, best_skip (at l) p, k.next, k.skip))

  module _ (h : KEPT_TARGET ≤ byte) where
    told_here : kept_in m l p ≡ entry_at told p
    told_here = told_target byte (get_or l p 0) p h

    pub raised_target_in : target < length l
    raised_target_in =
        steps-in l p told
        (λ q i. k.steps (λ z. omega arith) q (subst (λ (s : Successors). In q (list_of s)) (sym told_here) i))
        (omega arith)

    module _ {y : ℕ} (e : y ≡ beyond_by (at l) p target) where
      pub rises_target : byte < 192 → Rises (y + x)
      rises_target o =
          rises_by (λ z. omega arith) (told_here ∙ entry_target told p (omega arith))
          (omega (arith, best_one (at l) p target y e))

      pub rises_both : 192 ≤ byte → {v : ℕ} → v ≡ max a y → Rises (v + x)
      rises_both o {v} q =
          rises_by (λ z. omega arith) (told_here ∙ entry_both told p (λ z. omega arith) (λ z. omega arith) (λ z. omega arith))
          (omega (arith, best_two (at l) p target y e, k.next))

-- a word's length, where f are those of the words above it
module _ (es : List ℕ) (law : Lawful (graph_in es)) (w : ℕ → ℕ) (f : ℕ → ℕ) (p : ℕ) (h : p < length es)
    (k : (q : ℕ) → p < q → q < length es → f q ≡ length_of (graph_in es) w q) where
  abbrev g : Graph
  g = graph_in es

  pub found_none : {mark : ℕ} (s : Successors) → mark ≡ 0 → mark_of g p ≡ 0 → length_by f (w p) mark s p ≡ length_of g w p
  found_none {mark} s e d = sym (by_none f (w p) mark p s e) ∙ sym ((laws.passing g law w).unmarked p d)

  pub found_some : {mark : ℕ} (s : Successors) → (mark ≡ 0 → ⊥) → mark_of g p ≡ 1 → list_of s ≡ g.successors p → length_by f (w p) mark s p ≡ length_of g w p
  found_some {mark} s n d e =
      sym (by_some f (w p) mark p n s refl refl)
      ∙ ap (λ (y : ℕ). w p + y) (best_in [] es p f (list_of s) ∙ ap (best g p f) e)
      ∙ sym ((laws.passing g law w).marked f p h d k)

-- no length is above the limit
module _ (es : List ℕ) (law : Lawful (graph_in es)) (few : length es ≤ most_words) (w : ℕ → ℕ) (light : (q : ℕ) → w q ≤ heaviest_weight) where
  pub length_under : (q : ℕ) → length_of (graph_in es) w q ≤ most_weight
  length_under q = le_trans (ceiling.lengths (graph_in es) law w heaviest_weight light q) (mul-le-mul_left heaviest_weight few)

-- the first pass: the words from i on are kept, a and f are the lengths of word i and of the next, and v the lowest invalid word among them
pub record Keeping (w : ℕ → ℕ) (es m l : List ℕ) (i a f : ℕ) (v : Option ℕ) : Type 0 where
  pub law : Lawful (graph_in es)
  pub few : length es ≤ most_words
  pub m_same : length m ≡ length es
  pub l_same : length l ≡ length es
  pub upto : i ≤ length es
  pub marks : (q : ℕ) → q < i → get_or m q 0 ≡ mark_of (graph_in es) q
  pub below : (q : ℕ) → q < i → get_or l q 0 % «ENTRIES» ≡ get_or es q 0
  pub from : (q : ℕ) → i ≤ q → q < length es → low_at l q ≡ length_of (graph_in es) w q
  pub kept : (q : ℕ) → i ≤ q → q < length es → KeptAs (graph_in es) q (get_or m q 0) (get_or l q 0)
  pub above : a ≡ low_at l i
  pub after : f ≡ low_at l (i + 1)
  pub lowest : v ≡ found (length es) (lowest_from (invalid_by (length es) (entry_steps es)) i (length es - i))

pub keeping_none : (w : ℕ → ℕ) (m l : List ℕ) → FillAsks m l → Keeping w (entries l) m l (length l) 0 0 None
keeping_none w m l k =
    let n = entries_length l in
    record {
      law = k.held.law;
      few = k.held.lent.few;
      m_same = k.held.lent.m_same;
      l_same = k.held.lent.l_same;
      upto = omega arith;
      marks = λ q d. k.marked q (omega arith);
      below = λ q d. sym (entry_is l q);
      from = λ q d i. absurd (omega arith);
      kept = λ q d i. absurd (omega arith);
      above = ap (λ (x : ℕ). x % KEPT_LENGTHS) (sym (get_or-eq_default l 0 (omega arith)));
      after = ap (λ (x : ℕ). x % KEPT_LENGTHS) (sym (get_or-eq_default l 0 (omega arith)));
      lowest = nothing_found (omega (arith, lowest_laws.end (invalid_by (length (entries l)) (entry_steps (entries l))) (length (entries l)) (length l) (sym n)));
    }

module _ (w : ℕ → ℕ) (light : (q : ℕ) → w q ≤ heaviest_weight) (es m l : List ℕ) (p a f : ℕ) (v : Option ℕ) (k : Keeping w es m l (p + 1) a f v) where
  inside : p < length es
  inside = omega (arith, k.upto)

  pub keeping_asks : KeepAsks m l p a f
  keeping_asks =
      record {
        in_m = omega (arith, inside, k.m_same);
        in_l = omega (arith, inside, k.l_same);
        few = omega (arith, k.few, k.l_same);
        bit = omega (arith, k.marks p (omega arith), (laws.marking (graph_in es) k.law).bit p);
        steps = λ q i. omega (arith, k.l_same, k.law.inside p q (subst (λ (x : ℕ). In q (list_of (entry_at x p))) (k.below p (omega arith)) i));
        low = λ q d. ⊎_elim
            (λ o. omega (arith, get_or-eq_default l 0 {n = q} (omega (arith, k.l_same))))
            (λ i. omega (arith, k.from q (omega arith) i, length_under es k.law k.few w light q))
            (split (length es) q);
        next = k.above;
        skip = k.after ∙ ap (low_at l) (omega arith);
      }

  module _ {e b : ℕ} {bad : Bool} (d : KeepsWord (w p) m l p e b bad) where
    mark_here : get_or m p 0 ≡ mark_of (graph_in es) p
    mark_here = k.marks p (omega arith)

    unmarked : get_or m p 0 ≡ 0 → mark_of (graph_in es) p ≡ 0
    unmarked z = sym mark_here ∙ z

    marked : (get_or m p 0 ≡ 0 → ⊥) → mark_of (graph_in es) p ≡ 1
    marked n = one_of ((laws.marking (graph_in es) k.law).bit p) (λ z. n (mark_here ∙ z))

    steps_here : steps_in l p ≡ entry_steps es p
    steps_here = ap (λ (x : ℕ). entry_at x p) (k.below p (omega arith))

    agree : (q : ℕ) → p < q → q < length es → low_at l q ≡ length_of (graph_in es) w q
    agree q x i = k.from q (omega arith) i

    length_here : e % KEPT_LENGTHS ≡ length_of (graph_in es) w p
    length_here =
        d.length_is
        ∙ ⊎_elim
        (λ z. found_none es k.law w (low_at l) p inside agree (steps_in l p) z (unmarked z))
        (λ n. found_some es k.law w (low_at l) p inside agree (steps_in l p) n (marked n) (ap list_of steps_here))
        (same_or_not (get_or m p 0) 0)

    kept_here : KeptAs (graph_in es) p b e
    kept_here =
        ⊎_elim
        (λ z. record { none = λ _. unmarked z; some = λ n. absurd (n (d.none z)); steps = λ n. absurd (n (d.none z)) })
        (λ n. record { none = λ z. absurd (d.some n z); some = λ _. marked n; steps = λ _. d.steps n ∙ ap list_of steps_here })
        (same_or_not (get_or m p 0) 0)

    invalid_here : bad ≡ invalid_by (length es) (entry_steps es) p
    invalid_here =
        d.invalid_is
        ∙ ⊎_elim
        (λ z. sym (valid_unmarked m l p z) ∙ at_unmarked (unmarked z))
        (λ n. sym (invalid_by_steps m l p n steps_here refl) ∙ at_marked (marked n))
        (same_or_not (get_or m p 0) 0)
      where
        at_unmarked : mark_of (graph_in es) p ≡ 0 → false ≡ invalid_by (length es) (entry_steps es) p
        at_unmarked z = simp (ne_eqb (mark_of (graph_in es) p) 1 (λ o. omega arith))

        at_marked : mark_of (graph_in es) p ≡ 1 → is_invalid (entry_steps es p) ≡ invalid_by (length es) (entry_steps es) p
        at_marked z = simp (eq-eqb (mark_of (graph_in es) p) 1 z)

    kept_more : Keeping w es (set m p b) (set l p e) p (e % KEPT_LENGTHS) a (cond bad (Some p) v)
    kept_more =
        record {
          law = k.law;
          few = k.few;
          m_same = simp length-set k.m_same;
          l_same = simp length-set k.l_same;
          upto = omega (arith, inside);
          marks = λ q x. get_or-set_other m p q b 0 (λ z. omega arith) ∙ k.marks q (omega arith);
          below = λ q x. ap (λ (z : ℕ). z % «ENTRIES») (get_or-set_other l p q e 0 (λ z. omega arith)) ∙ k.below q (omega arith);
          from = λ q x i. ⊎_elim
              (λ z. ap (λ (u : ℕ). u % KEPT_LENGTHS) z.1 ∙ length_here ∙ ap (length_of (graph_in es) w) (sym z.0))
              (λ z. ap (λ (u : ℕ). u % KEPT_LENGTHS) z.1 ∙ k.from q (omega (arith, past x z.0)) i)
              (at_set l p e q (omega (arith, inside, k.l_same)));
          kept = λ q x i. ⊎_elim
              (λ z. kept_same q z)
              (λ n. kept_other q (λ z. n z) (k.kept q (omega (arith, past x n)) i))
              (same_or_not q p);
          above = ap (λ (z : ℕ). z % KEPT_LENGTHS) (sym (get_or-set_same l p e 0 (omega (arith, inside, k.l_same))));
          after = k.above ∙ ap (λ (z : ℕ). z % KEPT_LENGTHS) (sym (get_or-set_other l p (p + 1) e 0 (λ z. omega arith)));
          lowest =
              ap (λ (z : Bool). cond z (Some p) v) invalid_here
              ∙ ap (cond (invalid_by (length es) (entry_steps es) p) (Some p)) k.lowest
              ∙ found_first (invalid_by (length es) (entry_steps es) p) _ inside
              ∙ ap (found (length es)) (sym (lowest_laws.turn (invalid_by (length es) (entry_steps es)) (length es) p inside));
        }
      where
        kept_by : (q : ℕ) {b₁ b₂ e₁ e₂ : ℕ} → b₁ ≡ b₂ → e₁ ≡ e₂ → KeptAs (graph_in es) q b₂ e₂ → KeptAs (graph_in es) q b₁ e₁
        kept_by q {b₁} {b₂} {e₁} {e₂} s t u =
            subst (λ (x : ℕ). KeptAs (graph_in es) q x e₁) (sym s) (subst (λ (x : ℕ). KeptAs (graph_in es) q b₂ x) (sym t) u)

        kept_same : (q : ℕ) → q ≡ p → KeptAs (graph_in es) q (get_or (set m p b) q 0) (get_or (set l p e) q 0)
        kept_same q z =
            subst (λ (x : ℕ). KeptAs (graph_in es) x (get_or (set m p b) x 0) (get_or (set l p e) x 0)) (sym z)
            (kept_by p (get_or-set_same m p b 0 (omega (arith, inside, k.m_same))) (get_or-set_same l p e 0 (omega (arith, inside, k.l_same))) kept_here)

        kept_other : (q : ℕ) → (q ≡ p → ⊥) → KeptAs (graph_in es) q (get_or m q 0) (get_or l q 0)
            → KeptAs (graph_in es) q (get_or (set m p b) q 0) (get_or (set l p e) q 0)
        kept_other q n u = kept_by q (get_or-set_other m p q b 0 n) (get_or-set_other l p q e 0 n) u

  pub keeping_more : {x : ℕ} {bad : Bool} {m' l' : List ℕ} → Keeps (w p) m l p x bad m' l' → Keeping w es m' l' p x a (cond bad (Some p) v)
  keeping_more {x} {bad} {m'} {l'} d =
      subst (λ (z : ℕ). Keeping w es m' l' p z a (cond bad (Some p) v)) (sym d.handed)
      (subst (λ (z : List ℕ). Keeping w es z l' p (d.element % KEPT_LENGTHS) a (cond bad (Some p) v)) (sym d.m_is)
      (subst (λ (z : List ℕ). Keeping w es (set m p d.byte) z p (d.element % KEPT_LENGTHS) a (cond bad (Some p) v)) (sym d.l_is)
      (kept_more d.word)))

pub keeping_done : {w : ℕ → ℕ} (l₀ : List ℕ) {m l : List ℕ} {i a f : ℕ} {v : Option ℕ} → Keeping w (entries l₀) m l i a f v → i ≤ 0 → KeepsAll w l₀ m l v
keeping_done {w} l₀ {m} {l} {i} {a} {f} {v} k h =
    let e : i ≡ 0 = omega arith in
    let t = invalid_by (length (entries l₀)) (entry_steps (entries l₀)) in
    record {
      lows = λ p d. k.from p (omega arith) d;
      kept = record { law = k.law; few = k.few; m_same = k.m_same; l_same = k.l_same; kept = λ q d. k.kept q (omega arith) d };
      lowest-invalid =
          k.lowest
          ∙ ap (found (length (entries l₀))) (ap (λ (x : ℕ). lowest_from t x (length (entries l₀) - x)) e ∙ lowest_laws.whole t (length (entries l₀)));
    }

-- the second pass: the words from i on have their lengths, a and f are those of word i and of the next, and those below are kept
pub record Raising (w : ℕ → ℕ) (es m l : List ℕ) (i a f : ℕ) : Type 0 where
  pub law : Lawful (graph_in es)
  pub few : length es ≤ most_words
  pub m_same : length m ≡ length es
  pub l_same : length l ≡ length es
  pub upto : i ≤ length es
  pub kept : (q : ℕ) → q < i → KeptAs (graph_in es) q (get_or m q 0) (get_or l q 0)
  pub from : (q : ℕ) → i ≤ q → q < length es → get_or l q 0 ≡ length_of (graph_in es) w q
  pub above : a ≡ get_or l i 0
  pub after : f ≡ get_or l (i + 1) 0

pub raising_none : (w : ℕ → ℕ) (es m l : List ℕ) → KeptWords es m l → Raising w es m l (length l) 0 0
raising_none w es m l k =
    record {
      law = k.law;
      few = k.few;
      m_same = k.m_same;
      l_same = k.l_same;
      upto = omega (arith, k.l_same);
      kept = λ q d. k.kept q (omega (arith, k.l_same));
      from = λ q d i. absurd (omega (arith, k.l_same));
      above = sym (get_or-eq_default l 0 (omega arith));
      after = sym (get_or-eq_default l 0 (omega arith));
    }

module _ (w : ℕ → ℕ) (light : (q : ℕ) → w q ≤ heaviest_weight) (es m l : List ℕ) (p a f : ℕ) (k : Raising w es m l (p + 1) a f) where
  raised_in : p < length es
  raised_in = omega (arith, k.upto)

  here : KeptAs (graph_in es) p (get_or m p 0) (get_or l p 0)
  here = k.kept p (omega arith)

  pub raising_asks : RaiseAsks m l p a f
  raising_asks =
      record {
        in_m = omega (arith, raised_in, k.m_same);
        in_l = omega (arith, raised_in, k.l_same);
        steps = λ n q i. omega (arith, k.l_same, k.law.inside p q (subst (λ (x : List ℕ). In q x) (here.steps n) i));
        low = λ q d. ⊎_elim
            (λ o. omega (arith, get_or-eq_default l 0 {n = q} (omega (arith, k.l_same))))
            (λ i. omega (arith, k.from q (omega arith) i, length_under es k.law k.few w light q))
            (split (length es) q);
        next = k.above;
        skip = k.after ∙ ap (at l) (omega arith);
      }

  pub raising_more : {v : ℕ} → v ≡ length_by (at l) (w p) (get_or m p 0) (kept_in m l p) p → Raising w es m (set l p v) p v a
  raising_more {v} e =
      record {
        law = k.law;
        few = k.few;
        m_same = k.m_same;
        l_same = simp length-set k.l_same;
        upto = omega (arith, raised_in);
        kept = λ q x. subst (λ (z : ℕ). KeptAs (graph_in es) q (get_or m q 0) z) (sym (get_or-set_other l p q v 0 (λ z. omega arith))) (k.kept q (omega arith));
        from = λ q x i. ⊎_elim
            (λ z. z.1 ∙ found ∙ ap (length_of (graph_in es) w) (sym z.0))
            (λ z. z.1 ∙ k.from q (omega (arith, past x z.0)) i)
            (at_set l p v q (omega (arith, raised_in, k.l_same)));
        above = sym (get_or-set_same l p v 0 (omega (arith, raised_in, k.l_same)));
        after = k.above ∙ sym (get_or-set_other l p (p + 1) v 0 (λ z. omega arith));
      }
    where
      agree : (q : ℕ) → p < q → q < length es → at l q ≡ length_of (graph_in es) w q
      agree q x i = k.from q (omega arith) i

      found : v ≡ length_of (graph_in es) w p
      found =
          e
          ∙ ⊎_elim
          (λ z. found_none es k.law w (at l) p raised_in agree (kept_in m l p) z (here.none z))
          (λ n. found_some es k.law w (at l) p raised_in agree (kept_in m l p) n (here.some n) (here.steps n))
          (same_or_not (get_or m p 0) 0)

pub raising_done : {w : ℕ → ℕ} {es m l : List ℕ} {i a f : ℕ} → Raising w es m l i a f → i ≤ 0 → Lengths (graph_in es) w l
raising_done k h p d = k.from p (omega arith) d

-- the marks again
pub marks_again : {es l : List ℕ} (m m' : List ℕ) → KeptWords es m l → Restored m m' → Marked (graph_in es) m'
marks_again {es} {l} m m' k r p h =
    let w = k.kept p h in
    r p (omega (arith, h, k.m_same))
    ∙ ⊎_elim
    (λ z. back_none z ∙ sym (w.none z))
    (λ n. back_some n ∙ sym (w.some n))
    (same_or_not (get_or m p 0) 0)
  where
    back_none : get_or m p 0 ≡ 0 → ◌≡◌ {A = ℕ} (cond (eqb (get_or m p 0) 0) 0 1) 0
    back_none z = simp (eq-eqb (get_or m p 0) 0 z)

    back_some : (get_or m p 0 ≡ 0 → ⊥) → ◌≡◌ {A = ℕ} (cond (eqb (get_or m p 0) 0) 0 1) 1
    back_some n = simp (ne_eqb (get_or m p 0) 0 n)

-- a loop that restores marks: those below i are marks again, the others as they were
pub record Restoring (m₀ m : List ℕ) (i : ℕ) : Type 0 where
  pub upto : i ≤ length m₀
  pub same : length m ≡ length m₀
  pub done : (p : ℕ) → p < i → get_or m p 0 ≡ cond (eqb (get_or m₀ p 0) 0) 0 1
  pub rest : (p : ℕ) → i ≤ p → get_or m p 0 ≡ get_or m₀ p 0

module _ (m₀ : List ℕ) where
  pub restoring_none : Restoring m₀ m₀ 0
  restoring_none = record { upto = omega arith; same = refl; done = λ p h. absurd (omega arith); rest = λ p h. refl }

  pub restoring_more : {m : List ℕ} {i b : ℕ} → Restoring m₀ m i → i < length m₀ → b ≡ cond (eqb (get_or m i 0) 0) 0 1 → Restoring m₀ (set m i b) (i + 1)
  restoring_more {m} {i} {b} r h e =
      record {
        upto = omega arith;
        same = simp length-set r.same;
        done = λ p d. ⊎_elim
            (λ z. z.1 ∙ e ∙ ap (λ (x : ℕ). cond (eqb x 0) 0 1) (r.rest i (omega arith)) ∙ ap (λ (x : ℕ). cond (eqb (get_or m₀ x 0) 0) 0 1) (sym z.0))
            (λ z. z.1 ∙ r.done p (below_past d z.0))
            (at_set m i b p (omega (arith, h, r.same)));
        rest = λ p d. get_or-set_other m i p b 0 (λ z. omega arith) ∙ r.rest p (omega arith);
      }
    where
      below_past : {p : ℕ} → p < i + 1 → (p ≡ i → ⊥) → p < i
      below_past d n = omega arith

  -- a byte that is a mark again
  pub mark_of_byte : (b : ℕ) → min b 1 ≡ cond (eqb b 0) 0 1
  mark_of_byte b = ⊎_elim (λ e. simp (eq-eqb b 0 e) (omega arith)) (λ n. simp (ne_eqb b 0 n) (omega arith)) (same_or_not b 0)

  pub restoring_done : {m : List ℕ} {i : ℕ} → Restoring m₀ m i → length m₀ ≤ i → Restored m₀ m
  restoring_done r h p d = r.done p (omega arith)

-- both passes
pub twice : {low high : ℕ → ℕ} (l m₁ l₁ m' l' : List ℕ) (n : ℕ) {i : Option ℕ} {v a : ℕ} → length (entries l) ≡ n
    → KeepsAll low l m₁ l₁ i → Raises high m₁ l₁ l' → Restored m₁ m'
    → v ≡ most (low_at l₁) n → a ≡ lowest_from (λ p. eqb (low_at l₁ p) v) 0 n → Twice low high l i v a m' l'
twice {low} {high} l m₁ l₁ m' l' n {i} {v} {a} s k r b e d =
    let g = graph_in (entries l) in
    let passing = laws.passing g k.kept.law low in
    let found = e ∙ ap (most (low_at l₁)) (sym s) ∙ passing.longest_found (low_at l₁) k.lows in
    record {
      marked = marks_again m₁ m' k.kept b;
      lengths = r (entries l) k.kept;
      lowest-invalid = k.lowest-invalid;
      longest_is = found;
      first_is =
          d ∙ ap (λ (x : ℕ). lowest_from (λ p. eqb (low_at l₁ p) v) 0 x) (sym s)
          ∙ ap (λ (x : ℕ). lowest_from (λ p. eqb (low_at l₁ p) x) 0 (length (entries l))) found
          ∙ passing.first_found (low_at l₁) k.lows;
    }
