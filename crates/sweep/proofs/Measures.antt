-- A word measured by its entry, and the pass from the highest word down, over any weights. No word is read here. Assumes nothing.
use mathlib.Core.Path.{◌≡◌, refl, sym, ap, subst, ◌∙◌}
use mathlib.Core.Logic.{inl, ⊎_elim}
use mathlib.Core.Bool.{Bool, true, false, cond}
use mathlib.Core.List.{List, [], ◌∷◌}
use Prim.Native.Nat.{ℕ, ◌+◌, ◌-◌, ◌*◌, ◌/◌, ◌%◌, ◌≤◌, ◌<◌, max}
use native.Mathlib.Nat.{le_trans, mul-le-mul_left}
use native.Mathlib.Omega.{arith}
use borrow.Author.Tests.{eq-eqb, ne_eqb, leb-false, lt-leb, ltb-false}
use mir.Syntax.{w8}
use mir.Val.{Fits}
use lib.Bits.{bit_and}
use lib.Dec.{ltb, leb}
use lib.ListN.{length, get_or, set, length-set, get_or-eq_default}
use lib.Seq.{get_or-set_same, get_or-set_other}
use Rattle.common.specs.Limits.{most_words, heaviest_weight}
use Rattle.std.specs.Prelude.{Option, Some, None}
use Rattle.common.specs.Lowest.{lowest_from, found}
use Rattle.common.proofs.Order.{split, same_or_not, past, one_of}
use Rattle.common.proofs.Stores.{at_set}
use Rattle.common.proofs.Lowest.{lowest_laws, nothing_found, found_first}
use Rattle.graph.specs.Graph.{Graph, In}
use Rattle.graph.specs.Marks.{mark_of}
use Rattle.graph.specs.Longest.{best, length_of}
use Rattle.graph.proofs.Laws.{laws}
use Rattle.graph.proofs.Ceiling.{ceiling}
use Rattle.sweep.specs.declared.edges.Successors.{Successors}
use Rattle.sweep.specs.declared.edges.Successors.TheVariants.{One, Two}
use Rattle.sweep.specs.Steps.{ordered, list_of, is_invalid, serves_of}
use Rattle.sweep.specs.Entries.{«TARGETS», «ENTRIES», KIND_NONE, KIND_NEXT, KIND_TARGET, entry_at, entries, entry_steps, graph_in, invalid_by}
use Rattle.sweep.specs.PassInvariants.{Filled, Measuring, Measures, FillAsks, Fills, steps_in, length_in, invalid_in, weight_by, at}
use Rattle.sweep.proofs.Entries.{ordered_among, entries_length, entry_is, entry_target, entry_both}

-- the next word is no service
pub next_unserved : (p : ℕ) → serves_of p (p + 1) ≡ false
unfolding serves_of
next_unserved p = lt-leb (p + 1) p (omega arith)

-- what an edge adds
abbrev pub beyond_of : List ℕ → ℕ → ℕ → ℕ
beyond_of l p q = cond (serves_of p q) 0 (get_or l q 0)

-- and the same where p's own place was cleared
pub beyond_cleared : (l : List ℕ) (p q v : ℕ) → beyond_of (set l p v) p q ≡ beyond_of l p q
unfolding serves_of
beyond_cleared l p q v = go (leb q p) refl
  where
    go : (b : Bool) → leb q p ≡ b → cond b 0 (get_or (set l p v) q 0) ≡ cond b 0 (get_or l q 0)
    go true e = refl
    go false e = get_or-set_other l p q v 0 (λ x. omega (arith, leb-false q p e))

best_ordered : (l : List ℕ) (p q r : ℕ) → best (graph_in l) p (at l) (list_of (ordered q r)) ≡ max (beyond_of l p q) (beyond_of l p r)
unfolding ordered
best_ordered l p q r = go (ltb q r) refl (ltb r q) refl
  where
    go : (b : Bool) → ltb q r ≡ b → (d : Bool) → ltb r q ≡ d
        → best (graph_in l) p (at l) (list_of (cond b (Two q r) (cond d (Two r q) (One q))))
        ≡ max (beyond_of l p q) (beyond_of l p r)
    go true e d f = omega arith
    go false e true f = omega arith
    go false e false f = let x = ltb-false q r e in let y = ltb-false r q f in let z : q ≡ r = omega arith in let w = ap (beyond_of l p) z in omega arith

-- two steps are no invalid word's
pub both_valid : (q r : ℕ) → false ≡ is_invalid (ordered q r)
unfolding ordered
both_valid q r = go (ltb q r) (ltb r q)
  where
    go : (b d : Bool) → false ≡ is_invalid (cond b (Two q r) (cond d (Two r q) (One q)))
    go true d = refl
    go false true = refl
    go false false = refl

module _ (m l : List ℕ) (p : ℕ) where
  pub measured_none : (w : ℕ → ℕ) → get_or m p 0 ≡ 0 → 0 ≡ length_in w m l p
  measured_none w e = simp (eq-eqb (get_or m p 0) 0 e)

  pub valid_unmarked : get_or m p 0 ≡ 0 → false ≡ invalid_in m l p
  valid_unmarked e = simp (eq-eqb (get_or m p 0) 0 e)

  pub measures_none : (w : ℕ → ℕ) → get_or m p 0 ≡ 0 → Measures w m l p 0 false
  measures_none w e = record { length_is = measured_none w e; invalid_is = valid_unmarked e }

  module _ (n : get_or m p 0 ≡ 0 → ⊥) {s : Successors} (e : steps_in l p ≡ s) where
    pub measured_by : (w : ℕ → ℕ) {v : ℕ} → v ≡ w p + best (graph_in l) p (at l) (list_of s) → v ≡ length_in w m l p
    measured_by w q = simp (ne_eqb (get_or m p 0) 0 n, e) q

    pub invalid_by_steps : {b : Bool} → b ≡ is_invalid s → b ≡ invalid_in m l p
    invalid_by_steps q = simp (ne_eqb (get_or m p 0) 0 n, e) q

    pub measures_by : (w : ℕ → ℕ) {v : ℕ} {b : Bool} → v ≡ w p + best (graph_in l) p (at l) (list_of s) → b ≡ is_invalid s → Measures w m l p v b
    measures_by w q d = record { length_is = measured_by w q; invalid_is = invalid_by_steps d }

  module _ (limit a : ℕ) (k : Measuring limit m l p a) where
    pub above_low : a ≤ limit
    above_low = omega (arith, k.next, k.low (p + 1) (omega arith))

    pub beyond_low : (q : ℕ) → beyond_of l p q ≤ limit
    unfolding serves_of
    beyond_low q = go (leb q p) refl
      where
        go : (b : Bool) → leb q p ≡ b → cond b 0 (get_or l q 0) ≤ limit
        go true e = omega arith
        go false e = k.low q (leb-false q p e)

    pub next_best : a ≡ best (graph_in l) p (at l) (list_of (One (p + 1)))
    next_best = let z : beyond_of l p (p + 1) ≡ get_or l (p + 1) 0 = simp (next_unserved p) in omega (arith, k.next)

    pub both_best : (q x : ℕ) → x ≡ beyond_of l p q → max a x ≡ best (graph_in l) p (at l) (list_of (ordered (p + 1) q))
    both_best q x e = let z : beyond_of l p (p + 1) ≡ get_or l (p + 1) 0 = simp (next_unserved p) in omega (arith, k.next, best_ordered l p (p + 1) q)

    -- the target of an entry that has one is a word
    pub target-in : (let e = get_or l p 0 % «ENTRIES» in (e / «TARGETS» ≡ KIND_NONE → ⊥) → (e / «TARGETS» ≡ KIND_NEXT → ⊥) → e % «TARGETS» < length l)
    target-in none-not next_not =
        let e = get_or l p 0 % «ENTRIES» in
        ⊎_elim
        (λ d. k.steps (e % «TARGETS») (subst (λ (s : Successors). In (e % «TARGETS») (list_of s)) (sym (entry_target e p d)) (inl refl)))
        (λ d. k.steps (e % «TARGETS») (subst (λ (s : Successors). In (e % «TARGETS») (list_of s))
        (sym (entry_both e p none-not next_not d)) (ordered_among (p + 1) (e % «TARGETS»)).other))
        (same_or_not (e / «TARGETS») KIND_TARGET)

-- only the word's own weight counts
pub measures_at : (w : ℕ → ℕ) (m l : List ℕ) (p : ℕ) {v x : ℕ} {b : Bool} → x ≡ w p → Measures (λ _. x) m l p v b → Measures w m l p v b
measures_at w m l p e d =
    record { length_is = d.length_is ∙ ap (λ (y : ℕ). length_in (λ _. y) m l p) e; invalid_is = d.invalid_is }

-- what a graph of entries takes from an edge does not hang on the entries
pub best_in : (es fs : List ℕ) (p : ℕ) (f : ℕ → ℕ) (l : List ℕ) → best (graph_in es) p f l ≡ best (graph_in fs) p f l
best_in es fs p f [] = refl
best_in es fs p f (x ∷ xs) = ap (λ (y : ℕ). max (cond (serves_of p x) 0 (f x)) y) (best_in es fs p f xs)

-- word p, where the words above it have their lengths
module _ (es : List ℕ) (w : ℕ → ℕ) (m l : List ℕ) (p : ℕ) (h : p < length es) (k : Filled es w m l (p + 1)) where
  abbrev g : Graph
  g = graph_in es

  unmarked : get_or m p 0 ≡ 0 → mark_of g p ≡ 0
  unmarked e = sym (k.marks p h) ∙ e

  marked : (get_or m p 0 ≡ 0 → ⊥) → mark_of g p ≡ 1
  marked n = one_of ((laws.marking g k.law).bit p) (λ z. n (k.marks p h ∙ z))

  -- the entry is there yet
  entry_here : steps_in l p ≡ entry_steps es p
  entry_here = ap (λ (x : ℕ). entry_at x p) (k.below p (omega arith))

  measured : (get_or m p 0 ≡ 0 → ⊥) → length_of g w p ≡ w p + best (graph_in l) p (at l) (list_of (steps_in l p))
  measured n =
      (laws.passing g k.law w).marked (at l) p h (marked n) (λ q d i. k.from q (omega arith) i)
      ∙ ap (λ (x : ℕ). w p + x) (best_in es l p (at l) (list_of (entry_steps es p))
      ∙ ap (λ (s : Successors). best (graph_in l) p (at l) (list_of s)) (sym entry_here))

  length_found : length_in w m l p ≡ length_of g w p
  length_found =
      ⊎_elim
      (λ e. sym (measured_none m l p w e) ∙ sym ((laws.passing g k.law w).unmarked p (unmarked e)))
      (λ n. sym (measured_by m l p n refl w refl) ∙ sym (measured n))
      (same_or_not (get_or m p 0) 0)

  invalid_found : invalid_in m l p ≡ invalid_by (length es) (entry_steps es) p
  invalid_found =
      ⊎_elim
      (λ e. sym (valid_unmarked m l p e) ∙ at_unmarked (unmarked e))
      (λ n. sym (invalid_by_steps m l p n entry_here refl) ∙ at_marked (marked n))
      (same_or_not (get_or m p 0) 0)
    where
      at_unmarked : mark_of g p ≡ 0 → false ≡ invalid_by (length es) (entry_steps es) p
      at_unmarked e = simp (ne_eqb (mark_of g p) 1 (λ o. omega arith))

      at_marked : mark_of g p ≡ 1 → is_invalid (entry_steps es p) ≡ invalid_by (length es) (entry_steps es) p
      at_marked e = simp (eq-eqb (mark_of g p) 1 e)

  -- one word more
  filled_more : (v : ℕ) → v ≡ length_of g w p → Filled es w m (set l p v) p
  filled_more v e =
      record {
        law = k.law;
        few = k.few;
        m_same = k.m_same;
        l_same = simp length-set k.l_same;
        marks = k.marks;
        from =
            λ q d i.
            ⊎_elim (λ x. x.1 ∙ e ∙ ap (length_of g w) (sym x.0))
            (λ x. x.1 ∙ k.from q (omega (arith, past d x.0)) i)
            (at_set l p v q (omega (arith, k.l_same)));
        below = λ q d. ap (λ (x : ℕ). x % «ENTRIES») (get_or-set_other l p q v 0 (λ x. omega arith)) ∙ k.below q (omega arith);
      }

-- the words from i on have their lengths, a is that of word i, and v the lowest invalid word among them; l₀ holds the entries of all
pub record Filling (w : ℕ → ℕ) (l₀ m l : List ℕ) (i a : ℕ) (v : Option ℕ) : Type 0 where
  pub filled : Filled (entries l₀) w m l i
  pub upto : i ≤ length (entries l₀)
  pub above : a ≡ get_or l i 0
  pub lowest : v ≡ found (length (entries l₀)) (lowest_from (invalid_by (length (entries l₀)) (entry_steps (entries l₀))) i (length (entries l₀) - i))

pub filling_none : (w : ℕ → ℕ) (m l : List ℕ) → FillAsks m l → Filling w l m l (length l) 0 None
filling_none w m l k =
    let n = entries_length l in
    record {
      filled = record {
        law = k.held.law;
        few = k.held.lent.few;
        m_same = k.held.lent.m_same;
        l_same = k.held.lent.l_same;
        marks = k.marked;
        from = λ q d i. absurd (omega arith);
        below = λ q d. sym (entry_is l q);
      };
      upto = omega arith;
      above = sym (get_or-eq_default l 0 (omega arith));
      lowest = nothing_found (omega (arith, lowest_laws.end (invalid_by (length (entries l)) (entry_steps (entries l))) (length (entries l)) (length l) (sym n)));
    }

-- a weight is a byte
pub light_by : (mask : ℕ) (words weights : List ℕ) → ((i : ℕ) → Fits w8 (get_or weights i 0)) → (q : ℕ) → weight_by mask words weights q ≤ heaviest_weight
light_by mask words weights bytes q = omega (arith, bytes (bit_and (get_or words q 0) mask))

-- a turn of the pass, where no word weighs more than the heaviest
module _ (w : ℕ → ℕ) (heaviest : ℕ) (bound : (q : ℕ) → w q ≤ heaviest) (l₀ m l : List ℕ) (p a : ℕ) (v : Option ℕ) (f : Filling w l₀ m l (p + 1) a v) where
  abbrev es : List ℕ
  es = entries l₀

  inside : p < length es
  inside = omega (arith, f.upto)

  pub filling_asks : Measuring (heaviest * most_words) m l p a
  filling_asks =
      let k = f.filled in
      record {
        in_m = omega (arith, inside, k.m_same);
        in_l = omega (arith, inside, k.l_same);
        steps = λ q i. omega (arith, k.l_same, k.law.inside p q (subst (λ (x : ℕ). In q (list_of (entry_at x p))) (k.below p (omega arith)) i));
        low = λ q d. ⊎_elim
            (λ o. omega (arith, get_or-eq_default l 0 {n = q} (omega (arith, k.l_same))))
            (λ i. omega (
              arith,
              k.from q (omega arith) i,
              le_trans (ceiling.lengths (graph_in es) k.law w heaviest bound q)
                  (mul-le-mul_left heaviest k.few),
            ))
            (split (length es) q);
        next = f.above;
      }

  pub filling_more : {x : ℕ} {b : Bool} → Measures w m l p x b → Filling w l₀ m (set l p x) p x (cond b (Some p) v)
  filling_more {x} {b} d =
      record {
        filled = filled_more es w m l p inside f.filled x (d.length_is ∙ length_found es w m l p inside f.filled);
        upto = omega (arith, inside);
        above = sym (get_or-set_same l p x 0 (omega (arith, inside, f.filled.l_same)));
        lowest =
            ap (λ (z : Bool). cond z (Some p) v) (d.invalid_is ∙ invalid_found es w m l p inside f.filled)
            ∙ ap (cond (invalid_by (length es) (entry_steps es) p) (Some p)) f.lowest
            ∙ found_first (invalid_by (length es) (entry_steps es) p) _ inside
            ∙ ap (found (length es)) (sym (lowest_laws.turn (invalid_by (length es) (entry_steps es)) (length es) p inside));
      }

pub filling_done : {w : ℕ → ℕ} {l₀ m l : List ℕ} {i a : ℕ} {v : Option ℕ} → Filling w l₀ m l i a v → i ≤ 0 → Fills w l₀ l v
filling_done {w} {l₀} {i = i} f h =
    let e : i ≡ 0 = omega arith in
    let t = invalid_by (length (entries l₀)) (entry_steps (entries l₀)) in
    record {
      lengths = λ p l. f.filled.from p (omega arith) l;
      lowest-invalid =
          f.lowest
          ∙ ap (found (length (entries l₀))) (ap (λ (x : ℕ). lowest_from t x (length (entries l₀) - x)) e ∙ lowest_laws.whole t (length (entries l₀)));
    }
