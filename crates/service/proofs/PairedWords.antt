-- A word's distance and length in one element, from those above it, and the pass that pairs all. Assumes nothing.
use mathlib.Core.Path.{◌≡◌, refl, sym, ap, ap₂, subst, ◌∙◌}
use mathlib.Core.Logic.{inl, inr, ⊎_elim}
use mathlib.Core.Bool.{Bool, true, false, cond, ◌||◌}
use mathlib.Core.List.{List, [], ◌∷◌, ◌++◌, append-nil}
use Prim.Native.Nat.{ℕ, ◌+◌, ◌-◌, ◌*◌, ◌/◌, ◌%◌, ◌≤◌, ◌<◌, min, max}
use native.Mathlib.Omega.{arith}
use borrow.Author.Tests.{eq-eqb, ne_eqb, le-leb, lt-leb}
use lib.Dec.{leb, eqb}
use lib.ListN.{length, get_or, set, length-set, get_or-eq_default}
use lib.Seq.{get_or-set_same, get_or-set_other, drop-length}
use Rattle.common.specs.Limits.{most_words}
use Rattle.common.specs.Lists.{tabulate, over}
use Rattle.std.specs.Prelude.{Option, Some, None}
use Rattle.common.specs.Lowest.{lowest_from, found}
use Rattle.common.proofs.Order.{split, same_or_not, past, one_of, bit}
use Rattle.common.proofs.Stores.{at_set}
use Rattle.common.proofs.Lowest.{lowest_laws, nothing_found, found_first}
use Rattle.graph.specs.Graph.{Graph, In, Lawful}
use Rattle.graph.specs.Marks.{mark_of}
use Rattle.graph.specs.Longest.{best, length_of}
use Rattle.graph.specs.Distance.{ends_by, least_of, distance_of}
use Rattle.graph.proofs.Laws.{laws}
use Rattle.graph.proofs.Ceiling.{ceiling}
use Rattle.graph.proofs.Distance.{distances}
use Rattle.sweep.specs.declared.edges.Successors.{Successors}
use Rattle.sweep.specs.declared.edges.Successors.TheVariants.{One, Two}
use Rattle.sweep.specs.Steps.{list_of, is_invalid, ordered, serves_of, unit_weight}
use Rattle.sweep.specs.Entries.{«ENTRIES», entry_at, entries, entry_steps, graph_in, invalid_by}
use Rattle.sweep.specs.PassInvariants.{FillAsks, steps_in}
use Rattle.service.specs.Questions.{listed_at}
use Rattle.service.specs.Pairs.{«LENGTHS», distance_in, paired_length, pair_at, pair_by, Pairing, invalid_from, Paired, Pairs, listed_by}
use Rattle.service.proofs.Near.{entering, going, in_order_one, in_order_up, in_order_down}

-- two steps are no invalid word's
pub both_valid : (q r p : ℕ) (i : Option ℕ) → i ≡ cond (is_invalid (ordered q r)) (Some p) i
both_valid q r p i =
    ⊎_elim
    (λ a. ⊎_elim
    (λ b. ap (λ (s : Successors). cond (is_invalid s) (Some p) i) (sym (in_order_one q r a b)))
    (λ b. ap (λ (s : Successors). cond (is_invalid s) (Some p) i) (sym (in_order_down q r b)))
    (split q r))
    (λ a. ap (λ (s : Successors). cond (is_invalid s) (Some p) i) (sym (in_order_up q r a)))
    (split r q)

-- the pair of word p by its steps
module _ (l : List ℕ) (p : ℕ) where
  -- what an edge goes on to
  abbrev pub beyond_of : ℕ → ℕ
  beyond_of q = cond (serves_of p q) 0 (get_or l q 0)

  pub pair_target : (t : ℕ) {x : ℕ} → x ≡ beyond_of t → (es : List ℕ) → x + 65537 ≡ pair_by es l p (list_of (One t))
  pair_target t {x} e es = go (serves_of p t) e
    where
      go : (b : Bool) → x ≡ cond b 0 (get_or l t 0) → x + 65537 ≡ (1 + cond (b || false) 0 (distance_in l t)) * «LENGTHS» + (1 + max (cond b 0 (paired_length l t)) 0)
      go true h = omega (arith, h)
      go false h = omega (arith, h)

  module _ {a : ℕ} (next : a ≡ get_or l (p + 1) 0) where
    pub pair_next : (es : List ℕ) → a + 65537 ≡ pair_by es l p (list_of (One (p + 1)))
    pair_next = pair_target (p + 1) (let e : beyond_of (p + 1) ≡ get_or l (p + 1) 0 = rw (going p (p + 1) (omega arith)) in next ∙ sym e)

    -- two steps: r joins the pairs of both
    module _ (t x r : ℕ) (e : x ≡ beyond_of t) (d : r / «LENGTHS» ≡ min (a / «LENGTHS») (x / «LENGTHS»))
        (k : r % «LENGTHS» ≡ max (a % «LENGTHS») (x % «LENGTHS»)) (es : List ℕ) where
      abbrev pub Joined : Successors → Type 0
      Joined s = r + 65537 ≡ pair_by es l p (list_of s)

      serving : serves_of p t ≡ true → Joined (Two t (p + 1))
      serving h =
          let z : x ≡ 0 = e ∙ ap (λ (b : Bool). cond b 0 (get_or l t 0)) h in
          rw (h, going p (p + 1) (omega arith)) (omega (arith, next, z, d, k))

      onward : serves_of p t ≡ false → Joined (Two (p + 1) t)
      onward h =
          let z : x ≡ get_or l t 0 = e ∙ ap (λ (b : Bool). cond b 0 (get_or l t 0)) h in
          rw (h, going p (p + 1) (omega arith)) (omega (arith, next, z, d, k))

      once : p + 1 ≡ t → Joined (One (p + 1))
      once h =
          let z : x ≡ get_or l (p + 1) 0 = e ∙ ap beyond_of (sym h) ∙ ap (λ (b : Bool). cond b 0 (get_or l (p + 1) 0)) (going p (p + 1) (omega arith)) in
          let y : r ≡ a = omega (arith, next, z, d, k) in
          ap (λ (v : ℕ). v + 65537) y ∙ pair_next es

      pub pair_both : Joined (ordered (p + 1) t)
      pair_both =
          ⊎_elim
          (λ a. subst Joined (sym (in_order_down (p + 1) t (omega arith))) (serving ((entering.serving p t).1 a)))
          (λ a. ⊎_elim
          (λ b. subst Joined (sym (in_order_one (p + 1) t (omega arith) (omega arith))) (once (omega arith)))
          (λ b. subst Joined (sym (in_order_up (p + 1) t b)) (onward (going p t a)))
          (split t (p + 1)))
          (split t p)

-- a word paired
module _ (m l : List ℕ) (p : ℕ) (i : Option ℕ) where
  pub paired_by : (get_or m p 0 ≡ 0 → ⊥) → {s : Successors} {v : ℕ} {i' : Option ℕ} → steps_in l p ≡ s
      → ((es : List ℕ) → v ≡ pair_by es l p (list_of s)) → i' ≡ cond (is_invalid s) (Some p) i
      → Paired m l p i v i'
  paired_by n e k d = record { pair_is = λ es. simp (ne_eqb (get_or m p 0) 0 n, e) (k es); invalid_is = simp (ne_eqb (get_or m p 0) 0 n, e) d }

  -- what is added to has room
  module _ {a : ℕ} (k : Pairing m l p a) where
    pub beyond_few : (t : ℕ) {x : ℕ} → x ≡ beyond_of l p t → (x / «LENGTHS» ≤ most_words) × (x % «LENGTHS» ≤ most_words)
    beyond_few t {x} e =
        ⊎_elim
        (λ h. let z : x ≡ 0 = e ∙ ap (λ (b : Bool). cond b 0 (get_or l t 0)) ((entering.serving p t).1 h) in (omega (arith, z), omega (arith, z)))
        (λ h.
        let z : x ≡ get_or l t 0 = e ∙ ap (λ (b : Bool). cond b 0 (get_or l t 0)) (going p t h) in
        (omega (arith, z, k.near t h), omega (arith, z, k.low t h)))
        (split t p)

-- the parts of a pair
module _ (g : Graph) (law : Lawful g) (few : g.size ≤ most_words) where
  pub pair_unmarked : (q : ℕ) → mark_of g q ≡ 0 → pair_at g q ≡ 0
  pair_unmarked q e = rw (ne_eqb (mark_of g q) 1 (λ o. omega arith))

  pub pair_marked : (q : ℕ) → mark_of g q ≡ 1 → pair_at g q ≡ distance_of g q * «LENGTHS» + length_of g unit_weight q
  pair_marked q e = rw (eq-eqb (mark_of g q) 1 e)

  lengths_few : (q : ℕ) → length_of g unit_weight q ≤ most_words
  lengths_few q = omega (arith, ceiling.lengths g law unit_weight 1 (λ p. omega arith) q, few)

  pub pair_length : (q : ℕ) → pair_at g q % «LENGTHS» ≡ length_of g unit_weight q
  pair_length q =
      ⊎_elim
      (λ e. let z = (laws.passing g law unit_weight).unmarked q e in omega (arith, z, pair_unmarked q e))
      (λ e. omega (arith, pair_marked q e, lengths_few q))
      (bit ((laws.marking g law).bit q))

  pub pair_low : (q : ℕ) → pair_at g q % «LENGTHS» ≤ most_words
  pair_low q = omega (arith, pair_length q, lengths_few q)

  pub pair_distance : (q : ℕ) → mark_of g q ≡ 1 → pair_at g q / «LENGTHS» ≡ distance_of g q
  pair_distance q e = omega (arith, pair_marked q e, lengths_few q)

  pub pair_near : (q : ℕ) → q < g.size → pair_at g q / «LENGTHS» ≤ most_words
  pair_near q h =
      ⊎_elim
      (λ e. omega (arith, pair_unmarked q e))
      (λ e. omega (arith, pair_distance q e, (distances g law).few q h, few))
      (bit ((laws.marking g law).bit q))

  -- what is listed by a pair: no distance is too large for the shortened d
  pub pair_listed : (d e : ℕ) → e ≡ min d 65535 → (q : ℕ) → q < g.size → listed_by e (pair_at g q / «LENGTHS») ≡ listed_at g d q
  pair_listed d e k q h = ⊎_elim unreached reached (bit ((laws.marking g law).bit q))
    where
      unreached : mark_of g q ≡ 0 → listed_by e (pair_at g q / «LENGTHS») ≡ listed_at g d q
      unreached z = ap (λ (x : ℕ). listed_by e (x / «LENGTHS»)) (pair_unmarked q z) ∙ rw (ne_eqb (mark_of g q) 1 (λ o. omega arith))

      near : (x : ℕ) → x ≤ most_words → leb x e ≡ leb x d
      near x b =
          ⊎_elim
          (λ y. let z : x ≤ e = omega (arith, k) in le-leb x e z ∙ sym (le-leb x d y))
          (λ y. let z : e < x = omega (arith, k) in lt-leb x e z ∙ sym (lt-leb x d y))
          (split x d)

      reached : mark_of g q ≡ 1 → listed_by e (pair_at g q / «LENGTHS») ≡ listed_at g d q
      reached o =
          let some = (distances g law).some q ((laws.marking g law).reachable q h o) in
          ap (listed_by e) (pair_distance q o)
          ∙ rw (eq-eqb (mark_of g q) 1 o, ne_eqb (distance_of g q) 0 (λ z. omega (arith, some)))
          (ap (λ (b : Bool). cond b 1 0) (near (distance_of g q) (omega (arith, (distances g law).few q h, few))))

-- the least of two functions that agree on a list
least_same : (f h : ℕ → ℕ) (qs : List ℕ) → ((q : ℕ) → In q qs → f q ≡ h q) → least_of f qs ≡ least_of h qs
least_same f h [] e = refl
least_same f h (x ∷ []) e = e x (inl refl)
least_same f h (x ∷ y ∷ ys) e = ap₂ (λ (a b : ℕ). min a b) (e x (inl refl)) (least_same f h (y ∷ ys) (λ q i. e q (inr i)))

-- the words from i on are paired in l, a is the pair of word i, and v the lowest invalid word among them; l₀ holds the entries of all
pub record Passed (l₀ m l : List ℕ) (i a : ℕ) (v : Option ℕ) : Type 0 where
  pub asks : FillAsks m l₀
  pub same : length l ≡ length l₀
  pub upto : i ≤ length l₀
  pub from : (q : ℕ) → i ≤ q → q < length l₀ → get_or l q 0 ≡ pair_at (graph_in (entries l₀)) q
  pub below : (q : ℕ) → q < i → get_or l q 0 % «ENTRIES» ≡ get_or (entries l₀) q 0
  pub above : a ≡ get_or l i 0
  pub lowest : v ≡ found (length (entries l₀)) (lowest_from (invalid_by (length (entries l₀)) (entry_steps (entries l₀))) i (length (entries l₀) - i))

pub passed_none : (m l : List ℕ) → FillAsks m l → Passed l m l (length l) 0 None
passed_none m l k =
    let n = entering.as_long l in
    record {
      asks = k;
      same = refl;
      upto = omega arith;
      from = λ q d i. absurd (omega arith);
      below = λ q d. sym (entering.entry_is l q);
      above = sym (get_or-eq_default l 0 (omega arith));
      lowest = nothing_found (omega (arith, lowest_laws.end (invalid_by (length (entries l)) (entry_steps (entries l))) (length (entries l)) (length l) (sym n)));
    }

-- the pass is done
pub passed_done : {l₀ m l : List ℕ} {i a : ℕ} {v : Option ℕ} → Passed l₀ m l i a v → i ≤ 0 → Pairs l₀ l v
passed_done {l₀} {m} {l} {i} {a} {v} f h =
    let t = invalid_by (length (entries l₀)) (entry_steps (entries l₀)) in
    let e : i ≡ 0 = omega arith in
    record {
      each = λ q k. f.from q (omega arith) k;
      lowest-invalid =
          f.lowest
          ∙ ap (found (length (entries l₀))) (ap (λ (x : ℕ). lowest_from t x (length (entries l₀) - x)) e ∙ lowest_laws.whole t (length (entries l₀)));
    }

-- a turn's word is the one below
pub passed_turn : {l₀ m l : List ℕ} {i a : ℕ} {v : Option ℕ} → Passed l₀ m l i a v → 0 < i → Passed l₀ m l (i - 1 + 1) a v
passed_turn {l₀} {m} {l} {i} {a} {v} f h =
    let e : i ≡ i - 1 + 1 = omega arith in subst (λ (x : ℕ). Passed l₀ m l x a v) e f

-- a turn of the pass
module _ (l₀ m l : List ℕ) (p a : ℕ) (v : Option ℕ) (f : Passed l₀ m l (p + 1) a v) where
  abbrev es : List ℕ
  es = entries l₀

  abbrev g : Graph
  g = graph_in es

  law : Lawful g
  law = f.asks.held.law

  few : length es ≤ most_words
  few = f.asks.held.lent.few

  inside : p < length es
  inside = omega (arith, f.upto, entering.as_long l₀)

  -- the entry is there yet
  entry_here : steps_in l p ≡ entry_steps es p
  entry_here = ap (λ (x : ℕ). entry_at x p) (f.below p (omega arith))

  above_is : (q : ℕ) → p < q → q < length es → get_or l q 0 ≡ pair_at g q
  above_is q h k = f.from q (omega arith) (omega (arith, entering.as_long l₀))

  pub passed_asks : Pairing m l p a
  passed_asks =
      record {
        in_m = omega (arith, inside, f.asks.held.lent.m_same);
        in_l = omega (arith, f.upto, f.same);
        steps = λ q i. let b = law.inside p q (subst (λ (s : Successors). In q (list_of s)) entry_here i) in omega (arith, b, f.same, entering.as_long l₀);
        next = f.above;
        near = λ q d. ⊎_elim
            (λ o. let z : get_or l q 0 ≡ 0 = get_or-eq_default l 0 (omega (arith, f.same, entering.as_long l₀)) in omega (arith, z))
            (λ k. let z = above_is q d k in omega (arith, z, pair_near g law few q k))
            (split (length es) q);
        low = λ q d. ⊎_elim
            (λ o. let z : get_or l q 0 ≡ 0 = get_or-eq_default l 0 (omega (arith, f.same, entering.as_long l₀)) in omega (arith, z))
            (λ k. let z = above_is q d k in omega (arith, z, pair_low g law few q))
            (split (length es) q);
      }

  mark_is : get_or m p 0 ≡ mark_of g p
  mark_is = f.asks.marked p inside

  -- a marked word
  module _ (o : mark_of g p ≡ 1) where
    -- what it goes on to is marked
    onto : (q : ℕ) → In q (list_of (entry_steps es p)) → mark_of g q ≡ 1
    onto q i =
        let k = laws.marking g law in
        k.one q ((laws.reaching g law).next p q (k.reachable p inside o) i)

    -- the distances of the marked words above it are in l
    abbrev known : ℕ → ℕ
    known q = cond (eqb (mark_of g q) 1) (distance_in l q) (distance_of g q)

    known_is : (q : ℕ) → p < q → q < length es → known q ≡ distance_of g q
    known_is q h k =
        ⊎_elim
        (λ e. rw (ne_eqb (mark_of g q) 1 (λ z. omega arith)))
        (λ e. rw (eq-eqb (mark_of g q) 1 e) (ap (λ (x : ℕ). x / «LENGTHS») (above_is q h k) ∙ pair_distance g law few q e))
        (bit ((laws.marking g law).bit q))

    distance_found : distance_of g p ≡ 1 + cond (ends_by g p (list_of (entry_steps es p))) 0 (least_of (distance_in l) (list_of (entry_steps es p)))
    distance_found =
        (distances g law).turn known p inside known_is
        ∙ ap (λ (x : ℕ). 1 + cond (ends_by g p (list_of (entry_steps es p))) 0 x)
        (least_same known (distance_in l) (list_of (entry_steps es p)) (λ q i. rw (eq-eqb (mark_of g q) 1 (onto q i))))

    length_found : length_of g unit_weight p ≡ 1 + best g p (paired_length l) (list_of (entry_steps es p))
    length_found =
        (laws.passing g law unit_weight).marked (paired_length l) p inside o (λ q h k. ap (λ (x : ℕ). x % «LENGTHS») (above_is q h k) ∙ pair_length g law few q)

    pair_found : pair_by es l p (list_of (steps_in l p)) ≡ pair_at g p
    pair_found =
        ap (λ (s : Successors). pair_by es l p (list_of s)) entry_here
        ∙ ap₂ (λ (x y : ℕ). x * «LENGTHS» + y) (sym distance_found) (sym length_found)
        ∙ sym (pair_marked g law few p o)

  marked : (get_or m p 0 ≡ 0 → ⊥) → mark_of g p ≡ 1
  marked n = one_of ((laws.marking g law).bit p) (λ z. n (mark_is ∙ z))

  pair_here : cond (eqb (get_or m p 0) 0) 0 (pair_by es l p (list_of (steps_in l p))) ≡ pair_at g p
  pair_here =
      ⊎_elim
      (λ e. rw (eq-eqb (get_or m p 0) 0 e) (sym (pair_unmarked g law few p (sym mark_is ∙ e))))
      (λ n. rw (ne_eqb (get_or m p 0) 0 n) (pair_found (marked n)))
      (same_or_not (get_or m p 0) 0)

  lowest_found : invalid_from m l p v ≡ cond (invalid_by (length es) (entry_steps es) p) (Some p) v
  lowest_found =
      ⊎_elim
      (λ e. let z : mark_of g p ≡ 0 = sym mark_is ∙ e in rw (eq-eqb (get_or m p 0) 0 e, ne_eqb (mark_of g p) 1 (λ o. omega arith)))
      (λ n. rw (ne_eqb (get_or m p 0) 0 n, eq-eqb (mark_of g p) 1 (marked n)) (ap (λ (s : Successors). cond (is_invalid s) (Some p) v) entry_here))
      (same_or_not (get_or m p 0) 0)

  pub passed_more : {x : ℕ} {y : Option ℕ} → Paired m l p v x y → Passed l₀ m (set l p x) p x y
  passed_more {x} {y} d =
      record {
        asks = f.asks;
        same = simp length-set f.same;
        upto = omega (arith, f.upto);
        from =
            λ q h k.
            ⊎_elim
            (λ w. w.1 ∙ d.pair_is es ∙ pair_here ∙ ap (pair_at g) (sym w.0))
            (λ w. w.1 ∙ f.from q (omega (arith, past h w.0)) k)
            (at_set l p x q (omega (arith, f.upto, f.same)));
        below = λ q h. ap (λ (z : ℕ). z % «ENTRIES») (get_or-set_other l p q x 0 (λ z. omega arith)) ∙ f.below q (omega arith);
        above = sym (get_or-set_same l p x 0 (omega (arith, f.upto, f.same)));
        lowest =
            d.invalid_is ∙ lowest_found ∙ ap (λ (z : Option ℕ). cond (invalid_by (length es) (entry_steps es) p) (Some p) z) f.lowest
            ∙ found_first (invalid_by (length es) (entry_steps es) p) _ inside
            ∙ ap (found (length es)) (sym (lowest_laws.turn (invalid_by (length es) (entry_steps es)) (length es) p inside));
      }

-- a list that is written over whole
pub whole : (f : ℕ → ℕ) (l₀ : List ℕ) {l : List ℕ} → l ≡ over f (length l₀) l₀ → l ≡ tabulate f 0 (length l₀)
whole f l₀ e = e ∙ ap (λ (x : List ℕ). tabulate f 0 (length l₀) ++ x) (drop-length l₀) ∙ append-nil (tabulate f 0 (length l₀))
