-- The crossing edges are those that the request names, each once. Assumes nothing.
use mathlib.Core.Path.{◌≡◌, refl, sym, ap, subst, ◌∙◌}
use mathlib.Core.Logic.{◌⊎◌, inl, inr, ⊎_elim}
use mathlib.Core.Bool.{Bool, true, false, cond, ◌&&◌, ◌||◌, false≢true, true≢false}
use mathlib.Core.List.{List, [], ◌∷◌, ◌++◌}
use Prim.Native.Nat.{ℕ, zero, suc, ◌≤◌, ◌<◌}
use native.Mathlib.Nat.{not-suc-le-zero}
use native.Mathlib.Omega.{arith}
use borrow.Author.Tests.{ltb-true, lt-ltb, eqb-true, eq-eqb}
use lib.Dec.{ltb, eqb}
use lib.ListN.{length}
use Rattle.common.proofs.Order.{same_or_not, past}
use Rattle.graph.specs.Graph.{Graph, In, Lawful, Reachable}
use Rattle.graph.specs.Marks.{mark_of}
use Rattle.graph.specs.Crossing.{Edge, Crosses, crosses, crossing_from, crossing_below, crossing_edges}
use Rattle.graph.specs.Crossing.{crossing_of, EdgeListed, EachOnce, Different, Crossing, Crossings}
use Rattle.graph.proofs.Laws.{reaching, marking}

-- the test is right
and_both : (a b : Bool) → a && b ≡ true → (a ≡ true) × (b ≡ true)
and_both true b e = (refl, e)
and_both false b e = absurd (false≢true e)

or_either : (a b : Bool) → a || b ≡ true → (a ≡ true) ⊎ (b ≡ true)
or_either true b e = inl refl
or_either false b e = inr e

crosses_true : (w p q : ℕ) → crosses w p q ≡ true → ((p < w) × (w < q)) ⊎ ((q < w) × (w < p))
crosses_true w p q e =
    ⊎_elim
    (λ h. let b = and_both (ltb p w) (ltb w q) h in inl (ltb-true p w b.0, ltb-true w q b.1))
    (λ h. let b = and_both (ltb q w) (ltb w p) h in inr (ltb-true q w b.0, ltb-true w p b.1))
    (or_either (ltb p w && ltb w q) (ltb q w && ltb w p) e)

true_crosses : (w p q : ℕ) → ((p < w) × (w < q)) ⊎ ((q < w) × (w < p)) → crosses w p q ≡ true
true_crosses w p q (inl h) = simp (lt-ltb p w h.0, lt-ltb w q h.1)
true_crosses w p q (inr h) = simp (lt-ltb q w h.0, lt-ltb w p h.1) (last (ltb p w && ltb w q))
  where
    last : (a : Bool) → a || true ≡ true
    last true = refl
    last false = refl

-- lists one after the other
listed_left : (e : Edge) (l r : List Edge) → EdgeListed e l → EdgeListed e (l ++ r)
listed_left e [] r i = absurd i
listed_left e (x ∷ xs) r (inl d) = inl d
listed_left e (x ∷ xs) r (inr i) = inr (listed_left e xs r i)

listed_right : (e : Edge) (l r : List Edge) → EdgeListed e r → EdgeListed e (l ++ r)
listed_right e [] r i = i
listed_right e (x ∷ xs) r i = inr (listed_right e xs r i)

listed_either : (e : Edge) (l r : List Edge) → EdgeListed e (l ++ r) → EdgeListed e l ⊎ EdgeListed e r
listed_either e [] r i = inr i
listed_either e (x ∷ xs) r (inl d) = inl (inl d)
listed_either e (x ∷ xs) r (inr i) = ⊎_elim (λ j. inl (inr j)) (λ j. inr j) (listed_either e xs r i)

once_both : (l r : List Edge) → EachOnce l → EachOnce r → ((e : Edge) → EdgeListed e l → EdgeListed e r → ⊥) → EachOnce (l ++ r)
once_both [] r a b d = b
once_both (x ∷ xs) r a b d = (
  λ i. ⊎_elim (λ j. a.0 j) (λ j. d x (inl refl) j) (listed_either x xs r i),
  once_both xs r a.1 b (λ e i j. d e (inr i) j),
)

-- the edges from one word
module _ (w p : ℕ) where
  from_is : (l : List ℕ) (e : Edge) → EdgeListed e (crossing_from w p l) → (e.from ≡ p) × In e.to l × Crosses w e
  from_is [] e i = absurd i
  from_is (q ∷ qs) e i = go (λ j. from_is qs e j) (crosses w p q) refl i
    where
      go : (EdgeListed e (crossing_from w p qs) → (e.from ≡ p) × In e.to qs × Crosses w e) → (b : Bool) → crosses w p q ≡ b
          → EdgeListed e (cond b (record { from = p; to = q } ∷ crossing_from w p qs) (crossing_from w p qs)) → (e.from ≡ p) × In e.to (q ∷ qs) × Crosses w e
      go rec true t (inl d) = (ap (λ (x : Edge). x.from) d, inl (ap (λ (x : Edge). x.to) d), subst (λ (x : Edge). Crosses w x) (sym d) (crosses_true w p q t))
      go rec true t (inr j) = let r = rec j in (r.0, inr r.1, r.2)
      go rec false t j = let r = rec j in (r.0, inr r.1, r.2)

  is_from : (l : List ℕ) (q : ℕ) → In q l → ((p < w) × (w < q)) ⊎ ((q < w) × (w < p)) → EdgeListed (record { from = p; to = q }) (crossing_from w p l)
  is_from [] q i c = absurd i
  is_from (x ∷ xs) q i c = go (λ j. is_from xs q j c) (crosses w p x) refl i
    where
      go : (In q xs → EdgeListed (record { from = p; to = q }) (crossing_from w p xs)) → (b : Bool) → crosses w p x ≡ b → In q (x ∷ xs)
          → EdgeListed (record { from = p; to = q }) (cond b (record { from = p; to = x } ∷ crossing_from w p xs) (crossing_from w p xs))
      go rec true t (inl d) = inl (ap (λ (y : ℕ). record { from = p; to = y }) d)
      go rec true t (inr j) = inr (rec j)
      go rec false t (inl d) = absurd (true≢false (sym (true_crosses w p q c) ∙ ap (crosses w p) d ∙ t))
      go rec false t (inr j) = rec j

  from_once : (l : List ℕ) → Different l → EachOnce (crossing_from w p l)
  from_once [] d = tt
  from_once (q ∷ qs) d = go (from_once qs d.1) (crosses w p q)
    where
      go : EachOnce (crossing_from w p qs) → (b : Bool) → EachOnce (cond b (record { from = p; to = q } ∷ crossing_from w p qs) (crossing_from w p qs))
      go rec true = (λ i. d.0 (from_is qs (record { from = p; to = q }) i).1, rec)
      go rec false = rec

module _ (g : Graph) (law : Lawful g) (w : ℕ) where
  -- a word's edges that cross
  abbrev edges_of : ℕ → List Edge
  edges_of k = crossing_from w k (g.successors k)

  -- a word's edges, if it is reachable
  abbrev of_word : ℕ → List Edge
  of_word k = cond (eqb (mark_of g k) 1) (edges_of k) []

  of-word : (k : ℕ) (e : Edge) → EdgeListed e (of_word k) → (mark_of g k ≡ 1) × EdgeListed e (edges_of k)
  of-word k e i = go (eqb (mark_of g k) 1) refl i
    where
      go : (b : Bool) → eqb (mark_of g k) 1 ≡ b → EdgeListed e (cond b (edges_of k) [])
          → (mark_of g k ≡ 1) × EdgeListed e (edges_of k)
      go true t j = (eqb-true (mark_of g k) 1 t, j)
      go false t j = absurd j

  below_is : (k : ℕ) → k ≤ g.size → (e : Edge) → EdgeListed e (crossing_below g w k)
      → (e.from < k) × Reachable g e.from × In e.to (g.successors e.from) × Crosses w e
  unfolding crossing_below
  below_is zero h e i = absurd i
  below_is (suc k) h e i =
      ⊎_elim
      (λ j. let m = of-word k e j in let f = from_is w k (g.successors k) e m.1 in (
        omega (arith, f.0),
        subst (λ (x : ℕ). Reachable g x) (sym f.0) ((marking g law).reachable k h m.0),
        subst (λ (x : ℕ). In e.to (g.successors x)) (sym f.0) f.1,
        f.2,
      ))
      (λ j. let r = below_is k (omega arith) e j in (omega (arith, r.0), r.1, r.2, r.3))
      (listed_either e (of_word k) (crossing_below g w k) i)

  is_below : (k p q : ℕ) → p < k → Reachable g p → In q (g.successors p)
      → ((p < w) × (w < q)) ⊎ ((q < w) × (w < p))
      → EdgeListed (record { from = p; to = q }) (crossing_below g w k)
  unfolding crossing_below
  is_below zero p q h r i c = absurd (not-suc-le-zero h)
  is_below (suc k) p q h r i c =
      ⊎_elim
      (λ e. listed_left (record { from = p; to = q }) (of_word k) (crossing_below g w k)
      (subst (λ (x : ℕ). EdgeListed (record { from = p; to = q }) (of_word x)) e here))
      (λ n. listed_right (record { from = p; to = q }) (of_word k) (crossing_below g w k) (is_below k p q (past (omega arith) (λ e. n (sym e))) r i c))
      (same_or_not p k)
    where
      here : EdgeListed (record { from = p; to = q }) (of_word p)
      here =
          subst
          (λ (b : Bool).
          EdgeListed (record { from = p; to = q }) (cond b (edges_of p) []))
          (sym (eq-eqb (mark_of g p) 1 ((marking g law).one p r))) (is_from w p (g.successors p) q i c)

  below_once : ((p : ℕ) → Different (g.successors p)) → (k : ℕ) → k ≤ g.size → EachOnce (crossing_below g w k)
  unfolding crossing_below
  below_once d zero h = tt
  below_once d (suc k) h =
      once_both (of_word k) (crossing_below g w k) (own (eqb (mark_of g k) 1)) (below_once d k (omega arith))
      (λ e i j. omega (arith, (from_is w k (g.successors k) e (of-word k e i).1).0, (below_is k (omega arith) e j).0))
    where
      own : (b : Bool) → EachOnce (cond b (edges_of k) [])
      own true = from_once w k (g.successors k) (d k)
      own false = tt

  none-of : (l : List Edge) → ((e : Edge) → EdgeListed e l → ⊥) → length l ≡ 0
  none-of [] n = refl
  none-of (x ∷ xs) n = absurd (n x (inl refl))

  past_end : g.size ≤ w → crossing_of g w ≡ 0
  unfolding crossing_of
  past_end h =
      none-of (crossing_edges g w)
      (λ e i. let b = below_is g.size (omega arith) e i in
      ⊎_elim (λ c. omega (arith, c.1, law.inside e.from e.to b.2)) (λ c. omega (arith, c.1, b.0)) b.3)

  pub crossing : Crossing g w
  crossing =
      record {
        listed = λ e. (
          λ i. let b = below_is g.size (omega arith) e i in (b.1, b.2, b.3),
          λ t. is_below g.size e.from e.to ((reaching g law).below e.from t.0) t.0 t.1 t.2,
        );
        once = λ d. below_once d g.size (omega arith);
        past_end = past_end;
      }

pub crossings : Crossings
crossings g law w = crossing g law w
