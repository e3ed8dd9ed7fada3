-- The edges that pass over a word, counted: those of one word, and of the words so far. Assumes nothing.
use mathlib.Core.Path.{◌≡◌, refl, sym, ap, ◌∙◌}
use mathlib.Core.Logic.{⊎_elim}
use mathlib.Core.Bool.{Bool, true, false, cond, and-false}
use mathlib.Core.List.{List, [], ◌∷◌}
use Prim.Native.Nat.{ℕ, ◌+◌, ◌/◌, ◌%◌, ◌≤◌, ◌<◌}
use native.Mathlib.Numerals.{add-one}
use native.Mathlib.Omega.{arith}
use borrow.Author.Tests.{le-ltb, ltb-false, eq-eqb, ne_eqb}
use lib.Dec.{ltb, eqb}
use lib.ListN.{length, get_or, length-append}
use Rattle.common.proofs.Order.{split, same_or_not}
use Rattle.graph.specs.Graph.{Graph}
use Rattle.graph.specs.Marks.{mark_of}
use Rattle.graph.specs.Crossing.{Edge, crosses, crossing_from, crossing_below, crossing_of}
use Rattle.sweep.specs.declared.edges.Successors.{Successors}
use Rattle.sweep.specs.declared.edges.Successors.TheVariants.{One, Two}
use Rattle.sweep.specs.Steps.{list_of, ordered}
use Rattle.sweep.specs.Entries.{«TARGETS», «ENTRIES», entry_at, entries, graph_in}
use Rattle.sweep.specs.PassInvariants.{FillAsks}
use Rattle.service.specs.Pass.{CrossesFrom}
use Rattle.service.proofs.Near.{entering}

-- one edge
module _ (w p q : ℕ) where
  pub not_past : p < w → q ≤ w → ◌≡◌ {A = ℕ} 0 (cond (crosses w p q) 1 0)
  not_past a b = rw (le-ltb w q b, and-false, le-ltb w p (omega arith), and-false)

  pub not_back : w ≤ p → w ≤ q → ◌≡◌ {A = ℕ} 0 (cond (crosses w p q) 1 0)
  not_back a b = rw (le-ltb p w a, le-ltb q w b)

-- one word's
module _ (w p : ℕ) where
  abbrev edges : Successors → List Edge
  edges s = crossing_from w p (list_of s)

  bit : (q : ℕ) (es : List Edge) → length (cond (crosses w p q) (record { from = p; to = q } ∷ es) es) ≡ cond (crosses w p q) 1 0 + length es
  bit q es = go (crosses w p q)
    where
      go : (b : Bool) → length (cond b (record { from = p; to = q } ∷ es) es) ≡ cond b 1 0 + length es
      go true = omega arith
      go false = omega arith

  small : (q : ℕ) → cond (crosses w p q) 1 0 ≤ 1
  small q = go (crosses w p q)
    where
      go : (b : Bool) → cond b 1 0 ≤ 1
      go true = omega arith
      go false = omega arith

  -- no word lies between p and the next
  next_not : ◌≡◌ {A = ℕ} 0 (cond (crosses w p (p + 1)) 1 0)
  next_not = ⊎_elim (λ a. not_back w p (p + 1) a (omega arith)) (λ a. not_past w p (p + 1) a (omega arith)) (split w p)

  of_one : (a : ℕ) → cond (crosses w p a) 1 0 ≡ length (edges (One a))
  of_one a = let h = bit a [] in omega (arith, h)

  of_two : (a b : ℕ) → cond (crosses w p a) 1 0 + cond (crosses w p b) 1 0 ≡ length (edges (Two a b))
  of_two a b = let h = bit a (crossing_from w p (b ∷ [])) in let k = bit b [] in omega (arith, h, k)

  -- of the next word and a target, only the target
  of_both : (t : ℕ) → cond (crosses w p t) 1 0 ≡ length (edges (ordered (p + 1) t))
  unfolding ordered
  of_both t = go (ltb (p + 1) t) refl (ltb t (p + 1)) refl
    where
      go : (b : Bool) → ltb (p + 1) t ≡ b → (d : Bool) → ltb t (p + 1) ≡ d
          → cond (crosses w p t) 1 0 ≡ length (edges (cond b (Two (p + 1) t) (cond d (Two t (p + 1)) (One (p + 1)))))
      go true e d f = let h = of_two (p + 1) t in omega (arith, h, next_not)
      go false e true f = let h = of_two t (p + 1) in omega (arith, h, next_not)
      go false e false f =
          let a = ltb-false (p + 1) t e in
          let b = ltb-false t (p + 1) f in
          let z : t ≡ p + 1 = omega arith in
          ap (λ (q : ℕ). cond (crosses w p q) 1 0) z ∙ of_one (p + 1)

  module _ (mark entry : ℕ) where
    pub unmarked : (mark ≡ 1 → ⊥) → CrossesFrom w p mark (entry_at entry p) 0
    unmarked n = record { count = rw (ne_eqb mark 1 n); few = omega arith }

    marked : {s : Successors} {r : ℕ} → mark ≡ 1 → entry_at entry p ≡ s → r ≡ length (edges s) → r ≤ 1 → CrossesFrom w p mark (entry_at entry p) r
    marked {s} {r} m h e b = record { count = rw (eq-eqb mark 1 m) (e ∙ ap (λ (x : Successors). length (edges x)) (sym h)); few = b }

    pub no_target : mark ≡ 1 → entry / «TARGETS» < 2 → CrossesFrom w p mark (entry_at entry p) 0
    no_target m k = ⊎_elim none next (same_or_not (entry / «TARGETS») 0)
      where
        none : entry / «TARGETS» ≡ 0 → CrossesFrom w p mark (entry_at entry p) 0
        none z =
            ⊎_elim
            (λ e. marked m ((entering.kinds entry p).returns z e) refl (omega arith))
            (λ n. marked m ((entering.kinds entry p).invalid z n) refl (omega arith))
            (same_or_not (entry % «TARGETS») 1)

        next : (entry / «TARGETS» ≡ 0 → ⊥) → CrossesFrom w p mark (entry_at entry p) 0
        next z = marked m ((entering.kinds entry p).next (omega arith)) (next_not ∙ of_one (p + 1)) (omega arith)

    pub by_target : {r : ℕ} → mark ≡ 1 → 2 ≤ entry / «TARGETS» → r ≡ cond (crosses w p (entry % «TARGETS»)) 1 0 → CrossesFrom w p mark (entry_at entry p) r
    by_target {r} m k e =
        ⊎_elim
        (λ z. marked m ((entering.kinds entry p).target z) (e ∙ of_one (entry % «TARGETS»)) few)
        (λ z. marked m ((entering.kinds entry p).both (λ x. omega arith) (λ x. omega arith) z) (e ∙ of_both (entry % «TARGETS»)) few)
        (same_or_not (entry / «TARGETS») 2)
      where
        few : r ≤ 1
        few = omega (arith, small (entry % «TARGETS»))

-- the words are not too many, and each has a mark
module _ (m l : List ℕ) (a : FillAsks m l) where
  pub marks_long : length m ≡ length l
  marks_long = a.held.lent.m_same ∙ entering.as_long l

-- those of the words below i are counted
pub record Counting (w : ℕ) (m l : List ℕ) (count i : ℕ) : Type 0 where
  pub asks : FillAsks m l
  pub upto : i ≤ length l
  pub counted : count ≡ length (crossing_below (graph_in (entries l)) w i)
  pub few : count ≤ i

module _ (w : ℕ) (m l : List ℕ) where
  abbrev graph : Graph
  graph = graph_in (entries l)

  pub counting_none : FillAsks m l → Counting w m l 0 0
  unfolding crossing_below
  counting_none h = record { asks = h; upto = omega arith; counted = refl; few = omega arith }

  abbrev word : ℕ → List Edge
  word i = cond (eqb (mark_of graph i) 1) (crossing_from w i (graph.successors i)) []

  one_more : (i : ℕ) → length (crossing_below graph w (i + 1)) ≡ length (word i) + length (crossing_below graph w i)
  unfolding crossing_below
  one_more i = rw (add-one i) (length-append (word i) (crossing_below graph w i))

  pub counting_more : {count i r : ℕ} → Counting w m l count i → i < length l
      → CrossesFrom w i (get_or m i 0) (entry_at (get_or l i 0 % «ENTRIES») i) r → Counting w m l (count + r) (i + 1)
  counting_more {count} {i} {r} c h f =
      let s = entering.as_long l in
      let mark = c.asks.marked i (omega arith) in
      let e : length (cond (eqb (get_or m i 0) 1) (crossing_from w i (list_of (entry_at (get_or l i 0 % «ENTRIES») i))) []) ≡ length (word i) =
      ap (λ (x : ℕ). length (cond (eqb x 1) (crossing_from w i (list_of (entry_at (get_or l i 0 % «ENTRIES») i))) [])) mark
      ∙ ap (λ (x : ℕ). length (cond (eqb (mark_of graph i) 1) (crossing_from w i (list_of (entry_at x i))) [])) (sym (entering.entry_is l i)) in
      record { asks = c.asks; upto = omega arith; counted = omega (arith, c.counted, one_more i, f.count, e); few = omega (arith, c.few, f.few) }

  pub counting_done : {count i : ℕ} → Counting w m l count i → length l ≤ i → count ≡ crossing_of graph w
  unfolding crossing_of
  counting_done {count} {i} c h =
      let e : i ≡ length (entries l) = omega (arith, c.upto, entering.as_long l) in
      c.counted ∙ ap (λ (k : ℕ). length (crossing_below graph w k)) e
