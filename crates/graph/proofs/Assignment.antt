-- For one register, what is reachable over cut edges is what some path reaches without setting it. Assumes nothing.
use mathlib.Core.Path.{◌≡◌, refl, sym, ap, subst, ◌∙◌}
use mathlib.Core.Logic.{◌⊎◌, inl, inr, ⊎_elim}
use mathlib.Core.Bool.{Bool, true, false, cond, ◌&&◌, ◌||◌, false≢true, true≢false}
use mathlib.Core.List.{List, [], ◌∷◌, ◌++◌}
use Prim.Native.Nat.{ℕ, zero, suc, ◌+◌, ◌≤◌, ◌<◌}
use native.Mathlib.Nat.{not-suc-le-zero}
use native.Mathlib.Numerals.{add-one}
use native.Mathlib.Omega.{arith}
use borrow.Author.Tests.{leb-true, le-leb, eqb-true, eq-eqb}
use lib.Dec.{leb, eqb}
use Rattle.common.proofs.Lowest.{lowest_laws}
use Rattle.common.proofs.Order.{split, same_or_not, past}
use Rattle.graph.specs.Graph.{Graph, In, Lawful, Along, Path, Reachable}
use Rattle.graph.specs.Marks.{mark_of}
use Rattle.graph.specs.Distance.{last_of}
use Rattle.graph.specs.Assignment.{Usage, ReadsBounded, SetAlong, SetOn, UnsetAlong, SetBeforeUse}
use Rattle.graph.specs.Assignment.{Breaks, without, cut, some_below, reads_unset, unset_at, lowest_unset}
use Rattle.graph.specs.Assignment.{Assignments, Cutting}
use Rattle.graph.proofs.Paths.{along_in}
use Rattle.graph.proofs.Laws.{reaching, marking}

-- a list without what passes the test
module _ (t : ℕ → Bool) where
  without_in : (q : ℕ) (l : List ℕ) → In q (without t l) → In q l × (t q ≡ false)
  without_in q [] i = absurd i
  without_in q (x ∷ xs) i = go (λ j. without_in q xs j) (t x) refl i
    where
      go : (In q (without t xs) → In q xs × (t q ≡ false)) → (b : Bool) → t x ≡ b
          → In q (cond b (without t xs) (x ∷ without t xs)) → In q (x ∷ xs) × (t q ≡ false)
      go rec true e j = let r = rec j in (inr r.0, r.1)
      go rec false e (inl d) = (inl d, ap t d ∙ e)
      go rec false e (inr j) = let r = rec j in (inr r.0, r.1)

  in_without : (q : ℕ) (l : List ℕ) → In q l → t q ≡ false → In q (without t l)
  in_without q [] i f = absurd i
  in_without q (x ∷ xs) i f = go (λ j. in_without q xs j f) (t x) refl i
    where
      go : (In q xs → In q (without t xs)) → (b : Bool) → t x ≡ b → In q (x ∷ xs) → In q (cond b (without t xs) (x ∷ without t xs))
      go rec true e (inl d) = absurd (false≢true (sym f ∙ ap t d ∙ e))
      go rec true e (inr j) = rec j
      go rec false e (inl d) = inl d
      go rec false e (inr j) = inr (rec j)

cut_lawful : (g : Graph) → Lawful g → (t : ℕ → ℕ → Bool) → Lawful (cut g t)
cut_lawful g law t =
    record {
      inside = λ p q i. law.inside p q (without_in (t p) q (g.successors p) i).0;
      forward = λ p q i. law.forward p q (without_in (t p) q (g.successors p) i).0;
    }

-- the last of some words
last_snoc : (p q : ℕ) (ps : List ℕ) → last_of p (ps ++ (q ∷ [])) ≡ q
last_snoc p q [] = refl
last_snoc p q (x ∷ xs) = last_snoc x q xs

in_last : (p : ℕ) (ps : List ℕ) → In (last_of p ps) (p ∷ ps)
in_last p [] = inl refl
in_last p (x ∷ xs) = inr (in_last x xs)

-- some words by the last and those before it
up_to_last : (p : ℕ) (ps : List ℕ) → (before : List ℕ) × (p ∷ ps ≡ before ++ (last_of p ps ∷ []))
up_to_last p [] = ([], refl)
up_to_last p (q ∷ qs) = let b = up_to_last q qs in (p ∷ b.0, ap (λ (l : List ℕ). p ∷ l) b.1)

-- a register is set along a path or is not
module _ (t : ℕ → ℕ → Bool) where
  set_or_not : (p : ℕ) (ps : List ℕ) → SetAlong t p ps ⊎ UnsetAlong t p ps
  set_or_not p [] = inr tt
  set_or_not p (q ∷ qs) = go (t p q) refl (set_or_not q qs)
    where
      go : (b : Bool) → t p q ≡ b → SetAlong t q qs ⊎ UnsetAlong t q qs → SetAlong t p (q ∷ qs) ⊎ UnsetAlong t p (q ∷ qs)
      go true e r = inl (inl e)
      go false e (inl s) = inl (inr s)
      go false e (inr n) = inr (e, n)

  not_both : (p : ℕ) (ps : List ℕ) → SetAlong t p ps → UnsetAlong t p ps → ⊥
  not_both p [] s n = s
  not_both p (q ∷ qs) (inl e) n = true≢false (sym e ∙ n.0)
  not_both p (q ∷ qs) (inr s) n = not_both q qs s n.1

  unset_snoc : (p q : ℕ) (ps : List ℕ) → UnsetAlong t p ps → t (last_of p ps) q ≡ false → UnsetAlong t p (ps ++ (q ∷ []))
  unset_snoc p q [] n e = (e, tt)
  unset_snoc p q (x ∷ xs) n e = (n.0, unset_snoc x q xs n.1 e)

module _ (g : Graph) where
  along_snoc : (p q : ℕ) (ps : List ℕ) → Along g p ps → In q (g.successors (last_of p ps)) → q < g.size → Along g p (ps ++ (q ∷ []))
  along_snoc p q [] a i h = (a, i, h)
  along_snoc p q (x ∷ xs) a i h = (a.0, a.1, along_snoc x q xs a.2 i h)

  along_last : (p : ℕ) (ps : List ℕ) → Along g p ps → last_of p ps < g.size
  along_last p [] a = a
  along_last p (x ∷ xs) a = along_last x xs a.2

  -- a path up to a word of it
  along_up_to : (x p : ℕ) (bs cs : List ℕ) → Along g x (bs ++ (p ∷ cs)) → Along g x (bs ++ (p ∷ []))
  along_up_to x p [] cs a = (a.0, a.1, along_in g p cs a.2)
  along_up_to x p (b ∷ bs) cs a = (a.0, a.1, along_up_to b p bs cs a.2)

  module _ (t : ℕ → ℕ → Bool) where
    -- a path with no step that passes the test is one over the cut edges
    along_cut : (p : ℕ) (ps : List ℕ) → Along g p ps → UnsetAlong t p ps → Along (cut g t) p ps
    along_cut p [] a n = a
    along_cut p (q ∷ qs) a n = (a.0, in_without (t p) q (g.successors p) a.1 n.0, along_cut q qs a.2 n.1)

    -- and back
    pub record Uncut (p : ℕ) : Type 0 where
      pub rest : List ℕ
      pub along : Along g 0 rest
      pub ends : last_of 0 rest ≡ p
      pub unset : UnsetAlong t 0 rest

    module _ (law : Lawful g) where
      uncut : (p : ℕ) → Reachable (cut g t) p → Uncut p
      uncut p r =
          let rs = reaching (cut g t) (cut_lawful g law t) in
          rs.induction Uncut
          (record { rest = []; along = omega (arith, rs.below p r); ends = refl; unset = tt })
          (λ o q _ v i.
          let w = without_in (t o) q (g.successors o) i in
          record {
            rest = v.rest ++ (q ∷ []);
            along = along_snoc 0 q v.rest v.along (subst (λ (x : ℕ). In q (g.successors x)) (sym v.ends) w.0) (law.inside o q w.0);
            ends = last_snoc 0 q v.rest;
            unset = unset_snoc t 0 q v.rest v.unset (subst (λ (x : ℕ). t x q ≡ false) (sym v.ends) w.1);
          })
          p r

      reached : (p : ℕ) → Uncut p → mark_of (cut g t) p ≡ 1
      reached p v =
          (marking (cut g t) (cut_lawful g law t)).one p
          (record {
            words = 0 ∷ v.rest;
            path = (refl, along_cut 0 v.rest v.along v.unset);
            on = subst (λ (x : ℕ). In x (0 ∷ v.rest)) v.ends (in_last 0 v.rest);
          })

-- some number below k
some_more : (t : ℕ → Bool) (k : ℕ) → some_below t (k + 1) ≡ t k || some_below t k
unfolding some_below
some_more t k = ap (some_below t) (add-one k)

some_is : (t : ℕ → Bool) (k : ℕ) → some_below t k ≡ true → (r : ℕ) × (t r ≡ true)
unfolding some_below
some_is t zero e = absurd (false≢true e)
some_is t (suc k) e = go (λ f. some_is t k f) (t k) refl e
  where
    go : (some_below t k ≡ true → (r : ℕ) × (t r ≡ true)) → (b : Bool) → t k ≡ b → b || some_below t k ≡ true → (r : ℕ) × (t r ≡ true)
    go rec true d f = (k, d)
    go rec false d f = rec f

is_some : (t : ℕ → Bool) (k r : ℕ) → r < k → t r ≡ true → some_below t k ≡ true
unfolding some_below
is_some t zero r h e = absurd (not-suc-le-zero h)
is_some t (suc k) r h e =
    ⊎_elim (λ d. let f : t k ≡ true = subst (λ (x : ℕ). t x ≡ true) d e in simp f)
    (λ n. go (t k) (is_some t k r (past (omega arith) (λ d. n (sym d))) e)) (same_or_not r k)
  where
    go : (b : Bool) → some_below t k ≡ true → b || some_below t k ≡ true
    go true f = refl
    go false f = f

and_both : (a b : Bool) → a && b ≡ true → (a ≡ true) × (b ≡ true)
and_both true b e = (refl, e)
and_both false b e = absurd (false≢true e)

module _ (g : Graph) (law : Lawful g) (u : Usage) (bounded : ReadsBounded u) (k : ℕ) where
  abbrev setting : ℕ → ℕ → ℕ → Bool
  setting r x y = u.sets x y r

  breaks_of : (p : ℕ) → unset_at g u k p ≡ true → p < g.size → Breaks g u k p
  unfolding unset_at reads_unset
  breaks_of p e h =
      let s = some_is (reads_unset g u k p) u.registers e in
      let r = s.0 in
      let a = and_both (leb k r) (u.reads p r && eqb (mark_of (cut g (setting r)) p) 1) s.1 in
      let b = and_both (u.reads p r) (eqb (mark_of (cut g (setting r)) p) 1) a.1 in
      let v = uncut g (setting r) law p ((marking (cut g (setting r)) (cut_lawful g law (setting r))).reachable p h (eqb-true _ 1 b.1)) in
      record { rest = v.rest; path = (refl, v.along); ends = v.ends; register = r; no_parameter = leb-true k r a.0; read = b.0; unset = v.unset }

  of_breaks : (p : ℕ) → Breaks g u k p → (unset_at g u k p ≡ true) × (p < g.size)
  unfolding unset_at reads_unset
  of_breaks p b =
      let r = b.register in
      let m = reached g (setting r) law p (record { rest = b.rest; along = b.path.1; ends = b.ends; unset = b.unset }) in (
        is_some (reads_unset g u k p) u.registers r (bounded p r b.read) (simp (le-leb k r b.no_parameter, b.read, eq-eqb _ 1 m)),
        subst (λ (x : ℕ). x < g.size) b.ends (along_last g 0 b.rest b.path.1),
      )

  place_is : (p : ℕ) → (lowest_unset g u k ≡ p) × (p < g.size) → Breaks g u k p × ((q : ℕ) → q < p → Breaks g u k q → ⊥)
  unfolding lowest_unset
  place_is p h =
      let f = lowest_laws.first (unset_at g u k) 0 g.size in (
        breaks_of p (subst (λ (x : ℕ). unset_at g u k x ≡ true) h.0 (f.holds (omega (arith, h.0, h.1)))) h.1,
        λ q l b. true≢false (sym (of_breaks q b).0 ∙ f.not_before q (omega arith) (omega (arith, h.0))),
      )

  is_place : (p : ℕ) → Breaks g u k p × ((q : ℕ) → q < p → Breaks g u k q → ⊥) → (lowest_unset g u k ≡ p) × (p < g.size)
  unfolding lowest_unset
  is_place p h =
      let b = of_breaks p h.0 in (
        sym (lowest_laws.is (unset_at g u k) g.size p b.1 b.0 (λ q l. go q l (unset_at g u k q) refl)),
        b.1,
      )
    where
      go : (q : ℕ) → q < p → (b : Bool) → unset_at g u k q ≡ b → b ≡ false
      go q l true e = absurd (h.1 q l (breaks_of q e (omega (arith, (of_breaks p h.0).1))))
      go q l false e = refl

  set_before_use : g.size ≤ lowest_unset g u k → SetBeforeUse g u k
  unfolding lowest_unset
  set_before_use h before p after path r read = ⊎_elim (λ a. inr (along before path a)) (λ b. inl b) (split k r)
    where
      unbroken : Breaks g u k p → ⊥
      unbroken b =
          let o = of_breaks p b in
          true≢false (sym o.0 ∙ (lowest_laws.first (unset_at g u k) 0 g.size).not_before p (omega arith) (omega (arith, o.1)))

      along : (before : List ℕ) → Path g (before ++ (p ∷ after)) → k ≤ r → SetOn (setting r) (before ++ (p ∷ []))
      along [] a n =
          absurd
          (unbroken
          (record {
            rest = [];
            path = (refl, subst (λ (x : ℕ). x < g.size) a.0 (along_in g p after a.1));
            ends = sym a.0;
            register = r;
            no_parameter = n;
            read = read;
            unset = tt;
          }))
      along (b ∷ bs) a n = ⊎_elim (λ s. s) (λ s. absurd (unbroken (broken s))) (set_or_not (setting r) b (bs ++ (p ∷ [])))
        where
          broken : UnsetAlong (setting r) b (bs ++ (p ∷ [])) → Breaks g u k p
          broken s =
              record {
                rest = bs ++ (p ∷ []);
                path = (refl, subst (λ (x : ℕ). Along g x (bs ++ (p ∷ []))) a.0 (along_up_to g b p bs after a.1));
                ends = last_snoc 0 p bs;
                register = r;
                no_parameter = n;
                read = read;
                unset = subst (λ (x : ℕ). UnsetAlong (setting r) x (bs ++ (p ∷ []))) a.0 s;
              }

  none_unset : SetBeforeUse g u k → g.size ≤ lowest_unset g u k
  unfolding lowest_unset
  none_unset s = omega (arith, lowest_laws.nowhere (unset_at g u k) g.size (λ p h. go p h (unset_at g u k p) refl))
    where
      unbroken : (p : ℕ) → Breaks g u k p → ⊥
      unbroken p b =
          let l = up_to_last 0 b.rest in
          let e : 0 ∷ b.rest ≡ l.0 ++ (p ∷ []) = l.1 ∙ ap (λ (x : ℕ). l.0 ++ (x ∷ [])) b.ends in
          ⊎_elim
          (λ d. omega (arith, b.no_parameter))
          (λ d. not_both (setting b.register) 0 b.rest (subst (λ (ws : List ℕ). SetOn (setting b.register) ws) (sym e) d) b.unset)
          (s l.0 p [] (subst (λ (ws : List ℕ). Path g ws) e b.path) b.register b.read)

      go : (p : ℕ) → p < g.size → (b : Bool) → unset_at g u k p ≡ b → b ≡ false
      go p h true e = absurd (unbroken p (breaks_of p e h))
      go p h false e = refl

pub assignments : Assignments
assignments g law u bounded k =
    record {
      breaks = λ p. (λ h. breaks_of g law u bounded k p h.0 h.1, of_breaks g law u bounded k p);
      place = λ p. (place_is g law u bounded k p, is_place g law u bounded k p);
      none = (set_before_use g law u bounded k, none_unset g law u bounded k);
    }

pub cutting : Cutting
cutting = record { lawful = cut_lawful; more = some_more }
