-- The distance to service: no walk that ends is shorter, and one has as many words. Assumes nothing.
use mathlib.Core.Path.{◌≡◌, refl, sym, ap, ap₂, subst, ◌∙◌}
use mathlib.Core.Logic.{◌⊎◌, inl, inr}
use mathlib.Core.Bool.{Bool, true, false, cond, ◌||◌, false≢true, true≢false}
use mathlib.Core.List.{List, [], ◌∷◌}
use Prim.Native.Nat.{ℕ, zero, suc, ◌+◌, ◌-◌, ◌≤◌, ◌<◌, min}
use native.Mathlib.Nat.{le_antisymm}
use native.Mathlib.Omega.{arith}
use lib.ListN.{length}
use Rattle.common.proofs.Order.{split}
use Rattle.graph.specs.Graph.{Graph, In, Lawful, Segment}
use Rattle.graph.specs.Distance.{Ends, some_serves, ends_by, least_of, nearer, nearest, distance_of, last_of, Distance, Distances}
use Rattle.graph.proofs.Paths.{Free, reach_in, reach_of, segment_free, segment_start, segment_of}

-- the test is right
serves_in : (g : Graph) (p : ℕ) (l : List ℕ) → some_serves g p l ≡ true → (q : ℕ) × In q l × (g.serves p q ≡ true)
serves_in g p [] e = absurd (false≢true e)
serves_in g p (x ∷ xs) e = go (λ h. serves_in g p xs h) (g.serves p x) refl e
  where
    go : (some_serves g p xs ≡ true → (q : ℕ) × In q xs × (g.serves p q ≡ true)) → (b : Bool)
        → g.serves p x ≡ b → b || some_serves g p xs ≡ true
        → (q : ℕ) × In q (x ∷ xs) × (g.serves p q ≡ true)
    go rec true s h = (x, inl refl, s)
    go rec false s h = let r = rec h in (r.0, inr r.1, r.2)

serves_not : (g : Graph) (p : ℕ) (l : List ℕ) → some_serves g p l ≡ false → (q : ℕ) → In q l → g.serves p q ≡ false
serves_not g p [] e q i = absurd i
serves_not g p (x ∷ xs) e q i = go (λ h j. serves_not g p xs h q j) (g.serves p x) refl e i
  where
    go : (some_serves g p xs ≡ false → In q xs → g.serves p q ≡ false) → (b : Bool) → g.serves p x ≡ b
        → b || some_serves g p xs ≡ false → In q (x ∷ xs) → g.serves p q ≡ false
    go rec true s h j = absurd (true≢false h)
    go rec false s h (inl d) = ap (g.serves p) d ∙ s
    go rec false s h (inr j) = rec h j

ends_of : (g : Graph) (p : ℕ) (l : List ℕ) → ends_by g p l ≡ true → (l ≡ []) ⊎ ((q : ℕ) × In q l × (g.serves p q ≡ true))
ends_of g p [] e = inl refl
ends_of g p (x ∷ xs) e = inr (serves_in g p (x ∷ xs) e)

goes-on : (g : Graph) (p : ℕ) (l : List ℕ) → ends_by g p l ≡ false → ((l ≡ []) ⊎ ((q : ℕ) × In q l × (g.serves p q ≡ true))) → ⊥
goes-on g p [] e i = true≢false e
goes-on g p (x ∷ xs) e (inl d) = no d
  where
    no : x ∷ xs ≡ [] → ⊥
    no h = let k : suc (length xs) ≡ 0 = ap length h in omega arith
goes-on g p (x ∷ xs) e (inr (q, i, s)) = true≢false (sym s ∙ serves_not g p (x ∷ xs) e q i)

-- the least of some numbers
least_le : (f : ℕ → ℕ) (l : List ℕ) (q : ℕ) → In q l → least_of f l ≤ f q
least_le f [] q i = absurd i
least_le f (x ∷ []) q (inl e) = let u : f q ≡ f x = ap f e in omega arith
least_le f (x ∷ []) q (inr i) = absurd i
least_le f (x ∷ y ∷ ys) q (inl e) = let u : f q ≡ f x = ap f e in omega arith
least_le f (x ∷ y ∷ ys) q (inr i) = let h = least_le f (y ∷ ys) q i in omega arith

least_in : (f : ℕ → ℕ) (x : ℕ) (xs : List ℕ) → (q : ℕ) × In q (x ∷ xs) × (f q ≡ least_of f (x ∷ xs))
least_in f x [] = (x, inl refl, refl)
least_in f x (y ∷ ys) = go (least_in f y ys) (split (f x) (least_of f (y ∷ ys)))
  where
    go : ((q : ℕ) × In q (y ∷ ys) × (f q ≡ least_of f (y ∷ ys)))
        → (f x ≤ least_of f (y ∷ ys)) ⊎ (least_of f (y ∷ ys) < f x)
        → (q : ℕ) × In q (x ∷ y ∷ ys) × (f q ≡ min (f x) (least_of f (y ∷ ys)))
    go r (inl d) = (x, inl refl, omega arith)
    go r (inr d) = (r.0, inr r.1, omega (arith, r.2))

least_same : (f h : ℕ → ℕ) (l : List ℕ) → ((q : ℕ) → In q l → f q ≡ h q) → least_of f l ≡ least_of h l
least_same f h [] e = refl
least_same f h (x ∷ []) e = e x (inl refl)
least_same f h (x ∷ y ∷ ys) e = ap₂ min (e x (inl refl)) (least_same f h (y ∷ ys) (λ q i. e q (inr i)))

module _ (g : Graph) (law : Lawful g) where
  lower : (k p : ℕ) (ps : List ℕ) → Free g p ps → Ends g (last_of p ps) → p < g.size → g.size - p ≤ k → nearest g k p ≤ length (p ∷ ps)
  unfolding nearest
  lower zero p ps f e h d = absurd (omega arith)
  lower (suc k) p [] f e h d = go (ends_by g p (g.successors p)) refl
    where
      go : (b : Bool) → ends_by g p (g.successors p) ≡ b → 1 + cond b 0 (least_of (λ q. nearest g k q) (g.successors p)) ≤ 1
      go true t = omega arith
      go false t = absurd (goes-on g p (g.successors p) t e)
  lower (suc k) p (q ∷ qs) f e h d =
      let i = law.inside p q f.0.0 in
      let u = law.forward p q f.0.0 f.0.1 in
      let ih = lower k q qs f.1 e i (omega arith) in
      let b = least_le (λ r. nearest g k r) (g.successors p) q f.0.0 in
      go (ends_by g p (g.successors p)) ih b
    where
      go : (t : Bool) → nearest g k q ≤ length (q ∷ qs)
          → least_of (λ r. nearest g k r) (g.successors p) ≤ nearest g k q
          → 1 + cond t 0 (least_of (λ r. nearest g k r) (g.successors p)) ≤ length (p ∷ q ∷ qs)
      go true ih b = omega arith
      go false ih b = omega arith

  abbrev Attained : ℕ → ℕ → Type 0
  Attained p v = (ps : List ℕ) × Free g p ps × Ends g (last_of p ps) × (length (p ∷ ps) ≡ v)

  -- where it does not end, the nearest successor's walk is one shorter
  module _ (k p : ℕ) (rec : (q : ℕ) → q < g.size → g.size - q ≤ k → Attained q (nearest g k q)) (e : g.size - p ≤ suc k) where
    onwards : (l : List ℕ) → l ≡ g.successors p → ends_by g p l ≡ false → Attained p (1 + least_of (λ q. nearest g k q) l)
    onwards [] s t = absurd (true≢false t)
    onwards (x ∷ xs) s t =
        let m = least_in (λ q. nearest g k q) x xs in
        let j : In m.0 (g.successors p) = subst (λ (l : List ℕ). In m.0 l) s m.1 in
        let n = serves_not g p (x ∷ xs) t m.0 m.1 in
        let u = law.forward p m.0 j n in
        let r = rec m.0 (law.inside p m.0 j) (omega arith) in
        (m.0 ∷ r.0, ((j, n), r.1), r.2, omega (arith, r.3, m.2))

    here_or_on : (b : Bool) → ends_by g p (g.successors p) ≡ b → Attained p (1 + cond b 0 (least_of (λ q. nearest g k q) (g.successors p)))
    here_or_on true t = ([], tt, ends_of g p (g.successors p) t, refl)
    here_or_on false t = onwards (g.successors p) refl t

  attained : (k p : ℕ) → p < g.size → g.size - p ≤ k → Attained p (nearest g k p)
  unfolding nearest
  attained zero p h e = absurd (omega arith)
  attained (suc k) p h e = here_or_on k p (λ q. attained k q) e (ends_by g p (g.successors p)) refl

  bounded : (k j p : ℕ) → p < g.size → g.size - p ≤ k → g.size - p ≤ j → nearest g k p ≤ nearest g j p
  bounded k j p h e d =
      let a = attained j p h d in
      let u = lower k p a.0 a.1 a.2 h e in
      omega (arith, a.3)

  stable : (k j p : ℕ) → p < g.size → g.size - p ≤ k → g.size - p ≤ j → nearest g k p ≡ nearest g j p
  stable k j p h e d = le_antisymm (bounded k j p h e d) (bounded j k p h d e)

  -- numbers that are the same at the successors that count
  nearer_same : (f h : ℕ → ℕ) (p : ℕ) → ((q : ℕ) → In q (g.successors p) → g.serves p q ≡ false → f q ≡ h q) → nearer g f p ≡ nearer g h p
  nearer_same f h p e = go (ends_by g p (g.successors p)) refl
    where
      same : (l : List ℕ) → ends_by g p l ≡ false → ((q : ℕ) → In q l → g.serves p q ≡ false → f q ≡ h q) → least_of f l ≡ least_of h l
      same [] t s = refl
      same (x ∷ xs) t s = least_same f h (x ∷ xs) (λ q i. s q i (serves_not g p (x ∷ xs) t q i))

      go : (b : Bool) → ends_by g p (g.successors p) ≡ b → ◌≡◌ {A = ℕ} (1 + cond b 0 (least_of f (g.successors p))) (1 + cond b 0 (least_of h (g.successors p)))
      go true t = refl
      go false t = ap (λ (x : ℕ). 1 + x) (same (g.successors p) t e)

  turn : (f : ℕ → ℕ) (p : ℕ) → p < g.size → ((q : ℕ) → p < q → q < g.size → f q ≡ distance_of g q) → distance_of g p ≡ nearer g f p
  unfolding distance_of nearest
  turn f p h e =
      stable (g.size - p) (suc (g.size - suc p)) p h (omega arith) (omega arith)
      ∙ nearer_same (λ q. nearest g (g.size - suc p) q) f p
      (λ q i s.
      let u = law.forward p q i s in
      stable (g.size - suc p) (g.size - q) q (law.inside p q i) (omega arith) (omega arith)
      ∙ sym (e q u (law.inside p q i)))

  -- a walk with no serving edge goes forward, so that it fits
  free_fits : (p : ℕ) (ps : List ℕ) → p < g.size → Free g p ps → length (p ∷ ps) + p ≤ g.size
  free_fits p [] h f = omega arith
  free_fits p (q ∷ qs) h f =
      let u = law.forward p q f.0.0 f.0.1 in
      let r = free_fits q qs (law.inside p q f.0.0) f.1 in
      omega arith

  exact : (p : ℕ) → p < g.size → Attained p (distance_of g p)
  unfolding distance_of
  exact p h = attained (g.size - p) p h (omega arith)

  least : (p : ℕ) (ps : List ℕ) → Segment g p ps → Ends g (last_of p ps) → distance_of g p ≤ length (p ∷ ps)
  unfolding distance_of
  least p ps s e = lower (g.size - p) p ps (segment_free g s) e (reach_in g (segment_start g s)) (omega arith)

  pub distance : Distance g
  distance =
      record {
        reached = λ p r. let a = exact p (reach_in g (reach_of g r)) in (a.0, segment_of g law a.0 (reach_of g r) a.1, a.2, a.3);
        fewest = least;
        some = λ p r. let a = exact p (reach_in g (reach_of g r)) in omega (arith, a.3);
        few = λ p h. let a = exact p h in omega (arith, a.3, free_fits p a.0 h a.1);
        turn = turn;
      }

pub distances : Distances
distances g law = distance g law
