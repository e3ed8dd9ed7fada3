-- `heaviest` is the most that a walk from a word with no serving edge weighs: no walk is above it, and one is equal to it. Assumes nothing.
use mathlib.Core.Path.{◌≡◌, refl, ap, ap₂, subst, ◌∙◌}
use mathlib.Core.Logic.{◌⊎◌, inl, inr, ⊎_elim}
use mathlib.Core.Bool.{Bool, true, false, cond}
use mathlib.Core.List.{List, [], ◌∷◌}
use Prim.Native.Nat.{ℕ, zero, suc, ◌+◌, ◌-◌, ◌≤◌, ◌<◌, max}
use native.Mathlib.Omega.{arith}
use native.Mathlib.Nat.{le_antisymm}
use Rattle.common.proofs.Order.{split}
use Rattle.graph.specs.Graph.{Graph, In, Lawful, weigh}
use Rattle.graph.specs.Longest.{best, within, heaviest}
use Rattle.graph.proofs.Paths.{Free}

pub best_upper : (g : Graph) (p : ℕ) (f : ℕ → ℕ) (l : List ℕ) {q : ℕ} → In q l → g.serves p q ≡ false → f q ≤ best g p f l
best_upper g p f [] {q = q} i s = elim i [ ]
best_upper g p f (x ∷ xs) {q} (inl e) s =
    let v : cond (g.serves p x) 0 (f x) ≡ f x = ap (λ (b : Bool). cond b 0 (f x)) (subst (λ (y : ℕ). g.serves p y ≡ false) e s) in
    let u : f q ≡ f x = ap f e in
    omega arith
best_upper g p f (x ∷ xs) (inr i) s = let h = best_upper g p f xs i s in omega arith

abbrev pub Attains : Graph → ℕ → (ℕ → ℕ) → List ℕ → ℕ → Type 0
Attains g p f l m = (m ≡ 0) ⊎ ((q : ℕ) × In q l × (g.serves p q ≡ false) × (f q ≡ m))

attain_there : (g : Graph) (p : ℕ) (f : ℕ → ℕ) (x : ℕ) (xs : List ℕ) {m k : ℕ} → m ≡ k → Attains g p f xs m → Attains g p f (x ∷ xs) k
attain_there g p f x xs e (inl z) = inl (omega arith)
attain_there g p f x xs e (inr w) = inr (w.0, inr w.1, w.2, w.3 ∙ e)

attain_here : (g : Graph) (p : ℕ) (f : ℕ → ℕ) (x : ℕ) (xs : List ℕ) (m : ℕ) (b : Bool) → g.serves p x ≡ b
    → Attains g p f xs m → Attains g p f (x ∷ xs) (max (cond b 0 (f x)) m)
attain_here g p f x xs m true s a = attain_there g p f x xs (omega arith) a
attain_here g p f x xs m false s a = ⊎_elim (λ h. attain_there g p f x xs (omega arith) a) (λ h. inr (x, inl refl, s, omega arith)) (split (f x) m)

pub best_attained : (g : Graph) (p : ℕ) (f : ℕ → ℕ) (l : List ℕ) → Attains g p f l (best g p f l)
best_attained g p f [] = inl refl
best_attained g p f (x ∷ xs) = attain_here g p f x xs (best g p f xs) (g.serves p x) refl (best_attained g p f xs)

pub best_same : (g : Graph) (p : ℕ) (f h : ℕ → ℕ) (l : List ℕ) → ((q : ℕ) → In q l → g.serves p q ≡ false → f q ≡ h q) → best g p f l ≡ best g p h l
best_same g p f h [] e = refl
best_same g p f h (x ∷ xs) e =
    ap₂ max (same_cond (g.serves p x) (e x (inl refl))) (best_same g p f h xs (λ q i. e q (inr i)))
  where
    same_cond : (b : Bool) → (b ≡ false → f x ≡ h x) → cond b 0 (f x) ≡ cond b 0 (h x)
    same_cond true u = refl
    same_cond false u = u refl

module _ (g : Graph) (law : Lawful g) (w : ℕ → ℕ) where
  pub upper : (k p : ℕ) (ps : List ℕ) → Free g p ps → p < g.size → g.size - p ≤ k → weigh w (p ∷ ps) ≤ within g w k p
  unfolding within
  upper zero p ps f h e = absurd (omega arith)
  upper (suc k) p [] f h e = omega arith
  upper (suc k) p (q ∷ qs) f h e =
      let i = law.inside p q f.0.0 in
      let u = law.forward p q f.0.0 f.0.1 in
      let ih = upper k q qs f.1 i (omega arith) in
      let b = best_upper g p (λ (r : ℕ). within g w k r) (g.successors p) f.0.0 f.0.1 in
      omega arith

  abbrev Attained : ℕ → ℕ → Type 0
  Attained p v = (ps : List ℕ) × Free g p ps × (weigh w (p ∷ ps) ≡ v)

  attained_more : (k p : ℕ) → ((q : ℕ) → q < g.size → g.size - q ≤ k → Attained q (within g w k q))
      → g.size - p ≤ suc k → (m : ℕ) → Attains g p (λ q. within g w k q) (g.successors p) m
      → Attained p (w p + m)
  attained_more k p rec e m (inl z) = ([], tt, omega arith)
  attained_more k p rec e m (inr x) =
      let i = law.inside p x.0 x.1 in
      let u = law.forward p x.0 x.1 x.2 in
      let r = rec x.0 i (omega arith) in
      (x.0 ∷ r.0, ((x.1, x.2), r.1), ap (λ (y : ℕ). w p + y) (r.2 ∙ x.3))

  pub attained : (k p : ℕ) → p < g.size → g.size - p ≤ k → Attained p (within g w k p)
  unfolding within
  attained zero p h e = absurd (omega arith)
  attained (suc k) p h e =
      attained_more k p (λ q. attained k q) e (best g p (λ q. within g w k q) (g.successors p))
      (best_attained g p (λ q. within g w k q) (g.successors p))

  bounded : (k j p : ℕ) → p < g.size → g.size - p ≤ k → g.size - p ≤ j → within g w k p ≤ within g w j p
  bounded k j p h e d =
      let a = attained k p h e in
      let u = upper j p a.0 a.1 h d in
      omega (arith, a.2)

  pub stable : (k j p : ℕ) → p < g.size → g.size - p ≤ k → g.size - p ≤ j → within g w k p ≡ within g w j p
  stable k j p h e d = le_antisymm (bounded k j p h e d) (bounded j k p h d e)

  -- the recursion that a pass from the highest word down follows
  pub heaviest_is : (p : ℕ) → p < g.size → heaviest g w p ≡ w p + best g p (heaviest g w) (g.successors p)
  unfolding heaviest within
  heaviest_is p h =
      stable (g.size - p) (suc (g.size - suc p)) p h (omega arith) (omega arith)
      ∙ ap (λ (x : ℕ). w p + x) (best_same g p (λ q. within g w (g.size - suc p) q) (heaviest g w) (g.successors p)
      (λ q i s. let u = law.forward p q i s in stable (g.size - suc p) (g.size - q) q (law.inside p q i) (omega arith) (omega arith)))

  pub heaviest_upper : (p : ℕ) (ps : List ℕ) → p < g.size → Free g p ps → weigh w (p ∷ ps) ≤ heaviest g w p
  unfolding heaviest
  heaviest_upper p ps h f = upper (g.size - p) p ps f h (omega arith)

  pub heaviest_attained : (p : ℕ) → p < g.size → Attained p (heaviest g w p)
  unfolding heaviest
  heaviest_attained p h = attained (g.size - p) p h (omega arith)
