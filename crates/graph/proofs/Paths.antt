-- Paths and segments, and the forms that proofs go by: a word is reached by edges from word 0, and a segment is a walk with no
-- serving edge from a word that is reached. Assumes nothing.
use mathlib.Core.Path.{◌≡◌, refl, sym, subst}
use mathlib.Core.Logic.{inl, inr}
use mathlib.Core.Bool.{false}
use mathlib.Core.List.{List, [], ◌∷◌, ◌++◌, append_assoc}
use Prim.Native.Nat.{ℕ, ◌<◌}
use native.Mathlib.Omega.{arith}
use Rattle.graph.specs.Graph.{Graph, In, Lawful, Along, Path, Reachable, Unserved, Segment}

-- word p is reached from word 0 by edges
pub data Reach (g : Graph) : ℕ → Type 0 where
  start : {p : ℕ} → p ≡ 0 → 0 < g.size → Reach g p
  next : {p q : ℕ} → Reach g p → In q (g.successors p) → q < g.size → Reach g q

-- from p along ps, each a successor of the one before by an edge that does not serve
abbrev pub Free : Graph → ℕ → List ℕ → Type 0
Free g p [] = Unit {0}
Free g p (q ∷ qs) = (In q (g.successors p) × (g.serves p q ≡ false)) × Free g q qs

module _ (g : Graph) where
  pub along_in : (p : ℕ) (ps : List ℕ) → Along g p ps → p < g.size
  along_in p [] a = a
  along_in p (q ∷ qs) a = a.0

  pub reach_in : {p : ℕ} → Reach g p → p < g.size
  reach_in (start e h) = omega arith
  reach_in (next r i h) = h

  pub some_word : {p : ℕ} → Reach g p → 0 < g.size
  some_word r = let h = reach_in r in omega arith

  -- every word of a walk from a word that is reached is reached
  reach_along : (p x : ℕ) (ps : List ℕ) → Reach g p → Along g p ps → In x (p ∷ ps) → Reach g x
  reach_along p x [] r a (inl e) = subst (λ (y : ℕ). Reach g y) (sym e) r
  reach_along p x [] r a (inr i) = absurd i
  reach_along p x (q ∷ qs) r a (inl e) = subst (λ (y : ℕ). Reach g y) (sym e) r
  reach_along p x (q ∷ qs) r a (inr i) = reach_along q x qs (next r a.1 (along_in q qs a.2)) a.2 i

  path_reach : (x : ℕ) (ps : List ℕ) → Path g ps → In x ps → Reach g x
  path_reach x [] a i = absurd i
  path_reach x (p ∷ ps) a i = reach_along p x ps (start a.0 (omega (arith, a.0, along_in p ps a.1))) a.1 i

  pub reach_of : {p : ℕ} → Reachable g p → Reach g p
  reach_of {p} r = path_reach p r.words r.path r.on

  -- a path to a word that is reached, with a walk from there at its end
  path-of : {p : ℕ} (cs : List ℕ) → Reach g p → Along g p cs → (bs : List ℕ) × Path g (bs ++ p ∷ cs)
  path-of cs (start e h) a = ([], (e, a))
  path-of {p} cs (next {p = o} r i h) a =
      let w = path-of (p ∷ cs) r (reach_in r, i, a) in
      (w.0 ++ (o ∷ []), subst (λ (l : List ℕ). Path g l) (sym (append_assoc w.0 (o ∷ []) (p ∷ cs))) w.1)

  in_middle : (bs : List ℕ) (p : ℕ) (cs : List ℕ) → In p (bs ++ p ∷ cs)
  in_middle [] p cs = inl refl
  in_middle (b ∷ bs) p cs = inr (in_middle bs p cs)

  pub reachable_of : {p : ℕ} → Reach g p → Reachable g p
  reachable_of {p} r =
      let w = path-of [] r (reach_in r) in
      record { words = w.0 ++ p ∷ []; path = w.1; on = in_middle w.0 p [] }

  pub reachable_next : Lawful g → {p q : ℕ} → Reachable g p → In q (g.successors p) → Reachable g q
  reachable_next law {p} {q} r i = reachable_of (next (reach_of r) i (law.inside p q i))

  -- a segment is a walk with no serving edge
  along_drop : (p x : ℕ) (bs cs : List ℕ) → Along g x (bs ++ p ∷ cs) → Along g p cs
  along_drop p x [] cs a = a.2
  along_drop p x (b ∷ bs) cs a = along_drop p b bs cs a.2

  path_drop : (p : ℕ) (bs cs : List ℕ) → Path g (bs ++ p ∷ cs) → Along g p cs
  path_drop p [] cs a = a.1
  path_drop p (b ∷ bs) cs a = along_drop p b bs cs a.1

  free_of : (p : ℕ) (ps cs : List ℕ) → Along g p (ps ++ cs) → Unserved g p ps → Free g p ps
  free_of p [] cs a u = tt
  free_of p (q ∷ qs) cs a u = ((a.1, u.0), free_of q qs cs a.2 u.1)

  pub segment_free : {p : ℕ} {ps : List ℕ} → Segment g p ps → Free g p ps
  segment_free {p} {ps} s = free_of p ps s.after (path_drop p s.before (ps ++ s.after) s.path) s.unserved

  pub segment_start : {p : ℕ} {ps : List ℕ} → Segment g p ps → Reach g p
  segment_start {p} {ps} s = path_reach p (s.before ++ p ∷ (ps ++ s.after)) s.path (in_middle s.before p (ps ++ s.after))

  module _ (law : Lawful g) where
    free_along : (p : ℕ) (ps : List ℕ) → p < g.size → Free g p ps → Along g p (ps ++ [])
    free_along p [] h f = h
    free_along p (q ∷ qs) h f = (h, f.0.0, free_along q qs (law.inside p q f.0.0) f.1)

    free_unserved : (p : ℕ) (ps : List ℕ) → Free g p ps → Unserved g p ps
    free_unserved p [] f = tt
    free_unserved p (q ∷ qs) f = (f.0.1, free_unserved q qs f.1)

    pub segment_of : {p : ℕ} (ps : List ℕ) → Reach g p → Free g p ps → Segment g p ps
    segment_of {p} ps r f =
        let w = path-of (ps ++ []) r (free_along p ps (reach_in r) f) in
        record { before = w.0; after = []; path = w.1; unserved = free_unserved p ps f }
