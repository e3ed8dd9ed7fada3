-- An activation: its words are a path, and its count stays within L whatever walk with no serving step may still follow. Assumes nothing.
use mathlib.Core.Path.{◌≡◌, refl, sym, ap, subst}
use mathlib.Core.Logic.{inl, inr}
use mathlib.Core.Bool.{Bool, true, false, cond}
use mathlib.Core.List.{List, [], ◌∷◌, ◌++◌}
use Prim.Native.Nat.{ℕ, ◌+◌, ◌*◌, ◌≤◌}
use native.Mathlib.Nat.{suc-mul}
use native.Mathlib.Omega.{arith}
use lib.ListN.{length}
use Rattle.graph.specs.Graph.{Graph, In, Lawful, Along, Path, Reachable, weigh}
use Rattle.graph.proofs.Laws as graph
use Rattle.meter.specs.Model.{last_from, last_or0, weight_since}
use Rattle.meter.proofs.Laws as meter
use Rattle.calls.specs.Control.{GraphFunction, Activation, activation_last, activation_count, onto}
use Rattle.calls.specs.Bound.{Fit, longest_run, total, largest_run}
use Rattle.calls.proofs.Walks.{Free, walk_most}

along_more : (g : Graph) → Lawful g → (p : ℕ) (ps : List ℕ) (q : ℕ) → Along g p ps → In q (g.successors (last_from p ps)) → Along g p (ps ++ (q ∷ []))
along_more g law p [] q a i = (a, i, law.inside p q i)
along_more g law p (x ∷ ps) q a i = (a.0, a.1, along_more g law x ps q a.2 i)

largest_upper : (script : List GraphFunction) (f : GraphFunction) → In f script → longest_run f ≤ largest_run script
largest_upper [] f x = elim x [ ]
largest_upper (x ∷ xs) f (inl e) = let h : longest_run f ≡ longest_run x = ap longest_run e in omega arith
largest_upper (x ∷ xs) f (inr i) = let h = largest_upper xs f i in omega arith

-- of an activation, at word p with count k: whatever walk with no serving step may still follow, the count stays within L
pub record Ahead (f : GraphFunction) (p k : ℕ) : Type 0 where
  pub reached : Reachable f.graph p
  pub heavy : f.weight p ≤ k
  pub within : (ps : List ℕ) → Free f.graph p ps → k + weigh f.weight ps ≤ longest_run f

module _ (f : GraphFunction) (fit : Fit f) where
  -- a service has just come
  ahead_fresh : (q : ℕ) → Reachable f.graph q → Ahead f q (f.weight q)
  ahead_fresh q r = record { reached = r; heavy = omega arith; within = λ ps w. walk_most f.graph fit.law f.weight q ps r w }

  ahead_on : (p k q : ℕ) → Ahead f p k → In q (f.graph.successors p) → (t : Bool) → f.graph.serves p q ≡ t
      → Ahead f q (cond t (f.weight q) (k + f.weight q))
  ahead_on p k q h i true e = ahead_fresh q (((graph.laws).reaching f.graph fit.law).next p q h.reached i)
  ahead_on p k q h i false e =
      record {
        reached = ((graph.laws).reaching f.graph fit.law).next p q h.reached i;
        heavy = omega arith;
        within = λ ps w. let m = h.within (q ∷ ps) ((i, e), w) in omega arith;
      }

-- the last word and the count, one word on
module _ (f : GraphFunction) where
  last_on : (ws : List ℕ) (q : ℕ) → Path f.graph ws → last_or0 (ws ++ (q ∷ [])) ≡ q
  last_on [] q h = absurd h
  last_on (p ∷ ps) q h = (meter.laws).last_more p ps q

  pub count_on : (ws : List ℕ) (q : ℕ) → Path f.graph ws
      → weight_since f.graph f.weight (ws ++ (q ∷ [])) ≡ cond (f.graph.serves (last_or0 ws) q)
      (f.weight q) (weight_since f.graph f.weight ws + f.weight q)
  count_on [] q h = absurd h
  count_on (p ∷ ps) q h = (meter.laws).weight_more f.graph f.weight p ps q

  path_on : Lawful f.graph → (ws : List ℕ) (q : ℕ) → Path f.graph ws → In q (f.graph.successors (last_or0 ws)) → Path f.graph (ws ++ (q ∷ []))
  path_on law [] q h i = absurd h
  path_on law (p ∷ ps) q h i = (h.0, along_more f.graph law p ps q h.1 i)

module _ (script : List GraphFunction) where
  pub record Sound (a : Activation) : Type 0 where
    pub known : In a.function script
    pub path : Path a.function.graph a.words
    pub ahead : Ahead a.function (activation_last a) (activation_count a)

  abbrev pub AllSound : List Activation → Type 0
  AllSound [] = Unit {0}
  AllSound (a ∷ others) = Sound a × AllSound others

  pub sound_of : (s : List Activation) → AllSound s → (a : Activation) → In a s → Sound a
  sound_of [] o a x = elim x [ ]
  sound_of (x ∷ xs) o a (inl e) = subst (λ (y : Activation). Sound y) (sym e) o.0
  sound_of (x ∷ xs) o a (inr i) = sound_of xs o.1 a i

  pub own_most : (a : Activation) → Sound a → activation_count a ≤ longest_run a.function
  own_most a s = let h = s.ahead.within [] tt in omega arith

  -- so many functions of the script
  abbrev pub Few : List GraphFunction → Type 0
  Few fs = total fs ≤ length fs * largest_run script

  pub few_more : (f : GraphFunction) (fs : List GraphFunction) → In f script → Few fs → Few (f ∷ fs)
  few_more f fs k h = omega (arith, largest_upper script f k, suc-mul (length fs) (largest_run script))

  module _ (fit : (f : GraphFunction) → In f script → Fit f) where
    pub enters : (f : GraphFunction) → In f script → Sound (record { function = f; words = 0 ∷ [] })
    enters f k =
        record {
          known = k;
          path = (refl, (fit f k).some);
          ahead =
              subst (λ (x : ℕ). Ahead f 0 x) (omega arith) (ahead_fresh f (fit f k) 0
              (((graph.laws).reaching f.graph (fit f k).law).start (fit f k).some));
        }

    pub goes-on : (a : Activation) (q : ℕ) → Sound a → In q (a.function.graph.successors (activation_last a)) → Sound (onto a q)
    goes-on a q s i =
        record {
          known = s.known;
          path = path_on a.function (fit a.function s.known).law a.words q s.path i;
          ahead =
              rw (last_on a.function a.words q s.path, count_on a.function a.words q s.path)
              (ahead_on a.function (fit a.function s.known) (activation_last a) (activation_count a) q
              s.ahead i (a.function.graph.serves (activation_last a) q) refl);
        }
