-- What may run between two services: an invariant of the moves. Assumes nothing.
use mathlib.Core.Path.{◌≡◌, refl, ap, ◌∙◌}
use mathlib.Core.Bool.{Bool, true, false, cond}
use mathlib.Core.List.{List, [], ◌∷◌}
use Prim.Native.Nat.{ℕ, ◌+◌, ◌≤◌}
use native.Mathlib.Nat.{le_trans, mul-le-mul_right}
use native.Mathlib.Omega.{arith}
use lib.ListN.{length}
use Rattle.graph.specs.Graph.{In}
use Rattle.calls.specs.Control.{GraphFunction, Activation, activation_last, activation_count, Control}
use Rattle.calls.specs.Control.{idle, Move, call, tailcall, step, leave, serviced, waiting}
use Rattle.calls.specs.Control.{activation_functions, onto, stepped, returned, control_moved, FollowsTop}
use Rattle.calls.specs.Control.{Allowed, Run, control_after, Nested, Unserving, Serviceless}
use Rattle.calls.specs.Bound.{Fit, longest_run, total, largest_run, running, Bounded, CallsBounded}
use Rattle.calls.proofs.Activations.{count_on, Sound, AllSound, sound_of, own_most, Few, few_more, enters, goes-on}

module _ (script : List GraphFunction) (fit : (f : GraphFunction) → In f script → Fit f) where
  -- The chain.

  abbrev pub Chained : Control → List Activation → Type 0
  Chained c [] = (c.since ≤ c.left) × (c.left ≤ total c.chain)
  Chained c (a ∷ others) =
      (gone : List GraphFunction) × (c.chain ≡ a.function ∷ gone) × (c.left ≤ total gone) × (c.since ≤ c.left + activation_count a)

  pub record Kept (c : Control) : Type 0 where
    pub sound : AllSound script c.stack
    pub chained : Chained c c.stack
    pub few : Few script c.chain

  pub kept_idle : Kept idle
  kept_idle = record { sound = tt; chained = (omega arith, omega arith); few = omega arith }

  kept_serviced : (a : Activation) (others : List Activation) (weight : ℕ) → Sound script a
      → AllSound script others → weight ≤ activation_count a → Kept (serviced a others weight)
  kept_serviced a others weight s o h =
      record { sound = (s, o); chained = ([], refl, omega arith, omega arith); few = few_more script a.function [] s.known (omega arith) }

  waiting_sound : (s : List Activation) → AllSound script s → AllSound script (waiting s)
  waiting_sound [] o = tt
  waiting_sound (a ∷ others) o = o.1

  kept_step : (c : Control) (s : List Activation) (q : ℕ) → AllSound script s → Chained c s → Few script c.chain → FollowsTop s q → Kept (stepped c s q)
  kept_step c [] q o h few i = absurd i
  kept_step c (a ∷ others) q o h few i = go (a.function.graph.serves (activation_last a) q) (count_on a.function a.words q o.0.path)
    where
      now : Sound script (onto a q)
      now = goes-on script fit a q o.0 i

      go : (t : Bool) → activation_count (onto a q) ≡ cond t (a.function.weight q) (activation_count a + a.function.weight q)
          → Kept (cond t
          (serviced (onto a q) others (a.function.weight q))
          (record { stack = onto a q ∷ others; since = c.since + a.function.weight q; chain = c.chain; left = c.left }))
      go true e = kept_serviced (onto a q) others (a.function.weight q) now o.1 (omega arith)
      go false e = record { sound = (now, o.1); chained = (h.0, h.1, h.2, omega (arith, h.3)); few = few }

  kept_leave : (c : Control) (s : List Activation) → Kept c → AllSound script s → Chained c s → Kept (returned c s)
  kept_leave c [] k o h = k
  kept_leave c (a ∷ []) k o h =
      let t : total c.chain ≡ longest_run a.function + total h.0 = ap total h.1 in
      record { sound = tt; chained = (h.3, omega (arith, own_most script a o.0, h.2)); few = k.few }
  kept_leave c (a ∷ b ∷ others) k o h =
      let t : total c.chain ≡ longest_run a.function + total h.0 = ap total h.1 in
      let s = o.1.0 in
      record {
        sound = o.1;
        chained = (
          c.chain,
          refl,
          omega (arith, own_most script a o.0, h.2),
          omega (arith, h.3, s.ahead.heavy, (fit b.function s.known).part (activation_last b)),
        );
        few = few_more script b.function c.chain s.known k.few;
      }

  pub kept_move : (c : Control) (m : Move) → Kept c → Allowed script c m → Kept (control_moved c m)
  kept_move c (call f) k i = kept_serviced (record { function = f; words = 0 ∷ [] }) c.stack (f.weight 0) (enters script fit f i) k.sound (omega arith)
  kept_move c (tailcall f) k i =
      kept_serviced (record { function = f; words = 0 ∷ [] }) (waiting c.stack) (f.weight 0)
      (enters script fit f i) (waiting_sound c.stack k.sound) (omega arith)
  kept_move c (step q) k i = kept_step c c.stack q k.sound k.chained k.few i
  kept_move c leave k i = kept_leave c c.stack k k.sound k.chained

  kept_run : (c : Control) (ms : List Move) → Kept c → Run script c ms → Kept (control_after c ms)
  kept_run c [] k r = k
  kept_run c (m ∷ ms) k r = kept_run (control_moved c m) ms (kept_move c m k r.0) r.1

  -- How long it is: those that ran since the last service, and those that wait, are no more than were at work then.

  abbrev Low : ℕ → Control → Type 0
  Low d c = length c.chain + length (waiting c.stack) ≤ d

  low_step : (d : ℕ) (c : Control) (s : List Activation) (q : ℕ) → c.stack ≡ s → Low d c → length (stepped c s q).stack ≤ d → Low d (stepped c s q)
  low_step d c [] q e l h = l
  low_step d c (a ∷ others) q e l h = go (a.function.graph.serves (activation_last a) q) h
    where
      before : length c.chain + length others ≤ d
      before = rw e at l

      next_of : Bool → Control
      next_of t =
          cond t (serviced (onto a q) others (a.function.weight q))
          (record { stack = onto a q ∷ others; since = c.since + a.function.weight q; chain = c.chain; left = c.left })

      go : (t : Bool) → length (next_of t).stack ≤ d → Low d (next_of t)
      go true g = omega arith
      go false g = before

  low_leave : (d : ℕ) (c : Control) (s : List Activation) → c.stack ≡ s → Low d c → Low d (returned c s)
  low_leave d c [] e l = l
  low_leave d c (a ∷ []) e l = rw e at l
  low_leave d c (a ∷ b ∷ others) e l = let before : length c.chain + length (b ∷ others) ≤ d = rw e at l in omega arith

  low_move : (d : ℕ) (c : Control) (m : Move) → Low d c → length (control_moved c m).stack ≤ d → Low d (control_moved c m)
  low_move d c (call f) l h = omega arith
  low_move d c (tailcall f) l h = omega arith
  low_move d c (step q) l h = low_step d c c.stack q refl l h
  low_move d c leave l h = low_leave d c c.stack refl l

  nested_now : (d : ℕ) (c : Control) (ms : List Move) → Nested d c ms → length c.stack ≤ d
  nested_now d c [] n = n
  nested_now d c (m ∷ ms) n = n.0

  low-run : (d : ℕ) (c : Control) (ms : List Move) → Low d c → Nested d c ms → Low d (control_after c ms)
  low-run d c [] l n = l
  low-run d c (m ∷ ms) l n = low-run d (control_moved c m) ms (low_move d c m l (nested_now d (control_moved c m) ms n.1)) n.1

  -- What is ahead: one that waits joins the chain, and no other does.

  abbrev ceiling : Control → ℕ
  ceiling c = total c.chain + total (activation_functions (waiting c.stack))

  ceiling_step : (c : Control) (s : List Activation) (q : ℕ) → c.stack ≡ s → Unserving s q → ceiling (stepped c s q) ≡ ceiling c
  ceiling_step c [] q e u = refl
  ceiling_step c (a ∷ others) q e u = rw (u, e)

  ceiling_leave : (c : Control) (s : List Activation) → c.stack ≡ s → ceiling (returned c s) ≡ ceiling c
  ceiling_leave c [] e = refl
  ceiling_leave c (a ∷ []) e = rw e
  ceiling_leave c (a ∷ b ∷ others) e = rw e (omega arith)

  ceiling_run : (c : Control) (ms : List Move) → Serviceless c ms → ceiling (control_after c ms) ≡ ceiling c
  ceiling_run c [] u = refl
  ceiling_run c (call f ∷ ms) u = absurd u
  ceiling_run c (tailcall f ∷ ms) u = absurd u
  ceiling_run c (step q ∷ ms) u = ceiling_run (control_moved c (step q)) ms u.1 ∙ ceiling_step c c.stack q refl u.0
  ceiling_run c (leave ∷ ms) u = ceiling_run (control_moved c leave) ms u ∙ ceiling_leave c c.stack refl

  -- The bound.

  pub shown-of : (c : Control) (s : List Activation) → Chained c s → c.since ≤ c.left + running s
  shown-of c [] h = omega (arith, h.0)
  shown-of c (a ∷ others) h = h.3

  pub most_of : (c : Control) (s : List Activation) → AllSound script s → Chained c s → c.left + running s ≤ total c.chain
  most_of c [] o h = omega (arith, h.1)
  most_of c (a ∷ others) o h =
      let t : total c.chain ≡ longest_run a.function + total h.0 = ap total h.1 in
      omega (arith, own_most script a o.0, h.2)

  chain_of : (c : Control) → Kept c → c.since ≤ total c.chain
  chain_of c k = omega (arith, shown-of c c.stack k.chained, most_of c c.stack k.sound k.chained)

  bounded_by : (moves : List Move) (c : Control) → Kept c → ((d : ℕ) → Nested d idle moves → Low d c) → Bounded script moves c
  bounded_by moves c k low =
      let chain : c.since ≤ total c.chain = chain_of c k in
      record {
        chain = chain;
        deep = λ d n. let l = low d n in le_trans (le_trans chain k.few) (mul-le-mul_right (largest_run script) (omega arith));
        ahead = λ more r u. omega (arith, chain_of (control_after c more) (kept_run c more k r), ceiling_run c more u);
        known = λ a i. (sound_of script c.stack k.sound a i).known;
        paths = λ a i. (sound_of script c.stack k.sound a i).path;
        own = λ a i. own_most script a (sound_of script c.stack k.sound a i);
        shown = shown-of c c.stack k.chained;
        shown_most = most_of c c.stack k.sound k.chained;
      }

  bounded : (moves : List Move) → Run script idle moves → Bounded script moves (control_after idle moves)
  bounded moves r =
      bounded_by moves (control_after idle moves)
      (kept_run idle moves kept_idle r)
      (λ d n. low-run d idle moves (omega arith) n)

pub calls_bounded : CallsBounded
calls_bounded = bounded
