-- The controller's meters and `left` mirror control. Assumes nothing.
use mathlib.Core.Path.{◌≡◌, refl, sym, ap, subst, ◌∙◌}
use mathlib.Core.Logic.{inl, inr}
use mathlib.Core.Bool.{Bool, true, false, cond}
use mathlib.Core.List.{List, [], ◌∷◌, ◌++◌}
use Prim.Native.Nat.{ℕ, zero, suc, ◌+◌, ◌<◌}
use native.Mathlib.Omega.{arith}
use lib.ListN.{length, replicate}
use Rattle.common.specs.Numbers.{«ACCEPTED»}
use Rattle.graph.specs.Graph.{In, Path}
use Rattle.runs.specs.Script.{Script, graph_of}
use Rattle.runs.specs.Run.{longest_of}
use Rattle.meter.specs.declared.step.Meter.{Meter}
use Rattle.meter.specs.Feed.{Scale, scale_of, begin_of, feed_of}
use Rattle.meter.specs.Calls.{meter_after, meter_answers}
use Rattle.meter.specs.Bound.{feeds}
use Rattle.calls.specs.Control.{GraphFunction, Activation, activation_last, activation_count, Control}
use Rattle.calls.specs.Control.{idle, call, tailcall, step, leave, stepped, returned, control_moved}
use Rattle.calls.specs.Control.{onto, waiting, serviced, FollowsTop, Allowed, Run, control_after}
use Rattle.calls.specs.Bound.{Fit, running}
use Rattle.calls.specs.Script.{function_of, functions_from, run_answer_of, AcceptedScript, Shows}
use Rattle.calls.specs.Meters.{HeldMeter, Controller, unused, CallEvent, enters, replaces, goes, leaves}
use Rattle.calls.specs.Meters.{fed_held, begun_for, held_at, serving, behind, went_on, dropped}
use Rattle.calls.specs.Meters.{controller_told, told_all, answers_to, event_answers, all_answered, StepFrom}
use Rattle.calls.specs.Meters.{Possible, Happens, event_move, moves_of, running_count, MeterBound}
use Rattle.calls.specs.Meters.{MetersBound}
use Rattle.calls.proofs.Activations.{AllSound, goes-on}
use Rattle.calls.proofs.Bound.{Kept, kept_idle, kept_move, shown-of, most_of}
use Rattle.calls.proofs.Script.{shows, fit_of, named}

-- A meter that is fed one word more.

after_more : (s : Scale) (m : Meter) (ws : List ℕ) (q : ℕ) → meter_after s m (feeds (ws ++ (q ∷ []))) ≡ (feed_of s (meter_after s m (feeds ws)) q).meter
after_more s m [] q = refl
after_more s m (p ∷ ps) q = after_more s (feed_of s m p).meter ps q

answers_more : (s : Scale) (m : Meter) (ws : List ℕ) (q : ℕ)
    → In (feed_of s (meter_after s m (feeds ws)) q).answer.number
    (meter_answers s m (feeds (ws ++ (q ∷ []))))
answers_more s m [] q = inl refl
answers_more s m (p ∷ ps) q = inr (answers_more s (feed_of s m p).meter ps q)

in_replicate : (k x n : ℕ) → In n (replicate k x) → n ≡ x
in_replicate zero x n i = absurd i
in_replicate (suc k) x n (inl e) = e
in_replicate (suc k) x n (inr i) = in_replicate k x n i

in_append : (n : ℕ) (xs ys : List ℕ) (P : ℕ → Type 0) → ((m : ℕ) → In m xs → P m) → ((m : ℕ) → In m ys → P m) → In n (xs ++ ys) → P n
in_append n [] ys P f g i = g n i
in_append n (x ∷ xs) ys P f g (inl e) = f n (inl e)
in_append n (x ∷ xs) ys P f g (inr i) = in_append n xs ys P (λ m j. f m (inr j)) g i

in_functions : (weights : List ℕ) (rest : Script → ℕ → ℕ) (script : List Script) (ws : Script) → In ws script
    → In (function_of weights rest ws) (functions_from weights rest script)
in_functions weights rest [] ws x = elim x [ ]
in_functions weights rest (x ∷ xs) ws (inl e) = inl (ap (function_of weights rest) e)
in_functions weights rest (x ∷ xs) ws (inr i) = inr (in_functions weights rest xs ws i)

module _ (weights : List ℕ) (rest : Script → ℕ → ℕ) (script : List Script) (ok : AcceptedScript weights rest script) where
  abbrev functions : List GraphFunction
  functions = functions_from weights rest script

  fit : (f : GraphFunction) → In f functions → Fit f
  fit f i = fit_of weights rest script ok f (named weights rest script f i)

  -- a held meter is one that was begun and fed the activation's words
  record Match (h : HeldMeter) (a : Activation) : Type 0 where
    known : In h.words script
    same : a.function ≡ function_of weights rest h.words
    meter : Meter
    fits : meter.services < 4294967296
    is : h.meter ≡ meter_after (scale_of h.words weights) (begin_of meter) (feeds a.words)

  module _ (h : HeldMeter) (a : Activation) (m : Match h a) (path : Path a.function.graph a.words) where
    shown-by : Shows (scale_of h.words weights) m.meter a (longest_of (run_answer_of weights h.words))
    shown-by =
        shows weights ok.weighs h.words (ok.sound h.words m.known) (ok.accepted h.words m.known) m.meter m.fits a rest m.same
        (subst (λ (f : GraphFunction). Path f.graph a.words) m.same path)

    last_is : h.meter.last ≡ activation_last a
    last_is = ap (λ (x : Meter). x.last) m.is ∙ shown-by.last

    count_is : h.meter.count ≡ activation_count a
    count_is = ap (λ (x : Meter). x.count) m.is ∙ shown-by.count

  -- one word on
  match_on : (h : HeldMeter) (a : Activation) (q : ℕ) → Match h a → Match (held_at weights h q) (onto a q)
  match_on h a q m =
      record {
        known = m.known;
        same = m.same;
        meter = m.meter;
        fits = m.fits;
        is =
            ap (λ (x : Meter). (feed_of (scale_of h.words weights) x q).meter) m.is
            ∙ sym (after_more (scale_of h.words weights) (begin_of m.meter) a.words q);
      }

  -- and its feed is accepted, if the activation is then on a path
  taken_on : (h : HeldMeter) (a : Activation) (q : ℕ) → (m : Match h a)
      → Path a.function.graph (onto a q).words → (fed_held weights h q).answer.number ≡ «ACCEPTED»
  unfolding match_on
  taken_on h a q m path =
      ap (λ (x : Meter). (feed_of (scale_of h.words weights) x q).answer.number) m.is
      ∙ in_replicate (length (onto a q).words) «ACCEPTED» _
      (subst (λ (xs : List ℕ). In
      (feed_of (scale_of h.words weights)
      (meter_after (scale_of h.words weights) (begin_of m.meter) (feeds a.words))
      q).answer.number
      xs)
      (shown-by (held_at weights h q) (onto a q) (match_on h a q m) path).taken
      (answers_more (scale_of h.words weights) (begin_of m.meter) a.words q))

  match_entered : (ws : Script) (m : Meter) → In ws script → m.services < 4294967296
      → Match (held_at weights (begun_for weights ws m) 0)
      (record { function = function_of weights rest ws; words = 0 ∷ [] })
  match_entered ws m i fits = record { known = i; same = refl; meter = m; fits = fits; is = refl }

  taken_entered : (ws : Script) (m : Meter) → In ws script → m.services < 4294967296 → (fed_held weights (begun_for weights ws m) 0).answer.number ≡ «ACCEPTED»
  unfolding match_entered
  taken_entered ws m i fits =
      in_replicate 1 «ACCEPTED» _
      (subst (λ (xs : List ℕ). In (fed_held weights (begun_for weights ws m) 0).answer.number xs)
      (shown-by (held_at weights (begun_for weights ws m) 0) (record { function = function_of weights rest ws; words = 0 ∷ [] }) (match_entered ws m i fits)
      (refl, (fit (function_of weights rest ws) (in_functions weights rest script ws i)).some)).taken
      (inl refl))

  abbrev Matches : List HeldMeter → List Activation → Type 0
  Matches [] [] = Unit {0}
  Matches [] (a ∷ os) = ⊥
  Matches (h ∷ hs) [] = ⊥
  Matches (h ∷ hs) (a ∷ os) = Match h a × Matches hs os

  record Mirrors (k : Controller) (c : Control) : Type 0 where
    matches : Matches k.held c.stack
    left : k.left ≡ c.left
    kept : Kept functions fit c

  behind_matches : (hs : List HeldMeter) (os : List Activation) → Matches hs os → Matches (behind weights hs) (waiting os)
  behind_matches [] [] m = tt
  behind_matches [] (a ∷ os) m = absurd m
  behind_matches (h ∷ hs) [] m = absurd m
  behind_matches (h ∷ hs) (a ∷ os) m = m.1

  -- What holds after an event.

  record Next (k : Controller) (c : Control) (e : CallEvent) : Type 0 where
    allowed : Allowed functions c (event_move weights rest e)
    mirrors : Mirrors (controller_told weights k e) (control_moved c (event_move weights rest e))
    taken : (n : ℕ) → In n (event_answers weights k e) → n ≡ «ACCEPTED»

  only : (x n : ℕ) → x ≡ «ACCEPTED» → In n (x ∷ []) → n ≡ «ACCEPTED»
  only x n e (inl d) = d ∙ e
  only x n e (inr i) = absurd i

  abbrev LeftOn : Controller → Control → List HeldMeter → List Activation → ℕ → Type 0
  LeftOn k c hs os q = ((went_on weights k hs q).left ≡ (stepped c os q).left) × Matches (went_on weights k hs q).held (stepped c os q).stack

  step_mirrors : (k : Controller) (c : Control) (h : HeldMeter) (hs : List HeldMeter) (a : Activation) (os : List Activation) (q : ℕ)
      → k.left ≡ c.left → Match h a → Matches hs os → h.meter.last ≡ activation_last a
      → LeftOn k c (h ∷ hs) (a ∷ os) q
  step_mirrors k c h hs a os q left m ms last = go (a.function.graph.serves (activation_last a) q) same_serving
    where
      same_serving : serving weights h q ≡ a.function.graph.serves (activation_last a) q
      same_serving = ap (λ (x : ℕ). (graph_of h.words).serves x q) last ∙ sym (ap (λ (f : GraphFunction). f.graph.serves (activation_last a) q) m.same)

      next_of : Bool → Control
      next_of t =
          cond t (serviced (onto a q) os (a.function.weight q))
          (record { stack = onto a q ∷ os; since = c.since + a.function.weight q; chain = c.chain; left = c.left })

      go : (t : Bool) → serving weights h q ≡ t
          → (cond (serving weights h q) 0 k.left ≡ (next_of t).left) × Matches (held_at weights h q ∷ hs) (next_of t).stack
      go true e = (rw e, (match_on h a q m, ms))
      go false e = (rw e left, (match_on h a q m, ms))

  follows_step : (k : Controller) (c : Control) (hs : List HeldMeter) (os : List Activation) (q : ℕ)
      → c.stack ≡ os → k.held ≡ hs → Mirrors k c → Matches hs os → AllSound functions os → StepFrom hs q
      → (FollowsTop os q) × LeftOn k c hs os q × ((n : ℕ) → In n (answers_to weights hs q) → n ≡ «ACCEPTED»)
  follows_step k c [] os q ec ek m ms o i = absurd i
  follows_step k c (h ∷ hs) [] q ec ek m ms o i = absurd ms
  follows_step k c (h ∷ hs) (a ∷ os) q ec ek m ms o i =
      let last : h.meter.last ≡ activation_last a = last_is h a ms.0 o.0.path in
      let goes : In q (a.function.graph.successors (activation_last a)) =
      subst (λ (f : GraphFunction). In q (f.graph.successors (activation_last a))) (sym ms.0.same)
      (subst (λ (x : ℕ). In q ((graph_of h.words).successors x)) last i) in (
        goes,
        step_mirrors k c h hs a os q m.left ms.0 ms.1 last,
        λ n j. only (fed_held weights h q).answer.number n (taken_on h a q ms.0 (goes-on functions fit a q o.0 goes).path) j,
      )

  leave_mirrors : (k : Controller) (c : Control) (hs : List HeldMeter) (os : List Activation)
      → Matches hs os → AllSound functions os → k.left ≡ c.left → c.stack ≡ os → k.held ≡ hs
      → ((dropped weights k hs).left ≡ (returned c os).left) × Matches (dropped weights k hs).held (returned c os).stack
  leave_mirrors k c [] [] ms o left ec ek = (left, rw (ec, ek) tt)
  leave_mirrors k c [] (a ∷ os) ms o left ec ek = absurd ms
  leave_mirrors k c (h ∷ hs) [] ms o left ec ek = absurd ms
  leave_mirrors k c (h ∷ []) (a ∷ []) ms o left ec ek = (omega (arith, left, count_is h a ms.0 o.0.path), tt)
  leave_mirrors k c (h ∷ []) (a ∷ b ∷ os) ms o left ec ek = absurd ms.1
  leave_mirrors k c (h ∷ g ∷ hs) (a ∷ []) ms o left ec ek = absurd ms.1
  leave_mirrors k c (h ∷ g ∷ hs) (a ∷ b ∷ os) ms o left ec ek = (omega (arith, left, count_is h a ms.0 o.0.path), ms.1)

  next : (k : Controller) (c : Control) (e : CallEvent) → Mirrors k c → Possible script k e → Next k c e
  next k c (enters ws x) m p =
      let i = in_functions weights rest script ws p.0 in
      record {
        allowed = i;
        mirrors =
            record {
              matches = (match_entered ws x p.0 p.1, m.matches);
              left = refl;
              kept = kept_move functions fit c (call (function_of weights rest ws)) m.kept i;
            };
        taken = λ n j. only (fed_held weights (begun_for weights ws x) 0).answer.number n (taken_entered ws x p.0 p.1) j;
      }
  next k c (replaces ws x) m p =
      let i = in_functions weights rest script ws p.0 in
      record {
        allowed = i;
        mirrors = record {
          matches = (match_entered ws x p.0 p.1, behind_matches k.held c.stack m.matches);
          left = refl;
          kept = kept_move functions fit c (tailcall (function_of weights rest ws)) m.kept i;
        };
        taken = λ n j. only (fed_held weights (begun_for weights ws x) 0).answer.number n (taken_entered ws x p.0 p.1) j;
      }
  next k c (goes q) m p =
      let f = follows_step k c k.held c.stack q refl refl m m.matches m.kept.sound p in
      record {
        allowed = f.0;
        mirrors = record { matches = f.1.1; left = f.1.0; kept = kept_move functions fit c (step q) m.kept f.0 };
        taken = f.2;
      }
  next k c leaves m p =
      let l = leave_mirrors k c k.held c.stack m.matches m.kept.sound m.left refl refl in
      record {
        allowed = tt;
        mirrors = record { matches = l.1; left = l.0; kept = kept_move functions fit c leave m.kept tt };
        taken = λ n j. absurd j;
      }

  -- After all of them.

  record All (k : Controller) (c : Control) (events : List CallEvent) : Type 0 where
    run : Run functions c (moves_of weights rest events)
    mirrors : Mirrors (told_all weights k events) (control_after c (moves_of weights rest events))
    taken : (n : ℕ) → In n (all_answered weights k events) → n ≡ «ACCEPTED»

  all : (k : Controller) (c : Control) (events : List CallEvent) → Mirrors k c → Happens weights script k events → All k c events
  all k c [] m h = record { run = tt; mirrors = m; taken = λ n j. absurd j }
  all k c (e ∷ es) m h =
      let x = next k c e m h.0 in
      let later = all (controller_told weights k e) (control_moved c (event_move weights rest e)) es x.mirrors h.1 in
      record {
        run = (x.allowed, later.run);
        mirrors = later.mirrors;
        taken =
            λ n j.
            in_append n (event_answers weights k e) (all_answered weights (controller_told weights k e) es)
            (λ (y : ℕ). y ≡ «ACCEPTED») x.taken later.taken j;
      }

  running_is : (hs : List HeldMeter) (os : List Activation) → Matches hs os → AllSound functions os → running_count hs ≡ running os
  running_is [] [] m o = refl
  running_is [] (a ∷ os) m o = absurd m
  running_is (h ∷ hs) [] m o = absurd m
  running_is (h ∷ hs) (a ∷ os) m o = count_is h a m.0 o.0.path

  bound : (events : List CallEvent) → Happens weights script unused events → MeterBound weights rest script events
  bound events h =
      let x = all unused idle events (record { matches = tt; left = refl; kept = kept_idle functions fit }) h in
      let m = x.mirrors in
      let c : Control = control_after idle (moves_of weights rest events) in
      let same = running_is (told_all weights unused events).held c.stack m.matches m.kept.sound in
      record {
        run = x.run;
        taken = x.taken;
        since = omega (arith, shown-of functions fit c c.stack m.kept.chained, same, m.left);
        most = omega (arith, most_of functions fit c c.stack m.kept.sound m.kept.chained, same, m.left);
      }

pub meters_bound : MetersBound
meters_bound = bound
