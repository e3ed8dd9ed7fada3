-- Script i's own calls, run on its meter alone.
-- Assumes nothing.
use Prim.Native.Nat.{ℕ, ◌+◌, ◌≤◌}
use mathlib.Core.Bool.{Bool, true, false, cond, not, ◌&&◌, true≢false}
use mathlib.Core.Path.{◌≡◌, refl, sym, ap, subst, ◌∙◌}
use mathlib.Core.List.{List, [], ◌∷◌}
use lib.Dec.{ltb, eqb}
use lib.ListN.{length}
use Rattle.common.specs.Limits.{most_words}
use Rattle.common.specs.Numbers.{«ACCEPTED», TOO_MANY_WORDS, NO_STEP, FOREIGN_METER, WEIGHTS_REFUSED, BUDGET_RANGE, OVER_BUDGET}
use Rattle.common.specs.Chain.{refuse_if}
use Rattle.fields.specs.declared.version.Version.{Version}
use Rattle.runs.specs.Script.{script_of}
use Rattle.runs.specs.Weights.{refuses_weights, weights_place, Weighs}
use Rattle.meter.specs.declared.step.Meter.{Meter}
use Rattle.common.specs.declared.c.FlatAnswer.{FlatAnswer}
use Rattle.meter.specs.Feed.{Fed}
use Rattle.meter.specs.Feed.{Scale, is_begun, is_foreign, is_stray, moved_to, begin_of, reset_of, feed_of, refusal}
use Rattle.meter.specs.Model.{Call, begin, feed, reset}
use Rattle.meter.specs.Calls.{meter_after, meter_answers, FollowsModel}
use Rattle.meter.specs.Demand3.{Demand3}
use Rattle.meter.proofs.Laws.{laws}
use Rattle.budget.specs.declared.step.Meters.{Meters}
use Rattle.budget.specs.Four.{meter_of, others_of, is_out_of_range}
use Rattle.budget.specs.Calls.{FourCall, Scripts, scripts_of, JustBegun, made, four_after, alone_answers}
use Rattle.budget.specs.Calls.{answer_numbers, turns_back, answered, own_calls, own_answers}
use Rattle.budget.specs.Alone as Claim
use Rattle.budget.specs.Alone.{RunsAlone, FollowsOwnModel}
use Rattle.budget.proofs.View.{taken, settled, viewed, seen_as, other_as, own_as}

-- What a feed of one meter answers: none of the numbers of the four, and a refusal leaves the meter.

pub record Plain (m : Meter) (f : Fed) : Type 0 where
  pub own : turns_back f.answer.number ≡ false
  pub left : eqb f.answer.number «ACCEPTED» ≡ false → f.meter ≡ m

pub fed_plain : (g : Scale) (m : Meter) (q : ℕ) → Plain m (feed_of g m q)
unfolding feed_of
fed_plain g m q = go (ltb most_words g.graph.size) (refuses_weights g.table) (is_foreign g.graph.size m) (is_stray g.graph m q)
  where
    go : (t u v w : Bool)
        → Plain m (refuse_if t (refusal TOO_MANY_WORDS 0 m)
        (refuse_if u (refusal WEIGHTS_REFUSED (weights_place g.table) m) (refuse_if v
        (refusal FOREIGN_METER 0 m) (refuse_if w (refusal NO_STEP 0 m) (taken (moved_to g m q))))))
    go true u v w = record { own = refl; left = λ e. refl }
    go false true v w = record { own = refl; left = λ e. refl }
    go false false true w = record { own = refl; left = λ e. refl }
    go false false false true = record { own = refl; left = λ e. refl }
    go false false false false = record { own = refl; left = λ e. absurd (true≢false e) }

-- a call on one meter: the meter after it, and its answer
abbrev called : Scale → Meter → Call → Fed
called g m begin = taken (begin_of m)
called g m (feed q) = feed_of g m q
called g m reset = taken (reset_of m)

-- a call that is turned back leaves the meter; another is the call on that meter alone
abbrev Left : Meter → Fed → Fed → Bool → Type 0
Left m v f true = v.meter ≡ m
Left m v f false = v ≡ f

settled_left : (m : Meter) (s others : ℕ) (f : Fed) → Plain m f → Left m (settled m s others f) f (turns_back (settled m s others f).answer.number)
settled_left m s others f p = go (eqb f.answer.number «ACCEPTED») refl (ltb s (f.meter.count + others))
  where
    after : Bool → Bool → Fed
    after t u = refuse_if (not t) (record { meter = m; answer = f.answer }) (refuse_if u (refusal OVER_BUDGET 0 m) f)

    go : (t : Bool) → eqb f.answer.number «ACCEPTED» ≡ t → (u : Bool) → Left m (after t u) f (turns_back (after t u).answer.number)
    go false e u = rw p.own (ap (λ (n : Meter). record { meter = n; answer = f.answer }) (sym (p.left e)))
    go true e true = refl
    go true e false = rw p.own

left : (g : Scale) (m : Meter) (s others : ℕ) (c : Call) → Left m (viewed g m s others c) (called g m c) (turns_back (viewed g m s others c).answer.number)
left g m s others begin = refl
left g m s others (feed q) = go (is_out_of_range s)
  where
    after : Bool → Fed
    after t = refuse_if t (refusal BUDGET_RANGE 0 m) (settled m s others (feed_of g m q))

    go : (t : Bool) → Left m (after t) (feed_of g m q) (turns_back (after t).answer.number)
    go true = refl
    go false = settled_left m s others (feed_of g m q) (fed_plain g m q)
left g m s others reset = refl

module _ (g : Scripts) (i : ℕ) (i-script : i ≤ 3) where
  abbrev Same : Meter → List Call → List FlatAnswer → Meter → Type 0
  Same m own answers after = (answers ≡ alone_answers (g i) m own) × (after ≡ meter_after (g i) m own)

  -- a call left out
  skipped : (m n : Meter) → n ≡ m → (own : List Call) (answers : List FlatAnswer) (after : Meter) → Same n own answers after → Same m own answers after
  skipped m n e own answers after h = rw (← e) h

  -- a call kept
  kept : (m : Meter) (v : Fed) (c : Call) → v ≡ called (g i) m c
      → (own : List Call) (answers : List FlatAnswer) (after : Meter) → Same v.meter own answers after
      → Same m (c ∷ own) (answered c v.answer answers) after
  kept m v begin e own answers after h = skipped (begin_of m) v.meter (ap (λ (z : Fed). z.meter) e) own answers after h
  kept m v (feed q) e own answers after h = (
    ap (λ (l : List FlatAnswer). v.answer ∷ l) h.0 ∙ ap (λ (f : Fed). f.answer ∷ alone_answers (g i) f.meter own) e,
    h.1 ∙ ap (λ (f : Fed). meter_after (g i) f.meter own) e,
  )
  kept m v reset e own answers after h = skipped (reset_of m) v.meter (ap (λ (z : Fed). z.meter) e) own answers after h

  module _ (ms : Meters) (c : FourCall) where
    -- script i's meter and the call's answer after the call
    abbrev next : Fed
    next = record { meter = meter_of (made g ms c).meters i; answer = (made g ms c).answer }

    own_left : eqb c.script i ≡ true → Left (meter_of ms i) next (called (g i) (meter_of ms i) c.call) (turns_back next.answer.number)
    own_left e =
        let both : (next.answer ≡ (seen_as g ms i c).answer) × (next.meter ≡ (seen_as g ms i c).meter) = own_as g ms i i-script c e in
        let same : next ≡ seen_as g ms i c = λ j. record { meter = both.1 j; answer = both.0 j } in
        subst (λ (v : Fed). Left (meter_of ms i) v (called (g i) (meter_of ms i) c.call) (turns_back v.answer.number)) (sym same)
        (left (g i) (meter_of ms i) c.budget (others_of ms i) c.call)

    step : (own : List Call) (answers : List FlatAnswer) (after : Meter) (t u : Bool) → eqb c.script i ≡ t
        → turns_back next.answer.number ≡ u → Same next.meter own answers after
        → Same (meter_of ms i) (cond (t && not u) (c.call ∷ own) own) (cond (t && not u) (answered c.call next.answer answers) answers) after
    step own answers after false u e d h = skipped (meter_of ms i) next.meter (other_as g ms i i-script c e) own answers after h
    step own answers after true true e d h = skipped (meter_of ms i) next.meter (rw d at (own_left e)) own answers after h
    step own answers after true false e d h = kept (meter_of ms i) next c.call (rw d at (own_left e)) own answers after h

  same : (ms : Meters) (calls : List FourCall) → Same (meter_of ms i) (own_calls g i ms calls) (own_answers g i ms calls) (meter_of (four_after g ms calls) i)
  same ms [] = (refl, refl)
  same ms (c ∷ cs) =
      step ms c (own_calls g i (made g ms c).meters cs) (own_answers g i (made g ms c).meters cs) (meter_of (four_after g (made g ms c).meters cs) i)
      (eqb c.script i) (turns_back (made g ms c).answer.number) refl refl (same (made g ms c).meters cs)

  pub runs_alone : (ms : Meters) (calls : List FourCall) → RunsAlone g ms calls i
  runs_alone ms calls = let s = same ms calls in record { answers = s.0; meter = s.1 }

-- Each script and its reference model.

numbers_alone : (s : Scale) (m : Meter) (cs : List Call) → answer_numbers (alone_answers s m cs) ≡ meter_answers s m cs
numbers_alone s m [] = refl
numbers_alone s m (begin ∷ cs) = numbers_alone s (begin_of m) cs
numbers_alone s m (feed q ∷ cs) = ap (λ (l : List ℕ). (feed_of s m q).answer.number ∷ l) (numbers_alone s (feed_of s m q).meter cs)
numbers_alone s m (reset ∷ cs) = numbers_alone s (reset_of m) cs

module _ (versions : ℕ → Version) (words weights : ℕ → List ℕ) (ms : Meters) (calls : List FourCall) (i : ℕ)
    (i-script : i ≤ 3) (few : length (words i) ≤ most_words) (weighs : Weighs (weights i))
    (b : JustBegun (meter_of ms i)) where
  abbrev g : Scripts
  g = scripts_of versions words weights

  abbrev own : List Call
  own = own_calls g i ms calls

  own_model : FollowsOwnModel versions words weights ms calls i
  own_model =
      let a : RunsAlone g ms calls i = runs_alone g i i-script ms calls in
      let d : Demand3 (script_of (versions i) (words i)) (weights i) = laws.demand3_of (versions i) (words i) (weights i) weighs few in
      let f : FollowsModel (g i) (meter_of ms i) own = d.meter (meter_of ms i) b.fits own in
      let same : meter_of (four_after g ms calls) i ≡ meter_after (g i) (begin_of (meter_of ms i)) own =
      a.meter ∙ ap (λ (m : Meter). meter_after (g i) m own) (sym b.begun) in
      record {
        answers =
            ap answer_numbers a.answers ∙ numbers_alone (g i) (meter_of ms i) own
            ∙ ap (λ (m : Meter). meter_answers (g i) m own) (sym b.begun) ∙ f.answers;
        begun = ap is_begun same ∙ f.begun;
        last = ap (λ (m : Meter). m.last) same ∙ f.last;
        count = ap (λ (m : Meter). m.count) same ∙ f.count;
        services = ap (λ (m : Meter). m.services) same ∙ f.services;
        shown_highest = ap (λ (m : Meter). m.highest) a.meter;
        highest = d.highest (meter_of ms i) own;
      }

pub alone : Claim.Alone
alone = record { runs = λ g ms calls i l. runs_alone g i l ms calls; models = own_model }
