-- Where four scripts are accepted within a quarter of the budget each, the budget refuses none of their words.
-- Assumes nothing.
use Prim.Native.Nat.{ℕ, ◌+◌, ◌/◌, ◌≤◌, ◌<◌}
use mathlib.Core.Logic.{inl, inr}
use mathlib.Core.Bool.{cond, Bool, true, false, not, true≢false}
use mathlib.Core.Path.{◌≡◌, refl, sym, ap, ◌∙◌, subst}
use mathlib.Core.List.{List, [], ◌∷◌, ◌++◌}
use native.Mathlib.Omega.{arith}
use lib.Dec.{ltb, eqb}
use lib.ListN.{length}
use borrow.Author.Tests.{ltb-false, le-ltb, eq-eqb}
use Rattle.common.specs.Numbers.{«ACCEPTED», NO_SCRIPT, BUDGET_RANGE, OVER_BUDGET}
use Rattle.common.specs.Chain.{refuse_if}
use Rattle.common.specs.Limits.{last_script}
use Rattle.graph.specs.Graph.{In}
use Rattle.fields.specs.declared.version.Version.{Version}
use Rattle.runs.specs.Script.{script_of}
use Rattle.runs.specs.Weights.{Weighs}
use Rattle.runs.specs.Run.{run_of, longest_of}
use Rattle.runs.specs.Laws.{Enough}
use Rattle.runs.proofs.Laws.{laws}
use Rattle.meter.specs.declared.step.Meter.{Meter}
use Rattle.common.specs.declared.c.FlatAnswer.{FlatAnswer}
use Rattle.meter.specs.Feed.{Fed}
use Rattle.meter.specs.Feed.{Scale, begin_of, reset_of, feed_of, refusal}
use Rattle.meter.specs.Model.{Call, begin, feed, reset}
use Rattle.meter.specs.Calls.{meter_called, meter_after}
use Rattle.meter.specs.Bound.{Bound}
use Rattle.meter.proofs.Laws as meter
use Rattle.budget.specs.declared.step.Meters.{Meters}
use Rattle.budget.specs.Four.{refused_four, meter_of, others_of, is_out_of_range, begin_four_of, reset_four_of, feed_four_of}
use Rattle.budget.specs.Calls.{FourCall, Scripts, scripts_of, EachWith, JustBegun, EachBegun, made_by}
use Rattle.budget.specs.Calls.{made, four_after, answer_numbers, turns_back, answered, own_calls}
use Rattle.budget.specs.Calls.{all_answers}
use Rattle.budget.specs.Never as Claim
use Rattle.budget.specs.Never.{AcceptedWithin, EachWithin, is_begin, is_feed, NoFeeds, Begins, Opening, TurnsBack}
use Rattle.budget.proofs.FourMeters.{others_most}
use Rattle.budget.proofs.View.{settled, viewed, made_as, own_as, other_as}
use Rattle.budget.proofs.Alone.{Plain, fed_plain, runs_alone}

-- one feed more at the end of a list
after_more : (g : Scale) (m : Meter) (cs : List Call) (q : ℕ) → meter_after g m (cs ++ (feed q ∷ [])) ≡ (feed_of g (meter_after g m cs) q).meter
after_more g m [] q = refl
after_more g m (c ∷ cs) q = after_more g (meter_called g m c) cs q

-- a sum within the budget: the answer is not 22
within_settled : (m : Meter) (s others : ℕ) (f : Fed) → Plain m f → f.meter.count + others ≤ s → (settled m s others f).answer.number ≡ OVER_BUDGET → ⊥
within_settled m s others f p l = rw (le-ltb s (f.meter.count + others) l) (go (eqb f.answer.number «ACCEPTED»))
  where
    go : (t : Bool) → (refuse_if (not t) (record { meter = m; answer = f.answer }) f).answer.number ≡ OVER_BUDGET → ⊥
    go true h = true≢false (sym (ap turns_back h) ∙ p.own)
    go false h = true≢false (sym (ap turns_back h) ∙ p.own)

within_viewed : (g : Scale) (m : Meter) (s others q : ℕ) → (feed_of g m q).meter.count + others ≤ s
    → (viewed g m s others (feed q)).answer.number ≡ OVER_BUDGET → ⊥
within_viewed g m s others q l = go (is_out_of_range s)
  where
    go : (t : Bool) → (refuse_if t (refusal BUDGET_RANGE 0 m) (settled m s others (feed_of g m q))).answer.number ≡ OVER_BUDGET → ⊥
    go true h = omega arith
    go false h = within_settled m s others (feed_of g m q) (fed_plain g m q) l h

-- one call more at the end of a list of calls on four
now_more : (g : Scripts) (ms : Meters) (cs : List FourCall) (c : FourCall) → four_after g ms (cs ++ (c ∷ [])) ≡ (made g (four_after g ms cs) c).meters
now_more g ms [] c = refl
now_more g ms (x ∷ cs) c = now_more g (made g ms x).meters cs c

abbrev Over : List FlatAnswer → Type 0
Over answers = In OVER_BUDGET (answer_numbers answers)

not_answered : (t : Bool) (c : Call) (a : FlatAnswer) (later : List FlatAnswer) → (a.number ≡ OVER_BUDGET → ⊥) → (Over later → ⊥)
    → Over (cond t (answered c a later) later) → ⊥
not_answered false c a later n l h = l h
not_answered true begin a later n l h = l h
not_answered true (feed q) a later n l (inl e) = n (sym e)
not_answered true (feed q) a later n l (inr i) = l i
not_answered true reset a later n l h = l h

-- a begin's or a reset's number is 0 or 20
either_never : (t : Bool) (ms ns : Meters)
    → (refuse_if t (refused_four NO_SCRIPT ms)
    (record { meters = ns; answer = record { number = «ACCEPTED»; place = 0 } })).answer.number
    ≡ OVER_BUDGET
    → ⊥
either_never true ms ns h = omega arith
either_never false ms ns h = omega arith

module _ (versions : ℕ → Version) (words weights : ℕ → List ℕ) (s : ℕ)
    (accepted : EachWithin versions words weights s) (ms : Meters) (begun : EachBegun ms) where
  abbrev g : Scripts
  g = scripts_of versions words weights

  bounded : (i : ℕ) → i ≤ 3 → (calls : List Call) → (meter_after (g i) (meter_of ms i) calls).count ≤ s / 4
  bounded i l calls =
      let a : AcceptedWithin (versions i) (words i) (weights i) s = accepted i l in
      let b : JustBegun (meter_of ms i) = begun i l in
      let enough : Enough (length (words i)) (weights i) a.marks a.lengths = laws.enough
      (script_of (versions i) (words i)) (weights i) a.marks a.lengths a.accepted in
      let weighs : Weighs (weights i) = record { accepted = enough.weighed; bytes = a.bytes } in
      let longest : ℕ = longest_of (run_of (script_of (versions i) (words i)) (weights i) a.marks a.lengths) in
      let most : Bound (g i) (meter_of ms i) longest =
      ((meter.laws).demand3_of (versions i) (words i) (weights i) weighs enough.few).bound a.marks a.lengths a.accepted (meter_of ms i) b.fits in
      let shown : (meter_after (g i) (meter_of ms i) calls).count ≤ longest =
      subst (λ (m : Meter). (meter_after (g i) m calls).count ≤ longest) b.begun (most.never calls) in
      omega (arith, a.within)

  module _ (calls : List FourCall) where
    abbrev now : Meters
    now = four_after g ms calls

    abbrev own : ℕ → List Call
    own i = own_calls g i ms calls

    shown_most : (i : ℕ) → i ≤ 3 → (meter_of now i).count ≤ s / 4
    shown_most i l = rw (runs_alone g i l ms calls).meter (bounded i l (own i))

    fed_most : (i : ℕ) → i ≤ 3 → (q : ℕ) → (feed_of (g i) (meter_of now i) q).meter.count ≤ s / 4
    fed_most i l q =
        rw ((runs_alone g i l ms calls).meter, ← after_more (g i) (meter_of ms i) (own i) q)
        (bounded i l (own i ++ (feed q ∷ [])))

    script_never : (i : ℕ) → i ≤ 3 → (q : ℕ) → (feed_four_of (g i) now i s q).answer.number ≡ OVER_BUDGET → ⊥
    script_never i l q h =
        within_viewed (g i) (meter_of now i) s (others_of now i) q
        (omega (arith, fed_most i l q, others_most now (s / 4) shown_most i l))
        (sym (ap (λ (a : FlatAnswer). a.number) (made_as now i l i l g s (feed q)).0) ∙ h)

  pub next_never : (calls : List FourCall) (i q : ℕ) → (feed_four_of (g i) (now calls) i s q).answer.number ≡ OVER_BUDGET → ⊥
  unfolding feed_four_of
  next_never calls i q = go (ltb last_script i) refl
    where
      go : (t : Bool) → ltb last_script i ≡ t → (feed_four_of (g i) (now calls) i s q).answer.number ≡ OVER_BUDGET → ⊥
      go true e = rw e (λ h. omega arith)
      go false e = script_never calls i (ltb-false last_script i e) q

  call_never : (calls : List FourCall) (i : ℕ) (c : Call) → (made_by g (now calls) i s c).answer.number ≡ OVER_BUDGET → ⊥
  unfolding begin_four_of reset_four_of
  call_never calls i begin = either_never (ltb last_script i) (now calls) _
  call_never calls i (feed q) = next_never calls i q
  call_never calls i reset = either_never (ltb last_script i) (now calls) _

  made_never : (calls : List FourCall) (c : FourCall) → c.budget ≡ s → (made g (now calls) c).answer.number ≡ OVER_BUDGET → ⊥
  unfolding made
  made_never calls c e = rw e (call_never calls c.script c.call)

  none_from : (i : ℕ) (before calls : List FourCall) → EachWith s calls → Over (all_answers g i (now before) calls) → ⊥
  none_from i before [] e = λ h. h
  none_from i before (c ∷ cs) e =
      not_answered (eqb c.script i) c.call (made g (now before) c).answer _ (made_never before c e.0)
      (rw (← now_more g ms before c) (none_from i (before ++ (c ∷ [])) cs e.1))

  pub none : (calls : List FourCall) → EachWith s calls → (i : ℕ) → TurnsBack versions words weights i ms calls → ⊥
  none calls e i = none_from i [] calls e

-- Begins and resets before the first feed.

begin_begins : (m : Meter) → m.services < 4294967296 → JustBegun (begin_of m)
unfolding begin_of
begin_begins m fits = record { begun = refl; fits = fits }

-- a reset of a meter just begun
reset_begins : (m : Meter) → JustBegun m → JustBegun (reset_of m)
unfolding begin_of reset_of
reset_begins m b = subst (λ (x : Meter). JustBegun (reset_of x)) b.begun (record { begun = refl; fits = b.fits })

module _ (g : Scripts) (i : ℕ) (l : i ≤ 3) where
  -- what a begin and a reset of the script's own keep of its meter, every begin and reset keeps
  unfed : (P : Meter → Type 0) → ((m : Meter) → P m → P (begin_of m)) → ((m : Meter) → P m → P (reset_of m))
      → (ms : Meters) (c : FourCall) → is_feed c.call ≡ false → P (meter_of ms i) → P (meter_of (made g ms c).meters i)
  unfed P begins resets ms c n h = go c.script c.budget c.call n
    where
      go : (k s : ℕ) (call : Call) → is_feed call ≡ false → P (meter_of (made g ms (record { script = k; budget = s; call = call })).meters i)
      go k s (feed q) e = absurd (true≢false e)
      go k s begin e = own (eqb k i) refl
        where
          own : (t : Bool) → eqb k i ≡ t → P (meter_of (made g ms (record { script = k; budget = s; call = begin })).meters i)
          own true d = rw (own_as g ms i l (record { script = k; budget = s; call = begin }) d).1 (begins (meter_of ms i) h)
          own false d = rw (other_as g ms i l (record { script = k; budget = s; call = begin }) d) h
      go k s reset e = own (eqb k i) refl
        where
          own : (t : Bool) → eqb k i ≡ t → P (meter_of (made g ms (record { script = k; budget = s; call = reset })).meters i)
          own true d = rw (own_as g ms i l (record { script = k; budget = s; call = reset }) d).1 (resets (meter_of ms i) h)
          own false d = rw (other_as g ms i l (record { script = k; budget = s; call = reset }) d) h

  abbrev Fits : Meter → Type 0
  Fits m = m.services < 4294967296

  fits_kept : (ms : Meters) (c : FourCall) → is_feed c.call ≡ false → Fits (meter_of ms i) → Fits (meter_of (made g ms c).meters i)
  unfolding begin_of reset_of
  fits_kept = unfed Fits (λ m h. h) (λ m h. h)

  begun_kept : (ms : Meters) (c : FourCall) → is_feed c.call ≡ false → JustBegun (meter_of ms i) → JustBegun (meter_of (made g ms c).meters i)
  begun_kept = unfed JustBegun (λ m b. begin_begins m b.fits) reset_begins

  -- the first begin of the script, whatever its meter held
  begin_made : (ms : Meters) (c : FourCall) → c.script ≡ i → is_begin c.call ≡ true → Fits (meter_of ms i) → JustBegun (meter_of (made g ms c).meters i)
  begin_made ms c e b h = go c.script c.budget c.call e b
    where
      go : (k s : ℕ) (call : Call) → k ≡ i → is_begin call ≡ true → JustBegun (meter_of (made g ms (record { script = k; budget = s; call = call })).meters i)
      go k s (feed q) e b = absurd (true≢false (sym b))
      go k s reset e b = absurd (true≢false (sym b))
      go k s begin e b = rw (own_as g ms i l (record { script = k; budget = s; call = begin }) (eq-eqb k i e)).1 (begin_begins (meter_of ms i) h)

  stays_begun : (cs : List FourCall) → NoFeeds cs → (ms : Meters) → JustBegun (meter_of ms i) → JustBegun (meter_of (four_after g ms cs) i)
  stays_begun [] n ms b = b
  stays_begun (c ∷ cs) n ms b = stays_begun cs n.1 (made g ms c).meters (begun_kept ms c n.0 b)

  script_begun : (cs : List FourCall) → NoFeeds cs → Begins i cs → (ms : Meters) → Fits (meter_of ms i) → JustBegun (meter_of (four_after g ms cs) i)
  script_begun [] n b ms h = absurd b
  script_begun (c ∷ cs) n (inl b) ms h = stays_begun cs n.1 (made g ms c).meters (begin_made ms c b.0 b.1 h)
  script_begun (c ∷ cs) n (inr b) ms h = script_begun cs n.1 b (made g ms c).meters (fits_kept ms c n.0 h)

four_begun : (g : Scripts) (ms : Meters) → ((i : ℕ) → i ≤ last_script → (meter_of ms i).services < 4294967296)
    → (opening : List FourCall) → Opening opening → EachBegun (four_after g ms opening)
four_begun g ms fits opening o i l = script_begun g i l opening o.no_feeds (o.begins i l) ms (fits i l)

-- the answer to a begin or a reset is not among those to feeds
module _ (g : Scripts) (i : ℕ) where
  silent : (t : Bool) (c : Call) → is_feed c ≡ false → (a : FlatAnswer) (later : List FlatAnswer) → cond t (answered c a later) later ≡ later
  silent t (feed q) e a later = absurd (true≢false e)
  silent true begin e a later = refl
  silent false begin e a later = refl
  silent true reset e a later = refl
  silent false reset e a later = refl

  opening_silent : (opening calls : List FourCall) → NoFeeds opening → (ms : Meters)
      → all_answers g i ms (opening ++ calls) ≡ all_answers g i (four_after g ms opening) calls
  opening_silent [] calls n ms = refl
  opening_silent (c ∷ cs) calls n ms =
      silent (eqb c.script i) c.call n.0 (made g ms c).answer (all_answers g i (made g ms c).meters (cs ++ calls))
      ∙ opening_silent cs calls n.1 (made g ms c).meters

opened : (versions : ℕ → Version) (words weights : ℕ → List ℕ) (s : ℕ) → EachWithin versions words weights s
    → (ms : Meters) → ((i : ℕ) → i ≤ last_script → (meter_of ms i).services < 4294967296)
    → (opening : List FourCall) → Opening opening → (calls : List FourCall) → EachWith s calls → (i : ℕ)
    → TurnsBack versions words weights i ms (opening ++ calls) → ⊥
opened versions words weights s accepted ms fits opening o calls e i =
    let g : Scripts = scripts_of versions words weights in
    rw (opening_silent g i opening calls o.no_feeds ms) (none versions words weights s accepted
    (four_after g ms opening) (four_begun g ms fits opening o) calls e i)

pub never : Claim.Never
never =
    record {
      none = none;
      begun = λ ms fits versions words weights opening o. four_begun (scripts_of versions words weights) ms fits opening o;
      opened = opened;
      next = next_never;
    }
