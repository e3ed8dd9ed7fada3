-- What a refusal of one of the four says, and what it leaves.
-- Assumes nothing.
use Prim.Native.Nat.{ℕ, zero, suc, ◌+◌, ◌<◌, ◌≤◌}
use mathlib.Core.Bool.{Bool, true, false, not, true≢false}
use mathlib.Core.Path.{◌≡◌, refl, sym, ap, subst, ◌∙◌}
use mathlib.Core.Logic.{◌↔◌}
use native.Mathlib.Omega.{arith}
use lib.Dec.{ltb, eqb}
use borrow.Author.Tests.{ltb-true, ltb-false, lt-ltb, le-ltb, eqb-true, eq-eqb, ne_eqb}
use Rattle.common.specs.Numbers.{«ACCEPTED», NO_SCRIPT, BUDGET_RANGE, OVER_BUDGET}
use Rattle.common.specs.Chain.{refuse_if}
use Rattle.common.specs.Limits.{last_script}
use Rattle.meter.specs.declared.step.Meter.{Meter}
use Rattle.meter.specs.Feed.{Fed}
use Rattle.meter.specs.Feed.{Scale, begin_of, reset_of, feed_of}
use Rattle.meter.specs.Model.{Call, begin, feed, reset}
use Rattle.meter.proofs.Laws.{laws}
use Rattle.budget.specs.declared.step.Meters.{Meters}
use Rattle.budget.specs.Four.{FedFour}
use Rattle.budget.specs.Four.{meter_of, with_meter, sum_of, others_of, is_out_of_range, refused_four}
use Rattle.budget.specs.Four.{changed_four, begin_four_of, reset_four_of, settle_four, feed_four_of}
use Rattle.budget.specs.Calls.{FourCall, Scripts, turns_back, made_by, made}
use Rattle.budget.specs.Refusals as Claim
use Rattle.budget.proofs.FourMeters.{sum_after}
use Rattle.budget.proofs.View.{no_script}
use Rattle.budget.proofs.Alone.{fed_plain}

module _ (g : Scale) (ms : Meters) (i s q : ℕ) where
  abbrev f : Fed
  f = feed_of g (meter_of ms i) q

  -- all four then
  abbrev sum : ℕ
  sum = sum_of (with_meter ms i f.meter)

  -- what holds of the outcomes of a feed, each with what led to it, holds of the feed
  outcomes : (P : FedFour → Type 0)
      → P (refused_four NO_SCRIPT ms)
      → P (refused_four BUDGET_RANGE ms)
      → (eqb f.answer.number «ACCEPTED» ≡ false → P (record { meters = ms; answer = f.answer }))
      → (i ≤ 3 → f.answer.number ≡ «ACCEPTED» → s < sum → P (refused_four OVER_BUDGET ms))
      → (f.answer.number ≡ «ACCEPTED» → sum ≤ s → P (record { meters = with_meter ms i f.meter; answer = f.answer }))
      → P (feed_four_of g ms i s q)
  unfolding feed_four_of settle_four
  outcomes P none range refused over accepted =
      go (ltb last_script i) refl (is_out_of_range s) (eqb f.answer.number «ACCEPTED») refl (ltb s sum) refl
    where
      go : (t : Bool) → ltb last_script i ≡ t → (u v : Bool) → eqb f.answer.number «ACCEPTED» ≡ v
          → (w : Bool) → ltb s sum ≡ w
          → P (refuse_if t (refused_four NO_SCRIPT ms)
          (refuse_if u (refused_four BUDGET_RANGE ms) (refuse_if (not v)
          (record { meters = ms; answer = f.answer }) (refuse_if w (refused_four OVER_BUDGET ms)
          (record { meters = with_meter ms i f.meter; answer = f.answer })))))
      go true e u v d w b = none
      go false e true v d w b = range
      go false e false false d w b = refused d
      go false e false true d true b = over (ltb-false last_script i e) (eqb-true _ _ d) (ltb-true _ _ b)
      go false e false true d false b = accepted (eqb-true _ _ d) (ltb-false _ _ b)

  fed_unchanged : ((feed_four_of g ms i s q).answer.number ≡ «ACCEPTED» → ⊥) → (feed_four_of g ms i s q).meters ≡ ms
  fed_unchanged =
      outcomes (λ r. (r.answer.number ≡ «ACCEPTED» → ⊥) → r.meters ≡ ms)
      (λ h. refl)
      (λ h. refl)
      (λ d h. refl)
      (λ l e b h. refl)
      (λ e b h. absurd (h e))

  over_budget : (feed_four_of g ms i s q).answer.number ≡ OVER_BUDGET → (f.answer.number ≡ «ACCEPTED») × (s < f.meter.count + others_of ms i)
  over_budget =
      outcomes (λ r. r.answer.number ≡ OVER_BUDGET → (f.answer.number ≡ «ACCEPTED») × (s < f.meter.count + others_of ms i))
      (λ h. omega arith)
      (λ h. omega arith)
      (λ d h. absurd (true≢false (ap turns_back (sym h) ∙ (fed_plain g (meter_of ms i) q).own)))
      (λ l e b h. (e, subst (λ (k : ℕ). s < k) (sum_after ms f.meter i l) b))
      (λ e b h. omega (arith, e, h))

  out-of-range : i ≤ last_script → is_out_of_range s ≡ true → (feed_four_of g ms i s q).answer.number ≡ BUDGET_RANGE
  unfolding feed_four_of
  out-of-range l e = rw (le-ltb last_script i l, e)

  over_sum : i ≤ last_script → is_out_of_range s ≡ false → f.answer.number ≡ «ACCEPTED»
      → s < f.meter.count + others_of ms i → (feed_four_of g ms i s q).answer.number ≡ OVER_BUDGET
  unfolding feed_four_of settle_four
  over_sum l r e b =
      rw (
        le-ltb last_script i l,
        r,
        eq-eqb f.answer.number «ACCEPTED» e,
        lt-ltb s sum
            (subst (λ (k : ℕ). s < k) (sym (sum_after ms f.meter i l)) b),
      )

  within : (feed_four_of g ms i s q).answer.number ≡ «ACCEPTED» → sum_of (feed_four_of g ms i s q).meters ≤ s
  within =
      outcomes (λ r. r.answer.number ≡ «ACCEPTED» → sum_of r.meters ≤ s)
      (λ h. omega arith)
      (λ h. omega arith)
      (λ d h. absurd (true≢false (sym (eq-eqb _ _ h) ∙ d)))
      (λ l e b h. omega arith)
      (λ e b h. b)

  -- a feed that neither 20 nor 21 refuses is answered neither
  settled_plain : (n : ℕ) → turns_back n ≡ true → (n ≡ OVER_BUDGET → ⊥) → (settle_four ms i s f).answer.number ≡ n → ⊥
  unfolding settle_four
  settled_plain n b d = go (not (eqb f.answer.number «ACCEPTED»)) (ltb s sum)
    where
      plain : f.answer.number ≡ n → ⊥
      plain h = true≢false (sym b ∙ ap turns_back (sym h) ∙ (fed_plain g (meter_of ms i) q).own)

      go : (t u : Bool)
          → (refuse_if t (record { meters = ms; answer = f.answer }) (refuse_if u (refused_four OVER_BUDGET ms)
          (record { meters = with_meter ms i f.meter; answer = f.answer }))).answer.number
          ≡ n
          → ⊥
      go true u h = plain h
      go false true h = d (sym h)
      go false false h = plain h

  only_range : (feed_four_of g ms i s q).answer.number ≡ BUDGET_RANGE → (i ≤ last_script) × (is_out_of_range s ≡ true)
  unfolding feed_four_of
  only_range = go (ltb last_script i) refl (is_out_of_range s) refl
    where
      go : (t : Bool) → ltb last_script i ≡ t → (u : Bool) → is_out_of_range s ≡ u
          → (refuse_if t (refused_four NO_SCRIPT ms) (refuse_if u (refused_four BUDGET_RANGE ms) (settle_four ms i s f))).answer.number ≡ BUDGET_RANGE
          → (i ≤ last_script) × (is_out_of_range s ≡ true)
      go true e u d h = absurd (omega (arith, h))
      go false e true d h = (ltb-false last_script i e, d)
      go false e false d h = absurd (settled_plain BUDGET_RANGE refl (λ k. omega (arith, k)) h)

  only_script : (feed_four_of g ms i s q).answer.number ≡ NO_SCRIPT → last_script < i
  unfolding feed_four_of
  only_script = go (ltb last_script i) refl (is_out_of_range s)
    where
      go : (t : Bool) → ltb last_script i ≡ t → (u : Bool)
          → (refuse_if t (refused_four NO_SCRIPT ms) (refuse_if u (refused_four BUDGET_RANGE ms) (settle_four ms i s f))).answer.number ≡ NO_SCRIPT
          → last_script < i
      go true e u h = ltb-true last_script i e
      go false e true h = absurd (omega (arith, h))
      go false e false h = absurd (settled_plain NO_SCRIPT refl (λ k. omega (arith, k)) h)

  own_refusal : i ≤ last_script → is_out_of_range s ≡ false → (f.answer.number ≡ «ACCEPTED» → ⊥) → (feed_four_of g ms i s q).answer ≡ f.answer
  unfolding feed_four_of settle_four
  own_refusal l r e = rw (le-ltb last_script i l, r, ne_eqb f.answer.number «ACCEPTED» e)

  taken : i ≤ last_script → is_out_of_range s ≡ false → f.answer.number ≡ «ACCEPTED» → f.meter.count + others_of ms i ≤ s
      → ((feed_four_of g ms i s q).answer.number ≡ «ACCEPTED») × ((feed_four_of g ms i s q).meters ≡ with_meter ms i f.meter)
  unfolding feed_four_of settle_four
  taken l r e b =
      let w = le-ltb s sum (subst (λ (k : ℕ). k ≤ s) (sym (sum_after ms f.meter i l)) b) in
      (rw (le-ltb last_script i l, r, eq-eqb f.answer.number «ACCEPTED» e, w) e, rw (le-ltb last_script i l, r, eq-eqb f.answer.number «ACCEPTED» e, w))

range : (s : ℕ) → (is_out_of_range s ≡ false) ↔ ((0 < s) × (s ≤ 16777216))
unfolding is_out_of_range
range zero = ((λ h. absurd (true≢false h)), (λ p. absurd (omega (arith, p.0))))
range (suc n) = ((λ h. (omega arith, ltb-false 16777216 (suc n) (rw some at h))), (λ p. rw some (le-ltb 16777216 (suc n) p.1)))
  where
    some : eqb (suc n) 0 ≡ false
    some = ne_eqb (suc n) 0 (λ d. omega (arith, d))

-- a begin or a reset
changes : (ms : Meters) (i : ℕ) (m : Meter) (r : FedFour) → i ≤ 3 → r ≡ refuse_if (ltb last_script i) (refused_four NO_SCRIPT ms) (changed_four ms i m)
    → (r.answer.number ≡ 0) × (r.meters ≡ with_meter ms i m)
changes ms i m r l e =
    let d : r ≡ changed_four ms i m = rw (le-ltb last_script i l) at e in
    (ap (λ (x : FedFour). x.answer.number) d, ap (λ (x : FedFour). x.meters) d)

begins : (ms : Meters) (i : ℕ) → i ≤ 3 → ((begin_four_of ms i).answer.number ≡ 0) × ((begin_four_of ms i).meters ≡ with_meter ms i (begin_of (meter_of ms i)))
unfolding begin_four_of
begins ms i l = changes ms i (begin_of (meter_of ms i)) _ l refl

resets : (ms : Meters) (i : ℕ) → i ≤ 3 → ((reset_four_of ms i).answer.number ≡ 0) × ((reset_four_of ms i).meters ≡ with_meter ms i (reset_of (meter_of ms i)))
unfolding reset_four_of
resets ms i l = changes ms i (reset_of (meter_of ms i)) _ l refl

-- what names no place
abbrev Placeless : FedFour → Type 0
Placeless r = (turns_back r.answer.number ≡ true → r.answer.place ≡ 0) × (r.answer.number ≡ 0 → r.answer.place ≡ 0)

fed_place : (g : Scale) (ms : Meters) (i s q : ℕ) → Placeless (feed_four_of g ms i s q)
fed_place g ms i s q =
    outcomes g ms i s q Placeless
    (λ h. refl, λ h. refl)
    (λ h. refl, λ h. refl)
    (λ d. own)
    (λ l e b. (λ h. refl, λ h. refl))
    (λ e b. own)
  where
    f : Fed
    f = feed_of g (meter_of ms i) q

    own : (turns_back f.answer.number ≡ true → f.answer.place ≡ 0) × (f.answer.number ≡ 0 → f.answer.place ≡ 0)
    own = (
      λ h. absurd (true≢false (sym h ∙ (fed_plain g (meter_of ms i) q).own)),
      λ h. (laws.order g (meter_of ms i) q).no_place (λ d. omega (arith, h, d)),
    )

changed_place : (ms : Meters) (i : ℕ) (m : Meter) (t : Bool) → Placeless (refuse_if t (refused_four NO_SCRIPT ms) (changed_four ms i m))
changed_place ms i m true = (λ h. refl, λ h. refl)
changed_place ms i m false = (λ h. refl, λ h. refl)

called_place : (g : Scripts) (ms : Meters) (i s : ℕ) (c : Call) → Placeless (made_by g ms i s c)
unfolding begin_four_of reset_four_of
called_place g ms i s begin = changed_place ms i (begin_of (meter_of ms i)) (ltb last_script i)
called_place g ms i s (feed q) = fed_place (g i) ms i s q
called_place g ms i s reset = changed_place ms i (reset_of (meter_of ms i)) (ltb last_script i)

placeless : (g : Scripts) (ms : Meters) (c : FourCall) → Placeless (made g ms c)
unfolding made
placeless g ms c = called_place g ms c.script c.budget c.call

changed : (ms : Meters) (i : ℕ) (m : Meter) (t : Bool) → ((refuse_if t (refused_four NO_SCRIPT ms) (changed_four ms i m)).answer.number ≡ «ACCEPTED» → ⊥)
    → (refuse_if t (refused_four NO_SCRIPT ms) (changed_four ms i m)).meters ≡ ms
changed ms i m true h = refl
changed ms i m false h = absurd (h refl)

called : (g : Scripts) (ms : Meters) (i s : ℕ) (c : Call) → ((made_by g ms i s c).answer.number ≡ «ACCEPTED» → ⊥) → (made_by g ms i s c).meters ≡ ms
unfolding begin_four_of reset_four_of
called g ms i s begin = changed ms i (begin_of (meter_of ms i)) (ltb last_script i)
called g ms i s (feed q) = fed_unchanged (g i) ms i s q
called g ms i s reset = changed ms i (reset_of (meter_of ms i)) (ltb last_script i)

unchanged : (g : Scripts) (ms : Meters) (c : FourCall) → ((made g ms c).answer.number ≡ «ACCEPTED» → ⊥) → (made g ms c).meters ≡ ms
unfolding made
unchanged g ms c = called g ms c.script c.budget c.call

none : (g : Scripts) (ms : Meters) (c : FourCall) → last_script < c.script → (made g ms c).answer.number ≡ NO_SCRIPT
unfolding made
none g ms c l = ap (λ (r : FedFour). r.answer.number) (no_script g ms c.script c.budget c.call (lt-ltb last_script c.script l))

only_changed : (ms : Meters) (i : ℕ) (m : Meter) (t : Bool) → ltb last_script i ≡ t
    → (refuse_if t (refused_four NO_SCRIPT ms) (changed_four ms i m)).answer.number ≡ NO_SCRIPT
    → last_script < i
only_changed ms i m true e h = ltb-true last_script i e
only_changed ms i m false e h = absurd (omega (arith, h))

only_called : (g : Scripts) (ms : Meters) (i s : ℕ) (c : Call) → (made_by g ms i s c).answer.number ≡ NO_SCRIPT → last_script < i
unfolding begin_four_of reset_four_of
only_called g ms i s begin = only_changed ms i (begin_of (meter_of ms i)) (ltb last_script i) refl
only_called g ms i s (feed q) = only_script (g i) ms i s q
only_called g ms i s reset = only_changed ms i (reset_of (meter_of ms i)) (ltb last_script i) refl

only_none : (g : Scripts) (ms : Meters) (c : FourCall) → (made g ms c).answer.number ≡ NO_SCRIPT → last_script < c.script
unfolding made
only_none g ms c = only_called g ms c.script c.budget c.call

pub refusals : Claim.Refusals
refusals =
    record {
      unchanged = unchanged;
      no_script = none;
      out-of-range = out-of-range;
      over_budget = over_budget;
      over_sum = over_sum;
      within = within;
      range = range;
      only_no_script = only_none;
      only_out_of_range = only_range;
      own_refusal = own_refusal;
      taken = taken;
      begins = begins;
      resets = resets;
      no_place = λ g ms c. (placeless g ms c).0;
      accepted_place = λ g ms c. (placeless g ms c).1;
    }
