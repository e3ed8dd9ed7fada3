-- One call as the script sees it: what its own meter, the budget and the others' sum decide.
-- Assumes nothing.
use Prim.Native.Nat.{ℕ, ◌+◌, ◌≤◌}
use mathlib.Core.Bool.{Bool, true, false, cond, not}
use mathlib.Core.Path.{◌≡◌, refl}
use lib.Dec.{ltb, eqb}
use borrow.Author.Tests.{ltb-false, le-ltb, eqb-true, eq-eqb}
use Rattle.common.specs.Numbers.{«ACCEPTED», NO_SCRIPT, BUDGET_RANGE, OVER_BUDGET}
use Rattle.common.specs.Chain.{refuse_if}
use Rattle.common.specs.Limits.{last_script}
use Rattle.meter.specs.declared.step.Meter.{Meter}
use Rattle.common.specs.declared.c.FlatAnswer.{FlatAnswer}
use Rattle.meter.specs.Feed.{Fed}
use Rattle.meter.specs.Feed.{Scale, begin_of, reset_of, refusal, feed_of}
use Rattle.meter.specs.Model.{Call, begin, feed, reset}
use Rattle.budget.specs.declared.step.Meters.{Meters}
use Rattle.budget.specs.Four.{FedFour}
use Rattle.budget.specs.Four.{meter_of, with_meter, others_of, is_out_of_range, refused_four, begin_four_of, reset_four_of, settle_four, feed_four_of}
use Rattle.budget.specs.Calls.{Scripts, FourCall, made_by, made}
use Rattle.budget.proofs.FourMeters.{read_after, read_left, sum_after}

-- a call that is taken
abbrev pub taken : Meter → Fed
taken m = record { meter = m; answer = record { number = «ACCEPTED»; place = 0 } }

-- a feed's own answer, and then the budget's
abbrev pub settled : Meter → ℕ → ℕ → Fed → Fed
settled m s others f =
    refuse_if (not (eqb f.answer.number «ACCEPTED»)) (record { meter = m; answer = f.answer })
    (refuse_if (ltb s (f.meter.count + others)) (refusal OVER_BUDGET 0 m) f)

-- a call of one script
abbrev pub viewed : Scale → Meter → ℕ → ℕ → Call → Fed
viewed g m s others begin = taken (begin_of m)
viewed g m s others (feed q) = refuse_if (is_out_of_range s) (refusal BUDGET_RANGE 0 m) (settled m s others (feed_of g m q))
viewed g m s others reset = taken (reset_of m)

module _ (ms : Meters) (k : ℕ) (k-script : k ≤ 3) (i : ℕ) (i-script : i ≤ 3) where
  -- the four meters after a call of script k, and the call's answer, as the script sees them
  abbrev As : FedFour → Fed → Type 0
  As r v = (r.answer ≡ v.answer) × (meter_of r.meters i ≡ cond (eqb k i) v.meter (meter_of ms i))

  refused_as : (a : FlatAnswer) → As (record { meters = ms; answer = a }) (record { meter = meter_of ms k; answer = a })
  refused_as a = (refl, read_left ms k i)

  taken_as : (m : Meter) (a : FlatAnswer) → As (record { meters = with_meter ms k m; answer = a }) (record { meter = m; answer = a })
  taken_as m a = (refl, read_after ms m k k-script i i-script)

  settled_as : (s : ℕ) (f : Fed) → As (settle_four ms k s f) (settled (meter_of ms k) s (others_of ms k) f)
  unfolding settle_four
  settled_as s f = rw (sum_after ms f.meter k k-script) (go (not (eqb f.answer.number «ACCEPTED»)) (ltb s (f.meter.count + others_of ms k)))
    where
      go : (t u : Bool)
          → As (refuse_if t (record { meters = ms; answer = f.answer })
          (refuse_if u (refused_four OVER_BUDGET ms)
          (record { meters = with_meter ms k f.meter; answer = f.answer })))
          (refuse_if t (record { meter = meter_of ms k; answer = f.answer }) (refuse_if u (refusal OVER_BUDGET 0 (meter_of ms k)) f))
      go true u = refused_as f.answer
      go false true = refused_as (record { number = OVER_BUDGET; place = 0 })
      go false false = taken_as f.meter f.answer

  pub made_as : (g : Scripts) (s : ℕ) (c : Call) → As (made_by g ms k s c) (viewed (g k) (meter_of ms k) s (others_of ms k) c)
  unfolding begin_four_of reset_four_of feed_four_of
  made_as g s begin = rw (le-ltb last_script k k-script) (taken_as (begin_of (meter_of ms k)) (record { number = «ACCEPTED»; place = 0 }))
  made_as g s (feed q) = rw (le-ltb last_script k k-script) (go (is_out_of_range s))
    where
      go : (t : Bool) → As (refuse_if t (refused_four BUDGET_RANGE ms) (settle_four ms k s (feed_of (g k) (meter_of ms k) q)))
          (refuse_if t (refusal BUDGET_RANGE 0 (meter_of ms k)) (settled (meter_of ms k) s (others_of ms k) (feed_of (g k) (meter_of ms k) q)))
      go true = refused_as (record { number = BUDGET_RANGE; place = 0 })
      go false = settled_as s (feed_of (g k) (meter_of ms k) q)
  made_as g s reset = rw (le-ltb last_script k k-script) (taken_as (reset_of (meter_of ms k)) (record { number = «ACCEPTED»; place = 0 }))

-- no script of that number
pub no_script : (g : Scripts) (ms : Meters) (k s : ℕ) (c : Call) → ltb last_script k ≡ true → made_by g ms k s c ≡ refused_four NO_SCRIPT ms
unfolding begin_four_of reset_four_of feed_four_of
no_script g ms k s begin e = rw e
no_script g ms k s (feed q) e = rw e
no_script g ms k s reset e = rw e

-- A call of another script leaves script i's meter; one of its own is as it sees it.

pub other_as : (g : Scripts) (ms : Meters) (i : ℕ) → i ≤ 3 → (c : FourCall) → eqb c.script i ≡ false → meter_of (made g ms c).meters i ≡ meter_of ms i
unfolding made
other_as g ms i i-script c e = go (ltb last_script c.script) refl
  where
    go : (t : Bool) → ltb last_script c.script ≡ t → meter_of (made_by g ms c.script c.budget c.call).meters i ≡ meter_of ms i
    go true h = rw (no_script g ms c.script c.budget c.call h)
    go false h = rw e at (made_as ms c.script (ltb-false last_script c.script h) i i-script g c.budget c.call).1

abbrev pub seen_as : (g : Scripts) (ms : Meters) (i : ℕ) (c : FourCall) → Fed
seen_as g ms i c = viewed (g i) (meter_of ms i) c.budget (others_of ms i) c.call

pub own_as : (g : Scripts) (ms : Meters) (i : ℕ) → i ≤ 3 → (c : FourCall) → eqb c.script i ≡ true
    → ((made g ms c).answer ≡ (seen_as g ms i c).answer) × (meter_of (made g ms c).meters i ≡ (seen_as g ms i c).meter)
unfolding made
own_as g ms i i-script c e =
    rw (eqb-true c.script i e)
    ((made_as ms i i-script i i-script g c.budget c.call).0, rw (eq-eqb i i refl) at (made_as ms i i-script i i-script g c.budget c.call).1)
