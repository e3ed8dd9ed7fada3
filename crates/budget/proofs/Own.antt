-- The fed script's meter alone is written: the four after a feed are the four before it with what the script has of the feed.
-- Assumes nothing.
use Prim.Native.Nat.{ℕ, ◌≤◌, ◌<◌}
use mathlib.Core.Bool.{Bool, true, false, not}
use mathlib.Core.Path.{◌≡◌, refl, sym, ap, ap₂, subst, ◌∙◌}
use mathlib.Core.Logic.{⊎_elim}
use native.Mathlib.Omega.{arith}
use lib.Dec.{ltb, eqb}
use borrow.Author.Tests.{lt-ltb, le-ltb, ltb-true, ltb-false, eq-eqb, ne_eqb}
use Rattle.std.specs.Prelude.{Result, Ok, Err}
use Rattle.common.specs.declared.refusal.Refusal.{Refusal}
use Rattle.common.specs.declared.refusal.Refusal.TheVariants.{
  TooManyWords,
  ConstantCount,
  UnknownTag,
  StringPastBytes,
  Names,
  ShortSlice,
  NoWords,
  ReachesInvalid,
  NoStep,
  ForeignMeter,
  MalformedLine,
  TooManyLines,
  HeaderDiffers,
  MalformedChunk,
  TooDeep,
  UnsetRegister,
  WeightsRefused,
  LowAboveHigh,
  NoScript,
  BudgetRange,
  OverBudget,
  OutOfRange,
}
use Rattle.common.specs.Refusals.{refusal_number}
use Rattle.common.proofs.Order.{split}
use Rattle.common.specs.Numbers.{«ACCEPTED», NO_SCRIPT, BUDGET_RANGE, OVER_BUDGET}
use Rattle.common.specs.declared.c.FlatAnswer.{FlatAnswer}
use Rattle.common.specs.Chain.{refuse_if}
use Rattle.common.specs.Limits.{last_script}
use Rattle.meter.specs.declared.step.Meter.{Meter}
use Rattle.meter.specs.Feed.{Scale, Fed, fed_of, feed_of}
use Rattle.budget.specs.declared.step.Meters.{Meters}
use Rattle.budget.specs.Four.{meter_of, with_meter, sum_of, is_out_of_range, FedFour, refused_four, own_of, four_of, settle_four, feed_four_of}
use Rattle.budget.proofs.FourMeters.{each, read_after}

-- what was put is read
pub own_after : (ms : Meters) (m : Meter) (i : ℕ) → i ≤ 3 → meter_of (with_meter ms i m) i ≡ m
own_after ms m i l = rw (eq-eqb i i refl) at (read_after ms m i l i l)

-- where there is no such script, nothing is put
past : (ms : Meters) (m : Meter) (i : ℕ) → ltb last_script i ≡ true → with_meter ms i m ≡ ms
unfolding with_meter
past ms m i e =
    let above : 4 ≤ i = ltb-true last_script i e in
    rw (ne_eqb i 0 (λ d. omega arith), ne_eqb i 1 (λ d. omega arith), ne_eqb i 2 (λ d. omega arith), ne_eqb i 3 (λ d. omega arith))

-- a meter put where its script's number says
module _ (ms : Meters) (m : Meter) (i : ℕ) where
  pub at_axis : i ≡ 0 → record { axis = m; focuser = ms.focuser; dome = ms.dome; guider = ms.guider } ≡ with_meter ms i m
  unfolding with_meter
  at_axis e = rw e

  pub at_focuser : i ≡ 1 → record { axis = ms.axis; focuser = m; dome = ms.dome; guider = ms.guider } ≡ with_meter ms i m
  unfolding with_meter
  at_focuser e = rw e

  pub at_dome : i ≡ 2 → record { axis = ms.axis; focuser = ms.focuser; dome = m; guider = ms.guider } ≡ with_meter ms i m
  unfolding with_meter
  at_dome e = rw e

  pub at_guider : i ≡ 3 → record { axis = ms.axis; focuser = ms.focuser; dome = ms.dome; guider = m } ≡ with_meter ms i m
  unfolding with_meter
  at_guider e = rw e

  pub at_none : (i ≡ 0 → ⊥) → (i ≡ 1 → ⊥) → (i ≡ 2 → ⊥) → (i ≡ 3 → ⊥) → ms ≡ with_meter ms i m
  unfolding with_meter
  at_none a b c d = rw (ne_eqb i 0 a, ne_eqb i 1 b, ne_eqb i 2 c, ne_eqb i 3 d)

-- what was there is put back
back : (ms : Meters) (i : ℕ) → i ≤ 3 → with_meter ms i (meter_of ms i) ≡ ms
unfolding with_meter meter_of
back ms = each (λ i. with_meter ms i (meter_of ms i) ≡ ms) refl refl refl refl

abbrev Puts : Meters → ℕ → Meters → Type 0
Puts ms i after = with_meter ms i (meter_of after i) ≡ after

pub puts : (g : Scale) (ms : Meters) (i s q : ℕ) → Puts ms i (feed_four_of g ms i s q).meters
unfolding feed_four_of settle_four
puts g ms i s q = go (ltb last_script i) refl (is_out_of_range s)
  where
    f : Fed
    f = feed_of g (meter_of ms i) q

    settled : i ≤ 3 → (t u : Bool)
        → Puts ms i (refuse_if t (record { meters = ms; answer = f.answer })
        (refuse_if u (refused_four OVER_BUDGET ms)
        (record { meters = with_meter ms i f.meter; answer = f.answer }))).meters
    settled l true u = back ms i l
    settled l false true = back ms i l
    settled l false false = ap (with_meter ms i) (own_after ms f.meter i l)

    go : (t : Bool) → ltb last_script i ≡ t → (u : Bool)
        → Puts ms i (refuse_if t (refused_four NO_SCRIPT ms) (refuse_if u (refused_four BUDGET_RANGE ms) (settle_four ms i s f))).meters
    go true e u = past ms (meter_of ms i) i e
    go false e true = back ms i (ltb-false last_script i e)
    go false e false =
        settled (ltb-false last_script i e) (not (eqb f.answer.number «ACCEPTED»)) (ltb s (sum_of (with_meter ms i f.meter)))

-- no refusal has the number of what is accepted
some : (e : Refusal) → eqb (refusal_number e) «ACCEPTED» ≡ false
some TooManyWords = refl
some ConstantCount = refl
some (UnknownTag p) = refl
some (StringPastBytes p) = refl
some (Names p) = refl
some ShortSlice = refl
some NoWords = refl
some (ReachesInvalid p) = refl
some NoStep = refl
some ForeignMeter = refl
some (MalformedLine p) = refl
some TooManyLines = refl
some HeaderDiffers = refl
some MalformedChunk = refl
some TooDeep = refl
some (UnsetRegister p) = refl
some (WeightsRefused p) = refl
some (LowAboveHigh p) = refl
some NoScript = refl
some BudgetRange = refl
some OverBudget = refl
some OutOfRange = refl

-- what the script has of a feed, check by check
module _ (g : Scale) (ms : Meters) (i s q : ℕ) where
  abbrev Own : Fed → Type 0
  Own x = x ≡ own_of i (feed_four_of g ms i s q)

  pub own_above : last_script < i → Own (fed_of (meter_of ms i) (Err NoScript))
  unfolding feed_four_of
  own_above h = rw (lt-ltb last_script i h)

  module _ (l : i ≤ last_script) where
    pub own_range : is_out_of_range s ≡ true → Own (fed_of (meter_of ms i) (Err BudgetRange))
    unfolding feed_four_of
    own_range h = rw (le-ltb last_script i l, h)

    module _ (inside : is_out_of_range s ≡ false) {m : Meter} (k : m ≡ meter_of ms i) where
      its : (x : Result Meter Refusal) → fed_of m x ≡ feed_of g m q → fed_of (meter_of ms i) x ≡ feed_of g (meter_of ms i) q
      its x h = subst (λ (n : Meter). fed_of n x ≡ feed_of g n q) k h

      pub own_refused : (e : Refusal) → fed_of m (Err e) ≡ feed_of g m q → Own (fed_of (meter_of ms i) (Err e))
      unfolding feed_four_of settle_four
      own_refused e h = rw (le-ltb last_script i l, inside, ← its (Err e) h, some e)

      module _ {next : Meter} (h : fed_of m (Ok next) ≡ feed_of g m q) where
        pub own_over : s < sum_of (with_meter ms i next) → Own (fed_of (meter_of ms i) (Err OverBudget))
        unfolding feed_four_of settle_four
        own_over o = rw (le-ltb last_script i l, inside, ← its (Ok next) h, lt-ltb s (sum_of (with_meter ms i next)) o)

        pub own_taken : sum_of (with_meter ms i next) ≤ s → Own (fed_of (meter_of ms i) (Ok next))
        unfolding feed_four_of settle_four
        own_taken o =
            rw (le-ltb last_script i l, inside, ← its (Ok next) h, le-ltb s (sum_of (with_meter ms i next)) o, own_after ms next i l)

  -- and the four by it
  whole : with_meter ms i (meter_of ms i) ≡ ms
  whole = ⊎_elim (λ h. back ms i h) (λ h. past ms (meter_of ms i) i (lt-ltb last_script i h)) (split i last_script)

  pub four_refused : (e : Refusal) → Own (fed_of (meter_of ms i) (Err e)) → four_of ms (Err e) ≡ feed_four_of g ms i s q
  four_refused e h =
      ap₂ (λ (x : Meters) (a : FlatAnswer). let r : FedFour = record { meters = x; answer = a } in r)
      (sym whole ∙ (ap (λ (x : Fed). with_meter ms i x.meter) h ∙ puts g ms i s q)) (ap (λ (x : Fed). x.answer) h)

  pub four_taken : {next : Meter} → Own (fed_of (meter_of ms i) (Ok next)) → four_of ms (Ok (with_meter ms i next)) ≡ feed_four_of g ms i s q
  four_taken h =
      ap₂ (λ (x : Meters) (a : FlatAnswer). let r : FedFour = record { meters = x; answer = a } in r)
      (ap (λ (x : Fed). with_meter ms i x.meter) h ∙ puts g ms i s q) (ap (λ (x : Fed). x.answer) h)
