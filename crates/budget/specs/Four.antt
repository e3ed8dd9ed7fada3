-- Request C-20, "Four scripts on one controller": begin, reset and feed of one of the four, over any scale.
-- The contracts give that of the words and the weights lent.
-- Assumes nothing.
use Rattle.std.specs.Prelude.{Result, Ok, Err, Bool, cond, not, ◌||◌, ℕ, ◌+◌, ltb, eqb}
use Rattle.common.specs.Numbers.{«ACCEPTED», NO_SCRIPT, BUDGET_RANGE, OVER_BUDGET}
use Rattle.common.specs.declared.c.FlatAnswer.{FlatAnswer}
use Rattle.common.specs.declared.refusal.Refusal.{Refusal}
use Rattle.common.specs.Refusals.{refusal_number, refusal_place}
use Rattle.common.specs.Chain.{refuse_if}
use Rattle.common.specs.Limits.{most_budget, last_script}
use Rattle.meter.specs.declared.step.Meter.{Meter}
use Rattle.meter.specs.Feed.{Fed}
use Rattle.meter.specs.Feed.{Scale, begin_of, reset_of, feed_of}
use Rattle.budget.specs.declared.step.Meters.{Meters}

-- "Each has its own meter and its own services counter": script i's
unfoldable pub meter_of : Meters → ℕ → Meter
meter_of ms i =
    cond (eqb i 0) ms.axis (cond (eqb i 1) ms.focuser (cond (eqb i 2) ms.dome ms.guider))

-- the four with m as script i's
unfoldable pub with_meter : Meters → ℕ → Meter → Meters
with_meter ms i m =
    record {
      axis = cond (eqb i 0) m ms.axis;
      focuser = cond (eqb i 1) m ms.focuser;
      dome = cond (eqb i 2) m ms.dome;
      guider = cond (eqb i 3) m ms.guider;
    }

-- "the sum of the four counts", which here has no width: "the sum never wraps"
unfoldable pub sum_of : Meters → ℕ
sum_of ms = ms.axis.count + (ms.focuser.count + (ms.dome.count + ms.guider.count))

-- a count, but 0 if it is script i's own
abbrev pub unless_own : ℕ → ℕ → Meter → ℕ
unless_own i j m = cond (eqb i j) 0 m.count

-- "the sum of the others' counts"
unfoldable pub others_of : Meters → ℕ → ℕ
others_of ms i = unless_own i 0 ms.axis
    + (unless_own i 1 ms.focuser + (unless_own i 2 ms.dome + unless_own i 3 ms.guider))

unfoldable pub is_out_of_range : ℕ → Bool
is_out_of_range s = eqb s 0 || ltb most_budget s

-- four meters after a call, and the call's answer
pub record FedFour : Type 0 where
  pub meters : Meters
  pub answer : FlatAnswer

-- a number, no place, and the four "meters unchanged"
abbrev pub refused_four : ℕ → Meters → FedFour
refused_four number ms = record { meters = ms; answer = record { number = number; place = 0 } }

-- script i's meter is another now
abbrev pub changed_four : Meters → ℕ → Meter → FedFour
changed_four ms i m =
    record { meters = with_meter ms i m; answer = record { number = «ACCEPTED»; place = 0 } }

-- what a call on ms makes that gives the next four or is refused
abbrev pub four_of : Meters → Result Meters Refusal → FedFour
four_of ms (Ok next) = record { meters = next; answer = record { number = «ACCEPTED»; place = 0 } }
four_of ms (Err e) =
    record { meters = ms; answer = record { number = refusal_number e; place = refusal_place e } }

-- what script i has of a call: its own meter, and the answer
abbrev pub own_of : ℕ → FedFour → Fed
own_of i r = record { meter = meter_of r.meters i; answer = r.answer }

-- "20 a script number above 3, first, also at begin and reset"
unfoldable pub begin_four_of : Meters → ℕ → FedFour
begin_four_of ms i =
    refuse_if (ltb last_script i) (refused_four NO_SCRIPT ms) (changed_four ms i (begin_of (meter_of ms i)))

unfoldable pub reset_four_of : Meters → ℕ → FedFour
reset_four_of ms i =
    refuse_if (ltb last_script i) (refused_four NO_SCRIPT ms) (changed_four ms i (reset_of (meter_of ms i)))

-- by what a feed of the script's own meter gave: its refusal, with its place; or "22 a feed after which the
-- sum would be above S, last, with all four meters unchanged". The sum is that of the fed meter as the feed
-- leaves it and of the others as they stand
unfoldable pub settle_four : Meters → ℕ → ℕ → Fed → FedFour
settle_four ms i s f =
    refuse_if (not (eqb f.answer.number «ACCEPTED»)) (record { meters = ms; answer = f.answer })
    (refuse_if (ltb s (sum_of (with_meter ms i f.meter))) (refused_four OVER_BUDGET ms)
    (record { meters = with_meter ms i f.meter; answer = f.answer }))

-- "20 a script number above 3, first ..; 21 an S out of range, next, at a feed; 22 .. last".
-- Between them "A feed is otherwise as before", of the fed script's own meter: "Number 11 looks only
-- at the fed script's meter"
unfoldable pub feed_four_of : Scale → Meters → ℕ → ℕ → ℕ → FedFour
feed_four_of g ms i s q =
    refuse_if (ltb last_script i) (refused_four NO_SCRIPT ms)
    (refuse_if (is_out_of_range s) (refused_four BUDGET_RANGE ms)
    (settle_four ms i s (feed_of g (meter_of ms i) q)))
