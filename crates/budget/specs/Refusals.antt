-- Request C-20: what a refusal of one of the four says, by the request's own numbers, and what it leaves.
-- It follows from the definitions that the contracts cite; proofs/Refusals.antt proves `Refusals`.
-- Assumes nothing.
use Rattle.std.specs.Prelude.{true, false, ◌≡◌, ◌↔◌, ℕ, ◌+◌, ◌<◌, ◌≤◌}
use Rattle.common.specs.Numbers.{«ACCEPTED»}
use Rattle.common.specs.Limits.{last_script}
use Rattle.meter.specs.Feed.{Scale, begin_of, reset_of, feed_of}
use Rattle.budget.specs.declared.step.Meters.{Meters}
use Rattle.budget.specs.Four.{
  meter_of,
  with_meter,
  sum_of,
  others_of,
  is_out_of_range,
  begin_four_of,
  reset_four_of,
  feed_four_of,
}
use Rattle.budget.specs.Calls.{FourCall, Scripts, turns_back, made}

pub record Refusals : Type 0 where
  -- "with all four meters unchanged": so after every refusal, of a begin and a reset, too
  pub unchanged : (g : Scripts) (ms : Meters) (c : FourCall)
      → ((made g ms c).answer.number ≡ «ACCEPTED» → ⊥) → (made g ms c).meters ≡ ms
  -- "20 a script number above 3, first, also at begin and reset": whatever else is asked for
  pub no_script : (g : Scripts) (ms : Meters) (c : FourCall)
      → 3 < c.script → (made g ms c).answer.number ≡ 20
  -- "21 an S out of range, next, at a feed": whatever the words, the weights and the meters are
  pub out-of-range : (g : Scale) (ms : Meters) (i s q : ℕ)
      → i ≤ last_script → is_out_of_range s ≡ true → (feed_four_of g ms i s q).answer.number ≡ 21
  -- "22 a feed after which the sum would be above S, last": the script's own feed is accepted, and its
  -- new count and the others' counts, as they stand, are above S together; and where neither 20 nor
  -- 21 applies, every such feed
  pub over_budget : (g : Scale) (ms : Meters) (i s q : ℕ) → (feed_four_of g ms i s q).answer.number ≡ 22
      → ((feed_of g (meter_of ms i) q).answer.number ≡ «ACCEPTED»)
      × (s < (feed_of g (meter_of ms i) q).meter.count + others_of ms i)
  pub over_sum : (g : Scale) (ms : Meters) (i s q : ℕ)
      → i ≤ last_script → is_out_of_range s ≡ false → (feed_of g (meter_of ms i) q).answer.number ≡ «ACCEPTED»
      → s < (feed_of g (meter_of ms i) q).meter.count + others_of ms i
      → (feed_four_of g ms i s q).answer.number ≡ 22
  -- and after a feed that is accepted "the sum of the four counts" is within S
  pub within : (g : Scale) (ms : Meters) (i s q : ℕ)
      → (feed_four_of g ms i s q).answer.number ≡ «ACCEPTED» → sum_of (feed_four_of g ms i s q).meters ≤ s
  -- "an allowance S, 1 to 16,777,216": what out of range is. Another end of it, 21 to every feed, in
  -- definition and code alike, is refused here
  pub range : (s : ℕ) → (is_out_of_range s ≡ false) ↔ ((0 < s) × (s ≤ 16777216))
  -- 20 and 21 are given for nothing else
  pub only_no_script : (g : Scripts) (ms : Meters) (c : FourCall)
      → (made g ms c).answer.number ≡ 20 → 3 < c.script
  pub only_out_of_range : (g : Scale) (ms : Meters) (i s q : ℕ)
      → (feed_four_of g ms i s q).answer.number ≡ 21 → (i ≤ 3) × (is_out_of_range s ≡ true)
  -- so that with neither a feed is refused as the script's own is, with its place
  pub own_refusal : (g : Scale) (ms : Meters) (i s q : ℕ)
      → i ≤ last_script → is_out_of_range s ≡ false
      → ((feed_of g (meter_of ms i) q).answer.number ≡ «ACCEPTED» → ⊥)
      → (feed_four_of g ms i s q).answer ≡ (feed_of g (meter_of ms i) q).answer
  -- and taken if that is and the sum is within S
  pub taken : (g : Scale) (ms : Meters) (i s q : ℕ)
      → i ≤ last_script → is_out_of_range s ≡ false → (feed_of g (meter_of ms i) q).answer.number ≡ «ACCEPTED»
      → (feed_of g (meter_of ms i) q).meter.count + others_of ms i ≤ s
      → ((feed_four_of g ms i s q).answer.number ≡ «ACCEPTED»)
      × ((feed_four_of g ms i s q).meters ≡ with_meter ms i (feed_of g (meter_of ms i) q).meter)
  -- "21 .. at a feed; 22 a feed ..": they are a feed's alone. A begin and a reset of scripts 0 to 3 are
  -- accepted, whatever stands in the four meters, and are the script's own meter's. A reset that answers 21
  -- and does nothing, in definition and code alike, is refused here
  pub begins : (ms : Meters) (i : ℕ) → i ≤ 3
      → ((begin_four_of ms i).answer.number ≡ 0)
      × ((begin_four_of ms i).meters ≡ with_meter ms i (begin_of (meter_of ms i)))
  pub resets : (ms : Meters) (i : ℕ) → i ≤ 3
      → ((reset_four_of ms i).answer.number ≡ 0)
      × ((reset_four_of ms i).meters ≡ with_meter ms i (reset_of (meter_of ms i)))
  -- "Each answer carries its number .. and a place, 0 unless named": 20, 21 and 22 name none, nor does
  -- what is accepted
  pub no_place : (g : Scripts) (ms : Meters) (c : FourCall)
      → turns_back (made g ms c).answer.number ≡ true → (made g ms c).answer.place ≡ 0
  pub accepted_place : (g : Scripts) (ms : Meters) (c : FourCall)
      → (made g ms c).answer.number ≡ 0 → (made g ms c).answer.place ≡ 0
