-- Request C-20: "Axis, focuser, dome and guider scripts now take turns. Each has its own meter", by the
-- scripts' numbers and the fields that a caller reads, and "the sum of the four counts", each of them once.
-- It follows from the definitions that the contracts cite; proofs/Counts.antt proves `Counts`.
-- Assumes nothing.
use Rattle.std.specs.Prelude.{◌≡◌, ℕ, ◌+◌, ◌<◌, ◌≤◌}
use Rattle.meter.specs.declared.step.Meter.{Meter}
use Rattle.budget.specs.declared.step.Meters.{Meters}
use Rattle.budget.specs.Four.{meter_of, with_meter, sum_of, others_of}

-- the four, each named
abbrev pub four : Meter → Meter → Meter → Meter → Meters
four a f d g = record { axis = a; focuser = f; dome = d; guider = g }

pub record Counts : Type 0 where
  -- "the sum of the four counts". One that leaves a script out, in definition and code alike, is refused here
  pub sum : (ms : Meters)
      → sum_of ms ≡ ms.axis.count + (ms.focuser.count + (ms.dome.count + ms.guider.count))
  -- "the sum of the others' counts": with the script's own count the sum of the four
  pub others : (ms : Meters) (i : ℕ) → i ≤ 3 → (meter_of ms i).count + others_of ms i ≡ sum_of ms
  -- "Axis, focuser, dome and guider scripts": 0, 1, 2 and 3, "Each has its own meter". Two exchanged, in
  -- definition and code alike, are refused here
  pub scripts : (ms : Meters)
      → (meter_of ms 0 ≡ ms.axis)
      × ((meter_of ms 1 ≡ ms.focuser) × ((meter_of ms 2 ≡ ms.dome) × (meter_of ms 3 ≡ ms.guider)))
  -- a script's meter is put in its own place, and the three others stay
  pub axis : (ms : Meters) (m : Meter) → with_meter ms 0 m ≡ four m ms.focuser ms.dome ms.guider
  pub focuser : (ms : Meters) (m : Meter) → with_meter ms 1 m ≡ four ms.axis m ms.dome ms.guider
  pub dome : (ms : Meters) (m : Meter) → with_meter ms 2 m ≡ four ms.axis ms.focuser m ms.guider
  pub guider : (ms : Meters) (m : Meter) → with_meter ms 3 m ≡ four ms.axis ms.focuser ms.dome m
  -- there is no fifth
  pub none : (ms : Meters) (i : ℕ) (m : Meter) → 3 < i → with_meter ms i m ≡ ms
