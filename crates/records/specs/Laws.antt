-- What callers go by of the records that are written.
-- Assumes nothing.
use Rattle.std.specs.Prelude.{ℕ, ◌<◌, ◌≡◌, List, length, Some}
use Rattle.tables.specs.Refusals.{written_of}
use Rattle.records.specs.Lift.{lift_of}
use Rattle.records.specs.Walk.{record_at}

-- each of the first n words has a record
abbrev pub Recorded : List ℕ → List ℕ → List ℕ → List ℕ → ℕ → Type 0
Recorded words tags payloads names n =
    (i : ℕ) → i < n → record_at words tags payloads names i ≡ Some (lift_of words tags payloads names i)

-- below the count of those that are written there is a record for each word
abbrev pub PlanRecorded : List ℕ → List ℕ → List ℕ → List ℕ → ℕ → ℕ → Type 0
PlanRecorded words tags payloads names bytes room =
    Recorded words tags payloads names (written_of (length words) tags payloads names bytes room)
