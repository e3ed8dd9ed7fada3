-- Below the count of written records there is a record for each word.
-- Assumes nothing.
use Prim.Native.Nat.{ℕ, ◌<◌, ◌≤◌}
use mathlib.Core.Path.{◌≡◌}
use mathlib.Core.List.{List}
use native.Mathlib.Omega.{arith}
use lib.ListN.{length}
use borrow.Author.Tests.{le-ltb, lt-ltb}
use Rattle.std.specs.Prelude.{Some}
use Rattle.common.specs.Limits.{most_words}
use Rattle.common.specs.Chain.{choose}
use Rattle.tables.proofs.Laws.{written_laws}
use Rattle.records.specs.Lift.{lift_of}
use Rattle.records.specs.Walk.{record_at}
use Rattle.records.specs.Laws.{PlanRecorded}

module _ (words tags payloads names : List ℕ) where
  a_record : (i : ℕ) → i < length words → length words ≤ most_words → record_at words tags payloads names i ≡ Some (lift_of words tags payloads names i)
  unfolding record_at choose
  a_record i h few = rw (le-ltb most_words (length words) few, lt-ltb i (length words) h)

  pub plan_recorded : (bytes room : ℕ) → PlanRecorded words tags payloads names bytes room
  plan_recorded bytes room i h =
      let w = written_laws (length words) tags payloads names bytes room in
      a_record i (omega (arith, w.within_words, h)) (w.few-words i h)
