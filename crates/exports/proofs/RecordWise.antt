-- What the caller's numbers are after the lift, record by record.
-- Assumes nothing.
use Prim.Native.Nat.{ℕ, zero, suc, ◌*◌, ◌<◌}
use mathlib.Core.Path.{◌≡◌, refl, sym, ap, ◌∙◌}
use mathlib.Core.Bool.{Bool, true, false}
use mathlib.Core.List.{List, ◌++◌, append_assoc}
use native.Mathlib.Omega.{arith}
use lib.Dec.{eqb}
use lib.ListN.{length, take, drop}
use lib.Seq.{take_at, drop_at}
use borrow.Author.Tests.{eqb-true, eqb-false}
use Rattle.values.specs.declared.ir.SemanticInstruction.{SemanticInstruction}
use Rattle.records.specs.Lift.{lift_of}
use Rattle.std.specs.Prelude.{Result, Ok, Err, ⊤}
use Rattle.common.specs.declared.refusal.Refusal.{Refusal}
use Rattle.tables.specs.Refusals.{answer_of, written, written_of}
use Rattle.tables.proofs.Laws.{written_laws}
use Rattle.lifted.specs.Record.{numbers_of, records_numbers}
use Rattle.exports.specs.Flat.{room_in, numbers_after, RecordWise}
use Rattle.common.proofs.Put.{put_laws}
use Rattle.lifted.proofs.Counted.{length_numbers, length_records}

module _ (words tags payloads names : List ℕ) where
  -- the first n records' numbers
  abbrev pub written_records : ℕ → List ℕ
  written_records n = records_numbers words tags payloads names n

  abbrev lift : ℕ → SemanticInstruction
  lift i = lift_of words tags payloads names i

  -- the numbers of record i, of n records and whatever stands behind them
  nth_record : (n i : ℕ) (rest : List ℕ) → i < n
      → take 53 (drop (53 * i) (written_records n ++ rest)) ≡ numbers_of (lift i)
  unfolding records_numbers
  nth_record zero i rest h = absurd (omega arith)
  nth_record (suc n) i rest h =
      rw (append_assoc (written_records n) (numbers_of (lift n)) rest)
      (go (eqb i n) refl (λ k. nth_record n i (numbers_of (lift n) ++ rest) k))
    where
      all : List ℕ
      all = written_records n ++ (numbers_of (lift n) ++ rest)

      go : (t : Bool) → eqb i n ≡ t → (i < n → take 53 (drop (53 * i) all) ≡ numbers_of (lift i))
          → take 53 (drop (53 * i) all) ≡ numbers_of (lift i)
      go true e lower =
          rw (
            eqb-true i n e,
            drop_at (written_records n)
                (numbers_of (lift n) ++ rest) (53 * n)
                (length_records words tags payloads names n),
          )
          (take_at (numbers_of (lift n)) rest 53 (length_numbers (lift n)))
      go false e lower = let d : i ≡ n → ⊥ = eqb-false i n e in lower (omega arith)

  module _ (bytes : ℕ) (numbers : List ℕ) where
    -- the list after so many records
    abbrev pub after : ℕ → List ℕ
    after n = written_records n ++ drop (53 * n) numbers

    abbrev pub answer : Result ⊤ Refusal
    answer = answer_of (length words) tags payloads names bytes (room_in numbers)

    pub by_answer : (a : Result ⊤ Refusal) → answer ≡ a → numbers_after words tags payloads names bytes numbers ≡ after (written (length words) a)
    by_answer a e = ap (λ (b : Result ⊤ Refusal). after (written (length words) b)) e

    pub none : numbers ≡ after 0
    unfolding records_numbers
    none = refl

    all_lifted : (i : ℕ) → i < length words
        → take 53 (drop (53 * i) (after (length words))) ≡ numbers_of (lift i)
    all_lifted i h = nth_record (length words) i (drop (53 * length words) numbers) h

    past : (a : Result ⊤ Refusal) → drop (53 * length words) (after (written (length words) a)) ≡ drop (53 * length words) numbers
    unfolding records_numbers
    past (Ok u) =
        drop_at (written_records (length words))
        (drop (53 * length words) numbers) (53 * length words)
        (length_records words tags payloads names (length words))
    past (Err refusal) = refl

    kept : length (numbers_after words tags payloads names bytes numbers) ≡ length numbers
    kept =
        let n = written_of (length words) tags payloads names bytes (room_in numbers) in
        let w = written_laws (length words) tags payloads names bytes (room_in numbers) in
        let k : length (written_records n) ≡ 53 * n = length_records words tags payloads names n in
        rw (← k) (ap length (sym (put_laws.start numbers (written_records n)))
        ∙ put_laws.length_put numbers 0 (written_records n)
        (omega (arith, w.within_room, k)))

    pub record_wise : RecordWise words tags payloads names bytes numbers
    record_wise =
        record {
          same_length = kept;
          lifted = λ e i h. rw (by_answer (Ok tt) e) (all_lifted i h);
          untouched = past answer;
          refused = λ refusal e. by_answer (Err refusal) e ∙ sym none;
        }
