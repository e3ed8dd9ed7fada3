-- The caller's list after a lift: records one after another, crate `lifted` has the 53 numbers of each. Then
-- what else the C interface answers.
-- Assumes nothing.
use Rattle.std.specs.Prelude.{ℕ, ◌*◌, ◌/◌, ◌<◌, ◌≡◌, List, ◌++◌, length, take, drop}
use Rattle.std.specs.Prelude.{Ok, Err}
use Rattle.common.specs.declared.refusal.Refusal.{Refusal}
use Rattle.common.specs.declared.c.FlatAnswer.{FlatAnswer}
use Rattle.common.specs.Flat.{flat_result}
use Rattle.records.specs.Lift.{lift_of}
use Rattle.tables.specs.Refusals.{answer_of, written_of}
use Rattle.lifted.specs.Record.{numbers_of, records_numbers, record_length}
use Rattle.fields.specs.declared.lua54.word.RawInstruction54.{RawInstruction54}
use Rattle.exports.specs.declared.c.FlatFields.{FlatFields}

-- The caller's list of numbers

-- for so many records there is room in it
abbrev pub room_in : List ℕ → ℕ
room_in numbers = length numbers / record_length

-- "Records, too, go into the caller's own list of records": the records of all words or none, then what was
-- there
abbrev pub numbers_after : List ℕ → List ℕ → List ℕ → List ℕ → ℕ → List ℕ → List ℕ
numbers_after words tags payloads names bytes numbers =
    let n = written_of (length words) tags payloads names bytes (room_in numbers) in
    records_numbers words tags payloads names n ++ drop (record_length * n) numbers

-- What that list is, record by record.
pub record RecordWise (words tags payloads names : List ℕ) (bytes : ℕ) (numbers : List ℕ) : Type 0 where
  -- no number is added or lost
  pub same_length : length (numbers_after words tags payloads names bytes numbers) ≡ length numbers
  -- accepted: the 53 numbers from 53 · i on are those of the record of word i, for i below n
  pub lifted :
      answer_of (length words) tags payloads names bytes (room_in numbers) ≡ Ok tt
      → (i : ℕ)
      → i < length words
      → take record_length (drop (record_length * i) (numbers_after words tags payloads names bytes numbers))
      ≡ numbers_of (lift_of words tags payloads names i)
  -- accepted or not: "Elements past n are untouched, records too"
  pub untouched :
      drop (record_length * length words) (numbers_after words tags payloads names bytes numbers)
      ≡ drop (record_length * length words) numbers
  -- refused: "Nothing lent is altered"
  pub refused :
      (refusal : Refusal)
      → answer_of (length words) tags payloads names bytes (room_in numbers) ≡ Err refusal
      → numbers_after words tags payloads names bytes numbers ≡ numbers

-- document 01's number and place (RULES 8)
abbrev pub lift_answer : List ℕ → List ℕ → List ℕ → List ℕ → ℕ → List ℕ → FlatAnswer
lift_answer words tags payloads names bytes numbers =
    flat_result (answer_of (length words) tags payloads names bytes (room_in numbers))

-- A word's fields as the C interface gives them, each with its own name and value, and the
-- number of its opcode's mode.

abbrev pub flat_fields : ℕ → RawInstruction54 → FlatFields
flat_fields mode f =
    record {
      mode = mode;
      opcode = f.opcode_num;
      a = f.a;
      k = f.k;
      b = f.b;
      c = f.c;
      bx = f.bx;
      ax = f.ax;
      sb = f.sb;
      sc = f.sc;
      sbx = f.sbx;
      sj = f.sj;
    }
