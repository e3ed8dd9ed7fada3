-- Document 01: "Records, too, go into the caller's own list of records", one per word. The caller's list
-- after lift_proto_lua54, and what it says of each element.
-- Assumes nothing.
use Rattle.std.specs.Prelude.{ℕ, zero, suc, ◌<◌, ◌≤◌, ◌≡◌, List, ltb, length, get_or, set, Option, Some, None}
use Rattle.std.specs.Prelude.{Result, Ok, Err, ⊤}
use Rattle.values.specs.declared.ir.SemanticInstruction.{SemanticInstruction}
use Rattle.common.specs.declared.refusal.Refusal.{Refusal}
use Rattle.common.specs.Limits.{most_words}
use Rattle.common.specs.Chain.{choose}
use Rattle.records.specs.Lift.{lift_of}
use Rattle.tables.specs.Refusals.{answer_of, written_of}

-- the records of the first n words, in the first n places of a list
abbrev pub filled_records : List ℕ → List ℕ → List ℕ → List ℕ → ℕ → List SemanticInstruction
    → List SemanticInstruction
filled_records words tags payloads names zero records = records
filled_records words tags payloads names (suc pc) records =
    set (filled_records words tags payloads names pc records) pc (lift_of words tags payloads names pc)

-- the caller's records afterwards: all words' or none
abbrev pub records_after : List ℕ → List ℕ → List ℕ → List ℕ → ℕ → List SemanticInstruction
    → List SemanticInstruction
records_after words tags payloads names bytes records =
    filled_records words tags payloads names
    (written_of (length words) tags payloads names bytes (length records)) records

-- What that list is, element by element: `d` stands for what is read past its end.
pub record ElementWise (words tags payloads names : List ℕ) (bytes : ℕ)
    (records : List SemanticInstruction) : Type 0 where
  -- no record is added or lost
  pub same_length : length (records_after words tags payloads names bytes records) ≡ length records
  -- accepted: record i is the lift of word i, for i below n
  pub lifted :
      answer_of (length words) tags payloads names bytes (length records) ≡ Ok tt
      → (i : ℕ) (d : SemanticInstruction)
      → i < length words
      → get_or (records_after words tags payloads names bytes records) i d
      ≡ lift_of words tags payloads names i
  -- accepted or not: "Elements past n are untouched, records too"
  pub untouched :
      (i : ℕ) (d : SemanticInstruction)
      → length words ≤ i
      → get_or (records_after words tags payloads names bytes records) i d ≡ get_or records i d
  -- refused: "Nothing lent is altered"
  pub refused :
      (refusal : Refusal)
      → answer_of (length words) tags payloads names bytes (length records) ≡ Err refusal
      → records_after words tags payloads names bytes records ≡ records

-- The record of one word, by value.

-- past 32,768 words, or past the words, there is none
unfoldable pub record_at : List ℕ → List ℕ → List ℕ → List ℕ → ℕ → Option SemanticInstruction
record_at words tags payloads names pc =
    choose (ltb most_words (length words)) None
    (choose (ltb pc (length words)) (Some (lift_of words tags payloads names pc)) None)

-- that record, unless lifting with room for each word is refused
abbrev pub lifted_by :
    Result ⊤ Refusal → Option SemanticInstruction → Result (Option SemanticInstruction) Refusal
lifted_by (Ok x) instruction = Ok instruction
lifted_by (Err refusal) instruction = Err refusal

abbrev pub lifted_of : List ℕ → List ℕ → List ℕ → List ℕ → ℕ → ℕ → Result (Option SemanticInstruction) Refusal
lifted_of words tags payloads names bytes pc =
    lifted_by (answer_of (length words) tags payloads names bytes (length words))
    (record_at words tags payloads names pc)
