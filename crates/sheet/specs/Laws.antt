-- What callers go by beside the contracts. The proof of `Laws` is `proofs/Laws.antt`.
-- Assumes nothing.
use Rattle.std.specs.Prelude.{◌≡◌, List, ℕ, ◌*◌, ◌≤◌, length, take, drop, Option, Ok, Err}
use Rattle.common.specs.declared.refusal.Refusal.TheVariants.{MalformedLine, TooManyLines}
use Rattle.common.specs.Refusals.{answer_number, answer_place}
use Rattle.sheet.specs.Format.{sheet_of, sheet_words, room_of, table_after}
use Rattle.sheet.specs.Rows.{cell_of, row_of, pair_of}

pub record Laws : Type 0 where
  -- columns and the lines of the listing are of one length each
  pub cell : (c : Option ℕ) → length (cell_of c) ≡ 6
  pub row : (p opcode : ℕ) (first second : Option ℕ) (segment : ℕ)
      → length (row_of p opcode first second segment) ≡ 31
  pub pair : (left right : ℕ) → length (pair_of left right) ≡ 13
  pub words : (text : List ℕ) (n : ℕ) → length (sheet_words text n) ≡ n
  -- an accepted sheet has room, is so many lines of 11 bytes, and its words are stored
  pub fits : (room : ℕ) (text : List ℕ) (n : ℕ) → sheet_of room text ≡ Ok n → n ≤ room
  pub lines : (room : ℕ) (text : List ℕ) (n : ℕ) → sheet_of room text ≡ Ok n → length text ≡ 11 * n
  pub stored : (text table : List ℕ) (n : ℕ)
      → sheet_of (room_of table) text ≡ Ok n → take n (table_after text table) ≡ sheet_words text n
  -- "Elements past n are untouched", and of a refusal "nothing lent is altered"
  pub past : (text table : List ℕ) (n : ℕ)
      → sheet_of (room_of table) text ≡ Ok n → drop n (table_after text table) ≡ drop n table
  pub refused : (text table : List ℕ)
      → (answer_number (sheet_of (room_of table) text) ≡ 0 → ⊥) → table_after text table ≡ table
  -- "It holds at most 4,096 words", and in a table of fewer places no more than it has
  pub room : (table : List ℕ) → room_of table ≤ 4096
  pub whole_room : (table : List ℕ) → 4096 ≤ length table → room_of table ≡ 4096
  pub short_room : (table : List ℕ) → length table ≤ 4096 → room_of table ≡ length table
  -- "0 when accepted, and a place, 0 unless named"; 12, "place: line from 1"; 13, of which none is named
  pub accepted : (n : ℕ) → (answer_number {X = ℕ} (Ok n) ≡ 0) × (answer_place {X = ℕ} (Ok n) ≡ 0)
  pub twelve : (line : ℕ) → (answer_number {X = ℕ} (Err (MalformedLine line)) ≡ 12)
      × (answer_place {X = ℕ} (Err (MalformedLine line)) ≡ line)
  pub thirteen : (answer_number {X = ℕ} (Err TooManyLines) ≡ 13)
      × (answer_place {X = ℕ} (Err TooManyLines) ≡ 0)
