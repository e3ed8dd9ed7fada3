-- `specs/Laws.antt` holds. Assumes nothing.
use mathlib.Core.Path.{◌≡◌, refl, ap, ◌∙◌}
use mathlib.Core.List.{List}
use Prim.Native.Nat.{ℕ, ◌*◌, ◌≤◌}
use native.Mathlib.Omega.{arith}
use lib.ListN.{length, take, drop}
use lib.Seq.{take_at, drop_at}
use Rattle.std.specs.Prelude.{Ok, Err}
use Rattle.common.specs.Refusals.{answer_number}
use Rattle.sheet.specs.Format.{Sheet, sheet_of, sheet_words, room_of, table_after}
use Rattle.sheet.specs.Claims.{Accepted}
use Rattle.sheet.specs.Laws.{Laws}
use Rattle.sheet.proofs.Widths.{length_cell, length_row, length_pair}
use Rattle.sheet.proofs.Scanned.{length_words, table_is}
use Rattle.sheet.proofs.Claims.{claims, length_text}

accepted : (room : ℕ) (text : List ℕ) (n : ℕ) → sheet_of room text ≡ Ok n → Accepted room text n
accepted room text n e = rw e at (claims.says room text)

fits : (room : ℕ) (text : List ℕ) (n : ℕ) → sheet_of room text ≡ Ok n → n ≤ room
fits room text n e = (accepted room text n e).fits

lines : (room : ℕ) (text : List ℕ) (n : ℕ) → sheet_of room text ≡ Ok n → length text ≡ 11 * n
lines room text n e =
    let a : Accepted room text n = accepted room text n e in
    ap length a.whole ∙ length_text a.words ∙ ap (λ (k : ℕ). 11 * k) a.count

stored : (text table : List ℕ) (n : ℕ) → sheet_of (room_of table) text ≡ Ok n → take n (table_after text table) ≡ sheet_words text n
stored text table n e = rw (table_is text table (Ok n) e) (take_at (sheet_words text n) (drop n table) n (length_words text n))

past : (text table : List ℕ) (n : ℕ) → sheet_of (room_of table) text ≡ Ok n → drop n (table_after text table) ≡ drop n table
past text table n e = rw (table_is text table (Ok n) e) (drop_at (sheet_words text n) (drop n table) n (length_words text n))

refused_by : (text table : List ℕ) (s : Sheet) → sheet_of (room_of table) text ≡ s → (answer_number s ≡ 0 → ⊥) → table_after text table ≡ table
refused_by text table (Ok n) e h = absurd (h refl)
refused_by text table (Err r) e h = table_is text table (Err r) e

refused : (text table : List ℕ) → (answer_number (sheet_of (room_of table) text) ≡ 0 → ⊥) → table_after text table ≡ table
refused text table h = refused_by text table (sheet_of (room_of table) text) refl h

room : (table : List ℕ) → room_of table ≤ 4096
room table = omega arith

whole_room : (table : List ℕ) → 4096 ≤ length table → room_of table ≡ 4096
whole_room table h = omega arith

short_room : (table : List ℕ) → length table ≤ 4096 → room_of table ≡ length table
short_room table h = omega arith

pub laws : Laws
laws =
    record {
      cell = length_cell;
      row = length_row;
      pair = length_pair;
      words = length_words;
      fits = fits;
      lines = lines;
      stored = stored;
      past = past;
      refused = refused;
      room = room;
      whole_room = whole_room;
      short_room = short_room;
      accepted = λ n. (refl, refl);
      twelve = λ line. (refl, refl);
      thirteen = (refl, refl);
    }
