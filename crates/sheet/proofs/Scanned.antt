-- A turn of the scan, and of the filling. Assumes nothing.
use mathlib.Core.Path.{◌≡◌, refl, ap, ◌∙◌}
use mathlib.Core.Bool.{true, false}
use mathlib.Core.List.{List, [], ◌∷◌, ◌++◌, append-nil}
use Prim.Native.Nat.{ℕ, zero, suc, ◌+◌, ◌-◌, ◌≤◌, ◌<◌}
use native.Mathlib.Numerals.{add-one}
use native.Mathlib.Omega.{arith}
use lib.ListN.{length, take, drop, get_or, set, length-append, length-drop}
use lib.Seq.{drop-drop, set_at, drop-cons, append_snoc, drop-length, length-take-le}
use borrow.Author.Tests.{eq-eqb, ne_eqb}
use Rattle.std.specs.Prelude.{Ok, Err}
use Rattle.common.specs.declared.refusal.Refusal.TheVariants.{MalformedLine, TooManyLines}
use Rattle.sheet.specs.Line.{is_line}
use Rattle.sheet.specs.Format.{Sheet, read_from, sheet_of, sheet_word_at, sheet_words, stored, room_of, table_after}

pub read_none : (room k : ℕ) (text : List ℕ) → length text ≡ 0 → read_from room k text ≡ Ok k
read_none zero k text e = rw (eq-eqb (length text) 0 e)
read_none (suc room) k text e = rw (eq-eqb (length text) 0 e)

module _ (text : List ℕ) (some : 0 < length text) where
  is_some : length text ≡ 0 → ⊥
  is_some e = omega arith

  pub read_full : (k : ℕ) → read_from 0 k text ≡ Err TooManyLines
  read_full k = rw (ne_eqb (length text) 0 is_some)

  pub read_bad : (room k : ℕ) → 0 < room → is_line (take 11 text) ≡ false → read_from room k text ≡ Err (MalformedLine (k + 1))
  read_bad zero k r e = absurd (omega arith)
  read_bad (suc room) k r e = rw (ne_eqb (length text) 0 is_some, e)

  pub read_more : (room k : ℕ) → 0 < room → is_line (take 11 text) ≡ true
      → read_from room k text ≡ read_from (room - 1) (k + 1) (drop 11 text)
  read_more zero k r e = absurd (omega arith)
  read_more (suc room) k r e = let j : suc room - 1 ≡ room = omega arith in rw (j, ne_eqb (length text) 0 is_some, e)

-- the same from index at on, as the loop has it
pub some_left : (text : List ℕ) (at : ℕ) → at < length text → 0 < length (drop at text)
some_left text at h = simp length-drop (omega arith)

pub scan_none : (room k : ℕ) (text : List ℕ) (at : ℕ) → length text ≤ at → read_from room k (drop at text) ≡ Ok k
scan_none room k text at h = read_none room k (drop at text) (simp length-drop (omega arith))

pub scan_more : (text : List ℕ) (at : ℕ) → at < length text → (room k : ℕ) → k < room
    → is_line (take 11 (drop at text)) ≡ true
    → read_from (room - k) k (drop at text) ≡ read_from (room - (k + 1)) (k + 1) (drop (at + 11) text)
scan_more text at h room k l e =
    let j : room - k - 1 ≡ room - (k + 1) = omega arith in
    read_more (drop at text) (some_left text at h) (room - k) k (omega arith) e ∙ rw (j, drop-drop 11 at text)

-- ---- filling

pub length_words : (text : List ℕ) (k : ℕ) → length (sheet_words text k) ≡ k
unfolding sheet_words
length_words text zero = refl
length_words text (suc k) = length-append (sheet_words text k) (sheet_word_at text k ∷ []) ∙ rw (length_words text k) (omega arith)

pub words_none : (text table : List ℕ) → table ≡ sheet_words text 0 ++ drop 0 table
unfolding sheet_words
words_none text table = refl

pub words_more : (text : List ℕ) (k : ℕ) (table : List ℕ) → k < length table
    → set (sheet_words text k ++ drop k table) k (sheet_word_at text k) ≡ sheet_words text (k + 1) ++ drop (k + 1) table
unfolding sheet_words
words_more text k table h =
    rw (
      add-one k,
      drop-cons table k 0 h,
      set_at (sheet_words text k) (get_or table k 0) (drop (suc k) table) (sheet_word_at text k) k
          (length_words text k),
      append_snoc,
    )

-- the n words that are stored are all of a part of the table
pub words_done : (text : List ℕ) (n k : ℕ) (table l : List ℕ) → n ≤ length table → k ≤ length (take n table) → length (take n table) ≤ k
    → l ≡ sheet_words text k ++ drop k (take n table) → l ++ drop n table ≡ sheet_words text n ++ drop n table
words_done text n k table l h a b e =
    let long : length (take n table) ≡ n = length-take-le n table h in
    let all : k ≡ length (take n table) = omega arith in
    let none : drop k (take n table) ≡ [] = rw all (drop-length (take n table)) in
    let same : l ≡ sheet_words text k = e ∙ ap (λ (x : List ℕ). sheet_words text k ++ x) none ∙ append-nil (sheet_words text k) in
    let m : k ≡ n = all ∙ long in
    ap (λ (x : List ℕ). x ++ drop n table) (same ∙ ap (sheet_words text) m)

-- ---- the table

pub table_is : (text table : List ℕ) (s : Sheet) → sheet_of (room_of table) text ≡ s → table_after text table ≡ stored s text table
unfolding table_after
table_is text table s e = rw e
