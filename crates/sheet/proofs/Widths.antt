-- How many bytes each text has. Assumes nothing.
use mathlib.Core.Path.{◌≡◌, refl, ◌∙◌}
use mathlib.Core.List.{List, [], ◌∷◌, ◌++◌}
use Prim.Native.Nat.{ℕ, zero, suc, ◌+◌, ◌/◌}
use native.Mathlib.Omega.{arith}
use lib.ListN.{length, length-append}
use Rattle.std.specs.Prelude.{Option, Some, None}
use Rattle.sheet.specs.Columns.{digit_of, glyph_of, leading, columns}
use Rattle.sheet.specs.Line.{line_of}
use Rattle.sheet.specs.Rows.{cell_of, row_of, pair_of}

pub length_both : (xs ys : List ℕ) (m n k : ℕ) → length xs ≡ m → length ys ≡ n → m + n ≡ k → length (xs ++ ys) ≡ k
length_both xs ys m n k a b e = length-append xs ys ∙ rw (a, b) e

pub length_snoc : (xs : List ℕ) (x n : ℕ) → length xs ≡ n → length (xs ++ (x ∷ [])) ≡ n + 1
length_snoc xs x n e = length-append xs (x ∷ []) ∙ rw e

pub length_leading : (k v : ℕ) → length (leading k v) ≡ k
unfolding leading
length_leading zero v = refl
length_leading (suc k) v = length_snoc (leading k (v / 10)) (glyph_of v) k (length_leading k (v / 10)) ∙ omega arith

pub length_columns : (k v : ℕ) → length (columns k v) ≡ k
unfolding columns
length_columns zero v = refl
length_columns (suc k) v = length_snoc (leading k (v / 10)) (digit_of v) k (length_leading k (v / 10)) ∙ omega arith

pub length_line : (v : ℕ) → length (line_of v) ≡ 11
unfolding line_of
length_line v = length_snoc (columns 10 v) 10 10 (length_columns 10 v)

pub length_cell : (c : Option ℕ) → length (cell_of c) ≡ 6
unfolding cell_of
length_cell (Some v) = length_columns 6 v
length_cell None = refl

pub length_pair : (a b : ℕ) → length (pair_of a b) ≡ 13
unfolding pair_of
length_pair a b =
    length_snoc (columns 6 a ++ columns 6 b) 10 12 (length_both (columns 6 a) (columns 6 b) 6 6 12 (length_columns 6 a) (length_columns 6 b) refl)

pub length_row : (p opcode : ℕ) (first second : Option ℕ) (segment : ℕ) → length (row_of p opcode first second segment) ≡ 31
unfolding row_of
length_row p o a b s =
    simp (length-append, length_columns 6, length_cell)
