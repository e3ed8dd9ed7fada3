-- The line of a word is well formed and shows the word, and a well-formed line is the line of the word that it shows.
-- Assumes nothing.
use mathlib.Core.Path.{◌≡◌, refl, ◌∙◌}
use mathlib.Core.Bool.{Bool, true, false, ◌&&◌, cond, and-false, true≢false}
use mathlib.Core.List.{List, [], ◌∷◌, ◌++◌}
use Prim.Native.Nat.{ℕ, zero, suc, ◌+◌, ◌*◌, ◌/◌, ◌%◌, ◌^◌, ◌≤◌, ◌<◌}
use native.Mathlib.Nat.{pow-suc, mod-lt}
use native.Mathlib.Omega.{arith}
use lib.Dec.{leb, eqb}
use lib.ListN.{length, take, drop, length-take, length-drop}
use lib.Seq.{take_at}
use borrow.Author.Tests.{eqb-true, eq-eqb, leb-true, le-leb, lt-leb}
use Rattle.common.specs.Limits.{most_word}
use Rattle.sheet.specs.Columns.{digit_of, glyph_of, leading, columns}
use Rattle.sheet.specs.Line.{line_of, value_from, line_value, same_bytes, is_line}
use Rattle.sheet.proofs.Widths.{length_columns, length_line}
use Rattle.sheet.proofs.Compare.{same_short}

pub apart : true ≡ false → ⊥
apart e = true≢false (cc)

same_refl : (xs : List ℕ) → same_bytes xs xs ≡ true
same_refl [] = refl
same_refl (x ∷ xs) = rw (eq-eqb x x refl) (same_refl xs)

same_eq : (xs ys : List ℕ) → same_bytes xs ys ≡ true → xs ≡ ys
same_eq [] [] e = refl
same_eq [] (y ∷ ys) e = absurd (true≢false (cc))
same_eq (x ∷ xs) [] e = absurd (true≢false (cc))
same_eq (x ∷ xs) (y ∷ ys) e = go (eqb x y) refl (λ q. same_eq xs ys q) e
  where
    go : (t : Bool) → eqb x y ≡ t → (same_bytes xs ys ≡ true → xs ≡ ys) → (t && same_bytes xs ys) ≡ true → (x ∷ xs) ≡ (y ∷ ys)
    go true p f q = rw (eqb-true x y p, f q)
    go false p f q = absurd (true≢false (cc))

-- ---- the number of a number's text

value_snoc : (xs : List ℕ) (v b : ℕ) → value_from v (xs ++ (b ∷ [])) ≡ value_from v xs * 10 + b % 16
value_snoc [] v b = refl
value_snoc (x ∷ xs) v b = value_snoc xs (v * 10 + x % 16) b

digit_low : (v : ℕ) → digit_of v % 16 ≡ v % 10
unfolding digit_of
digit_low v =
    let p : 0 < 10 = omega arith in
    omega (arith, mod-lt v p)

glyph_low : (v : ℕ) → glyph_of v % 16 ≡ v % 10
unfolding glyph_of
glyph_low v = go (eqb v 0) refl
  where
    go : (t : Bool) → eqb v 0 ≡ t → cond t 32 (digit_of v) % 16 ≡ v % 10
    go true e = rw (eqb-true v 0 e)
    go false e = digit_low v

leading_value : (k v : ℕ) → v < 10 ^ k → value_from 0 (leading k v) ≡ v
unfolding leading
leading_value zero v h = omega arith
leading_value (suc k) v h =
    let p : 10 ^ suc k ≡ 10 ^ k * 10 = pow-suc 10 k in
    value_snoc (leading k (v / 10)) 0 (glyph_of v) ∙ rw (leading_value k (v / 10) (omega arith), glyph_low v) (omega arith)

columns_value : (k v : ℕ) → v < 10 ^ suc k → value_from 0 (columns (suc k) v) ≡ v
unfolding columns
columns_value k v h =
    let p : 10 ^ suc k ≡ 10 ^ k * 10 = pow-suc 10 k in
    value_snoc (leading k (v / 10)) 0 (digit_of v) ∙ rw (leading_value k (v / 10) (omega arith), digit_low v) (omega arith)

pub line_shows : (v : ℕ) → v ≤ most_word → line_value (line_of v) ≡ v
unfolding line_value line_of
line_shows v h = rw (take_at (columns 10 v) (10 ∷ []) 10 (length_columns 10 v)) (columns_value 9 v (omega arith))

-- ---- well-formed lines

pub line_good : (v : ℕ) → v ≤ most_word → is_line (line_of v) ≡ true
unfolding is_line
line_good v h = rw (line_shows v h, le-leb v most_word h) (same_refl (line_of v))

and_left : (s t : Bool) → (s && t) ≡ true → s ≡ true
and_left true t e = refl
and_left false t e = e

and_right : (s t : Bool) → (s && t) ≡ true → t ≡ true
and_right true t e = e
and_right false t e = absurd (true≢false (cc))

pub good_line : (line : List ℕ) → is_line line ≡ true → line ≡ line_of (line_value line)
unfolding is_line
good_line line e = same_eq line (line_of (line_value line)) (and_right (leb (line_value line) most_word) (same_bytes line (line_of (line_value line))) e)

pub good_value : (line : List ℕ) → is_line line ≡ true → line_value line ≤ most_word
unfolding is_line
good_value line e = leb-true (line_value line) most_word (and_left (leb (line_value line) most_word) (same_bytes line (line_of (line_value line))) e)

pub line_short : (line : List ℕ) → length line < 11 → is_line line ≡ false
unfolding is_line
line_short line h =
    let s : length line < length (line_of (line_value line)) = rw (length_line (line_value line)) h in
    rw (same_short line (line_of (line_value line)) s) (and-false (leb (line_value line) most_word))

pub line_big : (line : List ℕ) → most_word < line_value line → is_line line ≡ false
unfolding is_line
line_big line h = rw (lt-leb (line_value line) most_word h)

pub line_fits : (line : List ℕ) → line_value line ≤ most_word → is_line line ≡ same_bytes line (line_of (line_value line))
unfolding is_line
line_fits line h = rw (le-leb (line_value line) most_word h)

-- a well-formed line is whole
pub line_inside : (text : List ℕ) (at : ℕ) → is_line (take 11 (drop at text)) ≡ true → at + 11 ≤ length text
line_inside text at e =
    let f : length (take 11 (drop at text)) ≡ 11 = rw (good_line (take 11 (drop at text)) e) (length_line (line_value (take 11 (drop at text)))) in
    omega (arith, simp (length-take, length-drop) at f)
