-- A line read and compared column by column, as the loops do. Assumes nothing.
use mathlib.Core.Path.{◌≡◌, refl, sym, ◌∙◌}
use mathlib.Core.Bool.{Bool, true, false, ◌&&◌, and-false}
use mathlib.Core.List.{List, [], ◌∷◌, ◌++◌}
use Prim.Native.Nat.{ℕ, zero, suc, ◌+◌, ◌*◌, ◌-◌, ◌/◌, ◌%◌, ◌^◌, ◌≤◌, ◌<◌}
use native.Mathlib.Nat.{pow-suc, pow-le-pow_right}
use native.Mathlib.Numerals.{add-one}
use native.Mathlib.Omega.{arith}
use lib.Dec.{eqb}
use lib.ListN.{length, take, drop, get_or, length-drop}
use lib.Seq.{slice, slice-cons, slice_empty, take-take, take-suc, get_or-drop, get_or-take, length-take-le}
use borrow.Author.Tests.{eq-eqb, ne_eqb}
use Rattle.sheet.specs.Columns.{digit_of, glyph_of, leading, columns}
use Rattle.sheet.specs.Line.{line_of, value_from, line_value, same_bytes}
use Rattle.sheet.proofs.Widths.{length_leading, length_columns}

-- ---- the number that a line shows

pub column_is : (text : List ℕ) (at i : ℕ) → i < 10 → get_or (take (at + 10 - at) (drop at text)) i 0 ≡ get_or (drop at text) i 0
column_is text at i h =
    let e : at + 10 - at ≡ 10 = omega arith in rw e (get_or-take 10 (drop at text) i 0 h)

pub value_turn : (text : List ℕ) (at i v : ℕ) → i < 10 → at + 11 ≤ length text
    → value_from (v * 10 + get_or (take (at + 10 - at) (drop at text)) i 0 % 16) (slice (i + 1) 10 (drop at text)) ≡ value_from v (slice i 10 (drop at text))
value_turn text at i v h l =
    let room : 10 ≤ length (drop at text) = simp length-drop (omega arith) in
    rw (column_is text at i h, slice-cons i 10 (drop at text) 0 h room, add-one)

pub value_start : (line : List ℕ) → value_from 0 (slice 0 10 line) ≡ line_value (take 11 line)
unfolding line_value
value_start line = rw (take-take 10 11 line (omega arith))

pub value_end : (line : List ℕ) (v : ℕ) → value_from v (slice 10 10 line) ≡ v
value_end line v = rw (slice_empty 10 line)

-- i digits of at most 15 each stay below twice 10 ^ i
pub bound_more : (v b i : ℕ) → v + 2 ≤ 2 * 10 ^ i → b < 16 → v * 10 + b + 2 ≤ 2 * 10 ^ (i + 1)
bound_more v b i h k = rw (add-one, pow-suc) (omega arith)

pub bound_fits : (v i : ℕ) → i < 10 → v + 2 ≤ 2 * 10 ^ i → v ≤ 2000000000
bound_fits v i h k =
    let p : 0 < 10 = omega arith in
    let q : i ≤ 9 = omega arith in
    let e : 10 ^ i ≤ 10 ^ 9 = pow-le-pow_right p q in
    omega arith

-- ---- the comparison, from the last column to the first

and_swap : (a b t : Bool) → (a && (b && t)) ≡ (b && (a && t))
and_swap true b t = refl
and_swap false true t = refl
and_swap false false t = refl

same_snoc : (xs ys : List ℕ) (x y : ℕ) → length xs ≡ length ys → same_bytes (xs ++ (x ∷ [])) (ys ++ (y ∷ [])) ≡ (eqb x y && same_bytes xs ys)
same_snoc [] [] x y e = refl
same_snoc [] (b ∷ ys) x y e = absurd (omega arith)
same_snoc (a ∷ xs) [] x y e = absurd (omega arith)
same_snoc (a ∷ xs) (b ∷ ys) x y e = rw (same_snoc xs ys x y (omega arith)) (and_swap (eqb a b) (eqb x y) (same_bytes xs ys))

pub same_short : (xs ys : List ℕ) → length xs < length ys → same_bytes xs ys ≡ false
same_short [] [] h = absurd (omega arith)
same_short [] (y ∷ ys) h = refl
same_short (x ∷ xs) [] h = refl
same_short (x ∷ xs) (y ∷ ys) h = rw (same_short xs ys (omega arith)) (and-false (eqb x y))

-- the loop's mirror
unfoldable pub matches : List ℕ → ℕ → ℕ → ℕ → Bool
matches text i zero v = true
matches text i (suc k) v = eqb (get_or text (i + k) 0) (glyph_of v) && matches text i k (v / 10)

pub matches_none : (text : List ℕ) (at v : ℕ) → matches text at 0 v ≡ true
unfolding matches
matches_none text at v = refl

pub turn_ok : (text : List ℕ) (at i v : ℕ) → 0 < i → get_or text (at + (i - 1)) 0 ≡ glyph_of v
    → matches text at (i - 1) (v / 10) ≡ matches text at i v
unfolding matches
turn_ok text at zero v h e = absurd (omega arith)
turn_ok text at (suc k) v h e =
    let j : suc k - 1 ≡ k = omega arith in
    rw (j, eq-eqb (get_or text (at + k) 0) (glyph_of v) (rw j at e))

pub turn_fail : (text : List ℕ) (at i v : ℕ) → 0 < i → (get_or text (at + (i - 1)) 0 ≡ glyph_of v → ⊥) → matches text at i v ≡ false
unfolding matches
turn_fail text at zero v h e = absurd (omega arith)
turn_fail text at (suc k) v h e =
    let j : suc k - 1 ≡ k = omega arith in
    rw (ne_eqb (get_or text (at + k) 0) (glyph_of v) (rw j at e))

-- one byte more of a text
more : (text : List ℕ) (at k : ℕ) → at + suc k ≤ length text
    → take (suc k) (drop at text) ≡ take k (drop at text) ++ (get_or text (at + k) 0 ∷ [])
more text at k h =
    let inside : k < length (drop at text) = simp length-drop (omega arith) in
    rw (take-suc (drop at text) k 0 inside, get_or-drop)

part_length : (text : List ℕ) (at k : ℕ) → at + k ≤ length text → length (take k (drop at text)) ≡ k
part_length text at k h = length-take-le k (drop at text) (simp length-drop (omega arith))

matches_is : (text : List ℕ) (at k v : ℕ) → at + k ≤ length text
    → matches text at k v ≡ same_bytes (take k (drop at text)) (leading k v)
unfolding matches leading
matches_is text at zero v h = refl
matches_is text at (suc k) v h =
    sym
    (rw (
      more text at k h,
      same_snoc (take k (drop at text)) (leading k (v / 10)) (get_or text (at + k) 0)
          (glyph_of v) (part_length text at k (omega arith) ∙ sym (length_leading k (v / 10))),
    )
    (rw (matches_is text at k (v / 10) (omega arith)) refl))

-- the three tests of a line
module _ (text : List ℕ) (at v : ℕ) (h : at + 11 ≤ length text) where
  shows_is : same_bytes (take 11 (drop at text)) (line_of v) ≡ (eqb (get_or text (at + 10) 0) 10
      && (eqb (get_or text (at + 9) 0) (digit_of v) && matches text at 9 (v / 10)))
  unfolding line_of columns
  shows_is =
      rw (
        more text at 10 h,
        same_snoc (take 10 (drop at text)) (columns 10 v) (get_or text (at + 10) 0) 10
            (part_length text at 10 (omega arith) ∙ sym (length_columns 10 v)),
      )
      (rw (
        more text at 9 (omega arith),
        same_snoc (take 9 (drop at text)) (leading 9 (v / 10)) (get_or text (at + 9) 0) (digit_of v)
            (part_length text at 9 (omega arith) ∙ sym (length_leading 9 (v / 10))),
        matches_is text at 9 (v / 10) (omega arith),
      ))

  pub no_newline : (get_or text (at + 10) 0 ≡ 10 → ⊥) → false ≡ same_bytes (take 11 (drop at text)) (line_of v)
  no_newline n = sym (shows_is ∙ rw (ne_eqb (get_or text (at + 10) 0) 10 n))

  pub no_digit : get_or text (at + 10) 0 ≡ 10 → (get_or text (at + 9) 0 ≡ digit_of v → ⊥)
      → false ≡ same_bytes (take 11 (drop at text)) (line_of v)
  no_digit e n = sym (shows_is ∙ rw (eq-eqb (get_or text (at + 10) 0) 10 e, ne_eqb (get_or text (at + 9) 0) (digit_of v) n))

  pub by_leading : get_or text (at + 10) 0 ≡ 10 → get_or text (at + 9) 0 ≡ digit_of v
      → matches text at 9 (v / 10) ≡ same_bytes (take 11 (drop at text)) (line_of v)
  by_leading e d = sym (shows_is ∙ rw (eq-eqb (get_or text (at + 10) 0) 10 e, eq-eqb (get_or text (at + 9) 0) (digit_of v) d))
