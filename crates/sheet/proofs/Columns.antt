-- Columns put over a part of a list, byte by byte and one after another. Assumes nothing.
use mathlib.Core.Path.{◌≡◌, refl, ◌∙◌}
use mathlib.Core.List.{List, [], ◌∷◌, ◌++◌, append-nil}
use Prim.Native.Nat.{ℕ, zero, suc, ◌+◌, ◌-◌, ◌/◌, ◌≤◌, ◌<◌}
use native.Mathlib.Omega.{arith}
use lib.ListN.{length, drop, set, length-set}
use Rattle.common.specs.Lists.{put}
use Rattle.common.proofs.Put.{put_laws}
use Rattle.std.specs.Prelude.{Some, None}
use Rattle.sheet.specs.Columns.{glyph_of, digit_of, leading, columns}
use Rattle.sheet.specs.Rows.{cell_of}
use Rattle.sheet.proofs.Widths.{length_both, length_leading}

-- ---- digits put from the last to the first

-- the loop's mirror
unfoldable pub put_leading : List ℕ → ℕ → ℕ → ℕ → List ℕ
put_leading l i zero v = l
put_leading l i (suc k) v = put_leading (set l (i + k) (glyph_of v)) i k (v / 10)

put-leading : (l : List ℕ) (i k v : ℕ) → i + k ≤ length l → put_leading l i k v ≡ put l i (leading k v)
unfolding put_leading leading
put-leading l i zero v h = put_laws.none l i
put-leading l i (suc k) v h =
    let s : length (set l (i + k) (glyph_of v)) ≡ length l = length-set l (i + k) (glyph_of v) in
    put-leading (set l (i + k) (glyph_of v)) i k (v / 10) (omega arith)
    ∙ put_laws.before l i k (glyph_of v) (leading k (v / 10)) (length_leading k (v / 10)) (omega arith)

pub put_turn : (l : List ℕ) (i k v : ℕ) → 0 < k
    → put_leading (set l (i + (k - 1)) (glyph_of v)) i (k - 1) (v / 10) ≡ put_leading l i k v
unfolding put_leading
put_turn l i zero v h = absurd (omega arith)
put_turn l i (suc k) v h =
    let j : suc k - 1 ≡ k = omega arith in
    rw j

pub put_done : (l : List ℕ) (i v : ℕ) → put_leading l i 0 v ≡ l
unfolding put_leading
put_done l i v = refl

-- the last byte first, then the digits before it
pub put_ending : (l : List ℕ) (i k v b : ℕ) → 0 < k → i + k ≤ length l
    → put_leading (set l (i + (k - 1)) b) i (k - 1) v ≡ put l i (leading (k - 1) v ++ (b ∷ []))
put_ending l i zero v b p h = absurd (omega arith)
put_ending l i (suc k) v b p h =
    let s : length (set l (i + k) b) ≡ length l = length-set l (i + k) b in
    let j : suc k - 1 ≡ k = omega arith in
    rw j (put-leading (set l (i + k) b) i k v (omega arith)
    ∙ put_laws.before l i k b (leading k v) (length_leading k v) (omega arith))

pub columns_ending : (v : ℕ) → leading 5 (v / 10) ++ (digit_of v ∷ []) ≡ columns 6 v
unfolding columns
columns_ending v = refl

pub dash_ending : leading 5 0 ++ (45 ∷ []) ≡ cell_of None
unfolding leading glyph_of cell_of
dash_ending = refl

pub number_cell : (v : ℕ) → columns 6 v ≡ cell_of (Some v)
unfolding cell_of
number_cell v = refl

-- ---- one column alone

pub one_filled : (l o a : List ℕ) → length l ≡ 6 → drop 6 l ≡ [] → length a ≡ 6 → o ≡ put l 0 a → o ≡ a
one_filled l o a k n la e = e ∙ put_laws.start l a ∙ rw (la, n) (append-nil a)

-- ---- lines filled column by column, over a line that ends with a newline

pub two_filled : (l o o' a b : List ℕ) → length l ≡ 13 → drop 12 l ≡ 10 ∷ [] → length a ≡ 6 → length b ≡ 6 → o ≡ put l 0 a
    → o' ≡ put o 6 b → o' ≡ a ++ b ++ (10 ∷ [])
two_filled l o o' a b k n la lb e f =
    let s : length (a ++ b) ≡ 12 = length_both a b 6 6 12 la lb refl in
    put_laws.and_then l o o' 0 6 a b e la (rw lb (omega arith)) f ∙ put_laws.start l (a ++ b) ∙ rw (s, n)

pub five_filled : (l o₁ o₂ o₃ o₄ o₅ a b c d e : List ℕ) → length l ≡ 31 → drop 30 l ≡ 10 ∷ []
    → (length a ≡ 6) × (length b ≡ 6) × (length c ≡ 6) × (length d ≡ 6) × (length e ≡ 6)
    → o₁ ≡ put l 0 a → o₂ ≡ put o₁ 6 b → o₃ ≡ put o₂ 12 c → o₄ ≡ put o₃ 18 d → o₅ ≡ put o₄ 24 e
    → o₅ ≡ a ++ b ++ c ++ d ++ e ++ (10 ∷ [])
five_filled l o₁ o₂ o₃ o₄ o₅ a b c d e k n (la, lb, lc, ld, le) e₁ e₂ e₃ e₄ e₅ =
    let l₂ : length (a ++ b) ≡ 12 = length_both a b 6 6 12 la lb refl in
    let l₃ : length (a ++ b ++ c) ≡ 18 = length_both (a ++ b) c 12 6 18 l₂ lc refl in
    let l₄ : length (a ++ b ++ c ++ d) ≡ 24 = length_both (a ++ b ++ c) d 18 6 24 l₃ ld refl in
    let l₅ : length (a ++ b ++ c ++ d ++ e) ≡ 30 = length_both (a ++ b ++ c ++ d) e 24 6 30 l₄ le refl in
    let f₂ : o₂ ≡ put l 0 (a ++ b) = put_laws.and_then l o₁ o₂ 0 6 a b e₁ la (rw lb (omega arith)) e₂ in
    let f₃ : o₃ ≡ put l 0 (a ++ b ++ c) = put_laws.and_then l o₂ o₃ 0 12 (a ++ b) c f₂ l₂ (rw lc (omega arith)) e₃ in
    let f₄ : o₄ ≡ put l 0 (a ++ b ++ c ++ d) = put_laws.and_then l o₃ o₄ 0 18 (a ++ b ++ c) d f₃ l₃ (rw ld (omega arith)) e₄ in
    put_laws.and_then l o₄ o₅ 0 24 (a ++ b ++ c ++ d) e f₄ l₄ (rw le (omega arith)) e₅ ∙ put_laws.start l (a ++ b ++ c ++ d ++ e) ∙ rw (l₅, n)
