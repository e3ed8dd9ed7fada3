-- Columns are blanks and the digits of their number. Assumes nothing.
use mathlib.Core.Path.{◌≡◌, refl, sym, ap, ◌∙◌}
use mathlib.Core.Bool.{Bool, true, false}
use mathlib.Core.List.{List, [], ◌∷◌, ◌++◌, append_assoc, append-nil}
use Prim.Native.Nat.{ℕ, zero, suc, ◌+◌, ◌*◌, ◌-◌, ◌/◌, ◌%◌, ◌^◌, ◌≤◌, ◌<◌}
use native.Mathlib.Nat.{pow-suc}
use native.Mathlib.Omega.{arith}
use lib.Dec.{eqb}
use lib.ListN.{replicate}
use borrow.Author.Tests.{eqb-true, eqb-false}
use Rattle.sheet.specs.Columns.{digit_of, glyph_of, leading, columns}
use Rattle.sheet.specs.Claims.{decimal, Justified}

-- blanks where nothing is left of the number
snoc_same : (b k : ℕ) → replicate k b ++ (b ∷ []) ≡ replicate (suc k) b
snoc_same b zero = refl
snoc_same b (suc k) = ap (λ (l : List ℕ). b ∷ l) (snoc_same b k)

leading_none : (k : ℕ) → leading k 0 ≡ replicate k 32
unfolding leading glyph_of
leading_none zero = refl
leading_none (suc k) = rw (leading_none k) (snoc_same 32 k)

glyph_some : (v : ℕ) → eqb v 0 ≡ false → glyph_of v ≡ 48 + v % 10
unfolding glyph_of digit_of
glyph_some v e = rw e

-- the columns left of the last one: none of them need show a digit
record Shown (k v : ℕ) : Type 0 where
  count : ℕ
  fits : count ≤ k
  all : v < 10 ^ count
  needed : 0 < count → 10 ^ (count - 1) ≤ v
  is : leading k v ≡ replicate (k - count) 32 ++ decimal count v

none_shown : (k v : ℕ) → leading k 0 ≡ replicate (k - 0) 32 ++ decimal 0 v
none_shown k v =
    let j : k - 0 ≡ k = omega arith in
    rw j (leading_none k ∙ sym (append-nil (replicate k 32)))

some_power : (k : ℕ) → 0 < 10 ^ k
some_power zero = omega arith
some_power (suc k) = let p : 10 ^ suc k ≡ 10 ^ k * 10 = pow-suc 10 k in omega (arith, some_power k)

-- one digit more
wider : (c v : ℕ) → v / 10 < 10 ^ c → v < 10 ^ suc c
wider c v h = let p : 10 ^ suc c ≡ 10 ^ c * 10 = pow-suc 10 c in omega arith

narrower : (k v : ℕ) → v < 10 ^ suc k → v / 10 < 10 ^ k
narrower k v h = let p : 10 ^ suc k ≡ 10 ^ k * 10 = pow-suc 10 k in omega arith

first : (c v : ℕ) → 0 < v → (0 < c → 10 ^ (c - 1) ≤ v / 10) → 10 ^ c ≤ v
first zero v s h = omega arith
first (suc c) v s h =
    let p : 10 ^ suc c ≡ 10 ^ c * 10 = pow-suc 10 c in
    let j : suc c - 1 ≡ c = omega arith in
    let q : 10 ^ c ≤ v / 10 = rw j at (h (omega arith)) in
    omega arith

behind : (k c v d : ℕ) (l : List ℕ) → l ≡ replicate (k - c) 32 ++ decimal c (v / 10) → d ≡ 48 + v % 10
    → l ++ (d ∷ []) ≡ replicate (suc k - suc c) 32 ++ decimal (suc c) v
behind k c v d l e f =
    let j : suc k - suc c ≡ k - c = omega arith in
    rw (j, e, f) (append_assoc (replicate (k - c) 32) (decimal c (v / 10)) ((48 + v % 10) ∷ []))

shown : (k v : ℕ) → v < 10 ^ k → Shown k v
unfolding leading
shown zero v h = let z : v ≡ 0 = omega arith in record { count = 0; fits = omega arith; all = h; needed = λ p. absurd (omega arith); is = refl }
shown (suc k) v h = go (eqb v 0) refl (shown k (v / 10) (narrower k v h))
  where
    go : (t : Bool) → eqb v 0 ≡ t → Shown k (v / 10) → Shown (suc k) v
    go true e s =
        let z : v ≡ 0 = eqb-true v 0 e in
        record {
          count = 0;
          fits = omega arith;
          all = rw z (omega arith);
          needed = λ p. absurd (omega arith);
          is = ap (leading (suc k)) z ∙ none_shown (suc k) v;
        }
    go false e s =
        let z : v ≡ 0 → ⊥ = eqb-false v 0 e in
        let j : suc s.count - 1 ≡ s.count = omega arith in
        record {
          count = suc s.count;
          fits = omega (arith, s.fits);
          all = wider s.count v s.all;
          needed = λ p. rw j (first s.count v (omega arith) s.needed);
          is = behind k s.count v (glyph_of v) (leading k (v / 10)) s.is (glyph_some v e);
        }

pub justified : (k v : ℕ) → 0 < k → v < 10 ^ k → Justified k v (columns k v)
unfolding columns digit_of
justified zero v p h = absurd (omega arith)
justified (suc k) v p h =
    let s : Shown k (v / 10) = shown k (v / 10) (narrower k v h) in
    let j : suc s.count - 1 ≡ s.count = omega arith in
    record {
      count = suc s.count;
      some = omega arith;
      fits = omega (arith, s.fits);
      all = wider s.count v s.all;
      needed = λ q. rw j (first s.count v (more s.count (omega arith) s.needed) s.needed);
      is = behind k s.count v (digit_of v) (leading k (v / 10)) s.is refl;
    }
  where
    more : (c : ℕ) → 0 < c → (0 < c → 10 ^ (c - 1) ≤ v / 10) → 0 < v
    more zero o q = absurd (omega arith)
    more (suc c) o q =
        let j : suc c - 1 ≡ c = omega arith in
        omega (arith, some_power c, rw j at (q o))
