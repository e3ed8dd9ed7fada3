-- The laws of `put`.
-- Assumes nothing.
use mathlib.Core.Path.{◌≡◌, refl, sym, ap, ◌∙◌}
use mathlib.Core.List.{List, [], ◌∷◌, ◌++◌, append_assoc}
use Prim.Native.Nat.{ℕ, suc, ◌+◌, ◌≤◌, ◌<◌}
use native.Mathlib.Nat.{add-zero}
use native.Mathlib.Numerals.{add-one}
use native.Mathlib.Omega.{arith}
use lib.ListN.{length, take, drop, get_or, set, length-append, length-drop, take-append-drop}
use lib.Seq.{take-suc, take-set-le, set_split, take_at, drop_at, drop-drop, length-take-le}
use Rattle.common.specs.Lists.{put, PutLaws}

length_put : (l : List ℕ) (i : ℕ) (xs : List ℕ) → i + length xs ≤ length l → length (put l i xs) ≡ length l
unfolding put
length_put l i xs h = simp (length-append, length-take-le i l (omega arith), length-drop) (omega arith)

none : (l : List ℕ) (i : ℕ) → l ≡ put l i []
unfolding put
none l i = rw (add-zero i) (sym (take-append-drop i l))

one : (l : List ℕ) (i a : ℕ) → i < length l → set l i a ≡ put l i (a ∷ [])
unfolding put
one l i a h = rw (set_split l i a h, add-one)

start : (l xs : List ℕ) → put l 0 xs ≡ xs ++ drop (length xs) l
unfolding put
start l xs = let z : 0 + length xs ≡ length xs = omega arith in rw z

both : (l : List ℕ) (i : ℕ) (xs ys : List ℕ) → i + (length xs + length ys) ≤ length l
    → put (put l i xs) (i + length xs) ys ≡ put l i (xs ++ ys)
unfolding put
both l i xs ys h =
    let e : length (take i l ++ xs) ≡ i + length xs = simp (length-append, length-take-le i l (omega arith)) refl in
    rw (
      ← append_assoc (take i l) xs (drop (i + length xs) l),
      take_at (take i l ++ xs) (drop (i + length xs) l) (i + length xs) e,
      ← drop-drop (length ys) (i + length xs) (take i l ++ xs ++ drop (i + length xs) l),
      drop_at (take i l ++ xs) (drop (i + length xs) l) (i + length xs) e,
      drop-drop (length ys) (i + length xs) l,
      length-append xs ys,
    )
    (rest (i + length xs + length ys) (i + (length xs + length ys)) (omega arith))
  where
    rest : (a b : ℕ) → a ≡ b → (take i l ++ xs) ++ (ys ++ drop a l) ≡ take i l ++ ((xs ++ ys) ++ drop b l)
    rest a b e = rw (e, append_assoc (take i l) xs (ys ++ drop b l), append_assoc xs ys (drop b l))

and_then : (l o o' : List ℕ) (at n : ℕ) (xs ys : List ℕ) → o ≡ put l at xs → length xs ≡ n
    → at + (n + length ys) ≤ length l → o' ≡ put o (at + n) ys → o' ≡ put l at (xs ++ ys)
and_then l o o' at n xs ys e k h f = f ∙ rw (e, ← k) (both l at xs ys (rw k h))

then_one : (l o : List ℕ) (at n : ℕ) (xs : List ℕ) (a : ℕ) → o ≡ put l at xs → length xs ≡ n
    → at + n < length l → set o (at + n) a ≡ put l at (xs ++ (a ∷ []))
then_one l o at n xs a e k h =
    let m : length o ≡ length l = ap length e ∙ length_put l at xs (rw k (omega arith)) in
    and_then l o (set o (at + n) a) at n xs (a ∷ []) e k (omega arith) (one o (at + n) a (omega arith))

element : (l o : List ℕ) (at i : ℕ) (xs : List ℕ) → at + length xs ≤ length l → i < length xs
    → o ≡ put l at (take i xs) → set o (at + i) (get_or xs i 0) ≡ put l at (take (i + 1) xs)
element l o at i xs h k e =
    let t : length (take i xs) ≡ i = length-take-le i xs (omega arith) in
    rw (add-one i, take-suc xs i 0 k) (then_one l o at i (take i xs) (get_or xs i 0) e t (omega arith))

before : (l : List ℕ) (i k b : ℕ) (xs : List ℕ) → length xs ≡ k → i + k < length l
    → put (set l (i + k) b) i xs ≡ put l i (xs ++ (b ∷ []))
unfolding put
before l i k b xs e h =
    let s : length (xs ++ (b ∷ [])) ≡ k + 1 = length-append xs (b ∷ []) ∙ ap (λ (n : ℕ). n + 1) e in
    rw (
      take-set-le i l (i + k) b (omega arith),
      e,
      s,
      set_split l (i + k) b h,
      drop_at (take (i + k) l) (b ∷ drop (suc (i + k)) l) (i + k)
          (length-take-le (i + k) l (omega arith)),
      append_assoc xs (b ∷ []) (drop (i + (k + 1)) l),
    )
    (let q : suc (i + k) ≡ i + (k + 1) = omega arith in rw q)

pub put_laws : PutLaws
put_laws =
    record {
      length_put = length_put;
      none = none;
      one = one;
      start = start;
      both = both;
      and_then = and_then;
      then_one = then_one;
      element = element;
      before = before;
    }
