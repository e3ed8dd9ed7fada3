-- The laws of `lowest_from`.
-- Assumes nothing.
use mathlib.Core.Path.{◌≡◌, refl, sym, ap, ap₂, subst, ◌∙◌}
use mathlib.Core.Logic.{⊎_elim}
use mathlib.Core.Bool.{Bool, true, false, cond, not, true≢false}
use mathlib.Core.List.{List, [], ◌∷◌}
use Prim.Native.Nat.{ℕ, zero, suc, ◌+◌, ◌-◌, ◌≤◌, ◌<◌}
use native.Mathlib.Nat.{le_antisymm}
use native.Mathlib.Numerals.{add-one}
use native.Mathlib.Omega.{arith}
use borrow.Author.Tests.{lt-ltb, le-ltb, ltb-true, ltb-false}
use lib.Dec.{ltb}
use lib.ListN.{length, get_or, take}
use lib.Seq.{get_or-take, length-take-le}
use Rattle.std.specs.Prelude.{Some, None}
use Rattle.std.specs.List.{position, position_or_len}
use Rattle.std.specs.Option.{unwrap_or}
use Rattle.std.proofs.lemmas.List.Sums.{position_or_len_is}
use Rattle.common.specs.Lowest.{lowest_from, lowest, found, First, LowestLaws}
use Rattle.common.proofs.Order.{split, same_or_not, past}

first : (t : ℕ → Bool) (i k : ℕ) → First t i k (lowest_from t i k)
unfolding lowest_from
first t i zero = record { from = omega arith; upto = omega arith; holds = λ h. absurd (omega arith); not_before = λ p h l. absurd (omega arith) }
first t i (suc k) = go (first t (i + 1) k) (t i) refl
  where
    go : First t (i + 1) k (lowest_from t (i + 1) k) → (b : Bool) → t i ≡ b → First t i (suc k) (cond b i (lowest_from t (i + 1) k))
    go f true e = record { from = omega arith; upto = omega arith; holds = λ h. e; not_before = λ p h l. absurd (omega arith) }
    go f false e =
        record {
          from = omega (arith, f.from);
          upto = omega (arith, f.upto);
          holds = λ h. f.holds (omega arith);
          not_before = λ p h l. ⊎_elim (λ d. subst (λ (x : ℕ). t x ≡ false) (sym d) e) (λ n. f.not_before p (omega (arith, past h n)) l) (same_or_not p i);
        }

-- a test holds or does not
apart : (t : ℕ → Bool) (a : ℕ) → t a ≡ true → t a ≡ false → ⊥
apart t a y n = true≢false (sym y ∙ n)

is : (t : ℕ → Bool) (k a : ℕ) → a < k → t a ≡ true → ((p : ℕ) → p < a → t p ≡ false) → a ≡ lowest_from t 0 k
is t k a l e h =
    let f = first t 0 k in
    ⊎_elim
    (λ d. ⊎_elim (λ c. le_antisymm d c) (λ c. absurd (apart t a e (f.not_before a (omega arith) c))) (split (lowest_from t 0 k) a))
    (λ d. absurd (apart t (lowest_from t 0 k) (f.holds (omega arith)) (h (lowest_from t 0 k) d)))
    (split a (lowest_from t 0 k))

nowhere : (t : ℕ → Bool) (k : ℕ) → ((p : ℕ) → p < k → t p ≡ false) → k ≡ lowest_from t 0 k
nowhere t k h =
    let f = first t 0 k in
    ⊎_elim
    (λ d. le_antisymm d (omega (arith, f.upto)))
    (λ d. absurd (apart t (lowest_from t 0 k) (f.holds (omega arith)) (h (lowest_from t 0 k) d)))
    (split k (lowest_from t 0 k))

same : (t u : ℕ → Bool) (i k : ℕ) → ((p : ℕ) → p < i + k → t p ≡ u p) → lowest_from t i k ≡ lowest_from u i k
unfolding lowest_from
same t u i zero e = refl
same t u i (suc k) e = ap₂ (λ (b : Bool) (x : ℕ). cond b i x) (e i (omega arith)) (same t u (i + 1) k (λ p l. e p (omega arith)))

turn : (t : ℕ → Bool) (n i : ℕ) → i < n → lowest_from t i (n - i) ≡ cond (t i) i (lowest_from t (i + 1) (n - (i + 1)))
unfolding lowest_from
turn t n i h = let e : n - i ≡ suc (n - (i + 1)) = omega arith in ap (lowest_from t i) e

end : (t : ℕ → Bool) (n i : ℕ) → i ≡ n → i ≡ lowest_from t i (n - i)
unfolding lowest_from
end t n i h = let e : n - i ≡ 0 = omega arith in sym (ap (lowest_from t i) e)

-- what is found, and what is not
pub found_at : {n q : ℕ} → q < n → Some q ≡ found n q
found_at {n} {q} h = rw (lt-ltb q n h)

pub nothing_found : {n q : ℕ} → n ≤ q → None ≡ found n q
nothing_found {n} {q} h = rw (le-ltb q n h)

pub found_first : (t : Bool) {n p : ℕ} (q : ℕ) → p < n → cond t (Some p) (found n q) ≡ found n (cond t p q)
found_first true q h = found_at h
found_first false q h = refl

pub is_found : {n q p : ℕ} → Some p ≡ found n q → (p ≡ q) × (p < n)
is_found {n} {q} {p} e = go (ltb q n) refl e
  where
    go : (b : Bool) → ltb q n ≡ b → Some p ≡ cond b (Some q) None → (p ≡ q) × (p < n)
    go true d e = let f : p ≡ q = cc in (f, omega (arith, ltb-true q n d, f))
    go false d e = absurd (cc)

pub not_found : {n q : ℕ} → None ≡ found n q → n ≤ q
not_found {n} {q} e = go (ltb q n) refl e
  where
    go : (b : Bool) → ltb q n ≡ b → None ≡ cond b (Some q) None → n ≤ q
    go true d e = absurd (cc)
    go false d e = ltb-false q n d

-- the numbers from one more on, by a test one further
shifted : (t : ℕ → Bool) (i k : ℕ) → lowest_from t (suc i) k ≡ suc (lowest_from (λ p. t (suc p)) i k)
unfolding lowest_from
shifted t i zero = refl
shifted t i (suc k) = rw (add-one (suc i), add-one i) (go (t (suc i)) (shifted t (suc i) k))
  where
    go : (b : Bool) {x y : ℕ} → x ≡ suc y → cond b (suc i) x ≡ suc (cond b i y)
    go true e = refl
    go false e = e

place : (t : ℕ → Bool) (l : List ℕ) → position_or_len t l ≡ lowest (λ p. t (get_or l p 0)) (length l)
unfolding lowest_from
place t [] = refl
place t (x ∷ xs) = go (t x) (place t xs)
  where
    go :
        (b : Bool) {y : ℕ} → y ≡ lowest (λ p. t (get_or xs p 0)) (length xs)
        → cond (not b) (1 + y) 0 ≡ cond b 0 (lowest_from (λ i. t (get_or (x ∷ xs) i 0)) 1 (length xs))
    go true e = refl
    go false {y} e = let z : 1 + y ≡ suc y = omega arith in z ∙ ap suc e ∙ sym (shifted (λ i. t (get_or (x ∷ xs) i 0)) 0 (length xs))

-- what an iterator finds among the first n elements
pub lowest_found : (t : ℕ → Bool) (n : ℕ) (l : List ℕ) → n ≤ length l → unwrap_or (position t (take n l)) n ≡ lowest (λ p. t (get_or l p 0)) n
lowest_found t n l h =
    let long : length (take n l) ≡ n = length-take-le n l h in
    let found : position_or_len t (take n l) ≡ lowest (λ p. t (get_or l p 0)) n =
    place t (take n l) ∙ ap (λ (k : ℕ). lowest (λ p. t (get_or (take n l) p 0)) k) long
    ∙ same (λ p. t (get_or (take n l) p 0)) (λ p. t (get_or l p 0)) 0 n (λ p k. ap t (get_or-take n l p 0 (omega arith))) in
    let most : lowest (λ p. t (get_or l p 0)) n ≤ n = omega (arith, (first (λ p. t (get_or l p 0)) 0 n).upto) in
    go (ltb (position_or_len t (take n l)) (length (take n l))) refl long found most
  where
    go :
        (b : Bool) {x k y : ℕ} → ltb x k ≡ b → k ≡ n → x ≡ y → y ≤ n
        → unwrap_or (cond b (Some x) None) n ≡ y
    go true d e f u = f
    go false {x} {k} d e f u = let g = ltb-false x k d in omega arith

pub lowest_laws : LowestLaws
lowest_laws =
    record {
      first = first;
      is = is;
      nowhere = nowhere;
      same = same;
      whole = λ t n. ap (lowest_from t 0) (omega arith);
      turn = turn;
      hit = λ t n i h e. sym (turn t n i h ∙ ap (λ (b : Bool). cond b i (lowest_from t (i + 1) (n - (i + 1)))) e);
      miss = λ t n i h e. turn t n i h ∙ ap (λ (b : Bool). cond b i (lowest_from t (i + 1) (n - (i + 1)))) e;
      end = end;
    }

-- where an item of a list passes first, its length if none does, as `position` counts it
pub first_item : {X : Type 0} (test : X → Bool) (xs : List X) (d : X) → position_or_len test xs ≡ lowest_from (λ i. test (get_or xs i d)) 0 (length xs)
first_item test xs d =
    let f = first (λ i. test (get_or xs i d)) 0 (length xs) in
    position_or_len_is test xs (lowest_from (λ i. test (get_or xs i d)) 0 (length xs)) d (omega (arith, f.upto))
    (λ k h. f.not_before k (omega arith) h) (λ h. f.holds (omega (arith, h)))
