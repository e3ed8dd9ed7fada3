-- What lent slices hold afterwards: their first elements by a function of the index, or a
-- part of them written over.
-- Assumes nothing.
use Rattle.std.specs.Prelude.{◌≡◌, List, [], ◌∷◌, ◌++◌, ℕ, zero, suc, ◌+◌, ◌≤◌, ◌<◌, length, get_or, take}
use Rattle.std.specs.Prelude.{drop, set, replicate}

-- f i, f (i + 1), .. : k of them
abbrev pub tabulate : (ℕ → ℕ) → ℕ → ℕ → List ℕ
tabulate f i zero = []
tabulate f i (suc k) = f i ∷ tabulate f (suc i) k

-- a slice whose first n elements are those of f. "Elements past n are untouched"
abbrev pub over : (ℕ → ℕ) → ℕ → List ℕ → List ℕ
over f n l = tabulate f 0 n ++ drop n l

-- numbers written over those of l from index i on
unfoldable pub put : List ℕ → ℕ → List ℕ → List ℕ
put l i numbers = take i l ++ (numbers ++ drop (i + length numbers) l)

-- n counts elements at the start of a list. The second part follows from the first; to write them out takes
-- both
abbrev pub Counted : ℕ → List ℕ → Type 0
Counted n l = (n ≤ length l) × (n ≡ length (take n l))

-- what callers go by: proofs/Over.antt proves it
pub record OverLaws : Type 0 where
  pub length_tabulate : (f : ℕ → ℕ) (i k : ℕ) → length (tabulate f i k) ≡ k
  pub get_d_tabulate : (f : ℕ → ℕ) (i k p : ℕ) → p < k → get_or (tabulate f i k) p 0 ≡ f (i + p)
  pub zeros : (i k : ℕ) → replicate k 0 ≡ tabulate (λ p. 0) i k
  -- a list by its first elements and the rest
  pub is :
      (f : ℕ → ℕ) (k : ℕ) (l₀ l : List ℕ) → k ≤ length l → ((p : ℕ) → p < k → get_or l p 0 ≡ f p)
      → drop k l ≡ drop k l₀ → l ≡ over f k l₀
  -- a list with no rest
  pub whole : (f : ℕ → ℕ) (k : ℕ) (l : List ℕ)
      → length l ≡ k → ((p : ℕ) → p < k → get_or l p 0 ≡ f p) → l ≡ tabulate f 0 k
  -- what such a list holds
  pub at : (f : ℕ → ℕ) (k : ℕ) (l : List ℕ) (p : ℕ) → p < k → get_or (over f k l) p 0 ≡ f p
  pub past : (f : ℕ → ℕ) (k : ℕ) (l : List ℕ) → drop k (over f k l) ≡ drop k l
  pub length_over : (f : ℕ → ℕ) (k : ℕ) (l : List ℕ) → k ≤ length l → length (over f k l) ≡ length l

-- what callers go by: proofs/Put.antt proves it
pub record PutLaws : Type 0 where
  pub length_put : (l : List ℕ) (i : ℕ) (xs : List ℕ)
      → i + length xs ≤ length l → length (put l i xs) ≡ length l
  pub none : (l : List ℕ) (i : ℕ) → l ≡ put l i []
  pub one : (l : List ℕ) (i a : ℕ) → i < length l → set l i a ≡ put l i (a ∷ [])
  -- the rest of the list stands behind what is put at its start
  pub start : (l xs : List ℕ) → put l 0 xs ≡ xs ++ drop (length xs) l
  -- one after another
  pub both :
      (l : List ℕ) (i : ℕ) (xs ys : List ℕ) → i + (length xs + length ys) ≤ length l
      → put (put l i xs) (i + length xs) ys ≡ put l i (xs ++ ys)
  -- after n numbers come others
  pub and_then :
      (l o o' : List ℕ) (at n : ℕ) (xs ys : List ℕ) → o ≡ put l at xs → length xs ≡ n
      → at + (n + length ys) ≤ length l → o' ≡ put o (at + n) ys → o' ≡ put l at (xs ++ ys)
  -- after n numbers comes one
  pub then_one :
      (l o : List ℕ) (at n : ℕ) (xs : List ℕ) (a : ℕ) → o ≡ put l at xs → length xs ≡ n
      → at + n < length l → set o (at + n) a ≡ put l at (xs ++ (a ∷ []))
  -- one element more of a list that is put element by element
  pub element :
      (l o : List ℕ) (at i : ℕ) (xs : List ℕ) → at + length xs ≤ length l → i < length xs
      → o ≡ put l at (take i xs) → set o (at + i) (get_or xs i 0) ≡ put l at (take (i + 1) xs)
  -- one element before others
  pub before :
      (l : List ℕ) (i k b : ℕ) (xs : List ℕ) → length xs ≡ k → i + k < length l
      → put (set l (i + k) b) i xs ≡ put l i (xs ++ (b ∷ []))
