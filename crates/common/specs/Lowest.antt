-- "place: the lowest", "place: lowest index": where a test holds first.
-- Assumes nothing.
use Rattle.std.specs.Prelude.{◌≡◌, Bool, true, false, cond, Option, Some, None, ℕ, zero, suc, ◌+◌, ◌-◌, ◌≤◌}
use Rattle.std.specs.Prelude.{◌<◌, ltb}

-- the lowest number from i on at which the test holds, of k numbers; the number after them if there is none
unfoldable pub lowest_from : (ℕ → Bool) → ℕ → ℕ → ℕ
lowest_from t i zero = i
lowest_from t i (suc k) = cond (t i) i (lowest_from t (i + 1) k)

-- of the numbers below n; n if there is none
abbrev pub lowest : (ℕ → Bool) → ℕ → ℕ
lowest t n = lowest_from t 0 n

-- what a search of the numbers below n finds, where it comes to q
abbrev pub found : ℕ → ℕ → Option ℕ
found n q = cond (ltb q n) (Some q) None

-- a is where the test holds first, of the k numbers from i on, or the number after them
pub record First (t : ℕ → Bool) (i k a : ℕ) : Type 0 where
  pub from : i ≤ a
  pub upto : a ≤ i + k
  pub holds : a < i + k → t a ≡ true
  pub not_before : (p : ℕ) → i ≤ p → p < a → t p ≡ false

-- what callers go by: proofs/Lowest.antt proves it
pub record LowestLaws : Type 0 where
  -- what it is
  pub first : (t : ℕ → Bool) (i k : ℕ) → First t i k (lowest_from t i k)
  pub is : (t : ℕ → Bool) (k a : ℕ)
      → a < k → t a ≡ true → ((p : ℕ) → p < a → t p ≡ false) → a ≡ lowest_from t 0 k
  pub nowhere : (t : ℕ → Bool) (k : ℕ) → ((p : ℕ) → p < k → t p ≡ false) → k ≡ lowest_from t 0 k
  -- tests that agree have the same
  pub same : (t u : ℕ → Bool) (i k : ℕ)
      → ((p : ℕ) → p < i + k → t p ≡ u p) → lowest_from t i k ≡ lowest_from u i k
  -- for loops over the numbers below n: at i, those from i on are left
  pub whole : (t : ℕ → Bool) (n : ℕ) → lowest_from t 0 (n - 0) ≡ lowest_from t 0 n
  pub turn : (t : ℕ → Bool) (n i : ℕ)
      → i < n → lowest_from t i (n - i) ≡ cond (t i) i (lowest_from t (i + 1) (n - (i + 1)))
  pub hit : (t : ℕ → Bool) (n i : ℕ) → i < n → t i ≡ true → i ≡ lowest_from t i (n - i)
  pub miss : (t : ℕ → Bool) (n i : ℕ)
      → i < n → t i ≡ false → lowest_from t i (n - i) ≡ lowest_from t (i + 1) (n - (i + 1))
  pub end : (t : ℕ → Bool) (n i : ℕ) → i ≡ n → i ≡ lowest_from t i (n - i)
