-- From the code's intervals to the ranges of an answer: arrays with counts hold the whole lists, in the form that the
-- document asks for.
-- Assumes nothing.
use Prim.Native.Nat.{ℕ, ◌+◌, ◌-◌, ◌≤◌, ◌<◌}
use mathlib.Core.Path.{◌≡◌, refl, ap, sym, ◌∙◌}
use mathlib.Core.Logic.{inl, inr, ⊎_elim}
use mathlib.Core.List.{List, [], ◌∷◌}
use native.Mathlib.Omega.{arith}
use lib.ListN.{length}
use Rattle.locations.specs.declared.answer.Range.{Range}
use Rattle.locations.specs.declared.interval.Interval.{Interval}
use Rattle.locations.specs.Lists.{range_of, ranges_of, indices_of}
use Rattle.locations.specs.Form.{ranges_in, numbers_in, Within, GapAfter, Longest, OnlyOne, ZeroRanges, ZeroIndices}
use Rattle.locations.proofs.Ranges.{Inside, After, Canonical}
use Rattle.locations.proofs.Unique as unique

abbrev pub closed : List Interval → List Range
closed [] = []
closed (x ∷ xs) = range_of x ∷ closed xs

-- nothing is dropped
pub ranges_whole : (xs : List Interval) → length xs ≤ 3 → ranges_in (ranges_of xs) ≡ closed xs
unfolding ranges_of
ranges_whole [] h = refl
ranges_whole (x ∷ []) h = refl
ranges_whole (x ∷ y ∷ []) h = refl
ranges_whole (x ∷ y ∷ z ∷ []) h = refl
ranges_whole (x ∷ y ∷ z ∷ w ∷ xs) h = absurd (omega arith)

pub indices_whole : (xs : List ℕ) → length xs ≤ 3 → numbers_in (indices_of xs) ≡ xs
unfolding indices_of
indices_whole [] h = refl
indices_whole (x ∷ []) h = refl
indices_whole (x ∷ y ∷ []) h = refl
indices_whole (x ∷ y ∷ z ∷ []) h = refl
indices_whole (x ∷ y ∷ z ∷ w ∷ xs) h = absurd (omega arith)

pub zero_ranges : (xs : List Interval) → length xs ≤ 3 → ZeroRanges (ranges_of xs)
unfolding ranges_of
zero_ranges [] h = refl
zero_ranges (x ∷ []) h = refl
zero_ranges (x ∷ y ∷ []) h = refl
zero_ranges (x ∷ y ∷ z ∷ []) h = refl
zero_ranges (x ∷ y ∷ z ∷ w ∷ xs) h = absurd (omega arith)

pub zero_indices : (xs : List ℕ) → length xs ≤ 3 → ZeroIndices (indices_of xs)
unfolding indices_of
zero_indices [] h = refl
zero_indices (x ∷ []) h = refl
zero_indices (x ∷ y ∷ []) h = refl
zero_indices (x ∷ y ∷ z ∷ []) h = refl
zero_indices (x ∷ y ∷ z ∷ w ∷ xs) h = absurd (omega arith)

pub longest : (xs : List Interval) → Canonical xs → Longest (closed xs)
longest [] k = tt
longest (x ∷ xs) k = (omega (arith, k.0), (gap xs k.1.0, longest xs k.1.1))
  where
    gap : (ys : List Interval) → After x.end ys → GapAfter (x.end - 1) (closed ys)
    gap [] a = tt
    gap (y ∷ ys) a = omega (arith, k.0)

pub within_from : (q : ℕ) (xs : List Interval) → Canonical xs → Within q (closed xs) → Inside q xs
within_from q [] k w = w
within_from q (x ∷ xs) k w =
    ⊎_elim (λ (b : (x.first ≤ q) × (q ≤ x.end - 1)). inl (b.0, omega (arith, b.1, k.0))) (λ b. inr (within_from q xs k.1.1 b)) w

pub within_into : (q : ℕ) (xs : List Interval) → Inside q xs → Within q (closed xs)
within_into q [] i = i
within_into q (x ∷ xs) i =
    ⊎_elim (λ (b : (x.first ≤ q) × (q < x.end)). inl (b.0, omega (arith, b.1))) (λ b. inr (within_into q xs b)) i

-- The other way, for two lists of ranges with the same registers

abbrev opened : List Range → List Interval
opened [] = []
opened (x ∷ xs) = record { first = x.first; end = x.last + 1 } ∷ opened xs

canonical_opened : (xs : List Range) → Longest xs → Canonical (opened xs)
canonical_opened [] k = tt
canonical_opened (x ∷ xs) k = (omega (arith, k.0), (gap xs k.1.0, canonical_opened xs k.1.1))
  where
    gap : (ys : List Range) → GapAfter x.last ys → After (x.last + 1) (opened ys)
    gap [] a = tt
    gap (y ∷ ys) a = a

in_from : (q : ℕ) (xs : List Range) → Inside q (opened xs) → Within q xs
in_from q [] i = i
in_from q (x ∷ xs) i =
    ⊎_elim (λ (b : (x.first ≤ q) × (q < x.last + 1)). inl (b.0, omega (arith, b.1))) (λ b. inr (in_from q xs b)) i

in_into : (q : ℕ) (xs : List Range) → Within q xs → Inside q (opened xs)
in_into q [] w = w
in_into q (x ∷ xs) w =
    ⊎_elim (λ (b : (x.first ≤ q) × (q ≤ x.last)). inl (b.0, omega (arith, b.1))) (λ b. inr (in_into q xs b)) w

closed_opened : (xs : List Range) → closed (opened xs) ≡ xs
closed_opened [] = refl
closed_opened (x ∷ xs) = rw (same_last x.last, closed_opened xs)
  where
    same_last : (n : ℕ) → n + 1 - 1 ≡ n
    same_last n = omega arith

pub only_one : OnlyOne
only_one xs ys k l h =
    sym (closed_opened xs)
    ∙ (ap closed
    (unique.only (opened xs) (opened ys) (canonical_opened xs k) (canonical_opened ys l)
    (λ q. (λ i. in_into q ys ((h q).0 (in_from q xs i)), λ i. in_into q xs ((h q).1 (in_from q ys i)))))
    ∙ closed_opened ys)
