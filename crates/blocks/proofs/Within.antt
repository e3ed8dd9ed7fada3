-- Registers in ranges. Assumes nothing.
use mathlib.Core.Path.{◌≡◌, refl}
use mathlib.Core.Logic.{◌↔◌, inl, inr, ⊎_elim}
use mathlib.Core.Bool.{Bool, true, false, cond, ◌&&◌, ◌||◌, or-false, false≢true}
use mathlib.Core.List.{List, [], ◌∷◌, ◌++◌}
use Prim.Native.Nat.{ℕ, ◌≤◌, ◌<◌, min, max}
use native.Mathlib.Omega.{arith}
use borrow.Author.Tests.{leb-true, le-leb, lt-leb}
use Rattle.common.proofs.Order.{split}
use lib.Dec.{leb}
use lib.ListN.{length, get_or, take}
use Rattle.std.proofs.Common.{add-one, ◌+◌}
use Rattle.std.proofs.Math.Seq.{take-suc}
use Rattle.locations.specs.declared.answer.Range.{Range}
use Rattle.locations.specs.Form.{Within}
use Rattle.blocks.specs.Uses.{in_range, in_ranges, end_of}
use Rattle.common.specs.Limits.{most_registers}
use Rattle.blocks.specs.Blocks.{next_register, next_in}

-- the test is that of the relation
in_within : (r : ℕ) (xs : List Range) → in_ranges r xs ≡ true → Within r xs
unfolding in_ranges
in_within r [] e = absurd (false≢true e)
in_within r (x ∷ xs) e = go (in_within r xs) (leb x.first r) refl (leb r x.last) refl e
  where
    go : (in_ranges r xs ≡ true → Within r xs) → (a : Bool) → leb x.first r ≡ a → (b : Bool)
        → leb r x.last ≡ b → (a && b) || in_ranges r xs ≡ true → Within r (x ∷ xs)
    go rec true d true f h = inl (leb-true x.first r d, leb-true r x.last f)
    go rec true d false f h = inr (rec h)
    go rec false d b f h = inr (rec h)

within_in : (r : ℕ) (xs : List Range) → Within r xs → in_ranges r xs ≡ true
unfolding in_ranges
within_in r [] w = absurd w
within_in r (x ∷ xs) (inl h) = rw (le-leb x.first r h.0, le-leb r x.last h.1)
within_in r (x ∷ xs) (inr w) = go (in_range r x) (within_in r xs w)
  where
    go : (b : Bool) → in_ranges r xs ≡ true → b || in_ranges r xs ≡ true
    go true e = refl
    go false e = e

pub in-ranges : (r : ℕ) (xs : List Range) → (in_ranges r xs ≡ true) ↔ Within r xs
in-ranges r xs = (in_within r xs, within_in r xs)

-- none is past the end
pub before_end : (r : ℕ) (xs : List Range) → Within r xs → r < end_of xs
unfolding end_of
before_end r [] w = absurd w
before_end r (x ∷ xs) (inl h) = omega (arith, h.1)
before_end r (x ∷ xs) (inr w) = omega (arith, before_end r xs w)

-- the next register, and none before it
next_of_from : (r : ℕ) (x : Range) → min r most_registers ≤ next_register r x
next_of_from r x = go (leb (max x.first r) x.last)
  where
    go : (b : Bool) → min r most_registers ≤ cond b (max x.first r) most_registers
    go true = omega arith
    go false = omega arith

pub next_from : (r : ℕ) (xs : List Range) → min r most_registers ≤ next_in r xs
unfolding next_in
next_from r [] = omega arith
next_from r (x ∷ xs) = omega (arith, next_of_from r x, next_from r xs)

next_of_at : (r q : ℕ) (x : Range) → r ≤ q → x.first ≤ q → q ≤ x.last → next_register r x ≤ q
next_of_at r q x l a b = rw (le-leb (max x.first r) x.last (omega arith)) (omega arith)

next_at : (r q : ℕ) (xs : List Range) → r ≤ q → Within q xs → next_in r xs ≤ q
unfolding next_in
next_at r q [] l w = absurd w
next_at r q (x ∷ xs) l (inl h) = omega (arith, next_of_at r q x l h.0 h.1)
next_at r q (x ∷ xs) l (inr w) = omega (arith, next_at r q xs l w)

pub next_none : (r q : ℕ) (xs : List Range) → r ≤ q → q < next_in r xs → in_ranges q xs ≡ false
next_none r q xs l h = go (in_ranges q xs) refl
  where
    go : (b : Bool) → in_ranges q xs ≡ b → b ≡ false
    go true e = absurd (omega (arith, next_at r q xs l (in_within q xs e)))
    go false e = refl

-- one range more

pub take_more : (i : ℕ) (xs : List Range) → i < length xs → take (i + 1) xs ≡ take i xs ++ get_or xs i (record { first = 0; last = 0 }) ∷ []
take_more i xs h = rw add-one (take-suc xs i _ h)

pub append_in : (s : ℕ) (xs : List Range) (x : Range) → in_ranges s (xs ++ x ∷ []) ≡ in_ranges s xs || in_range s x
unfolding in_ranges
append_in s [] x = or-false (in_range s x)
append_in s (y ∷ xs) x = go (in_range s y) (append_in s xs x)
  where
    go : (b : Bool) → in_ranges s (xs ++ x ∷ []) ≡ in_ranges s xs || in_range s x → b || in_ranges s (xs ++ x ∷ []) ≡ (b || in_ranges s xs) || in_range s x
    go true e = refl
    go false e = e

next_most : (r : ℕ) (x : Range) → x.last < most_registers → next_register r x ≤ most_registers
next_most r x h =
    ⊎_elim (λ d. rw (le-leb (max x.first r) x.last d) (omega arith)) (λ d. rw (lt-leb (max x.first r) x.last d) (omega arith))
    (split (max x.first r) x.last)

pub append_next : (r : ℕ) (xs : List Range) (x : Range) → x.last < most_registers → next_in r (xs ++ x ∷ []) ≡ min (next_in r xs) (next_register r x)
unfolding next_in
append_next r [] x h = let k = next_most r x h in omega arith
append_next r (y ∷ xs) x h = omega (arith, append_next r xs x h)

pub append_end : (xs : List Range) (x : Range) → end_of (xs ++ x ∷ []) ≡ max (end_of xs) (x.last + 1)
unfolding end_of
append_end [] x = omega arith
append_end (y ∷ xs) x = omega (arith, append_end xs x)
