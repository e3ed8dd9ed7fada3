-- A test of every number below n, which antt computes, and what it says of each.
-- Assumes nothing.
use Prim.Native.Nat.{ℕ, zero, suc, ◌<◌}
use mathlib.Core.Path.{◌≡◌, refl, sym, subst}
use mathlib.Core.Bool.{Bool, true, false, cond}
use native.Mathlib.Omega.{arith}
use lib.Dec.{T, eqb}
use Rattle.fields.specs.Laws.{all}
use borrow.Author.Tests.{eqb-true, eqb-false}

left_of : (a b : Bool) → T (cond a b false) → T a
left_of true b t = tt
left_of false b t = t

right_of : (a b : Bool) → T (cond a b false) → T b
right_of true b t = t
right_of false b t = absurd t

pub all_at : (f : ℕ → Bool) (n : ℕ) → T (all f n) → (o : ℕ) → o < n → T (f o)
all_at f zero t o h = absurd (omega arith)
all_at f (suc n) t o h = go (eqb o n) refl (λ k. all_at f n (right_of (f n) (all f n) t) o k)
  where
    go : (b : Bool) → eqb o n ≡ b → (o < n → T (f o)) → T (f o)
    go true e lower = subst (λ (m : ℕ). T (f m)) (sym (eqb-true o n e)) (left_of (f n) (all f n) t)
    go false e lower =
        let different : o ≡ n → ⊥ = eqb-false o n e in
        lower (omega arith)
