-- Some register below a number passes a test, or none does. Assumes nothing.
use mathlib.Core.Path.{◌≡◌, refl, sym, ap, subst, ◌∙◌}
use mathlib.Core.Logic.{⊎_elim}
use mathlib.Core.Bool.{Bool, true, false, ◌||◌, true≢false}
use Prim.Native.Nat.{ℕ, zero, suc, ◌≤◌, ◌<◌}
use native.Mathlib.Nat.{not-suc-le-zero}
use native.Mathlib.Omega.{arith}
use Rattle.common.proofs.Order.{same_or_not, past}
use Rattle.graph.specs.Assignment.{some_below}

-- no number below k passes the test
pub none-of : (t : ℕ → Bool) (k : ℕ) → ((r : ℕ) → r < k → t r ≡ false) → some_below t k ≡ false
unfolding some_below
none-of t zero h = refl
none-of t (suc k) h = rw (h k (omega arith), none-of t k (λ r l. h r (omega arith)))

-- one that does, and one that does not
pub some_at : (t : ℕ → Bool) (k r : ℕ) → r < k → t r ≡ true → some_below t k ≡ true
unfolding some_below
some_at t zero r h e = absurd (not-suc-le-zero h)
some_at t (suc k) r h e =
    ⊎_elim
    (λ d. let f : t k ≡ true = subst (λ (x : ℕ). t x ≡ true) d e in simp f)
    (λ n. go (t k) (some_at t k r (past (omega arith) (λ d. n (sym d))) e))
    (same_or_not r k)
  where
    go : (b : Bool) → some_below t k ≡ true → b || some_below t k ≡ true
    go true f = refl
    go false f = f

pub none_at : (t : ℕ → Bool) (k r : ℕ) → some_below t k ≡ false → r < k → t r ≡ false
none_at t k r e h = go (t r) refl
  where
    go : (b : Bool) → t r ≡ b → b ≡ false
    go true f = absurd (true≢false (sym (some_at t k r h f) ∙ e))
    go false f = refl

-- from m on none below k does
pub some_stays : (t : ℕ → Bool) (m k : ℕ) → m ≤ k → ((r : ℕ) → m ≤ r → r < k → t r ≡ false) → some_below t k ≡ some_below t m
unfolding some_below
some_stays t m zero l h = let e : m ≡ 0 = omega arith in ap (some_below t) (sym e)
some_stays t m (suc k) l h =
    ⊎_elim
    (λ d. ap (some_below t) (sym d))
    (λ d. let j : m ≤ k = omega (arith, past l (λ z. d (sym z))) in rw (h k j (omega arith)) (some_stays t m k j (λ r i b. h r i (omega arith))))
    (same_or_not m (suc k))
