-- The scripts as the code lends them on.
-- Assumes nothing.
use Rattle.std.proofs.Common.{◌≡◌, ℕ, zero, suc, ◌<◌, List, refl, arith}
use Rattle.std.specs.Borrow.{Bor}
use Rattle.rehearsal.specs.Rehearse.{script_at, lent_at}

-- the lists that the code lends on, by their numbers
pub lent_same : (scripts : List (Bor (List ℕ))) (i : ℕ) → i < 4
    → script_at (lent_at scripts 0) (lent_at scripts 1) (lent_at scripts 2) (lent_at scripts 3) i ≡ lent_at scripts i
lent_same scripts zero h = refl
lent_same scripts (suc zero) h = refl
lent_same scripts (suc (suc zero)) h = refl
lent_same scripts (suc (suc (suc zero))) h = refl
lent_same scripts (suc (suc (suc (suc i)))) h = absurd (omega arith)
