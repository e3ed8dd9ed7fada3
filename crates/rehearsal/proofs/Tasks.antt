-- The scripts in the queue at the start.
-- Assumes nothing.
use Rattle.std.proofs.Common.{◌≡◌, ℕ, zero, suc, ◌+◌, List, [], ◌∷◌, ◌++◌, length, refl, ap, arith}
use Rattle.rehearsal.specs.declared.machine.Task.{Task}
use Rattle.rehearsal.specs.Machine.{task_at, tasks_from}

pub tasks_length : (i k : ℕ) → length (tasks_from i k) ≡ k
tasks_length i zero = refl
tasks_length i (suc k) = ap suc (tasks_length (suc i) k)

more_from : (i k : ℕ) → tasks_from i (suc k) ≡ tasks_from i k ++ (task_at (i + k) 0 ∷ [])
more_from i zero = let e : i + 0 ≡ i = omega arith in rw e
more_from i (suc k) =
    let e : suc i + k ≡ i + suc k = omega arith in
    ap (λ (l : List Task). task_at i 0 ∷ l) (rw e at (more_from (suc i) k))

pub tasks_more : (k : ℕ) → tasks_from 0 (k + 1) ≡ tasks_from 0 k ++ (task_at k 0 ∷ [])
tasks_more k =
    let e : 0 + k ≡ k = omega arith in
    let f : k + 1 ≡ suc k = omega arith in
    rw f (rw e at (more_from 0 k))
