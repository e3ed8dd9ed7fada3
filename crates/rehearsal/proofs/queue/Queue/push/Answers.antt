use Rattle.std.proofs.Common.{◌≡◌, ℕ, zero, suc, ◌+◌, ◌-◌, ◌<◌, ◌≤◌, List, [], ◌∷◌, ◌++◌, length, take, drop}
use Rattle.std.proofs.Common.{replicate, slice_set, ap, subst, arith, add-one, length-append, length-set, length-take-le}
use Rattle.std.proofs.lemmas.List.{length-replicate}
use Rattle.rehearsal.specs.declared.machine.Task.{Task}
use Rattle.rehearsal.specs.Machine.{task_at}
use Rattle.rehearsal.proofs.queue.Queue.push.Goals as goal

-- an item goes where the first w was
in_place : {A : Type 0} (k n : ℕ) (w t : A) (xs : List A) → take n xs ++ replicate (suc k) w ≡ xs
    → take (suc n) (slice_set xs n t) ++ replicate k w ≡ slice_set xs n t
in_place k zero w t [] e = cc
in_place k zero w t (x ∷ xs) e = ap (λ l. t ∷ l) (ap (drop 1) e)
in_place k (suc n) w t [] e = cc
in_place k (suc n) w t (x ∷ xs) e = ap (λ l. x ∷ l) (in_place k n w t xs (ap (drop 1) e))

pub invariant_of-self : goal.invariant_of-self
invariant_of-self c =
    let n : ℕ = c.self.inside.size in
    let ts : List Task = c.self.inside.tasks in
    let w : Task = task_at 0 0 in
    let room : n < 4 =
    omega (arith, length-take-le n ts c.self.invariant.0, ap length c.self.view_is, c.requires) in
    let within : n + 1 ≤ length (slice_set ts n c.args.task) =
    omega (
      arith,
      length-set ts n c.args.task,
      length-take-le n ts c.self.invariant.0,
      length-append (take n ts) (replicate (4 - n) w),
      length-replicate (4 - n) w,
      ap length c.self.invariant.1,
      room,
    ) in
    let before : 4 - n ≡ suc (3 - n) = omega (arith, room) in
    let after : 4 - suc n ≡ 3 - n = omega (arith, room) in
    let kept : take n ts ++ replicate (suc (3 - n)) w ≡ ts =
    subst (λ k. take n ts ++ replicate k w ≡ ts) before c.self.invariant.1 in
    (within, rw (add-one n, after) (in_place (3 - n) n w c.args.task ts kept))
