use Rattle.std.proofs.Common.{◌≡◌, ℕ, zero, suc, ◌≤◌, List, [], ◌∷◌, length, take, IsTrue, nat_eq, refl, arith}
use Rattle.rehearsal.proofs.queue.Queue.is_empty.Goals as goal

none_taken : {A : Type 0} (n : ℕ) (xs : List A) → n ≤ length xs → take n xs ≡ [] → IsTrue (nat_eq n 0)
none_taken zero xs h e = refl
none_taken (suc n) [] h e = absurd (omega arith)
none_taken (suc n) (x ∷ xs) h e = cc

pub returns : goal.returns
returns c = grind (arith, none_taken c.self.inside.size c.self.inside.tasks)
