use Rattle.std.proofs.Common.{◌≡◌, ℕ, length, replicate, sym}
use lib.ListN.{length-replicate}
use Rattle.command.proofs.rooms.bytes.Goals as goal

counted : {A : Type 0} (n : ℕ) (x : A) → n ≡ length (replicate n x)
counted n x = sym (length-replicate n x)

pub returns : goal.returns
returns c = counted {A = ℕ} 4194304 0
