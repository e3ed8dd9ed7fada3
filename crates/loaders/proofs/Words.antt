-- A number of eight bytes is two of four. Assumes nothing.
use Rattle.std.proofs.Common.{◌≡◌, ℕ, ◌+◌, ◌*◌, List, arith}
use Rattle.loaders.specs.Reading.{little_end}

pub two_words : (bytes : List ℕ) (at : ℕ) → little_end 4 bytes at + 4294967296 * little_end 4 bytes (at + 4) ≡ little_end 8 bytes at
unfolding little_end
two_words bytes at =
    let e : at + 1 + 1 + 1 + 1 ≡ at + 4 = omega arith in
    rw e (omega arith)
