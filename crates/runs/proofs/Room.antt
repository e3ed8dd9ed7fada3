-- What two lent slices have room for, where the check of the shorter one passes. Assumes nothing.
use mathlib.Core.Path.{◌≡◌, sym}
use Prim.Native.Nat.{ℕ, ◌≤◌, min}
use native.Mathlib.Omega.{arith}
use Rattle.std.specs.Prelude.{Ok, ⊤}
use Rattle.common.specs.Limits.{most_words}
use Rattle.common.specs.Chain.{room_answer}
use Rattle.common.proofs.Refusing.{room_ok}

pub record Room (n m l : ℕ) : Type 0 where
  pub few : n ≤ most_words
  pub marks : n ≤ m
  pub lengths : n ≤ l

pub room : {n m l r : ℕ} {t : ⊤} → r ≡ min m l → Ok t ≡ room_answer n r → Room n m l
room {n} {m} {l} {r} e h = let o = room_ok n r (sym h) in record { few = o.0; marks = omega (arith, o.1, e); lengths = omega (arith, o.1, e) }
