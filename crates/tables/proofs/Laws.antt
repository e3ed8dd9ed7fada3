-- What callers go by of how many records are written: where they are, there is room for as many.
-- Assumes nothing.
use Prim.Native.Nat.{ℕ, ◌<◌, ◌≤◌}
use mathlib.Core.Path.{◌≡◌, refl}
use mathlib.Core.List.{List}
use native.Mathlib.Omega.{arith}
use Rattle.std.proofs.lemmas.Bool.Decides.{nat_tests}
use Rattle.std.specs.Prelude.{Result, Ok, Err, ⊤}
use Rattle.common.specs.declared.refusal.Refusal.{Refusal}
use Rattle.common.specs.Limits.{most_words}
use Rattle.tables.specs.Refusals.{answer_of, written}
use Rattle.tables.specs.Laws.{WrittenLaws}

module _ (n : ℕ) (tags payloads names : List ℕ) (bytes room : ℕ) where
  -- what an accepted function keeps within
  pub all_passed : (u : ⊤) → answer_of n tags payloads names bytes room ≡ Ok u → (n ≤ most_words) × (n ≤ room)
  unfolding answer_of
  all_passed u e = (grind (arith, nat_tests), grind (arith, nat_tests))

  within_at : (answer : Result ⊤ Refusal) → answer_of n tags payloads names bytes room ≡ answer
      → (written n answer ≤ n) × ((written n answer ≤ room) × ((i : ℕ) → i < written n answer → n ≤ most_words))
  within_at (Ok u) e = let a = all_passed u e in (omega arith, (a.1, λ i h. a.0))
  within_at (Err refusal) e = (omega arith, (omega arith, λ i h. absurd (omega arith)))

  pub written_laws : WrittenLaws n tags payloads names bytes room
  written_laws =
      let w = within_at (answer_of n tags payloads names bytes room) refl in
      record { within_words = w.0; within_room = w.1.0; few-words = w.1.1 }
