-- Two numbers are in one order or the other: common's law, the lower first. Assumes nothing.
use mathlib.Core.Logic.{◌⊎◌, inl, inr, ⊎_elim}
use Prim.Native.Nat.{ℕ, ◌≤◌, ◌<◌}
use Rattle.common.proofs.Order as order

pub split : (a b : ℕ) → (a < b) ⊎ (b ≤ a)
split a b = ⊎_elim (λ h. inr h) (λ h. inl h) (order.split b a)
