-- What a list has after a store. Assumes nothing.
use mathlib.Core.Path.{◌≡◌, ap, ◌∙◌}
use mathlib.Core.Logic.{◌⊎◌, inl, inr, ⊎_elim}
use mathlib.Core.List.{List}
use Prim.Native.Nat.{ℕ, ◌<◌}
use lib.ListN.{length, get_or, set}
use lib.Seq.{get_or-set_same, get_or-set_other}
use Rattle.common.proofs.Order.{same_or_not}

-- at x after a store of v at q
abbrev pub AtSet : List ℕ → ℕ → ℕ → ℕ → Type 0
AtSet l q v x = ((x ≡ q) × (get_or (set l q v) x 0 ≡ v)) ⊎ ((x ≡ q → ⊥) × (get_or (set l q v) x 0 ≡ get_or l x 0))

pub at_set : (l : List ℕ) (q v x : ℕ) → q < length l → AtSet l q v x
at_set l q v x h =
    ⊎_elim (λ e. inl (e, ap (λ (y : ℕ). get_or (set l q v) y 0) e ∙ get_or-set_same l q v 0 h))
    (λ n. inr (n, get_or-set_other l q x v 0 n)) (same_or_not x q)

-- a number that is stored once more stays where it is
pub stays : (l : List ℕ) (q v x : ℕ) → q < length l → get_or l x 0 ≡ v → get_or (set l q v) x 0 ≡ v
stays l q v x h e = ⊎_elim (λ w. w.1) (λ w. w.1 ∙ e) (at_set l q v x h)
