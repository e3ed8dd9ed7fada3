-- A loop that stores f i into element i of a list, for the first n. Assumes nothing.
use mathlib.Core.Path.{◌≡◌, refl, sym, ap, ◌∙◌}
use mathlib.Core.Logic.{⊎_elim}
use mathlib.Core.List.{List}
use Prim.Native.Nat.{ℕ, ◌+◌, ◌≤◌, ◌<◌}
use native.Mathlib.Omega.{arith}
use lib.ListN.{length, get_or, drop, set, length-set}
use lib.Seq.{drop-set-lt, get_or-set_other}
use Rattle.common.specs.Lists.{over}
use Rattle.common.proofs.Over.{over_laws}
use Rattle.common.proofs.Stores.{at_set}

-- i of the n elements are stored; l₀ is the list as it was
pub record Writing (f : ℕ → ℕ) (n : ℕ) (l₀ l : List ℕ) (i : ℕ) : Type 0 where
  pub upto : i ≤ n
  pub long : n ≤ length l₀
  pub same : length l ≡ length l₀
  pub each : (p : ℕ) → p < i → get_or l p 0 ≡ f p
  pub past : drop n l ≡ drop n l₀

module _ (f : ℕ → ℕ) (n : ℕ) (l₀ : List ℕ) where
  pub writing_none : n ≤ length l₀ → Writing f n l₀ l₀ 0
  writing_none h = record { upto = omega arith; long = h; same = refl; each = λ p b. absurd (omega arith); past = refl }

  pub writing_more : {l : List ℕ} {i v : ℕ} → Writing f n l₀ l i → i < n → v ≡ f i → Writing f n l₀ (set l i v) (i + 1)
  writing_more {l} {i} {v} w h e =
      record {
        upto = omega arith;
        long = w.long;
        same = simp length-set w.same;
        each = λ p b. ⊎_elim (λ a. a.1 ∙ e ∙ ap f (sym a.0)) (λ a. a.1 ∙ w.each p (below p b a.0)) (at_set l i v p (omega (arith, w.same, w.long)));
        past = drop-set-lt n l i v h ∙ w.past;
      }
    where
      below : (p : ℕ) → p < i + 1 → (p ≡ i → ⊥) → p < i
      below p b k = omega arith

  pub writing_done : {l : List ℕ} {i : ℕ} → Writing f n l₀ l i → n ≤ i → l ≡ over f n l₀
  writing_done {l} {i} w h = over_laws.is f n l₀ l (omega (arith, w.same, w.long)) (λ p b. w.each p (omega arith)) w.past

-- the elements that are not stored yet are as they were
abbrev pub Ahead : List ℕ → List ℕ → ℕ → Type 0
Ahead l₀ l i = (p : ℕ) → i ≤ p → get_or l p 0 ≡ get_or l₀ p 0

pub ahead_more : (l₀ l : List ℕ) (i v : ℕ) → Ahead l₀ l i → Ahead l₀ (set l i v) (i + 1)
ahead_more l₀ l i v a p h = get_or-set_other l i p v 0 (λ e. omega arith) ∙ a p (omega arith)
