-- The table of weights: a zero among the first ones, and what number 18 lets through. Assumes nothing.
use mathlib.Core.Path.{◌≡◌, refl, sym, ap, ◌∙◌}
use mathlib.Core.Logic.{⊎_elim}
use mathlib.Core.Bool.{Bool, true, false, not, true≢false, false≢true}
use mathlib.Core.List.{List}
use Prim.Native.Nat.{ℕ, ◌+◌, ◌≤◌, ◌<◌}
use native.Mathlib.Omega.{arith}
use borrow.Author.Tests.{eqb-true, eqb-false, eq-eqb, ne_eqb, lt-ltb, le-ltb, ltb-false, not-false}
use Rattle.std.specs.Prelude.{nat_eq}
use Rattle.std.specs.List.{position, position_or_len}
use Rattle.std.specs.Option.{unwrap_or}
use lib.Dec.{ltb, eqb}
use lib.ListN.{length, get_or}
use Rattle.common.proofs.Tests.{neither}
use Rattle.common.specs.Lowest.{lowest_from}
use Rattle.common.proofs.Lowest.{lowest_laws, first_item}
use Rattle.common.proofs.Order.{split, same_or_not}
use Rattle.runs.specs.Weights.{weight_count, is_zero_at, lowest_zero, refuses_weights, weights_place}
use Rattle.runs.specs.Laws.{Weighing}

-- what `lowest_zero` is
abbrev zero_from : List ℕ → ℕ
zero_from weights = lowest_from (is_zero_at weights) 0 weight_count

-- two tests that both fail
-- one of the first i weights is 0
pub record Zeros (weights : List ℕ) (i : ℕ) (zero : Bool) : Type 0 where
  pub upto : i ≤ weight_count
  pub found : zero ≡ true → (p : ℕ) × (p < i) × (get_or weights p 0 ≡ 0)
  pub none : zero ≡ false → (p : ℕ) → p < i → get_or weights p 0 ≡ 0 → ⊥

module _ (weights : List ℕ) where
  pub zeros_none : Zeros weights 0 false
  zeros_none = record { upto = omega arith; found = λ e. absurd (false≢true e); none = λ e p h. absurd (omega arith) }

  module _ {i : ℕ} {zero : Bool} (z : Zeros weights i zero) (h : i < weight_count) where
    pub zeros_here : get_or weights i 0 ≡ 0 → Zeros weights (i + 1) true
    zeros_here e = record { upto = omega arith; found = λ t. (i, omega arith, e); none = λ t. absurd (true≢false t) }

    pub zeros_on : (get_or weights i 0 ≡ 0 → ⊥) → Zeros weights (i + 1) zero
    zeros_on n =
        record {
          upto = omega arith;
          found = λ t. let f = z.found t in (f.0, omega (arith, f.1), f.2);
          none = λ t p l e. ⊎_elim (λ d. n (ap (λ (x : ℕ). get_or weights x 0) (sym d) ∙ e)) (λ d. z.none t p (omega (arith, l, d)) e) (same_or_not p i);
        }

  pub zeros_done : {i : ℕ} {zero : Bool} → Zeros weights i zero → weight_count ≤ i → zero ≡ ltb (lowest_zero weights) weight_count
  unfolding lowest_zero
  zeros_done {i} {zero} z h = go zero refl
    where
      go : (b : Bool) → zero ≡ b → b ≡ ltb (zero_from weights) weight_count
      go true e =
          let f = z.found e in
          ⊎_elim
          (λ d. absurd (eqb-false _ _
          ((lowest_laws.first (is_zero_at weights) 0 weight_count).not_before f.0 (omega arith)
          (omega (arith, d, f.1, z.upto)))
          f.2))
          (λ d. sym (lt-ltb _ _ d))
          (split weight_count (zero_from weights))
      go false e =
          ⊎_elim
          (λ d. sym (le-ltb _ _ d))
          (λ d. absurd
          (z.none e (zero_from weights) (omega (arith, d, h)) (eqb-true _ _
          ((lowest_laws.first (is_zero_at weights) 0 weight_count).holds (omega (arith, d))))))
          (split weight_count (zero_from weights))

  -- the two checks of number 18
  pub refuses_count : (length weights ≡ weight_count → ⊥) → true ≡ refuses_weights weights
  unfolding refuses_weights
  refuses_count n = simp (ne_eqb (length weights) weight_count n)

  pub refuses_zero : {t : Bool} → length weights ≡ weight_count → t ≡ ltb (lowest_zero weights) weight_count → t ≡ refuses_weights weights
  unfolding refuses_weights
  refuses_zero e d = d ∙ simp (eq-eqb (length weights) weight_count e)

  pub place_count : (length weights ≡ weight_count → ⊥) → 0 ≡ weights_place weights
  unfolding weights_place
  place_count n = simp (ne_eqb (length weights) weight_count n)

  pub place_found : {i : ℕ} → length weights ≡ weight_count → i ≡ unwrap_or (position (λ x. nat_eq x 0) weights) weight_count → i ≡ weights_place weights
  unfolding weights_place lowest_zero
  place_found {i} e d =
      let f : position_or_len (λ x. nat_eq x 0) weights ≡ zero_from weights = first_item (λ x. nat_eq x 0) weights 0 ∙ ap (lowest_from (is_zero_at weights) 0) e in
      d ∙ rw (e, f)
      (⊎_elim (λ h. rw (le-ltb (zero_from weights) weight_count h) (omega (arith, h, (lowest_laws.first (is_zero_at weights) 0 weight_count).upto)))
      (λ h. rw (lt-ltb (zero_from weights) weight_count h)) (split weight_count (zero_from weights)))

pub weight_laws : (weights : List ℕ) → refuses_weights weights ≡ false → Weighing weights
unfolding refuses_weights lowest_zero
weight_laws weights e =
    let n = neither (not (eqb (length weights) weight_count)) (ltb (zero_from weights) weight_count) e in
    let l = ltb-false (zero_from weights) weight_count n.1 in
    let each : (i : ℕ) → i < weight_count → 0 < get_or weights i 0 =
    λ i h. positive (eqb-false _ _ ((lowest_laws.first (is_zero_at weights) 0 weight_count).not_before i (omega arith) (omega (arith, l, h)))) in
    record {
      count = eqb-true _ _ (not-false (eqb (length weights) weight_count) n.0);
      each = each;
      some = λ ws sound p. each (ws.slot p) (sound.slots p);
    }
  where
    positive : {x : ℕ} → (x ≡ 0 → ⊥) → 0 < x
    positive {x} h = omega arith
