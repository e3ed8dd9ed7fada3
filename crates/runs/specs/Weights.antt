-- Request C-17, "A weight for every opcode": the table that the caller lends. No word is read here.
-- Assumes nothing.
use Rattle.std.specs.Prelude.{◌≡◌, Bool, false, cond, not, ◌||◌, List, ℕ, ◌≤◌, ltb, eqb, length, get_or}
use Rattle.std.specs.Prelude.{Result, Ok, Err, ⊤}
use Rattle.common.specs.Lowest.{lowest_from}
use Rattle.common.specs.Limits.{heaviest_weight}
use Rattle.common.specs.Chain.{refuse_if}
use Rattle.common.specs.declared.refusal.Refusal.{Refusal}
use Rattle.common.specs.declared.refusal.Refusal.TheVariants.{WeightsRefused}

-- "128 weights of 1 to 255"
abbrev pub weight_count : ℕ
weight_count = 128

-- "a weight of 0"
abbrev pub is_zero_at : List ℕ → ℕ → Bool
is_zero_at weights i = eqb (get_or weights i 0) 0

-- "the lowest zero weight"; the count if there is none
unfoldable pub lowest_zero : List ℕ → ℕ
lowest_zero weights = lowest_from (is_zero_at weights) 0 weight_count

-- number 18: "a weight count other than 128, or a weight of 0"
unfoldable pub refuses_weights : List ℕ → Bool
refuses_weights weights = not (eqb (length weights) weight_count) || ltb (lowest_zero weights) weight_count

-- "the place is the lowest zero weight, or 0 for the count"
unfoldable pub weights_place : List ℕ → ℕ
weights_place weights = cond (eqb (length weights) weight_count) (lowest_zero weights) 0

-- both: what number 18's check answers
unfoldable pub weights_answer : List ℕ → Result ⊤ Refusal
weights_answer weights =
    refuse_if (refuses_weights weights) (Err (WeightsRefused (weights_place weights))) (Ok tt)

-- a table that number 18 lets through, of bytes as every lent one is
pub record Weighs (weights : List ℕ) : Type 0 where
  pub accepted : refuses_weights weights ≡ false
  pub bytes : (i : ℕ) → get_or weights i 0 ≤ heaviest_weight
