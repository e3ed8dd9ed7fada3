-- "Checks run in this order": of the run's checks that come before the search, which condition gives which
-- number exactly, with those before it not holding, by the documents' own numbers. What comes after them, 7,
-- 8 and acceptance, `Demand` says, both ways, where these let through. proofs/Order.antt proves both records
-- for any script, weights and slices.
-- Assumes nothing.
use Rattle.std.specs.Prelude.{◌≡◌, ◌↔◌, ◌⊎◌, true, false, List, ℕ, ◌≤◌, ◌<◌, length, get_or}
use Rattle.runs.specs.Script.{Script}
use Rattle.runs.specs.Weights.{refuses_weights, weights_place}
use Rattle.runs.specs.Run.{Run, run_of, number_of, place_of}

-- a weight of 0 at i
abbrev pub ZeroAt : List ℕ → ℕ → Type 0
ZeroAt weights i = (i < 128) × (get_or weights i 0 ≡ 0)

-- number 18 of a table
pub record WeightsRefused (weights : List ℕ) : Type 0 where
  -- "a weight count other than 128, or a weight of 0": these tables are refused, and no others
  pub refused : (refuses_weights weights ≡ true) ↔ ((length weights ≡ 128 → ⊥) ⊎ ((i : ℕ) × ZeroAt weights i))
  -- "the place is the lowest zero weight, or 0 for the count"
  pub count_place : (length weights ≡ 128 → ⊥) → weights_place weights ≡ 0
  pub zero_place : length weights ≡ 128 → refuses_weights weights ≡ true
      → ZeroAt weights (weights_place weights)
  pub lowest_place : length weights ≡ 128 → (i : ℕ) → ZeroAt weights i → weights_place weights ≤ i

module _ (ws : Script) (weights : List ℕ) (marks lengths : ℕ) where
  abbrev pub run_answer : Run
  run_answer = run_of ws weights marks lengths

  abbrev pub Fewer : Type 0
  Fewer = ws.size ≤ 32768

  abbrev pub Short : Type 0
  Short = (marks < ws.size) ⊎ (lengths < ws.size)

  abbrev pub Long : Type 0
  Long = (ws.size ≤ marks) × (ws.size ≤ lengths)

  -- 6 before 1, 18 before 6, 7 before 18, in definition and code alike, is refused here
  pub record Order : Type 0 where
    pub one : (number_of run_answer ≡ 1) ↔ (32768 < ws.size)
    pub six : (number_of run_answer ≡ 6) ↔ (Fewer × Short)
    pub eighteen : (number_of run_answer ≡ 18) ↔ (Fewer × Long × (refuses_weights weights ≡ true))
    pub seven : (number_of run_answer ≡ 7)
        ↔ (Fewer × Long × (refuses_weights weights ≡ false) × (ws.size ≡ 0))
    -- the place of 18 is the table's; 1, 6 and 7 name none
    pub place_18 : number_of run_answer ≡ 18 → place_of run_answer ≡ weights_place weights
    pub no_place : (number_of run_answer ≡ 18 → ⊥) → (number_of run_answer ≡ 8 → ⊥) → place_of run_answer ≡ 0
