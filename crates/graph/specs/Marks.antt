-- The reachable marks, computed: a word is reachable if no more steps than there are words lead to it from
-- word 0. `Meaning` says what they mean.
-- Assumes nothing.
use Rattle.std.specs.Prelude.{Bool, false, cond, ◌||◌, List, [], ◌∷◌, ℕ, zero, suc, eqb}
use Rattle.graph.specs.Graph.{Graph}

-- a number of the list passes the test
abbrev pub some_of : (ℕ → Bool) → List ℕ → Bool
some_of t [] = false
some_of t (x ∷ xs) = t x || some_of t xs

-- at most k steps lead from p to q
unfoldable pub leads : Graph → ℕ → ℕ → ℕ → Bool
leads g zero p q = eqb p q
leads g (suc k) p q = eqb p q || some_of (λ s. leads g k s q) (g.successors p)

-- "1 if reachable, else 0"
unfoldable pub mark_of : Graph → ℕ → ℕ
mark_of g p = cond (leads g g.size 0 p) 1 0
