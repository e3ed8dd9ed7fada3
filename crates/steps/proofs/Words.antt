-- The laws of specs/lua54/Successors.antt: a word by the columns of its opcode, and what holds of its steps, by the table's clauses.
-- Assumes nothing.
use Prim.Native.Nat.{ℕ, ◌+◌, ◌<◌, ◌≤◌}
use mathlib.Core.Path.{◌≡◌}
use mathlib.Core.List.{List}
use lib.Dec.{ltb, eqb}
use lib.IntN.{pos}
use lib.ListN.{length, get_or}
use borrow.Author.Tests.{lt-ltb, le-ltb}
use Rattle.common.specs.Limits.{most_words}
use Rattle.fields.specs.lua54.Word.{k_of}
use Rattle.fields.specs.lua54.Table.{StepClass, following, returning, branching, skipping, skipping_if_k, jumping}
use Rattle.fields.specs.lua54.Table.{looping, preparing, entering, invalid, class_of, companion_of}
use Rattle.sweep.specs.declared.edges.Successors.TheVariants.{Invalid}
use Rattle.steps.specs.lua54.Columns.{class_from, companion_from}
use Rattle.sweep.specs.Steps.{unless, one, Below}
use Rattle.steps.specs.lua54.Successors.{opcode_at, next_of, stands_at, companion_present, successors_of}
use Rattle.sweep.specs.Entries.{Packs}
use Rattle.sweep.proofs.Steps.{let_through, by_test, picked, one_below, two_below, Nexts, nexts_picked, nexts_unless, nexts_one, nexts_up, nexts_down}
use Rattle.sweep.proofs.Settling.{packs_of}

-- a word, by the columns of its opcode
module _ (ws : List ℕ) (p : ℕ) where
  pub outside : length ws ≤ p → successors_of ws p ≡ Invalid
  unfolding successors_of unless
  outside h = rw (le-ltb p (length ws) h)

  -- within the words, by the numbers of the two columns
  module _ (companion class : ℕ) (inside : p < length ws)
      (d : companion_from companion ≡ companion_of (opcode_at ws p))
      (e : class_from class ≡ class_of (opcode_at ws p)) where
    pub by_columns : unless (stands_at (companion_from companion) ws p) (next_of (class_from class) (length ws) (get_or ws p 0) p) ≡ successors_of ws p
    unfolding successors_of companion_present
    by_columns = rw (d, e) (let_through (ltb p (length ws)) _ (lt-ltb p (length ws) inside))

-- the steps are words
next_below : (x : StepClass) (n w p : ℕ) → Below n (next_of x n w p)
next_below returning n w p = tt
next_below branching n w p = two_below n _ _
next_below skipping n w p = one_below n _
next_below skipping_if_k n w p = picked n (eqb (k_of w) 1) _ _ (λ e. one_below n (pos (p + 2))) (one_below n (pos (p + 1)))
next_below jumping n w p = one_below n _
next_below looping n w p = two_below n _ _
next_below preparing n w p = two_below n _ _
next_below entering n w p = one_below n _
next_below invalid n w p = tt
next_below following n w p = one_below n _

pub below : (ws : List ℕ) (p : ℕ) → Below (length ws) (successors_of ws p)
unfolding successors_of
below ws p =
    by_test (length ws) (ltb p (length ws)) _ λ e. by_test (length ws) (companion_present ws p) _ λ d.
    next_below (class_of (opcode_at ws p)) (length ws) (get_or ws p 0) p

-- and of two one is the next word, so that they have an entry
module _ (p : ℕ) where
  nexts_of : (x : StepClass) (n w : ℕ) → Nexts p (next_of x n w p)
  nexts_of returning n w = tt
  nexts_of branching n w = nexts_up p n _
  nexts_of skipping n w = nexts_one p n _
  nexts_of skipping_if_k n w = nexts_picked p (eqb (k_of w) 1) (one n (pos (p + 2))) (one n (pos (p + 1))) (nexts_one p n _) (nexts_one p n _)
  nexts_of jumping n w = nexts_one p n _
  nexts_of looping n w = nexts_down p n _
  nexts_of preparing n w = nexts_up p n _
  nexts_of entering n w = nexts_one p n _
  nexts_of invalid n w = tt
  nexts_of following n w = nexts_one p n _

  nexts : (ws : List ℕ) → Nexts p (successors_of ws p)
  unfolding successors_of
  nexts ws = nexts_unless p (ltb p (length ws)) _ (nexts_unless p (companion_present ws p) _ (nexts_of (class_of (opcode_at ws p)) (length ws) (get_or ws p 0)))

  pub packs : (ws : List ℕ) → length ws ≤ most_words → Packs p (successors_of ws p)
  packs ws f = packs_of p (length ws) (successors_of ws p) f (below ws p) (nexts ws)
