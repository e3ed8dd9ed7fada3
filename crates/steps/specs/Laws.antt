-- What callers go by: of the proofs here crates above cite `laws` of Laws.antt alone.
-- Assumes nothing.
use Rattle.std.specs.Prelude.{ℕ, List, length}
use Rattle.sweep.specs.Steps.{Below}
use Rattle.steps.specs.lua54.Successors as steps54
use Rattle.steps.specs.lua53.Successors as steps53
use Rattle.steps.specs.lua54.Lvm as lvm54
use Rattle.steps.specs.lua53.Lvm as lvm53
use Rattle.steps.specs.lua53.Bad as bad53
use Rattle.steps.specs.lua54.Bad as bad54

pub record Laws : Type 0 where
  -- the steps of a word are words, the lower first
  pub below54 : (ws : List ℕ) (p : ℕ) → Below (length ws) (steps54.successors_of ws p)
  pub below53 : (ws : List ℕ) (p : ℕ) → Below (length ws) (steps53.successors_of ws p)
  -- the steps of each version are its lvm.c's
  pub agreement : lvm54.Agreement
  pub agreement53 : lvm53.Agreement
  -- document 01's table of steps (RULES 2), by its own numbers
  pub by_numbers54 : bad54.ByNumber
  -- request C-24: the bad words and the next words of 5.3, by its own numbers
  pub by_numbers53 : bad53.ByNumber
