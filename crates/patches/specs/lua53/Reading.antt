-- Request C-24: which words the table of steps of 5.3 looks at. The steps of word p depend on the words p and
-- p + 1 alone, and where p + 1 is looked at, it or p + 2 is on the way of a word that is not bad.
-- Assumes nothing.
use Rattle.std.specs.Prelude.{◌≡◌, ◌⊎◌, Bool, true, false, List, ℕ, ◌+◌, length}
use Rattle.fields.specs.lua53.Table.{
  Companion,
  alone,
  jump_after,
  extra_after,
  extra_after_unless_c,
  loop_after,
  companion_of,
}
use Rattle.graph.specs.Graph.{In}
use Rattle.sweep.specs.Steps.{is_invalid, list_of}
use Rattle.steps.specs.lua53.Successors.{opcode_at, successors_of}
use Rattle.patches.specs.Alike.{SameAt}

-- the companions that are word p+1: all that there are
abbrev pub speaks_of_next : Companion → Bool
speaks_of_next jump_after = true
speaks_of_next extra_after = true
speaks_of_next extra_after_unless_c = true
speaks_of_next loop_after = true
speaks_of_next alone = false

abbrev pub looks_at_next : List ℕ → ℕ → Bool
looks_at_next ws p = speaks_of_next (companion_of (opcode_at ws p))

-- two lists that are equally long and hold the same wherever the table looks for word p
pub record SameAround (ws vs : List ℕ) (p : ℕ) : Type 0 where
  pub count : length ws ≡ length vs
  pub itself : SameAt ws vs p
  pub after : looks_at_next ws p ≡ true → SameAt ws vs (p + 1)

pub record Reading : Type 0 where
  -- the table looks at no other word
  pub same : (ws vs : List ℕ) (p : ℕ) → SameAround ws vs p → successors_of ws p ≡ successors_of vs p
  -- a word that looks at the next one goes on to it or to the one behind it
  pub goes-on :
      (ws : List ℕ) (p : ℕ) → looks_at_next ws p ≡ true → is_invalid (successors_of ws p) ≡ false
      → In (p + 1) (list_of (successors_of ws p)) ⊎ In (p + 2) (list_of (successors_of ws p))
