-- Which words the table of steps looks at: the steps of word p depend on the words p - 1, p and p + 1, and
-- on the word that TFORPREP enters. Of these, what lies ahead of a word that is not bad is on its way:
-- the word that TFORPREP enters is a step from it, and where p + 1 is looked at, it or p + 2 is.
-- Assumes nothing.
use Rattle.std.specs.Prelude.{◌≡◌, ◌⊎◌, Bool, true, false, List, ℕ, ◌+◌, ◌-◌, ◌<◌, length, get_or}
use Rattle.fields.specs.lua54.Opcodes.{OP_TFORPREP}
use Rattle.fields.specs.lua54.Word.{bx_of}
use Rattle.fields.specs.lua54.Table.{
  Companion,
  alone,
  metamethod_after,
  arithmetic_before,
  jump_after,
  extra_after,
  extra_after_if_k,
  call_at_target,
  loop_after,
  companion_of,
}
use Rattle.graph.specs.Graph.{In, Reachable}
use Rattle.patches.specs.Alike.{SameAt}
use Rattle.sweep.specs.declared.edges.Successors.TheVariants.{One}
use Rattle.runs.specs.Script.{lua54, graph_of}
use Rattle.sweep.specs.Steps.{is_invalid, list_of}
use Rattle.steps.specs.lua54.Successors.{opcode_at, successors_of}

-- the rows of "Bad unless" that speak of word p+1
abbrev pub speaks_of_next : Companion → Bool
speaks_of_next metamethod_after = true
speaks_of_next arithmetic_before = false
speaks_of_next jump_after = true
speaks_of_next extra_after = true
speaks_of_next extra_after_if_k = true
speaks_of_next call_at_target = false
speaks_of_next loop_after = true
speaks_of_next alone = false

abbrev pub looks_at_next : List ℕ → ℕ → Bool
looks_at_next ws p = speaks_of_next (companion_of (opcode_at ws p))

-- the table's "p+1+Bx", at TFORPREP the word that must be TFORCALL
abbrev pub entered_by : List ℕ → ℕ → ℕ
entered_by ws p = p + 1 + bx_of (get_or ws p 0)

-- two lists that are equally long and hold the same wherever the table of steps looks for word p
pub record SameAround (ws vs : List ℕ) (p : ℕ) : Type 0 where
  pub count : length ws ≡ length vs
  pub itself : SameAt ws vs p
  -- "p > 0 and word p-1 is 21 to 45"
  pub before : 0 < p → SameAt ws vs (p - 1)
  -- "word p+1 is 46 to 48", ".. is JMP", ".. is EXTRAARG", ".. is TFORLOOP"
  pub after : looks_at_next ws p ≡ true → SameAt ws vs (p + 1)
  -- "that word is TFORCALL"
  pub entered : opcode_at ws p ≡ OP_TFORPREP → SameAt ws vs (entered_by ws p)

pub record Reading : Type 0 where
  -- the table looks at no other word
  pub same : (ws vs : List ℕ) (p : ℕ) → SameAround ws vs p → successors_of ws p ≡ successors_of vs p
  -- the word that TFORPREP enters is its one step
  pub enters : (ws : List ℕ) (p : ℕ) → opcode_at ws p ≡ OP_TFORPREP → is_invalid (successors_of ws p) ≡ false
      → successors_of ws p ≡ One (entered_by ws p)
  -- so that it is reachable if TFORPREP is
  pub entered_reachable :
      (ws : List ℕ) (p : ℕ) → opcode_at ws p ≡ OP_TFORPREP → is_invalid (successors_of ws p) ≡ false
      → Reachable (graph_of (lua54 ws)) p
      → Reachable (graph_of (lua54 ws)) (entered_by ws p)
  -- a word that looks at the next one goes on to it or to the one behind it
  pub goes-on :
      (ws : List ℕ) (p : ℕ) → looks_at_next ws p ≡ true → is_invalid (successors_of ws p) ≡ false
      → In (p + 1) (list_of (successors_of ws p)) ⊎ In (p + 2) (list_of (successors_of ws p))
