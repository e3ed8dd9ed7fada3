-- What request C-23 supposes, held against what is needed, by pairs of lists that differ in one word and are
-- answered differently. "Next to": the word is not reachable, but stands next to a reachable one.
-- The smallest such pair has three words. It is the word before a reachable one that matters;
-- one that only stands after one may change too. "Reachable in the first", which is accepted:
-- the word is dead by the courses of the other list.
-- Assumes nothing.
use Rattle.std.specs.Prelude.{◌≡◌, List, [], ◌∷◌, ℕ, ◌+◌, ◌<◌, length, Err}
use Rattle.common.specs.Numbers.{«ACCEPTED»}
use Rattle.fields.specs.declared.version.Version.{Version}
use Rattle.fields.specs.declared.version.Version.TheVariants.{Lua54, Lua53}
use Rattle.fields.specs.lua54.Opcodes.{
  OP_MOVE,
  OP_LOADKX,
  OP_ADD,
  OP_MMBIN,
  OP_RETURN0,
  OP_TFORCALL,
  OP_TFORLOOP,
  OP_EXTRAARG,
}
use Rattle.fields.specs.lua53.Opcodes as opcodes53
use Rattle.graph.specs.Graph.{Reachable}
use Rattle.graph.specs.Marks.{mark_of}
use Rattle.common.specs.declared.refusal.Refusal.TheVariants.{ReachesInvalid}
use Rattle.runs.specs.Script.{script_of, lua54, graph_of}
use Rattle.runs.specs.Run.{Run, accepted_run, number_of, run_of}
use Rattle.runs.specs.Counted.{ones}
use Rattle.patches.specs.Alike.{SameAt}

-- the run of a list by itself, with all weights 1
abbrev run_alone : Version → List ℕ → Run
run_alone version ws = run_of (script_of version ws) ones (length ws) (length ws)

-- how many words the smallest pair has
abbrev pub smallest : ℕ
smallest = 3

-- with x at word 1, the word after LOADKX, which goes on at word 2
abbrev pub after_load : ℕ → List ℕ
after_load x = OP_LOADKX ∷ x ∷ OP_RETURN0 ∷ []

-- the same of 5.3
abbrev pub after_load53 : ℕ → List ℕ
after_load53 x = opcodes53.OP_LOADKX ∷ x ∷ opcodes53.OP_RETURN ∷ []

-- JMP with sJ 2
abbrev pub jump_over : ℕ
jump_over = 2147483832

-- with x at word 2, the word before MMBIN, to which JMP goes past it
abbrev pub before_metamethod : ℕ → List ℕ
before_metamethod x = jump_over ∷ OP_MOVE ∷ x ∷ OP_MMBIN ∷ OP_RETURN0 ∷ []

-- TFORPREP with Bx 1
abbrev pub prepare : ℕ
prepare = 32843

-- with x at word 2, the word that TFORPREP at word 0 enters
abbrev pub entered_loop : ℕ → List ℕ
entered_loop x = prepare ∷ OP_MOVE ∷ x ∷ OP_TFORLOOP ∷ OP_RETURN0 ∷ []

-- the lists differ only in words that are neither reachable in the first nor right before a reachable one
abbrev pub DifferBeforeNone : Version → List ℕ → List ℕ → Type 0
DifferBeforeNone version ws vs =
    (p : ℕ) → p < length ws → (SameAt ws vs p → ⊥)
    → (Reachable (graph_of (script_of version ws)) p → ⊥)
    × (Reachable (graph_of (script_of version ws)) (p + 1) → ⊥)

-- .. only in words that are not reachable in the first
abbrev pub DifferUnreachable : Version → List ℕ → List ℕ → Type 0
DifferUnreachable version ws vs =
    (p : ℕ) → p < length ws → (SameAt ws vs p → ⊥) → Reachable (graph_of (script_of version ws)) p → ⊥

pub record Needed : Type 0 where
  -- the smallest pair: "LOADKX 4 .. p+2 .. word p+1 is EXTRAARG"
  pub smallest_unreachable : mark_of (graph_of (lua54 (after_load OP_EXTRAARG))) 1 ≡ 0
  pub smallest_accepted : run_alone Lua54 (after_load OP_EXTRAARG) ≡ accepted_run 2 0
  pub smallest_refused : run_alone Lua54 (after_load OP_MOVE) ≡ Err (ReachesInvalid 0)
  -- of 5.3: request C-24, "LOADKX .. without EXTRAARG after it"
  pub smallest53_unreachable : mark_of (graph_of (script_of Lua53 (after_load53 opcodes53.OP_EXTRAARG))) 1 ≡ 0
  pub smallest53_accepted : run_alone Lua53 (after_load53 opcodes53.OP_EXTRAARG) ≡ accepted_run 2 0
  pub smallest53_refused : run_alone Lua53 (after_load53 opcodes53.OP_MOVE) ≡ Err (ReachesInvalid 0)
  -- and none is smaller, in either version
  pub none_smaller :
      (version : Version) (ws vs weights : List ℕ) (marks lengths : ℕ)
      → length ws < smallest → length ws ≡ length vs
      → number_of (run_of (script_of version ws) weights marks lengths) ≡ «ACCEPTED»
      → DifferUnreachable version ws vs
      → run_of (script_of version ws) weights marks lengths
      ≡ run_of (script_of version vs) weights marks lengths
  -- a word that stands before a reachable one and after none: "46 to 48 .. p > 0 and word p-1 is 21 to 45"
  pub before_unreachable : (mark_of (graph_of (lua54 (before_metamethod OP_ADD))) 1 ≡ 0)
      × (mark_of (graph_of (lua54 (before_metamethod OP_ADD))) 2 ≡ 0)
  pub before_accepted : run_alone Lua54 (before_metamethod OP_ADD) ≡ accepted_run 3 0
  pub before_refused : run_alone Lua54 (before_metamethod OP_MOVE) ≡ Err (ReachesInvalid 3)
  -- there is no pair for a word that stands after a reachable one and before none:
  -- this is more than the request asks
  pub after_alone :
      (version : Version) (ws vs weights : List ℕ) (marks lengths : ℕ) → length ws ≡ length vs
      → number_of (run_of (script_of version ws) weights marks lengths) ≡ «ACCEPTED»
      → DifferBeforeNone version ws vs
      → run_of (script_of version ws) weights marks lengths
      ≡ run_of (script_of version vs) weights marks lengths
  -- a word that is dead by the second list alone: "TFORPREP 75 .. that word is TFORCALL"
  pub second_unreachable :
      (mark_of (graph_of (lua54 (entered_loop OP_MOVE))) 1 ≡ 0)
      × (mark_of (graph_of (lua54 (entered_loop OP_MOVE))) 2 ≡ 0)
      × (mark_of (graph_of (lua54 (entered_loop OP_MOVE))) 3 ≡ 0)
  pub second_accepted : run_alone Lua54 (entered_loop OP_TFORCALL) ≡ accepted_run 4 0
  pub second_refused : run_alone Lua54 (entered_loop OP_MOVE) ≡ Err (ReachesInvalid 0)
