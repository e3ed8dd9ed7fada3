-- Document 01, "Steps", RULES 2: the successors of word p of the words ws of Lua 5.4.
-- Assumes nothing.
use Rattle.std.specs.Prelude.{ℕ, ◌+◌, ◌-◌, Bool, true, cond, ◌&&◌, List, ltb, leb, eqb, pos, ◌+ℤ◌, ◌-ℤ◌}
use Rattle.std.specs.Prelude.{length, get_or}
use Rattle.fields.specs.lua54.Opcodes.{
  OP_ADDI,
  OP_SHR,
  OP_MMBIN,
  OP_MMBINK,
  OP_JMP,
  OP_TFORCALL,
  OP_TFORLOOP,
  OP_EXTRAARG,
}
use Rattle.fields.specs.lua54.Word.{opcode_of, k_of, bx_of, sj_of}
use Rattle.fields.specs.lua54.Table.{
  StepClass,
  following,
  returning,
  branching,
  skipping,
  skipping_if_k,
  jumping,
  looping,
  preparing,
  entering,
  invalid,
  class_of,
  Companion,
  alone,
  metamethod_after,
  arithmetic_before,
  jump_after,
  extra_after,
  extra_after_if_k,
  call_at_target,
  loop_after,
  companion_of,
}
use Rattle.graph.specs.Graph.{member}
use Rattle.sweep.specs.declared.edges.Successors.{Successors}
use Rattle.sweep.specs.declared.edges.Successors.TheVariants.{Invalid, Stop}
use Rattle.sweep.specs.Steps.{unless, one, two, list_of}

-- the opcode of word i; past the end it is that of 0, MOVE, which is no row's companion
unfoldable pub opcode_at : List ℕ → ℕ → ℕ
opcode_at ws i = opcode_of (get_or ws i 0)

-- whether an opcode is one of those from the first to the last
unfoldable pub is_between : ℕ → ℕ → ℕ → Bool
is_between first last opcode = leb first opcode && leb opcode last

-- "Next word", a clause for each kind of the table of steps: the steps of word p, w, of n
-- words whose companion is there
abbrev pub next_of : StepClass → ℕ → ℕ → ℕ → Successors
-- none
next_of returning n w p = Stop
-- p+1, p+2
next_of branching n w p = two n (pos (p + 1)) (pos (p + 2))
-- p+2
next_of skipping n w p = one n (pos (p + 2))
-- "SETLIST 78 if its k is 1": p+2; else as all others p+1
next_of skipping_if_k n w p = cond (eqb (k_of w) 1) (one n (pos (p + 2))) (one n (pos (p + 1)))
-- p+1+sJ
next_of jumping n w p = one n (pos (p + 1) +ℤ sj_of w)
-- p+1-Bx, p+1
next_of looping n w p = two n (pos (p + 1) -ℤ pos (bx_of w)) (pos (p + 1))
-- p+1, p+2+Bx
next_of preparing n w p = two n (pos (p + 1)) (pos (p + 2 + bx_of w))
-- p+1+Bx
next_of entering n w p = one n (pos (p + 1 + bx_of w))
-- none: always bad
next_of invalid n w p = Invalid
-- p+1
next_of following n w p = one n (pos (p + 1))

-- "Bad unless", a clause for each kind of the table of steps: the companion of word p
-- stands where it is wanted
abbrev pub stands_at : Companion → List ℕ → ℕ → Bool
-- word p+1 is 46 to 48
stands_at metamethod_after ws p = is_between OP_MMBIN OP_MMBINK (opcode_at ws (p + 1))
-- p > 0 and word p-1 is 21 to 45
stands_at arithmetic_before ws p = ltb 0 p && is_between OP_ADDI OP_SHR (opcode_at ws (p - 1))
-- word p+1 is JMP
stands_at jump_after ws p = eqb (opcode_at ws (p + 1)) OP_JMP
-- word p+1 is EXTRAARG
stands_at extra_after ws p = eqb (opcode_at ws (p + 1)) OP_EXTRAARG
-- the same for "SETLIST 78 if its k is 1"
stands_at extra_after_if_k ws p = cond (eqb (k_of (get_or ws p 0)) 1)
    (eqb (opcode_at ws (p + 1)) OP_EXTRAARG) true
-- p+1+Bx: that word is TFORCALL
stands_at call_at_target ws p = eqb (opcode_at ws (p + 1 + bx_of (get_or ws p 0))) OP_TFORCALL
-- p+1: that word is TFORLOOP
stands_at loop_after ws p = eqb (opcode_at ws (p + 1)) OP_TFORLOOP
-- nothing is asked
stands_at alone ws p = true

-- whether the companion that word p wants is there
unfoldable pub companion_present : List ℕ → ℕ → Bool
companion_present ws p = stands_at (companion_of (opcode_at ws p)) ws p

-- the steps of word p. "A bad word has no steps, nor has a word number of n or more": the latter
-- is answered as the former
unfoldable pub successors_of : List ℕ → ℕ → Successors
successors_of ws p =
    unless (ltb p (length ws))
    (unless (companion_present ws p) (next_of (class_of (opcode_at ws p)) (length ws) (get_or ws p 0) p))

-- q is a step from p
unfoldable pub is_successor : List ℕ → ℕ → ℕ → Bool
is_successor ws p q = member q (list_of (successors_of ws p))
