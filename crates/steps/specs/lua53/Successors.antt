-- Request C-24: the successors of word p of the words ws of Lua 5.3.
-- Assumes nothing.
use Rattle.std.specs.Prelude.{ℕ, ◌+◌, Bool, true, cond, List, ltb, eqb, pos, ◌+ℤ◌, length, get_or}
use Rattle.fields.specs.lua53.Opcodes.{OP_JMP, OP_TFORLOOP, OP_EXTRAARG}
use Rattle.fields.specs.lua53.Word.{opcode_of, a_of, c_of, sbx_of}
use Rattle.fields.specs.lua53.Table.{
  StepClass,
  following,
  returning,
  branching,
  comparing,
  skipping,
  skipping_if_c,
  skipping_unless_c,
  jumping,
  looping,
  invalid,
  class_of,
  Companion,
  alone,
  jump_after,
  extra_after,
  extra_after_unless_c,
  loop_after,
  companion_of,
}
use Rattle.sweep.specs.declared.edges.Successors.{Successors}
use Rattle.sweep.specs.declared.edges.Successors.TheVariants.{Invalid, Stop}
use Rattle.sweep.specs.Steps.{unless, one, two}

-- the opcode of word i; past the end it is that of 0, MOVE, which is no row's companion
unfoldable pub opcode_at : List ℕ → ℕ → ℕ
opcode_at ws i = opcode_of (get_or ws i 0)

-- the steps of word p, w, of n words whose companion is there; a next word below 0 or
-- at n or more makes it bad
abbrev pub next_of : StepClass → ℕ → ℕ → ℕ → Successors
-- none
next_of returning n w p = Stop
-- p+1, p+2
next_of branching n w p = two n (pos (p + 1)) (pos (p + 2))
-- "if ((RK(B) == RK(C)) ~= A) then pc++", where a comparison is 0 or 1, and A has eight bits
next_of comparing n w p = cond (ltb 1 (a_of w)) (one n (pos (p + 2))) (two n (pos (p + 1)) (pos (p + 2)))
-- p+2
next_of skipping n w p = one n (pos (p + 2))
-- "if (C) pc++"
next_of skipping_if_c n w p = cond (eqb (c_of w) 0) (one n (pos (p + 1))) (one n (pos (p + 2)))
-- "if (C == 0) then next 'instruction' is EXTRAARG"
next_of skipping_unless_c n w p = cond (eqb (c_of w) 0) (one n (pos (p + 2))) (one n (pos (p + 1)))
-- p+1+sBx
next_of jumping n w p = one n (pos (p + 1) +ℤ sbx_of w)
-- p+1+sBx, p+1
next_of looping n w p = two n (pos (p + 1) +ℤ sbx_of w) (pos (p + 1))
-- none: always bad
next_of invalid n w p = Invalid
-- p+1
next_of following n w p = one n (pos (p + 1))

-- the companion of word p stands where it is wanted
abbrev pub stands_at : Companion → List ℕ → ℕ → Bool
-- word p+1 is JMP
stands_at jump_after ws p = eqb (opcode_at ws (p + 1)) OP_JMP
-- word p+1 is EXTRAARG
stands_at extra_after ws p = eqb (opcode_at ws (p + 1)) OP_EXTRAARG
-- the same "with C 0"
stands_at extra_after_unless_c ws p =
    cond (eqb (c_of (get_or ws p 0)) 0) (eqb (opcode_at ws (p + 1)) OP_EXTRAARG) true
-- word p+1 is TFORLOOP
stands_at loop_after ws p = eqb (opcode_at ws (p + 1)) OP_TFORLOOP
-- nothing is asked
stands_at alone ws p = true

-- whether the companion that word p wants is there
unfoldable pub companion_present : List ℕ → ℕ → Bool
companion_present ws p = stands_at (companion_of (opcode_at ws p)) ws p

-- the steps of word p; a word number of n or more is answered as a bad word is
unfoldable pub successors_of : List ℕ → ℕ → Successors
successors_of ws p =
    unless (ltb p (length ws))
    (unless (companion_present ws p) (next_of (class_of (opcode_at ws p)) (length ws) (get_or ws p 0) p))
