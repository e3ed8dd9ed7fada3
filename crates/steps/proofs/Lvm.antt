-- lvm.c's next words are document 01's, for a word that is not bad: each case of the switch has the ways on of a shape, whose step
-- class is the opcode's, by computed tests, and then a shape at a time.
-- Assumes nothing.
use Prim.Native.Nat.{ℕ, ◌+◌, ◌*◌, ◌<◌, ◌^◌}
use mathlib.Core.Path.{◌≡◌, refl, ap, sym, subst, ◌∙◌}
use mathlib.Core.Bool.{Bool, true, false, cond, true≢false}
use mathlib.Core.List.{List, [], ◌∷◌, ◌++◌, append-nil}
use native.Mathlib.Omega.{arith}
use lib.Dec.{T, ltb, eqb}
use lib.Bits.{and_high}
use lib.IntN.{ℤ, pos, ◌+ℤ◌, ◌-ℤ◌, +ℤ_idr}
use lib.ListN.{length, get_or}
use borrow.Author.Tests.{eqb-true, eqb-false, eq-eqb, ne_eqb}
use Rattle.fields.specs.declared.lua54.word.RawInstruction54.{RawInstruction54}
use Rattle.fields.specs.lua54.Opcodes.{OP_JMP, OP_TFORCALL, OP_TFORLOOP}
use Rattle.fields.specs.lua54.Word.{opcode_of, k_of, bx_of, sj_of}
use Rattle.fields.specs.lua54.Lopcodes.{GET_OPCODE, GETARG_Bx, GETARG_sJ, TESTARG_k}
use Rattle.fields.specs.lua54.Table.{StepClass, following, returning, branching, skipping, skipping_if_k, jumping}
use Rattle.fields.specs.lua54.Table.{looping, preparing, entering, invalid, class_number, class_of, Companion, alone}
use Rattle.fields.specs.lua54.Table.{jump_after, call_at_target, loop_after, companion_number, companion_of}
use Rattle.fields.specs.Laws.{all}
use Rattle.fields.proofs.Laws.{laws}
use Rattle.steps.specs.lua54.Columns.{class_from, companion_from}
use Rattle.sweep.specs.Steps.{one, is_invalid, list_of}
use Rattle.steps.specs.lua54.Successors.{opcode_at, next_of, stands_at, companion_present, successors_of}
use Rattle.steps.specs.Executions.{gos_of, leading_to}
use Rattle.steps.specs.lua54.Lvm.{Go, vmbreak, «pc++», «pc++-if-k», jump, donextjump, «pc-=Bx», «pc+=Bx+1»}
use Rattle.steps.specs.lua54.Lvm.{goto_l_tforcall, goto_l_tforloop, leave, Body, body_of, l_tforcall, jmp}
use Rattle.steps.specs.lua54.Lvm.{dojump, onward, body_at, ways_at, goes_on, Agreement}
use Rattle.steps.specs.Ways.{Way, fetch, targets_of, integers, Alike}
use Rattle.steps.proofs.Columns.{class_back, companion_back}
use Rattle.steps.proofs.NextWords.{Same, itself, one_by, two_by, two_back}
use Rattle.steps.proofs.Ways.{same_at, same_below, leans_at, leans_below, both_passed, second_held, found_same, fetched, at_once}
use Rattle.steps.proofs.Shapes.{shape_of, shaped_at, shaped_below}

-- The shapes of the cases, by their ways on.
data Shape : Type 0 where
  nowhere : Shape
  still : Shape
  skip : Shape
  branch : Shape
  test : Shape
  jumps : Shape
  leaves : Shape
  loop : Shape
  prepare : Shape
  enter : Shape
  call_loop : Shape
  setlist : Shape

abbrev shapes : List Shape
shapes = still ∷ skip ∷ branch ∷ test ∷ jumps ∷ leaves ∷ loop ∷ prepare ∷ enter ∷ call_loop ∷ setlist ∷ []

-- its ways on, the step class that they amount to, and the companion that they lean on: the word that they run themselves
abbrev parts_of : Shape → List Go × StepClass × Companion
parts_of nowhere = ([], invalid, alone)
parts_of still = (vmbreak ∷ [], following, alone)
parts_of skip = («pc++» ∷ [], skipping, alone)
parts_of branch = («pc++» ∷ vmbreak ∷ [], branching, alone)
parts_of test = («pc++» ∷ donextjump ∷ [], branching, jump_after)
parts_of jumps = (jump ∷ [], jumping, alone)
parts_of leaves = (leave ∷ [], returning, alone)
parts_of loop = («pc-=Bx» ∷ vmbreak ∷ [], looping, alone)
parts_of prepare = («pc+=Bx+1» ∷ vmbreak ∷ [], preparing, alone)
parts_of enter = (goto_l_tforcall ∷ [], entering, call_at_target)
parts_of call_loop = (goto_l_tforloop ∷ [], following, loop_after)
parts_of setlist = («pc++-if-k» ∷ [], skipping_if_k, alone)

abbrev gos_by : Shape → List Go
gos_by s = (parts_of s).0

abbrev class_by : Shape → StepClass
class_by s = (parts_of s).1

abbrev wanted_by : Shape → Companion
wanted_by s = (parts_of s).2

-- the ways on by number
abbrev go_from : ℕ → Go
go_from number =
    get_or (vmbreak ∷ «pc++» ∷ «pc++-if-k» ∷ jump ∷ donextjump ∷ «pc-=Bx» ∷ «pc+=Bx+1» ∷ goto_l_tforcall ∷ goto_l_tforloop ∷ []) number leave

abbrev go_numbered : (go : Go) → (k : ℕ) × (go_from k ≡ go)
go_numbered vmbreak = (0, refl)
go_numbered «pc++» = (1, refl)
go_numbered «pc++-if-k» = (2, refl)
go_numbered jump = (3, refl)
go_numbered donextjump = (4, refl)
go_numbered «pc-=Bx» = (5, refl)
go_numbered «pc+=Bx+1» = (6, refl)
go_numbered goto_l_tforcall = (7, refl)
go_numbered goto_l_tforloop = (8, refl)
go_numbered leave = (9, refl)

-- the shape of an opcode's case
abbrev shape_at : ℕ → Shape
shape_at o = shape_of go_from go_numbered gos_by nowhere shapes (body_of o)

shaped : T (all (shaped_at go_from go_numbered gos_by nowhere shapes body_of) 128)
shaped = tt

gos-by : (o : ℕ) → o < 128 → gos_of (body_of o) ≡ gos_by (shape_at o)
gos-by o h = shaped_below go_from go_numbered gos_by nowhere shapes body_of 128 shaped o h

alike_below : T (all (same_at class_number class_from class_back class_of (λ o. class_by (shape_at o))) 128)
unfolding class_of
alike_below = tt

class-by : (o : ℕ) → o < 128 → class_of o ≡ class_by (shape_at o)
class-by o h = same_below class_number class_from class_back class_of (λ o. class_by (shape_at o)) 128 alike_below o h

-- A word's fields, by the header's macros.
module _ (w : ℕ) where
  opcode_is : GET_OPCODE w ≡ opcode_of w
  opcode_is = ap (λ (i : RawInstruction54). i.opcode_num) (laws.lopcodes w)

  bx_is : GETARG_Bx w ≡ bx_of w
  bx_is = ap (λ (i : RawInstruction54). i.bx) (laws.lopcodes w)

  sj_is : GETARG_sJ w ≡ sj_of w
  sj_is = ap (λ (i : RawInstruction54). i.sj) (laws.lopcodes w)

test_is : (w : ℕ) → TESTARG_k w ≡ k_of w * 2 ^ 15
test_is w = and_high w 1 15

k_set : (w : ℕ) → k_of w ≡ 1 → eqb (TESTARG_k w) 0 ≡ false
k_set w e = ne_eqb (TESTARG_k w) 0 (λ d. omega (arith, test_is w))

k_clear : (w : ℕ) → (k_of w ≡ 1 → ⊥) → eqb (TESTARG_k w) 0 ≡ true
k_clear w e = eq-eqb (TESTARG_k w) 0 (omega (arith, test_is w))

-- A shape at a time.
module _ (ws : List ℕ) (n w p : ℕ) where
  -- where the ways lead
  abbrev nexts : Shape → List ℤ
  nexts s = targets_of (leading_to (onward ws (pos (p + 1)) w) (gos_by s))

  list_same : (t u : Bool) → eqb (k_of w) 1 ≡ t → eqb (TESTARG_k w) 0 ≡ u
      → is_invalid (cond t (one n (pos (p + 2))) (one n (pos (p + 1)))) ≡ false
      → Same (targets_of {Body = Body} (cond u (fetch (pos (p + 1)) ∷ []) (fetch (pos (p + 1) +ℤ pos 1) ∷ []) ++ []))
      (integers (list_of (cond t (one n (pos (p + 2))) (one n (pos (p + 1))))))
  list_same true false d c e = one_by n _ (pos (p + 2)) (ap pos (omega arith)) e
  list_same false true d c e = one_by n _ (pos (p + 1)) refl e
  list_same true true d c e = absurd (true≢false (sym c ∙ k_set w (eqb-true _ _ d)))
  list_same false false d c e = absurd (true≢false (sym (k_clear w (eqb-false _ _ d)) ∙ c))

  shape_same : (s : Shape) → is_invalid (next_of (class_by s) n w p) ≡ false → Same (nexts s) (integers (list_of (next_of (class_by s) n w p)))
  shape_same nowhere e = absurd (true≢false e)
  shape_same still e = one_by n _ (pos (p + 1)) refl e
  shape_same skip e = one_by n _ (pos (p + 2)) (ap pos (omega arith)) e
  shape_same branch e = two_back n (pos (p + 1)) _ (pos (p + 1)) (pos (p + 2)) refl (ap pos (omega arith)) e
  shape_same test e = two_back n (pos (p + 1)) _ (pos (p + 1)) (pos (p + 2)) refl (ap pos (omega arith)) e
  shape_same jumps e = one_by n _ (pos (p + 1) +ℤ sj_of w) (ap (pos (p + 1) +ℤ◌) (+ℤ_idr (GETARG_sJ w) ∙ sj_is w)) e
  shape_same leaves e = itself []
  shape_same loop e =
      two_by n _ _ (pos (p + 1) -ℤ pos (bx_of w)) (pos (p + 1)) (ap (λ (b : ℕ). pos (p + 1) -ℤ pos b) (bx_is w)) refl e
  shape_same prepare e =
      two_back n _ _ (pos (p + 1)) (pos (p + 2 + bx_of w)) refl (ap pos (omega (arith, bx_is w))) e
  shape_same enter e = one_by n _ (pos (p + 1 + bx_of w)) (ap pos (omega (arith, bx_is w))) e
  shape_same call_loop e = one_by n _ (pos (p + 1)) refl e
  shape_same setlist e = list_same (eqb (k_of w) 1) (eqb (TESTARG_k w) 0) refl refl e

-- the steps of a word that is not bad are those of its class
steps_by : (ws : List ℕ) (p : ℕ) → is_invalid (successors_of ws p) ≡ false
    → successors_of ws p ≡ next_of (class_of (opcode_at ws p)) (length ws) (get_or ws p 0) p
unfolding successors_of
steps_by ws p e = both_passed (ltb p (length ws)) (companion_present ws p) (next_of (class_of (opcode_at ws p)) (length ws) (get_or ws p 0) p) e

same : (ws : List ℕ) (p : ℕ) → is_invalid (successors_of ws p) ≡ false → Same (goes_on ws p) (integers (list_of (successors_of ws p)))
unfolding ways_at body_at opcode_at
same ws p e =
    let w : ℕ = get_or ws p 0 in
    let s : Shape = shape_at (opcode_of w) in
    found_same (goes_on ws p) (nexts ws (length ws) w p s) (successors_of ws p) (next_of (class_by s) (length ws) w p)
    (ap (λ (o : ℕ). targets_of (leading_to (onward ws (pos (p + 1)) w) (gos_of (body_of o)))) (opcode_is w)
    ∙ ap (λ (gos : List Go). targets_of (leading_to (onward ws (pos (p + 1)) w) gos)) (gos-by (opcode_of w) (omega arith)))
    (steps_by ws p e ∙ ap (λ (x : StepClass). next_of x (length ws) w p) (class-by (opcode_of w) (omega arith)))
    (shape_same ws (length ws) w p s)
    e

-- Words that are run without a dispatch of their own.

-- the companion that a case leans on is the one that document 01's table (RULES 2) wants
wants_below : T (all (leans_at companion_number companion_from companion_back (λ o. wanted_by (shape_at o)) companion_of) 128)
unfolding companion_of
wants_below = tt

opcode_fits : (ws : List ℕ) (p : ℕ) → opcode_at ws p < 128
unfolding opcode_at
opcode_fits ws p = omega arith

-- the case of a word
body_by : (ws : List ℕ) (q o : ℕ) → opcode_at ws q ≡ o → body_at ws q ≡ body_of o
unfolding body_at opcode_at
body_by ws q o e = ap body_of (opcode_is (get_or ws q 0) ∙ e)

-- the companion that a word that is not bad wants is there
present : (ws : List ℕ) (p : ℕ) → is_invalid (successors_of ws p) ≡ false → stands_at (companion_of (opcode_at ws p)) ws p ≡ true
unfolding successors_of companion_present
present ws p e = second_held (ltb p (length ws)) (companion_present ws p) (next_of (class_of (opcode_at ws p)) (length ws) (get_or ws p 0) p) e

-- and so is the one that its case leans on
lean : (ws : List ℕ) (p : ℕ) → is_invalid (successors_of ws p) ≡ false → stands_at (wanted_by (shape_at (opcode_at ws p))) ws p ≡ true
lean ws p e =
    leans_below companion_number companion_from companion_back (λ c. stands_at c ws p) alone refl refl
    (λ o. wanted_by (shape_at o)) companion_of 128 wants_below (opcode_at ws p) (opcode_fits ws p)
    (present ws p e)

-- where the case of a JMP leads
jump_ways : (ws : List ℕ) (q : ℕ) → body_at ws q ≡ jmp → ways_at ws q ≡ fetch (dojump (pos (q + 1)) (get_or ws q 0) (pos 0)) ∷ []
unfolding ways_at
jump_ways ws q e = ap (λ (b : Body). leading_to (onward ws (pos (q + 1)) (get_or ws q 0)) (gos_of b)) e

module _ (ws : List ℕ) (p : ℕ) where
  abbrev AlikeTo : List (Way Body) → Type 0
  AlikeTo ways = Alike jmp (body_at ws) (ways_at ws) ways

  entered : stands_at call_at_target ws p ≡ true → body_at ws (p + 1 + GETARG_Bx (get_or ws p 0)) ≡ l_tforcall
  entered h = rw (bx_is (get_or ws p 0)) (body_by ws (p + 1 + bx_of (get_or ws p 0)) OP_TFORCALL (eqb-true _ _ h))

  either : (t : Bool) (x y : ℤ) → AlikeTo (cond t (fetch x ∷ []) (fetch y ∷ []) ++ [])
  either t x y = subst AlikeTo (sym (append-nil (cond t (fetch x ∷ []) (fetch y ∷ [])))) (fetched jmp (body_at ws) (ways_at ws) t x y)

  shape_alike : (s : Shape) → stands_at (wanted_by s) ws p ≡ true → AlikeTo (leading_to (onward ws (pos (p + 1)) (get_or ws p 0)) (gos_by s))
  -- a JMP that is done at once
  shape_alike test h =
      let b : body_at ws (p + 1) ≡ jmp = body_by ws (p + 1) OP_JMP (eqb-true _ _ h) in
      at_once jmp (body_at ws) (ways_at ws) (p + 1) (GETARG_sJ (get_or ws (p + 1) 0)) (pos 0) b (jump_ways ws (p + 1) b) true [] tt
  shape_alike enter h = (entered h, tt)
  shape_alike call_loop h = (body_by ws (p + 1) OP_TFORLOOP (eqb-true _ _ h), tt)
  shape_alike setlist h = either (eqb (TESTARG_k (get_or ws p 0)) 0) (pos (p + 1)) (pos (p + 1) +ℤ pos 1)
  shape_alike nowhere h = tt
  shape_alike still h = tt
  shape_alike skip h = tt
  shape_alike branch h = tt
  shape_alike jumps h = tt
  shape_alike leaves h = tt
  shape_alike loop h = tt
  shape_alike prepare h = tt

alike : (ws : List ℕ) (p : ℕ) → is_invalid (successors_of ws p) ≡ false → AlikeTo ws p (ways_at ws p)
unfolding ways_at
alike ws p e =
    let o : ℕ = opcode_at ws p in
    let gos : gos_of (body_at ws p) ≡ gos_by (shape_at o) = ap gos_of (body_by ws p o refl) ∙ gos-by o (opcode_fits ws p) in
    subst (λ (gos : List Go). AlikeTo ws p (leading_to (onward ws (pos (p + 1)) (get_or ws p 0)) gos)) (sym gos) (shape_alike ws p (shape_at o) (lean ws p e))

pub agreement_holds : Agreement
agreement_holds = record { same = same; alike = alike }
