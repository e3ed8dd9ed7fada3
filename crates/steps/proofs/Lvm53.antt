-- lvm.c's next words of 5.3.6 are those of specs/lua53/Successors.antt, for a word that is not bad: each case of the switch has the ways on of a
-- shape, whose step class is the opcode's, by computed tests, and then a shape at a time.
-- Assumes nothing.
use Prim.Native.Nat.{ℕ, ◌+◌, ◌<◌}
use mathlib.Core.Path.{◌≡◌, refl, ap, sym, subst, ◌∙◌}
use mathlib.Core.Bool.{Bool, true, false, cond, true≢false}
use mathlib.Core.List.{List, [], ◌∷◌, ◌++◌, append-nil}
use native.Mathlib.Omega.{arith}
use lib.Dec.{T, ltb, eqb}
use lib.IntN.{ℤ, pos, ◌+ℤ◌, +ℤ_idr}
use lib.ListN.{length, get_or}
use borrow.Author.Tests.{ltb-true, ltb-false, eqb-true, eqb-false}
use Rattle.fields.specs.declared.lua53.word.RawInstruction53.{RawInstruction53}
use Rattle.fields.specs.lua53.Opcodes.{OP_JMP, OP_TFORLOOP}
use Rattle.fields.specs.lua53.Word.{opcode_of, a_of, c_of, sbx_of}
use Rattle.fields.specs.lua53.Lopcodes.{GET_OPCODE, GETARG_A, GETARG_C, GETARG_sBx}
use Rattle.fields.specs.lua53.Table.{StepClass, following, returning, branching, comparing, skipping, skipping_if_c}
use Rattle.fields.specs.lua53.Table.{skipping_unless_c, jumping, looping, invalid, class_number, class_of, Companion}
use Rattle.fields.specs.lua53.Table.{alone, jump_after, loop_after, companion_number, companion_of}
use Rattle.fields.specs.Laws.{all}
use Rattle.fields.proofs.Laws.{laws}
use Rattle.steps.specs.lua53.Columns.{class_from, companion_from}
use Rattle.sweep.specs.Steps.{one, two, is_invalid, list_of}
use Rattle.steps.specs.lua53.Successors.{opcode_at, next_of, stands_at, companion_present, successors_of}
use Rattle.steps.specs.Executions.{gos_of, leading_to}
use Rattle.steps.specs.lua53.Lvm.{Go, vmbreak, «pc++», «pc++-if-C», «pc++-if-not-C», jump, donextjump}
use Rattle.steps.specs.lua53.Lvm.{compared_0, compared_1, «pc+=sBx», goto_l_tforloop, leave, Body, body_of}
use Rattle.steps.specs.lua53.Lvm.{jmp, dojump, nextjump, compared, onward, body_at, ways_at, goes_on}
use Rattle.steps.specs.lua53.Lvm.{Agreement}
use Rattle.steps.specs.Ways.{Way, fetch, targets_of, integers, Alike}
use Rattle.steps.proofs.Columns53.{class_back, companion_back}
use Rattle.steps.proofs.NextWords.{Same, itself, one_by, twice_by, two_by, two_back}
use Rattle.steps.proofs.Ways.{same_at, same_below, leans_at, leans_below, both_passed, second_held, found_same, fetched, at_once}
use Rattle.steps.proofs.Shapes.{shape_of, shaped_at, shaped_below}

-- The shapes of the cases, by their ways on.
data Shape : Type 0 where
  nowhere : Shape
  still : Shape
  skip : Shape
  loadbool : Shape
  setlist : Shape
  jumps : Shape
  compare : Shape
  test : Shape
  tailcall : Shape
  leaves : Shape
  loop : Shape
  prepare : Shape
  call_loop : Shape

abbrev shapes : List Shape
shapes = still ∷ skip ∷ loadbool ∷ setlist ∷ jumps ∷ compare ∷ test ∷ tailcall ∷ leaves ∷ loop ∷ prepare ∷ call_loop ∷ []

-- its ways on, the step class that they amount to, and the companion that they lean on: the word that they run themselves
abbrev parts_of : Shape → List Go × StepClass × Companion
parts_of nowhere = ([], invalid, alone)
parts_of still = (vmbreak ∷ [], following, alone)
parts_of skip = («pc++» ∷ [], skipping, alone)
parts_of loadbool = («pc++-if-C» ∷ [], skipping_if_c, alone)
parts_of setlist = («pc++-if-not-C» ∷ [], skipping_unless_c, alone)
parts_of jumps = (jump ∷ [], jumping, alone)
parts_of compare = (compared_0 ∷ compared_1 ∷ [], comparing, jump_after)
parts_of test = («pc++» ∷ donextjump ∷ [], branching, jump_after)
parts_of tailcall = (vmbreak ∷ leave ∷ [], following, alone)
parts_of leaves = (leave ∷ [], returning, alone)
parts_of loop = («pc+=sBx» ∷ vmbreak ∷ [], looping, alone)
parts_of prepare = («pc+=sBx» ∷ [], jumping, alone)
parts_of call_loop = (goto_l_tforloop ∷ [], following, loop_after)

abbrev gos_by : Shape → List Go
gos_by s = (parts_of s).0

abbrev class_by : Shape → StepClass
class_by s = (parts_of s).1

abbrev wanted_by : Shape → Companion
wanted_by s = (parts_of s).2

-- the ways on by number
abbrev go_from : ℕ → Go
go_from number =
    get_or (vmbreak ∷ «pc++» ∷ «pc++-if-C» ∷ «pc++-if-not-C» ∷ jump ∷ donextjump ∷ compared_0 ∷ compared_1 ∷ «pc+=sBx» ∷ goto_l_tforloop ∷ []) number leave

abbrev go_numbered : (go : Go) → (k : ℕ) × (go_from k ≡ go)
go_numbered vmbreak = (0, refl)
go_numbered «pc++» = (1, refl)
go_numbered «pc++-if-C» = (2, refl)
go_numbered «pc++-if-not-C» = (3, refl)
go_numbered jump = (4, refl)
go_numbered donextjump = (5, refl)
go_numbered compared_0 = (6, refl)
go_numbered compared_1 = (7, refl)
go_numbered «pc+=sBx» = (8, refl)
go_numbered goto_l_tforloop = (9, refl)
go_numbered leave = (10, refl)

-- the shape of an opcode's case
abbrev shape_at : ℕ → Shape
shape_at o = shape_of go_from go_numbered gos_by nowhere shapes (body_of o)

shaped : T (all (shaped_at go_from go_numbered gos_by nowhere shapes body_of) 64)
shaped = tt

gos-by : (o : ℕ) → o < 64 → gos_of (body_of o) ≡ gos_by (shape_at o)
gos-by o h = shaped_below go_from go_numbered gos_by nowhere shapes body_of 64 shaped o h

alike_below : T (all (same_at class_number class_from class_back class_of (λ o. class_by (shape_at o))) 64)
unfolding class_of
alike_below = tt

class-by : (o : ℕ) → o < 64 → class_of o ≡ class_by (shape_at o)
class-by o h = same_below class_number class_from class_back class_of (λ o. class_by (shape_at o)) 64 alike_below o h

-- A word's fields, by the header's macros.
module _ (w : ℕ) where
  opcode_is : GET_OPCODE w ≡ opcode_of w
  opcode_is = ap (λ (i : RawInstruction53). i.opcode_num) (laws.lua53.lopcodes w)

  a_is : GETARG_A w ≡ a_of w
  a_is = ap (λ (i : RawInstruction53). i.a) (laws.lua53.lopcodes w)

  c_is : GETARG_C w ≡ c_of w
  c_is = ap (λ (i : RawInstruction53). i.c) (laws.lua53.lopcodes w)

  sbx_is : GETARG_sBx w ≡ sbx_of w
  sbx_is = ap (λ (i : RawInstruction53). i.sbx) (laws.lua53.lopcodes w)

-- A shape at a time.
module _ (ws : List ℕ) (n w p : ℕ) where
  -- where the ways lead
  abbrev nexts : Shape → List ℤ
  nexts s = targets_of (leading_to (onward ws (pos (p + 1)) w) (gos_by s))

  -- C decides between two words
  either_same : (t : Bool) (x y x' y' : ℤ) → x ≡ x' → y ≡ y' → is_invalid (cond t (one n x') (one n y')) ≡ false
      → Same (targets_of {Body = Body} (cond t (fetch x ∷ []) (fetch y ∷ []) ++ [])) (integers (list_of (cond t (one n x') (one n y'))))
  either_same true x y x' y' c d e = one_by n x x' c e
  either_same false x y x' y' c d e = one_by n y y' d e

  later : pos (p + 1) +ℤ pos 1 ≡ pos (p + 2)
  later = ap pos (omega arith)

  -- where a comparison goes on, by whether its result is A
  abbrev compared_by : Bool → Way Body
  compared_by t = cond t (nextjump ws (pos (p + 1))) (fetch (pos (p + 1) +ℤ pos 1))

  -- A is 0, it is 1, or it is above and no result
  compare_same : (a : ℕ) → is_invalid (cond (ltb 1 a) (one n (pos (p + 2))) (two n (pos (p + 1)) (pos (p + 2)))) ≡ false
      → Same (targets_of (compared_by (eqb 0 a) ∷ compared_by (eqb 1 a) ∷ []))
      (integers (list_of (cond (ltb 1 a) (one n (pos (p + 2))) (two n (pos (p + 1)) (pos (p + 2))))))
  compare_same a e = go (ltb 1 a) (eqb 0 a) (eqb 1 a) refl refl refl e
    where
      go : (t u v : Bool) → ltb 1 a ≡ t → eqb 0 a ≡ u → eqb 1 a ≡ v
          → is_invalid (cond t (one n (pos (p + 2))) (two n (pos (p + 1)) (pos (p + 2)))) ≡ false
          → Same (targets_of (compared_by u ∷ compared_by v ∷ [])) (integers (list_of (cond t (one n (pos (p + 2))) (two n (pos (p + 1)) (pos (p + 2))))))
      go true false false c d f e = twice_by n _ (pos (p + 2)) later e
      go false true false c d f e = two_by n (pos (p + 1)) _ (pos (p + 1)) (pos (p + 2)) refl later e
      go false false true c d f e = two_back n (pos (p + 1)) _ (pos (p + 1)) (pos (p + 2)) refl later e
      go true true v c d f e = absurd (omega (arith, ltb-true 1 a c, eqb-true 0 a d))
      go true false true c d f e = absurd (omega (arith, ltb-true 1 a c, eqb-true 1 a f))
      go false true true c d f e = absurd (omega (arith, eqb-true 0 a d, eqb-true 1 a f))
      go false false false c d f e = absurd (omega (arith, ltb-false 1 a c, eqb-false 0 a d, eqb-false 1 a f))

  away : pos (p + 1) +ℤ GETARG_sBx w ≡ pos (p + 1) +ℤ sbx_of w
  away = ap (pos (p + 1) +ℤ◌) (sbx_is w)

  shape_same : (s : Shape) → is_invalid (next_of (class_by s) n w p) ≡ false → Same (nexts s) (integers (list_of (next_of (class_by s) n w p)))
  shape_same nowhere e = absurd (true≢false e)
  shape_same still e = one_by n _ (pos (p + 1)) refl e
  shape_same skip e = one_by n _ (pos (p + 2)) later e
  shape_same loadbool e = rw (c_is w) (either_same (eqb (c_of w) 0) (pos (p + 1)) (pos (p + 1) +ℤ pos 1) (pos (p + 1)) (pos (p + 2)) refl later e)
  shape_same setlist e = rw (c_is w) (either_same (eqb (c_of w) 0) (pos (p + 1) +ℤ pos 1) (pos (p + 1)) (pos (p + 2)) (pos (p + 1)) later refl e)
  shape_same jumps e = one_by n _ (pos (p + 1) +ℤ sbx_of w) (ap (pos (p + 1) +ℤ◌) (+ℤ_idr (GETARG_sBx w) ∙ sbx_is w)) e
  shape_same compare e = rw (a_is w) (compare_same (a_of w) e)
  shape_same test e = two_back n (pos (p + 1)) _ (pos (p + 1)) (pos (p + 2)) refl later e
  shape_same tailcall e = one_by n _ (pos (p + 1)) refl e
  shape_same leaves e = itself []
  shape_same loop e = two_by n _ _ (pos (p + 1) +ℤ sbx_of w) (pos (p + 1)) away refl e
  shape_same prepare e = one_by n _ (pos (p + 1) +ℤ sbx_of w) away e
  shape_same call_loop e = one_by n _ (pos (p + 1)) refl e

-- the steps of a word that is not bad are those of its class
steps_by : (ws : List ℕ) (p : ℕ) → is_invalid (successors_of ws p) ≡ false
    → successors_of ws p ≡ next_of (class_of (opcode_at ws p)) (length ws) (get_or ws p 0) p
unfolding successors_of
steps_by ws p e = both_passed (ltb p (length ws)) (companion_present ws p) (next_of (class_of (opcode_at ws p)) (length ws) (get_or ws p 0) p) e

same : (ws : List ℕ) (p : ℕ) → is_invalid (successors_of ws p) ≡ false → Same (goes_on ws p) (integers (list_of (successors_of ws p)))
unfolding ways_at body_at opcode_at
same ws p e =
    let w : ℕ = get_or ws p 0 in
    let s : Shape = shape_at (opcode_of w) in
    found_same (goes_on ws p) (nexts ws (length ws) w p s) (successors_of ws p) (next_of (class_by s) (length ws) w p)
    (ap (λ (o : ℕ). targets_of (leading_to (onward ws (pos (p + 1)) w) (gos_of (body_of o)))) (opcode_is w)
    ∙ ap (λ (gos : List Go). targets_of (leading_to (onward ws (pos (p + 1)) w) gos)) (gos-by (opcode_of w) (omega arith)))
    (steps_by ws p e ∙ ap (λ (x : StepClass). next_of x (length ws) w p) (class-by (opcode_of w) (omega arith)))
    (shape_same ws (length ws) w p s)
    e

-- Words that are run without a dispatch of their own.

-- the companion that a case leans on is the one that the table wants
wants_below : T (all (leans_at companion_number companion_from companion_back (λ o. wanted_by (shape_at o)) companion_of) 64)
unfolding companion_of
wants_below = tt

opcode_fits : (ws : List ℕ) (p : ℕ) → opcode_at ws p < 64
unfolding opcode_at
opcode_fits ws p = omega arith

-- the case of a word
body_by : (ws : List ℕ) (q o : ℕ) → opcode_at ws q ≡ o → body_at ws q ≡ body_of o
unfolding body_at opcode_at
body_by ws q o e = ap body_of (opcode_is (get_or ws q 0) ∙ e)

-- the companion that a word that is not bad wants is there
present : (ws : List ℕ) (p : ℕ) → is_invalid (successors_of ws p) ≡ false → stands_at (companion_of (opcode_at ws p)) ws p ≡ true
unfolding successors_of companion_present
present ws p e = second_held (ltb p (length ws)) (companion_present ws p) (next_of (class_of (opcode_at ws p)) (length ws) (get_or ws p 0) p) e

-- and so is the one that its case leans on
lean : (ws : List ℕ) (p : ℕ) → is_invalid (successors_of ws p) ≡ false → stands_at (wanted_by (shape_at (opcode_at ws p))) ws p ≡ true
lean ws p e =
    leans_below companion_number companion_from companion_back (λ c. stands_at c ws p) alone refl refl
    (λ o. wanted_by (shape_at o)) companion_of 64 wants_below (opcode_at ws p) (opcode_fits ws p)
    (present ws p e)

-- where the case of a JMP leads
jump_ways : (ws : List ℕ) (q : ℕ) → body_at ws q ≡ jmp → ways_at ws q ≡ fetch (dojump (pos (q + 1)) (get_or ws q 0) (pos 0)) ∷ []
unfolding ways_at
jump_ways ws q e = ap (λ (b : Body). leading_to (onward ws (pos (q + 1)) (get_or ws q 0)) (gos_of b)) e

module _ (ws : List ℕ) (p : ℕ) where
  abbrev AlikeTo : List (Way Body) → Type 0
  AlikeTo ways = Alike jmp (body_at ws) (ways_at ws) ways

  either : (t : Bool) (x y : ℤ) → AlikeTo (cond t (fetch x ∷ []) (fetch y ∷ []) ++ [])
  either t x y = subst AlikeTo (sym (append-nil (cond t (fetch x ∷ []) (fetch y ∷ [])))) (fetched jmp (body_at ws) (ways_at ws) t x y)

  -- a JMP that is done at once, where it is done
  test_alike : (t : Bool) → stands_at jump_after ws p ≡ true → (ways : List (Way Body)) → AlikeTo ways
      → AlikeTo (cond t (nextjump ws (pos (p + 1))) (fetch (pos (p + 1) +ℤ pos 1)) ∷ ways)
  test_alike t h ways rest =
      let b : body_at ws (p + 1) ≡ jmp = body_by ws (p + 1) OP_JMP (eqb-true _ _ h) in
      at_once jmp (body_at ws) (ways_at ws) (p + 1) (GETARG_sBx (get_or ws (p + 1) 0)) (pos (p + 1) +ℤ pos 1) b (jump_ways ws (p + 1) b) t ways rest

  shape_alike : (s : Shape) → stands_at (wanted_by s) ws p ≡ true → AlikeTo (leading_to (onward ws (pos (p + 1)) (get_or ws p 0)) (gos_by s))
  shape_alike compare h =
      let a : ℕ = GETARG_A (get_or ws p 0) in
      test_alike (eqb 0 a) h (compared ws (pos (p + 1)) (get_or ws p 0) 1 ∷ []) (test_alike (eqb 1 a) h [] tt)
  shape_alike test h = test_alike true h [] tt
  shape_alike call_loop h = (body_by ws (p + 1) OP_TFORLOOP (eqb-true _ _ h), tt)
  shape_alike loadbool h = either (eqb (GETARG_C (get_or ws p 0)) 0) (pos (p + 1)) (pos (p + 1) +ℤ pos 1)
  shape_alike setlist h = either (eqb (GETARG_C (get_or ws p 0)) 0) (pos (p + 1) +ℤ pos 1) (pos (p + 1))
  shape_alike nowhere h = tt
  shape_alike still h = tt
  shape_alike skip h = tt
  shape_alike jumps h = tt
  shape_alike tailcall h = tt
  shape_alike leaves h = tt
  shape_alike loop h = tt
  shape_alike prepare h = tt

alike : (ws : List ℕ) (p : ℕ) → is_invalid (successors_of ws p) ≡ false → AlikeTo ws p (ways_at ws p)
unfolding ways_at
alike ws p e =
    let o : ℕ = opcode_at ws p in
    let gos : gos_of (body_at ws p) ≡ gos_by (shape_at o) = ap gos_of (body_by ws p o refl) ∙ gos-by o (opcode_fits ws p) in
    subst (λ (gos : List Go). AlikeTo ws p (leading_to (onward ws (pos (p + 1)) (get_or ws p 0)) gos)) (sym gos) (shape_alike ws p (shape_at o) (lean ws p e))

pub agreement_holds : Agreement
agreement_holds = record { same = same; alike = alike }
