-- The words that the table of steps of 5.3 looks at, row for row. Assumes nothing.
use mathlib.Core.Path.{◌≡◌, refl, sym, ap, ap₂, subst, ◌∙◌}
use mathlib.Core.Logic.{◌⊎◌, inl, inr}
use mathlib.Core.Bool.{Bool, true, false, cond, false≢true}
use mathlib.Core.List.{List}
use Prim.Native.Nat.{ℕ, ◌+◌}
use native.Mathlib.Omega.{arith}
use lib.Dec.{T, ltb, eqb}
use lib.IntN.{pos}
use lib.ListN.{length, get_or}
use Rattle.fields.specs.lua53.Opcodes.{OP_JMP, OP_TFORLOOP, OP_EXTRAARG}
use Rattle.fields.specs.lua53.Word.{opcode_of, a_of, c_of}
use Rattle.fields.specs.lua53.Table.{StepClass, following, returning, branching, comparing, skipping, skipping_if_c}
use Rattle.fields.specs.lua53.Table.{skipping_unless_c, jumping, looping, invalid, class_of, Companion, alone}
use Rattle.fields.specs.lua53.Table.{jump_after, extra_after, extra_after_unless_c, loop_after, companion_of}
use Rattle.fields.specs.Laws.{all}
use Rattle.fields.proofs.Laws as fields
use Rattle.graph.specs.Graph.{In}
use Rattle.sweep.specs.declared.edges.Successors.{Successors}
use Rattle.sweep.specs.Steps.{unless, one, two, is_invalid, list_of}
use Rattle.steps.specs.lua53.Successors.{opcode_at, next_of, stands_at, companion_present, successors_of}
use Rattle.patches.specs.Alike.{SameAt}
use Rattle.patches.specs.lua53.Reading.{speaks_of_next, looks_at_next, SameAround, Reading}
use Rattle.patches.proofs.Reading.{holds, through, Onward, one_there, two_there, onward_by}

module _ (ws vs : List ℕ) where
  opcode_same : (i : ℕ) → SameAt ws vs i → opcode_at ws i ≡ opcode_at vs i
  unfolding opcode_at
  opcode_same i e = ap opcode_of e

  present_by :
      (p : ℕ) → SameAt ws vs p → stands_at (companion_of (opcode_at ws p)) ws p ≡ stands_at (companion_of (opcode_at ws p)) vs p
      → companion_present ws p ≡ companion_present vs p
  unfolding companion_present
  present_by p e stands = stands ∙ ap (λ (o : ℕ). stands_at (companion_of o) vs p) (opcode_same p e)

  same_by : length ws ≡ length vs → (p : ℕ) → SameAt ws vs p → companion_present ws p ≡ companion_present vs p → successors_of ws p ≡ successors_of vs p
  unfolding successors_of
  same_by count p e present = λ i. unless (ltb p (count i)) (unless (present i) (next_of (class_of (opcode_same p e i)) (count i) (e i) p))

module _ (ws vs : List ℕ) (p : ℕ) (s : SameAround ws vs p) where
  stands_same : (c : Companion) → (speaks_of_next c ≡ true → SameAt ws vs (p + 1)) → stands_at c ws p ≡ stands_at c vs p
  stands_same alone n = refl
  stands_same jump_after n = ap (λ (o : ℕ). eqb o OP_JMP) (opcode_same ws vs (p + 1) (n refl))
  stands_same extra_after n = ap (λ (o : ℕ). eqb o OP_EXTRAARG) (opcode_same ws vs (p + 1) (n refl))
  stands_same extra_after_unless_c n = ap₂ (λ (w o : ℕ). cond (eqb (c_of w) 0) (eqb o OP_EXTRAARG) true) s.itself (opcode_same ws vs (p + 1) (n refl))
  stands_same loop_after n = ap (λ (o : ℕ). eqb o OP_TFORLOOP) (opcode_same ws vs (p + 1) (n refl))

  same : successors_of ws p ≡ successors_of vs p
  same = same_by ws vs s.count p s.itself (present_by ws vs p s.itself (stands_same (companion_of (opcode_at ws p)) s.after))

as_next : (ws : List ℕ) (p : ℕ) → is_invalid (successors_of ws p) ≡ false → successors_of ws p ≡ next_of (class_of (opcode_at ws p)) (length ws) (get_or ws p 0) p
unfolding successors_of
as_next ws p valid =
    let inside = through (ltb p (length ws)) _ valid in
    inside ∙ through (companion_present ws p) _ (sym (ap is_invalid inside) ∙ valid)

-- the classes by which a word goes on to p+1 or p+2
abbrev leads_on : StepClass → Bool
leads_on following = true
leads_on returning = false
leads_on branching = true
leads_on comparing = true
leads_on skipping = true
leads_on skipping_if_c = true
leads_on skipping_unless_c = true
leads_on jumping = false
leads_on looping = false
leads_on invalid = false

-- .. are those of all opcodes that look at the next word
abbrev looks_and_leads : ℕ → Bool
looks_and_leads o = cond (speaks_of_next (companion_of o)) (leads_on (class_of o)) true

looking : T (all looks_and_leads 64)
unfolding companion_of class_of
looking = tt

leads-on : (w : ℕ) → speaks_of_next (companion_of (opcode_of w)) ≡ true → leads_on (class_of (opcode_of w)) ≡ true
leads-on w e =
    sym (ap (λ (t : Bool). cond t (leads_on (class_of (opcode_of w))) true) e)
    ∙ holds _ ((fields.laws).each_below looks_and_leads 64 looking (opcode_of w) (omega arith))

module _ (n p : ℕ) where
  onward : (x : StepClass) → leads_on x ≡ true → (w : ℕ) → is_invalid (next_of x n w p) ≡ false → Onward n p (next_of x n w p)
  onward following l w e = inl (one_there n p (p + 1) e)
  onward branching l w e = inl (two_there n p (p + 1) (p + 2) (omega arith) e)
  onward comparing l w e =
      onward_by n p (ltb 1 (a_of w)) (one n (pos (p + 2))) (two n (pos (p + 1)) (pos (p + 2)))
      (λ v. inr (one_there n p (p + 2) v)) (λ v. inl (two_there n p (p + 1) (p + 2) (omega arith) v))
      e
  onward skipping l w e = inr (one_there n p (p + 2) e)
  onward skipping_if_c l w e =
      onward_by n p (eqb (c_of w) 0) (one n (pos (p + 1))) (one n (pos (p + 2))) (λ v. inl (one_there n p (p + 1) v)) (λ v. inr (one_there n p (p + 2) v)) e
  onward skipping_unless_c l w e =
      onward_by n p (eqb (c_of w) 0) (one n (pos (p + 2))) (one n (pos (p + 1))) (λ v. inr (one_there n p (p + 2) v)) (λ v. inl (one_there n p (p + 1) v)) e
  onward returning l w e = absurd (false≢true l)
  onward jumping l w e = absurd (false≢true l)
  onward looping l w e = absurd (false≢true l)
  onward invalid l w e = absurd (false≢true l)

goes-on :
    (ws : List ℕ) (p : ℕ) → looks_at_next ws p ≡ true → is_invalid (successors_of ws p) ≡ false
    → In (p + 1) (list_of (successors_of ws p)) ⊎ In (p + 2) (list_of (successors_of ws p))
unfolding opcode_at
goes-on ws p looks valid =
    let e = as_next ws p valid in
    subst (λ (s : Successors). Onward (length ws) p s) (sym e)
    (onward (length ws) p (class_of (opcode_at ws p)) (leads-on (get_or ws p 0) looks) (get_or ws p 0) (sym (ap is_invalid e) ∙ valid))

pub reading : Reading
reading = record { same = same; goes-on = goes-on }
