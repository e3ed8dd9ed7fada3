use Rattle.std.proofs.Common.{arith, Bool, ℕ, pos, ◌≡◌, ◌≤◌, ◌+◌, refl, ap, subst, ◌∙◌}
use borrow.Author.Tests.{le-ltb}
use Rattle.fields.specs.lua53.Word.{a_of}
use Rattle.fields.specs.lua53.Table.{comparing}
use Rattle.sweep.specs.Steps.{unless, two}
use Rattle.steps.specs.lua53.Columns.{class_from, companion_from}
use Rattle.steps.specs.lua53.Successors.{next_of}
use Rattle.steps.proofs.Rows53.{by_byte, asks, says}
use Rattle.steps.proofs.lua53.settling.entry_at.Goals as goal

-- with A at most 1 a comparison goes on either way
either_way : (t : Bool) (n w p : ℕ) → a_of w ≤ 1 → unless t (two n (pos (p + 1)) (pos (p + 2))) ≡ unless t (next_of comparing n w p)
either_way t n w p h = ap (unless t) (rw (le-ltb 1 (a_of w) h))

pub entry_of-requires : goal.entry_of-requires
unfolding unless companion_from class_from
entry_of-requires c =
    asks _ _ c.requires.1 c.requires.0
    (let none = c.if-byte-eq0.true in c.one_of.ensures ∙ by_byte _ _ c.requires.1 c.companion_and_class-byte.ensures 0 0 (omega (arith, none)) (omega (arith, none)))

pub returns-then-byte-eq0 : goal.returns-then-byte-eq0
unfolding unless companion_from class_from
returns-then-byte-eq0 c =
    says _ _ c.requires.1 c.requires.0
    (let none = c.if-byte-eq0.true in c.one_of.ensures ∙ by_byte _ _ c.requires.1 c.companion_and_class-byte.ensures 0 0 (omega (arith, none)) (omega (arith, none)))
    c.entry_of.ensures

pub entry_of-requires-then-class-eq-JUMPING : goal.entry_of-requires-then-class-eq-JUMPING
unfolding unless companion_from class_from
entry_of-requires-then-class-eq-JUMPING c =
    asks _ _ c.requires.1 c.requires.0
    (c.jump.ensures ∙ by_byte _ _ c.requires.1 c.companion_and_class-byte.ensures 0 7 c.if-companion-eq-ALONE.true c.if-class-eq-JUMPING.true)

pub returns-then-class-eq-JUMPING : goal.returns-then-class-eq-JUMPING
unfolding unless companion_from class_from
returns-then-class-eq-JUMPING c =
    says _ _ c.requires.1 c.requires.0
    (c.jump.ensures ∙ by_byte _ _ c.requires.1 c.companion_and_class-byte.ensures 0 7 c.if-companion-eq-ALONE.true c.if-class-eq-JUMPING.true)
    c.entry_of-then-class-eq-JUMPING.ensures

pub entry_of-requires-then-class-eq-BRANCHING : goal.entry_of-requires-then-class-eq-BRANCHING
unfolding companion_from class_from
entry_of-requires-then-class-eq-BRANCHING c =
    asks _ _ c.requires.1 c.requires.0
    (c.test.ensures ∙ by_byte _ _ c.requires.1 c.companion_and_class-byte.ensures 1 2 c.if-companion-eq-JUMP_AFTER.true c.if-class-eq-BRANCHING.true)

pub returns-then-class-eq-BRANCHING : goal.returns-then-class-eq-BRANCHING
unfolding companion_from class_from
returns-then-class-eq-BRANCHING c =
    says _ _ c.requires.1 c.requires.0
    (c.test.ensures ∙ by_byte _ _ c.requires.1 c.companion_and_class-byte.ensures 1 2 c.if-companion-eq-JUMP_AFTER.true c.if-class-eq-BRANCHING.true)
    c.entry_of-then-class-eq-BRANCHING.ensures

pub entry_of-requires-then-a-le1 : goal.entry_of-requires-then-a-le1
unfolding companion_from class_from
entry_of-requires-then-a-le1 c =
    asks _ _ c.requires.1 c.requires.0
    (c.test-then-a-le1.ensures ∙ (either_way _ _ _ _ (subst (λ (a : ℕ). a ≤ 1) c.a.ensures c.if-a-le1.true)
    ∙ by_byte _ _ c.requires.1 c.companion_and_class-byte.ensures 1 3 c.if-companion-eq-JUMP_AFTER-2.true c.if-class-eq-COMPARING.true))

pub returns-then-a-le1 : goal.returns-then-a-le1
unfolding companion_from class_from
returns-then-a-le1 c =
    says _ _ c.requires.1 c.requires.0
    (c.test-then-a-le1.ensures ∙ (either_way _ _ _ _ (subst (λ (a : ℕ). a ≤ 1) c.a.ensures c.if-a-le1.true)
    ∙ by_byte _ _ c.requires.1 c.companion_and_class-byte.ensures 1 3 c.if-companion-eq-JUMP_AFTER-2.true c.if-class-eq-COMPARING.true))
    c.entry_of-then-a-le1.ensures

pub entry_of-requires-2 : goal.entry_of-requires-2
entry_of-requires-2 c =
    asks _ _ c.requires.1 c.requires.0
    (c.successors_by.ensures ∙ by_byte _ _ c.requires.1 c.companion_and_class-byte.ensures _ _ refl refl)

pub returns : goal.returns
returns c =
    says _ _ c.requires.1 c.requires.0
    (c.successors_by.ensures ∙ by_byte _ _ c.requires.1 c.companion_and_class-byte.ensures _ _ refl refl)
    c.entry_of-2.ensures
