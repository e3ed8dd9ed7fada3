use Rattle.std.proofs.Common.{Bool, true, false, cond, eqb, ℕ, ◌≡◌, refl, sym, ◌∙◌}
use mathlib.Core.Bool.{false≢true}
use borrow.Author.Tests.{eqb-true}
use Rattle.sweep.specs.Steps.{unless}
use Rattle.steps.specs.lua54.Columns.{class_from, companion_from}
use Rattle.steps.proofs.Rows.{by_table, asks, says}
use Rattle.steps.proofs.lua54.settling.entry_in.Goals as goal

-- both columns are 0
both : (a b : ℕ) → cond (eqb a 0) (eqb b 0) false ≡ true → (a ≡ 0) × (b ≡ 0)
both a b e = go (eqb a 0) refl e
  where
    go : (t : Bool) → eqb a 0 ≡ t → cond t (eqb b 0) false ≡ true → (a ≡ 0) × (b ≡ 0)
    go true d e = (eqb-true a 0 d, eqb-true b 0 e)
    go false d e = absurd (false≢true e)

pub entry_of-requires : goal.entry_of-requires
unfolding unless companion_from class_from
entry_of-requires c =
    asks _ _ c.requires.2 c.requires.1
    (let z = both _ _ (sym c.goes_on.ensures ∙ c.if-goes_on.true) in c.one_of.ensures ∙ by_table _ _ c.requires.2 c.requires.0 c.companion_in-companion.ensures c.step_class_in-class.ensures 0 0 z.0 z.1)

pub returns-then-goes_on : goal.returns-then-goes_on
unfolding unless companion_from class_from
returns-then-goes_on c =
    says _ _ c.requires.2 c.requires.1
    (let z = both _ _ (sym c.goes_on.ensures ∙ c.if-goes_on.true) in c.one_of.ensures ∙ by_table _ _ c.requires.2 c.requires.0 c.companion_in-companion.ensures c.step_class_in-class.ensures 0 0 z.0 z.1)
    c.entry_of.ensures

pub entry_of-requires-then-class-eq-JUMPING : goal.entry_of-requires-then-class-eq-JUMPING
unfolding unless companion_from class_from
entry_of-requires-then-class-eq-JUMPING c =
    asks _ _ c.requires.2 c.requires.1
    (c.jump.ensures ∙ by_table _ _ c.requires.2 c.requires.0 c.companion_in-companion.ensures c.step_class_in-class.ensures 0 5 c.if-companion-eq-ALONE.true c.if-class-eq-JUMPING.true)

pub returns-then-class-eq-JUMPING : goal.returns-then-class-eq-JUMPING
unfolding unless companion_from class_from
returns-then-class-eq-JUMPING c =
    says _ _ c.requires.2 c.requires.1
    (c.jump.ensures ∙ by_table _ _ c.requires.2 c.requires.0 c.companion_in-companion.ensures c.step_class_in-class.ensures 0 5 c.if-companion-eq-ALONE.true c.if-class-eq-JUMPING.true)
    c.entry_of-then-class-eq-JUMPING.ensures

pub entry_of-requires-then-companion-eq-JUMP_AFTER : goal.entry_of-requires-then-companion-eq-JUMP_AFTER
unfolding companion_from class_from
entry_of-requires-then-companion-eq-JUMP_AFTER c =
    asks _ _ c.requires.2 c.requires.1
    (c.test.ensures ∙ by_table _ _ c.requires.2 c.requires.0 c.companion_in-companion.ensures c.step_class_in-class.ensures 3 2 c.if-companion-eq-JUMP_AFTER.true c.if-class-eq-BRANCHING.true)

pub returns-then-companion-eq-JUMP_AFTER : goal.returns-then-companion-eq-JUMP_AFTER
unfolding companion_from class_from
returns-then-companion-eq-JUMP_AFTER c =
    says _ _ c.requires.2 c.requires.1
    (c.test.ensures ∙ by_table _ _ c.requires.2 c.requires.0 c.companion_in-companion.ensures c.step_class_in-class.ensures 3 2 c.if-companion-eq-JUMP_AFTER.true c.if-class-eq-BRANCHING.true)
    c.entry_of-then-companion-eq-JUMP_AFTER.ensures

pub entry_of-requires-then-companion-eq-METAMETHOD_AFTER : goal.entry_of-requires-then-companion-eq-METAMETHOD_AFTER
unfolding companion_from class_from
entry_of-requires-then-companion-eq-METAMETHOD_AFTER c =
    asks _ _ c.requires.2 c.requires.1
    (c.arithmetic.ensures ∙ by_table _ _ c.requires.2 c.requires.0 c.companion_in-companion.ensures c.step_class_in-class.ensures 1 2 c.if-companion-eq-METAMETHOD_AFTER.true c.if-class-eq-BRANCHING.true)

pub returns-then-companion-eq-METAMETHOD_AFTER : goal.returns-then-companion-eq-METAMETHOD_AFTER
unfolding companion_from class_from
returns-then-companion-eq-METAMETHOD_AFTER c =
    says _ _ c.requires.2 c.requires.1
    (c.arithmetic.ensures ∙ by_table _ _ c.requires.2 c.requires.0 c.companion_in-companion.ensures c.step_class_in-class.ensures 1 2 c.if-companion-eq-METAMETHOD_AFTER.true c.if-class-eq-BRANCHING.true)
    c.entry_of-then-companion-eq-METAMETHOD_AFTER.ensures

pub entry_of-requires-then-class-eq-FOLLOWING : goal.entry_of-requires-then-class-eq-FOLLOWING
unfolding companion_from class_from
entry_of-requires-then-class-eq-FOLLOWING c =
    asks _ _ c.requires.2 c.requires.1
    (c.metamethod.ensures ∙ by_table _ _ c.requires.2 c.requires.0 c.companion_in-companion.ensures c.step_class_in-class.ensures 2 0 c.if-companion-eq-ARITHMETIC_BEFORE.true c.if-class-eq-FOLLOWING.true)

pub returns-then-class-eq-FOLLOWING : goal.returns-then-class-eq-FOLLOWING
unfolding companion_from class_from
returns-then-class-eq-FOLLOWING c =
    says _ _ c.requires.2 c.requires.1
    (c.metamethod.ensures ∙ by_table _ _ c.requires.2 c.requires.0 c.companion_in-companion.ensures c.step_class_in-class.ensures 2 0 c.if-companion-eq-ARITHMETIC_BEFORE.true c.if-class-eq-FOLLOWING.true)
    c.entry_of-then-class-eq-FOLLOWING.ensures

pub entry_by-requires : goal.entry_by-requires
entry_by-requires c =
    (c.requires.1, c.requires.2, by_table _ _ c.requires.2 c.requires.0 c.companion_in-companion.ensures c.step_class_in-class.ensures _ _ refl refl)
