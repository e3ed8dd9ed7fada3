use Rattle.std.proofs.Common.{arith, sym, refl, ◌∙◌}
use Rattle.sweep.specs.Steps.{unless}
use Rattle.steps.specs.lua53.Columns.{class_from, companion_from}
use Rattle.steps.proofs.Words53.{outside}
use Rattle.steps.proofs.Rows53.{by_byte}
use Rattle.steps.proofs.lua53.successors.successors.Goals as goal

pub returns-then-words-p : goal.returns-then-words-p
returns-then-words-p c = sym (outside _ _ c.if-words-p.true)

pub returns-then-byte-eq0 : goal.returns-then-byte-eq0
unfolding unless companion_from class_from
returns-then-byte-eq0 c =
    let none = c.if-byte-eq0.true in
    c.one_of.ensures ∙ by_byte _ _ c.if-words-p.false c.companion_and_class-byte.ensures 0 0 (omega (arith, none)) (omega (arith, none))

pub returns : goal.returns
returns c = c.successors_by.ensures ∙ by_byte _ _ c.if-words-p.false c.companion_and_class-byte.ensures _ _ refl refl
