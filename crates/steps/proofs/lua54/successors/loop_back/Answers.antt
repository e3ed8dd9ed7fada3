use Rattle.std.proofs.Common.{arith, ◌≡◌, ◌∙◌}
use Rattle.sweep.proofs.Steps.{back_below, back_none}
use Rattle.steps.proofs.lua54.successors.loop_back.Goals as goal

pub returns-then-next-back : goal.returns-then-next-back
returns-then-next-back c = rw (← c.bx-back.ensures) (back_below _ _ _ c.if-next-back.true)

pub returns-then-back-eq0 : goal.returns-then-back-eq0
returns-then-back-eq0 c =
    let none : c.bx-back.result ≡ 0 = omega arith in
    c.one_of.ensures ∙ rw (← c.bx-back.ensures) (back_none _ _ _ none)
