use Rattle.std.proofs.Common.{refl, arith}
use Rattle.pages.specs.Text.{Puts}
use Rattle.pages.proofs.page.Page.put.Goals as goal
use Rattle.pages.proofs.page.Page.put.Goals.{
  then-size-text-via-then-size-text,
  then-size-text-via-else-size-text+then-size-text-2,
}

-- no room: nothing is said
pub returns-then-size-text : goal.returns-then-size-text
unfolding Puts
returns-then-size-text c h =
    elim c.then-size-text.branch [
      | then-size-text-via-then-size-text w ↦ absurd (omega (arith, w.if-size-text.true))
      | then-size-text-via-else-size-text+then-size-text-2 w ↦ absurd (omega (arith, w.if-size-text.false, w.if-size-text-2.true))
    ]

pub returns : goal.returns
unfolding Puts
returns c h = (c.put_text.ensures, refl, refl)
