use Rattle.std.proofs.Common.{◌≡◌, ◌-◌, refl, sym, ap, ◌∙◌, arith, length, take, drop, take_all, length-drop}
use Rattle.std.specs.Result.{result_unwrap_or}
use Rattle.lines.proofs.Infos.{placed_none, placed_there}
use Rattle.lines.proofs.lines.places.Goals as goal

pub returns-in_default : goal.returns-in_default
returns-in_default c = placed_none _ _ _ _ (sym c.in_default.ensures.value) refl refl

pub returns : goal.returns
returns c =
    let h : take (length c.args.chunk.now - c.in-Ok.start) (drop c.in-Ok.start c.args.chunk.now) ≡ drop c.in-Ok.start c.args.chunk.now =
    take_all _ _ (omega (arith, length-drop c.in-Ok.start c.args.chunk.now)) in
    placed_there _ _ _ _ _ _ (sym c.in-Ok.ensures.value) (ap (take c.in-Ok.n) h)
    (c.unwrap_or-left.ensures ∙ ap (λ x. result_unwrap_or x (0, 0)) c.int.ensures)
