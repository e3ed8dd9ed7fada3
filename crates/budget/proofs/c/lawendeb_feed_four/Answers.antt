use Rattle.std.proofs.Common.{ap, ◌∙◌}
use Rattle.budget.specs.Four.{FedFour}
use Rattle.budget.proofs.Own.{four_refused, four_taken}
use Rattle.budget.proofs.c.lawendeb_feed_four.Goals as goal

pub returns-in-Ok : goal.returns-in-Ok
returns-in-Ok c =
    let f = four_taken _ _ _ _ _ c.in-Ok.ensures in
    (c.from.ensures ∙ ap (λ (x : FedFour). x.answer) f, c.store.ensures ∙ ap (λ (x : FedFour). x.meters) f)

pub returns-in-Err : goal.returns-in-Err
returns-in-Err c =
    let f = four_refused _ _ _ _ _ _ c.in-Err.ensures in
    (c.from-in-Err.ensures ∙ ap (λ (x : FedFour). x.answer) f, ap (λ (x : FedFour). x.meters) f)
