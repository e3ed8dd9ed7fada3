use Rattle.std.proofs.Common.{ap, ◌∙◌}
use Rattle.std.specs.Option.{unwrap_or}
use Rattle.runs.proofs.Weights.{place_count, place_found}
use Rattle.runs.proofs.weighing.weights_place.Goals as goal

pub returns-then-weights-ne-WEIGHTS : goal.returns-then-weights-ne-WEIGHTS
returns-then-weights-ne-WEIGHTS c = place_count _ c.if-weights-ne-WEIGHTS.true

pub returns : goal.returns
returns c =
    place_found _ c.if-weights-ne-WEIGHTS.false (c.unwrap_or.ensures ∙ ap (λ o. unwrap_or o 128) c.first_zero.ensures)
