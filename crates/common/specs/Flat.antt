-- The answer of number and place as the C interface gives it: a struct of numbers (RULES 8).
-- Assumes nothing.
use Rattle.std.specs.Prelude.{Result}
use Rattle.common.specs.declared.c.FlatAnswer.{FlatAnswer}
use Rattle.common.specs.declared.refusal.Refusal.{Refusal}
use Rattle.common.specs.Refusals.{answer_number, answer_place}

-- the same of what gives a value or is refused
abbrev pub flat_result : {X : Type 0} → Result X Refusal → FlatAnswer
flat_result answer = record { number = answer_number answer; place = answer_place answer }
