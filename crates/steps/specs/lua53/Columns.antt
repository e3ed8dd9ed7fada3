-- Inner: no promise and no law between crates rests on what stands here.
-- The numbers of 5.3's step classes and companions: what they stand for.
-- Assumes nothing.
use Rattle.std.specs.Prelude.{ℕ, List, [], ◌∷◌, get_or}
use Rattle.fields.specs.lua53.Table.{
  StepClass,
  following,
  returning,
  branching,
  comparing,
  skipping,
  skipping_if_c,
  skipping_unless_c,
  jumping,
  looping,
  invalid,
  Companion,
  alone,
  jump_after,
  extra_after,
  extra_after_unless_c,
  loop_after,
}

-- the way back from fields' class_number
abbrev pub classes : List StepClass
classes =
    following
    ∷ returning
    ∷ branching
    ∷ comparing
    ∷ skipping
    ∷ skipping_if_c
    ∷ skipping_unless_c
    ∷ jumping
    ∷ looping
    ∷ []

unfoldable pub class_from : ℕ → StepClass
class_from number = get_or classes number invalid

-- the way back from fields' companion_number
abbrev pub companions : List Companion
companions =
    alone
    ∷ jump_after
    ∷ extra_after
    ∷ extra_after_unless_c
    ∷ []

unfoldable pub companion_from : ℕ → Companion
companion_from number = get_or companions number loop_after
