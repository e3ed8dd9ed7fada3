-- Inner: no promise and no law between crates rests on what stands here.
-- The numbers of the opcode table's step class and companion columns: what they stand for.
-- Assumes nothing.
use Rattle.std.specs.Prelude.{ℕ, List, [], ◌∷◌, get_or}
use Rattle.fields.specs.lua54.Table.{
  StepClass,
  following,
  returning,
  branching,
  skipping,
  skipping_if_k,
  jumping,
  looping,
  preparing,
  entering,
  invalid,
  Companion,
  alone,
  metamethod_after,
  arithmetic_before,
  jump_after,
  extra_after,
  extra_after_if_k,
  call_at_target,
  loop_after,
}

-- the way back from fields' class_number
abbrev pub classes : List StepClass
classes =
    following
    ∷ returning
    ∷ branching
    ∷ skipping
    ∷ skipping_if_k
    ∷ jumping
    ∷ looping
    ∷ preparing
    ∷ entering
    ∷ []

unfoldable pub class_from : ℕ → StepClass
class_from number = get_or classes number invalid

-- the way back from fields' companion_number
abbrev pub companions : List Companion
companions =
    alone
    ∷ metamethod_after
    ∷ arithmetic_before
    ∷ jump_after
    ∷ extra_after
    ∷ extra_after_if_k
    ∷ call_at_target
    ∷ []

unfoldable pub companion_from : ℕ → Companion
companion_from number = get_or companions number loop_after
