-- The numbers of 5.3's columns lead back to what they stand for.
-- Assumes nothing.
use Prim.Native.Nat.{ℕ, ◌/◌, ◌%◌, ◌≤◌}
use mathlib.Core.Path.{◌≡◌, refl, ap, ◌∙◌}
use mathlib.Core.List.{List}
use lib.ListN.{get_or, get_or-eq_default}
use Rattle.fields.specs.lua53.Word.{opcode_of}
use Rattle.fields.specs.lua53.Table.{StepClass, following, returning, branching, comparing, skipping, skipping_if_c}
use Rattle.fields.specs.lua53.Table.{skipping_unless_c, jumping, looping, invalid, class_number, class_of, Companion}
use Rattle.fields.specs.lua53.Table.{alone, jump_after, extra_after, extra_after_unless_c, loop_after, companion_number}
use Rattle.fields.specs.lua53.Table.{companion_of, companion_and_class}
use Rattle.fields.proofs.Laws.{laws}
use Rattle.steps.specs.lua53.Successors.{opcode_at}
use Rattle.steps.specs.lua53.Columns.{classes, class_from, companions, companion_from}

pub class_back : (x : StepClass) → class_from (class_number x) ≡ x
unfolding class_from
class_back following = refl
class_back returning = refl
class_back branching = refl
class_back comparing = refl
class_back skipping = refl
class_back skipping_if_c = refl
class_back skipping_unless_c = refl
class_back jumping = refl
class_back looping = refl
class_back invalid = refl

-- past the named numbers
pub class_past : (number : ℕ) → 9 ≤ number → class_from number ≡ invalid
unfolding class_from
class_past number h = get_or-eq_default classes invalid h

pub companion_back : (x : Companion) → companion_from (companion_number x) ≡ x
unfolding companion_from
companion_back alone = refl
companion_back jump_after = refl
companion_back extra_after = refl
companion_back extra_after_unless_c = refl
companion_back loop_after = refl

pub companion_past : (number : ℕ) → 4 ≤ number → companion_from number ≡ loop_after
unfolding companion_from
companion_past number h = get_or-eq_default companions loop_after h

-- word p's columns, from a byte of the packed table
module _ (ws : List ℕ) (p byte : ℕ) (right : byte ≡ companion_and_class (opcode_of (get_or ws p 0))) where
  pub class_of_byte : class_from (byte % 16) ≡ class_of (opcode_at ws p)
  unfolding opcode_at
  class_of_byte =
      let o : ℕ = opcode_of (get_or ws p 0) in
      ap class_from (laws.lua53.class_half o right) ∙ class_back (class_of o)

  pub companion_of_byte : companion_from (byte / 16) ≡ companion_of (opcode_at ws p)
  unfolding opcode_at
  companion_of_byte =
      let o : ℕ = opcode_of (get_or ws p 0) in
      ap companion_from (laws.lua53.companion_half o right) ∙ companion_back (companion_of o)
