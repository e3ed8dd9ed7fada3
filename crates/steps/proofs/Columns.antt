-- The numbers in the columns of the opcode table lead back to what they stand for.
-- Assumes nothing.
use Prim.Native.Nat.{ℕ, ◌+◌, ◌*◌, ◌/◌, ◌%◌, ◌≤◌}
use mathlib.Core.Path.{◌≡◌, refl, ap, ◌∙◌}
use mathlib.Core.List.{List}
use native.Mathlib.Omega.{arith}
use lib.ListN.{get_or, get_or-eq_default}
use Rattle.fields.specs.lua54.Word.{opcode_of}
use Rattle.fields.specs.lua54.Table.{StepClass, following, returning, branching, skipping, skipping_if_k, jumping}
use Rattle.fields.specs.lua54.Table.{looping, preparing, entering, invalid, class_number, class_of, Companion, alone}
use Rattle.fields.specs.lua54.Table.{metamethod_after, arithmetic_before, jump_after, extra_after, extra_after_if_k}
use Rattle.fields.specs.lua54.Table.{call_at_target, loop_after, companion_number, companion_of, opcode_table}
use Rattle.fields.specs.lua54.Packed.{companion_and_class}
use Rattle.fields.proofs.Laws.{laws}
use Rattle.steps.specs.lua54.Successors.{opcode_at}
use Rattle.steps.specs.lua54.Columns.{classes, class_from, companions, companion_from}

pub class_back : (x : StepClass) → class_from (class_number x) ≡ x
unfolding class_from
class_back following = refl
class_back returning = refl
class_back branching = refl
class_back skipping = refl
class_back skipping_if_k = refl
class_back jumping = refl
class_back looping = refl
class_back preparing = refl
class_back entering = refl
class_back invalid = refl

-- past the named numbers
pub class_past : (number : ℕ) → 9 ≤ number → class_from number ≡ invalid
unfolding class_from
class_past number h = get_or-eq_default classes invalid h

pub companion_back : (x : Companion) → companion_from (companion_number x) ≡ x
unfolding companion_from
companion_back alone = refl
companion_back metamethod_after = refl
companion_back arithmetic_before = refl
companion_back jump_after = refl
companion_back extra_after = refl
companion_back extra_after_if_k = refl
companion_back call_at_target = refl
companion_back loop_after = refl

pub companion_past : (number : ℕ) → 7 ≤ number → companion_from number ≡ loop_after
unfolding companion_from
companion_past number h = get_or-eq_default companions loop_after h

-- word p's columns, looked up in the opcode table
module _ (table ws : List ℕ) (p : ℕ) (right : table ≡ opcode_table) where
  pub class_in : class_from (get_or table (opcode_of (get_or ws p 0) * 4 + 1) 0) ≡ class_of (opcode_at ws p)
  unfolding opcode_at
  class_in =
      rw (right, laws.class_entry (opcode_of (get_or ws p 0)) (omega arith)) (class_back (class_of (opcode_of (get_or ws p 0))))

  pub companion_in : companion_from (get_or table (opcode_of (get_or ws p 0) * 4 + 2) 0) ≡ companion_of (opcode_at ws p)
  unfolding opcode_at
  companion_in =
      rw (right, laws.companion_entry (opcode_of (get_or ws p 0)) (omega arith))
      (companion_back (companion_of (opcode_of (get_or ws p 0))))

-- the same, from a byte of the packed table
module _ (ws : List ℕ) (p byte : ℕ) (right : byte ≡ companion_and_class (opcode_of (get_or ws p 0))) where
  pub class_of_byte : class_from (byte % 16) ≡ class_of (opcode_at ws p)
  unfolding opcode_at
  class_of_byte =
      let o : ℕ = opcode_of (get_or ws p 0) in
      ap class_from (laws.class_half o right) ∙ class_back (class_of o)

  pub companion_of_byte : companion_from (byte / 16) ≡ companion_of (opcode_at ws p)
  unfolding opcode_at
  companion_of_byte =
      let o : ℕ = opcode_of (get_or ws p 0) in
      ap companion_from (laws.companion_half o right) ∙ companion_back (companion_of o)
