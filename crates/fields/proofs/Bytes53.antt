-- The packed columns of 5.3: each byte is its opcode's.
-- Assumes nothing.
use Prim.Native.Nat.{ℕ, ◌/◌, ◌%◌, ◌<◌}
use mathlib.Core.Path.{◌≡◌}
use native.Mathlib.Omega.{arith}
use Rattle.fields.specs.lua53.Table.{StepClass, following, returning, branching, comparing, skipping}
use Rattle.fields.specs.lua53.Table.{skipping_if_c, skipping_unless_c, jumping, looping, invalid, class_number}
use Rattle.fields.specs.lua53.Table.{class_of, companion_number, companion_of, mode_of, companion_and_class}
use Rattle.fields.specs.lua53.Table.{mode_byte}
use Rattle.fields.specs.Bits.{eight_of, byte_of}
use Rattle.fields.proofs.Bytes.{byte_at}

pub steps_byte : (o : ℕ) → o < 64 → byte_of (eight_of companion_and_class (o / 8)) o ≡ companion_and_class o
unfolding eight_of class_of companion_of
steps_byte = byte_at companion_and_class 64 tt

pub mode_byte_at : (o : ℕ) → o < 64 → byte_of (eight_of mode_byte (o / 8)) o ≡ mode_byte o
unfolding eight_of mode_of
mode_byte_at = byte_at mode_byte 64 tt

class_low : (x : StepClass) → class_number x < 16
class_low following = omega arith
class_low returning = omega arith
class_low branching = omega arith
class_low comparing = omega arith
class_low skipping = omega arith
class_low skipping_if_c = omega arith
class_low skipping_unless_c = omega arith
class_low jumping = omega arith
class_low looping = omega arith
class_low invalid = omega arith

module _ (o : ℕ) {byte : ℕ} (right : byte ≡ companion_and_class o) where
  pub low_half : byte % 16 ≡ class_number (class_of o)
  low_half = omega (arith, right, class_low (class_of o))

  pub high_half : byte / 16 ≡ companion_number (companion_of o)
  high_half = omega (arith, right, class_low (class_of o))
