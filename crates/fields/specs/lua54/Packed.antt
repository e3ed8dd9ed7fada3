-- The step class, companion and fallback columns of the opcode table, a byte for each opcode; specs/Bits.antt
-- packs them, eight opcodes to a number.
-- Assumes nothing.
use Rattle.std.specs.Prelude.{ℕ, ◌+◌, ◌*◌}
use Rattle.fields.specs.lua54.Table.{
  class_number,
  class_of,
  companion_number,
  companion_of,
  fallback_number,
  fallback_of,
}

-- the companion and the step class of an opcode in a byte
abbrev pub companion_and_class : ℕ → ℕ
companion_and_class opcode = companion_number (companion_of opcode) * 16 + class_number (class_of opcode)

-- the fallback rule of an opcode
abbrev pub rule_of : ℕ → ℕ
rule_of opcode = fallback_number (fallback_of opcode)
