-- A word's fields as the C interface gives them, each with its own name and value, and the
-- number of its opcode's mode.
-- Assumes nothing.
use Rattle.std.specs.Prelude.{ℕ}
use Rattle.fields.specs.declared.lua53.word.RawInstruction53.{RawInstruction53}
use Rattle.lua53.specs.declared.c.FlatFields.{FlatFields}

abbrev pub flat_fields : ℕ → RawInstruction53 → FlatFields
flat_fields mode f =
    record {
      mode = mode;
      opcode = f.opcode_num;
      a = f.a;
      b = f.b;
      c = f.c;
      bx = f.bx;
      ax = f.ax;
      sbx = f.sbx;
    }
