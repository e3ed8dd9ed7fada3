-- What C gets of a word's fields, each under its own name (include/lawendeb.h): one that is changed in its
-- definition and in the code alike is refused here.
-- Assumes nothing.
use Rattle.std.specs.Prelude.{ℕ, ◌≡◌}
use Rattle.fields.specs.lua53.Word as word
use Rattle.lua53.specs.Flat.{flat_fields}

-- request C-24: "Add its 47 opcodes, fields, .."
pub record Flattened : Type 0 where
  pub mode : (m w : ℕ) → (flat_fields m (word.fields_of w)).mode ≡ m
  pub opcode : (m w : ℕ) → (flat_fields m (word.fields_of w)).opcode ≡ word.opcode_of w
  pub a : (m w : ℕ) → (flat_fields m (word.fields_of w)).a ≡ word.a_of w
  pub b : (m w : ℕ) → (flat_fields m (word.fields_of w)).b ≡ word.b_of w
  pub c : (m w : ℕ) → (flat_fields m (word.fields_of w)).c ≡ word.c_of w
  pub bx : (m w : ℕ) → (flat_fields m (word.fields_of w)).bx ≡ word.bx_of w
  pub ax : (m w : ℕ) → (flat_fields m (word.fields_of w)).ax ≡ word.ax_of w
  pub sbx : (m w : ℕ) → (flat_fields m (word.fields_of w)).sbx ≡ word.sbx_of w
