-- Where what a record says comes from: a constant, an upvalue's name and a float are those of the lent
-- tables and of the word itself.
-- Assumes nothing.
use Rattle.std.specs.Prelude.{ℕ, ◌≡◌, List, Float, get_or, Option}
use Rattle.std.specs.Float.{binary64}
use Rattle.std.specs.Float.Ieee.{of_int}
use Rattle.fields.specs.lua54.Word.{sbx_of}
use Rattle.values.specs.declared.model.ConstantValue.{ConstantValue}
use Rattle.values.specs.declared.model.Span.{Span}
use Rattle.values.specs.declared.ir.TypedOperand.{TypedOperand}
use Rattle.values.specs.declared.ir.TypedOperand.TheVariants as O
use Rattle.values.specs.declared.ir.EffectTarget.{EffectTarget}
use Rattle.values.specs.declared.ir.EffectTarget.TheVariants as E
use Rattle.values.specs.Values.{constant_of, name_of}
use Rattle.records.specs.Lift.{lift_of}

-- place k of a record's list; past its places there would be register 0
abbrev pub operand_in : List TypedOperand → ℕ → TypedOperand
operand_in operands k = get_or operands k (O.Register 0)

abbrev pub target_in : List EffectTarget → ℕ → EffectTarget
target_in targets k = get_or targets k (E.Register 0)

-- "LOADF's value is sBx, exact"
abbrev pub immediate_float : List ℕ → ℕ → Float
immediate_float words pc = of_int binary64 (sbx_of (get_or words pc 0))

-- of the record of word pc, whatever the word is
pub record Sources (words tags payloads names : List ℕ) (pc : ℕ) : Type 0 where
  pub constants :
      (k index : ℕ) (value : ConstantValue)
      → operand_in (lift_of words tags payloads names pc).operands.slots k ≡ O.Constant index value
      → value ≡ constant_of tags payloads index
  pub floats :
      (k : ℕ) (value : Float)
      → operand_in (lift_of words tags payloads names pc).operands.slots k ≡ O.ImmediateFloat value
      → value ≡ immediate_float words pc
  pub operand_names :
      (k index : ℕ) (name : Option Span)
      → operand_in (lift_of words tags payloads names pc).operands.slots k ≡ O.Upvalue index name
      → name ≡ name_of names index
  pub read_names :
      (k index : ℕ) (name : Option Span)
      → target_in (lift_of words tags payloads names pc).reads.slots k ≡ E.Upvalue index name
      → name ≡ name_of names index
  pub write_names :
      (k index : ℕ) (name : Option Span)
      → target_in (lift_of words tags payloads names pc).writes.slots k ≡ E.Upvalue index name
      → name ≡ name_of names index
