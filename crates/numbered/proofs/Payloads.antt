-- What leaves as numbers is what came in.
-- Assumes nothing.
use Prim.Native.Nat.{ℕ, ◌+◌, ◌-◌, ◌*◌, ◌/◌, ◌%◌, ◌<◌, ◌^◌}
use mathlib.Core.Path.{◌≡◌, refl, ◌∙◌, ap}
use mathlib.Core.Bool.{Bool, true, false}
use mathlib.Core.List.{List}
use native.Mathlib.Nat.{div-add-mod', add_comm, mul_comm}
use native.Mathlib.Omega.{arith}
use lib.Dec.{ltb}
use lib.ListN.{get_or}
use lib.IntN.{pos, negsuc}
use lib.Ieee.{binary64, nan_bits}
use mir.Syntax.{w64}
use mir.Val.{of_z}
use Rattle.values.specs.declared.model.ConstantValue.{ConstantValue}
use Rattle.std.specs.Prelude.{Option, Some, None}
use Rattle.values.specs.declared.model.Span.{Span}
use Rattle.values.specs.declared.ir.TypedOperand.{TypedOperand}
use Rattle.values.specs.declared.ir.TypedOperand.TheVariants as operand
use Rattle.values.specs.declared.ir.EffectTarget.{EffectTarget}
use Rattle.values.specs.declared.ir.EffectTarget.TheVariants as target
use Rattle.common.specs.Chain.{choose}
use Rattle.values.specs.Values.{span_of, span_number, signed64, float_of, value_of, constant_of, name_of}
use Rattle.records.specs.Lift.{lift_of}
use Rattle.records.specs.Sources.{operand_in, immediate_float}
use Rattle.records.proofs.Sources.{sources}
use Rattle.numbered.specs.declared.parts.FlatPair.{FlatPair}
use Rattle.numbered.specs.Parts.{float_bits, pair, flat_name, flat_value, flat_operand, flat_target}
use Rattle.numbered.specs.Payloads.{lent_constant, lent_name, lent_constant_at, lent_name_at, OperandKept, TargetKept, Slice64, PayloadsKept}
use Rattle.numbered.proofs.Floats.{bits_of, bits_back, integer_number}

-- ---- one value

-- a choice of values, each of which is kept
pick : (t : Bool) (x y : ConstantValue) (p q : FlatPair) → flat_value x ≡ p → flat_value y ≡ q → flat_value (choose t x y) ≡ choose t p q
unfolding choose
pick true x y p q a b = a
pick false x y p q a b = b

module _ (payload : ℕ) (h : payload < 2 ^ 64) where
  span : span_number (span_of payload).start (span_of payload).len ≡ payload
  span =
      ap (λ (high : ℕ). payload % 2 ^ 32 + high) (mul_comm (2 ^ 32) (payload / 2 ^ 32))
      ∙ add_comm (payload % 2 ^ 32) (payload / 2 ^ 32 * 2 ^ 32) ∙ div-add-mod' payload (2 ^ 32)

  signed_at : (t : Bool) → of_z w64 (choose t (pos payload) (negsuc (2 ^ 64 - 1 - payload))) ≡ payload
  unfolding choose
  signed_at true = refl
  signed_at false = omega arith

  signed : of_z w64 (signed64 payload) ≡ payload
  unfolding signed64
  signed = signed_at (ltb payload (2 ^ 63))

  float_at : (t : Bool) → nan_bits binary64 payload ≡ t → flat_value (float_of payload) ≡ pair 3 payload
  unfolding float_of choose
  float_at true e = rw e
  float_at false e = rw e (ap (pair 3) (bits_back payload h e))

  pub value_kept : (tag : ℕ) → flat_value (value_of tag payload) ≡ lent_constant tag payload
  unfolding value_of lent_constant
  value_kept tag =
      pick _ _ _ _ _ refl
      (pick _ _ _ _ _ refl
      (pick _ _ _ _ _ (ap (pair 2) signed)
      (pick _ _ _ _ _ (float_at (nan_bits binary64 payload) refl) (pick _ _ _ _ _ (ap (pair 4) span) (pick _ _ _ _ _ (ap (pair 5) span) refl)))))

  name_kept : (t : Bool) → flat_name (choose t None (Some (span_of payload))) ≡ choose t (pair 0 0) (pair 1 payload)
  unfolding choose
  name_kept true = refl
  name_kept false = ap (pair 1) span

-- ---- one index of the tables

constant_kept : (tags payloads : List ℕ) (index : ℕ) → Slice64 payloads → flat_value (constant_of tags payloads index) ≡ lent_constant_at tags payloads index
unfolding constant_of lent_constant_at
constant_kept tags payloads index h = pick _ _ _ _ _ (pick _ _ _ _ _ (value_kept (get_or payloads index 0) (h index) (get_or tags index 0)) refl) refl

pick_name : (t : Bool) (x : Option Span) (p : FlatPair) → flat_name x ≡ p → flat_name (choose t x None) ≡ choose t p (pair 0 0)
unfolding choose
pick_name true x p e = e
pick_name false x p e = refl

name_at_kept : (names : List ℕ) (index : ℕ) → Slice64 names → flat_name (name_of names index) ≡ lent_name_at names index
unfolding name_of lent_name_at lent_name
name_at_kept names index h = pick_name _ _ _ (name_kept (get_or names index 0) (h index) _)

-- ---- one place of a record

module _ (words tags payloads names : List ℕ) (pc : ℕ) (hp : Slice64 payloads) (hn : Slice64 names) where
  operand_kept : (k : ℕ) (o : TypedOperand) → operand_in (lift_of words tags payloads names pc).operands.slots k ≡ o
      → OperandKept words tags payloads names pc (flat_operand o)
  operand_kept k (operand.Register index) e =
      record {
        constant = λ h. absurd (omega arith);
        upvalue = λ h. absurd (omega arith);
        float = λ h. absurd (omega arith);
      }
  operand_kept k (operand.Constant index value) e =
      record {
        constant = λ h. ap flat_value ((sources words tags payloads names pc).constants k index value e) ∙ constant_kept tags payloads index hp;
        upvalue = λ h. absurd (omega arith);
        float = λ h. absurd (omega arith);
      }
  operand_kept k (operand.Upvalue index name) e =
      record {
        constant = λ h. absurd (omega arith);
        upvalue = λ h. ap flat_name ((sources words tags payloads names pc).operand_names k index name e) ∙ name_at_kept names index hn;
        float = λ h. absurd (omega arith);
      }
  operand_kept k (operand.Prototype index) e =
      record {
        constant = λ h. absurd (omega arith);
        upvalue = λ h. absurd (omega arith);
        float = λ h. absurd (omega arith);
      }
  operand_kept k (operand.ImmediateInt value) e =
      record {
        constant = λ h. absurd (omega arith);
        upvalue = λ h. absurd (omega arith);
        float = λ h. absurd (omega arith);
      }
  operand_kept k (operand.ImmediateFloat value) e =
      record {
        constant = λ h. absurd (omega arith);
        upvalue = λ h. absurd (omega arith);
        float = λ h. ap float_bits ((sources words tags payloads names pc).floats k value e) ∙ bits_of (immediate_float words pc) (integer_number _);
      }
  operand_kept k (operand.Jump offset dest) e =
      record {
        constant = λ h. absurd (omega arith);
        upvalue = λ h. absurd (omega arith);
        float = λ h. absurd (omega arith);
      }
  operand_kept k (operand.Count value variable) e =
      record {
        constant = λ h. absurd (omega arith);
        upvalue = λ h. absurd (omega arith);
        float = λ h. absurd (omega arith);
      }
  operand_kept k (operand.Flag value) e =
      record {
        constant = λ h. absurd (omega arith);
        upvalue = λ h. absurd (omega arith);
        float = λ h. absurd (omega arith);
      }
  operand_kept k (operand.ExtraArg value) e =
      record {
        constant = λ h. absurd (omega arith);
        upvalue = λ h. absurd (omega arith);
        float = λ h. absurd (omega arith);
      }

module _ (names : List ℕ) (hn : Slice64 names) where
  -- a target, by where its name comes from
  target_kept : (o : EffectTarget) → ((index : ℕ) (name : Option Span) → o ≡ target.Upvalue index name → name ≡ name_of names index)
      → TargetKept names (flat_target o)
  target_kept (target.Register index) f h = absurd (omega arith)
  target_kept (target.RegisterRange start end) f h = absurd (omega arith)
  target_kept (target.RegisterRangeToTop start) f h = absurd (omega arith)
  target_kept (target.Upvalue index name) f h = ap flat_name (f index name refl) ∙ name_at_kept names index hn
  target_kept (target.Constant index) f h = absurd (omega arith)
  target_kept (target.Prototype index) f h = absurd (omega arith)
  target_kept (target.JumpTarget pc) f h = absurd (omega arith)

pub payloads_kept : PayloadsKept
payloads_kept =
    record {
      values = λ tag payload h. value_kept payload h tag;
      constants = constant_kept;
      names = name_at_kept;
      operands = λ words tags payloads names pc k hp hn. operand_kept words tags payloads names pc hp hn k _ refl;
      reads = λ words tags payloads names pc k hn. target_kept names hn _ ((sources words tags payloads names pc).read_names k);
      writes = λ words tags payloads names pc k hn. target_kept names hn _ ((sources words tags payloads names pc).write_names k);
    }
