-- The parts of a record as numbers: include/RECORD.md has the tables. A kind is the place of the case in
-- ir.rs or model.rs, an absent value is 0, and so is every number that a kind does not use.
-- Assumes nothing.
use Rattle.std.specs.Prelude.{ℕ, Bool, true, false, Float, Option, Some, None}
use Rattle.std.specs.Float.{binary64}
use Rattle.std.specs.Float.Ieee.{eq, to_bits}
use Rattle.std.specs.Int.{w64}
use Rattle.std.proofs.Common.{of_z}
use Rattle.common.specs.Chain.{choose}
use Rattle.values.specs.Values.{span_number}
use Rattle.values.specs.declared.model.Span.{Span}
use Rattle.values.specs.declared.model.ConstantValue.{ConstantValue}
use Rattle.values.specs.declared.model.ConstantValue.TheVariants as value
use Rattle.values.specs.declared.ir.TypedOperand.{TypedOperand}
use Rattle.values.specs.declared.ir.TypedOperand.TheVariants as operand
use Rattle.values.specs.declared.ir.EffectTarget.{EffectTarget}
use Rattle.values.specs.declared.ir.EffectTarget.TheVariants as target
use Rattle.values.specs.declared.ir.CompanionRole.{CompanionRole}
use Rattle.values.specs.declared.ir.CompanionRole.TheVariants as role
use Rattle.values.specs.declared.ir.ImplicitEffect.{ImplicitEffect}
use Rattle.values.specs.declared.ir.ImplicitEffect.TheVariants.{CloseUpvalues, ConditionalSkip, CompanionPair}
use Rattle.values.specs.declared.ir.Confidence.{Confidence}
use Rattle.values.specs.declared.ir.Confidence.TheVariants.{Reviewed, Unverified}
use Rattle.numbered.specs.declared.parts.FlatSlot.{FlatSlot}
use Rattle.numbered.specs.declared.parts.FlatPair.{FlatPair}

abbrev pub flag_number : Bool → ℕ
flag_number true = 1
flag_number false = 0

-- a float's bits. What is not a number has no bits as a `Float`, and no record holds it as one: see NanBits.
unfoldable pub float_bits : Float → ℕ
float_bits x = choose (eq x x) (to_bits binary64 x) 0

abbrev pub slot : ℕ → ℕ → ℕ → ℕ → FlatSlot
slot kind a b c = record { kind = kind; first = a; second = b; third = c }

abbrev pub pair : ℕ → ℕ → FlatPair
pair kind value = record { kind = kind; value = value }

-- whether there is a number, and it
abbrev pub flat_option : Option ℕ → FlatPair
flat_option None = pair 0 0
flat_option (Some n) = pair 1 n

-- whether there is a name, and its place
abbrev pub flat_name : Option Span → FlatPair
flat_name None = pair 0 0
flat_name (Some span) = pair 1 (span_number span.start span.len)

-- the kinds of model.rs's constants. A float that is not a number is of the floats' kind, by its own bits.
abbrev pub flat_value : ConstantValue → FlatPair
flat_value value.Nil = pair 0 0
flat_value (value.Boolean b) = pair 1 (flag_number b)
flat_value (value.Integer i) = pair 2 (of_z w64 i)
flat_value (value.Float x) = pair 3 (float_bits x)
flat_value (value.NanBits bits) = pair 3 bits
flat_value (value.ShortString span) = pair 4 (span_number span.start span.len)
flat_value (value.LongString span) = pair 5 (span_number span.start span.len)

-- the kinds of ir.rs's operands
abbrev pub flat_operand : TypedOperand → FlatSlot
flat_operand (operand.Register index) = slot 0 index 0 0
flat_operand (operand.Constant index value) = slot 1 index (flat_value value).kind (flat_value value).value
flat_operand (operand.Upvalue index name) = slot 2 index (flat_name name).kind (flat_name name).value
flat_operand (operand.Prototype index) = slot 3 index 0 0
flat_operand (operand.ImmediateInt value) = slot 4 (of_z w64 value) 0 0
flat_operand (operand.ImmediateFloat value) = slot 5 (float_bits value) 0 0
flat_operand (operand.Jump offset target) = slot 6 (of_z w64 offset) target 0
flat_operand (operand.Count value variable) = slot 7 value (flag_number variable) 0
flat_operand (operand.Flag value) = slot 8 (flag_number value) 0 0
flat_operand (operand.ExtraArg value) = slot 9 value 0 0

-- the kinds of ir.rs's reads and writes
abbrev pub flat_target : EffectTarget → FlatSlot
flat_target (target.Register index) = slot 0 index 0 0
flat_target (target.RegisterRange start end) = slot 1 start end 0
flat_target (target.RegisterRangeToTop start) = slot 2 start 0 0
flat_target (target.Upvalue index name) = slot 3 index (flat_name name).kind (flat_name name).value
flat_target (target.Constant index) = slot 4 index 0 0
flat_target (target.Prototype index) = slot 5 index 0 0
flat_target (target.JumpTarget pc) = slot 6 pc 0 0

-- EXTRAARG, or an event
abbrev pub flat_role : CompanionRole → FlatPair
flat_role role.ExtraArg = pair 0 0
flat_role (role.Event event) = pair 1 event

-- 0, or one more than the place of the case in ir.rs, which has four that lifter.rs does not make
abbrev pub flat_effect : Option ImplicitEffect → FlatSlot
flat_effect None = slot 0 0 0 0
flat_effect (Some (CloseUpvalues register)) = slot 4 register 0 0
flat_effect (Some (ConditionalSkip pc)) = slot 5 pc 0 0
flat_effect (Some (CompanionPair pc role)) = slot 7 pc (flat_role role).kind (flat_role role).value

abbrev pub flat_confidence : Confidence → ℕ
flat_confidence Unverified = 0
flat_confidence Reviewed = 1
