-- Document 01, "Records", RULES 10: what an arm of lifter.rs says. The lists stand in the order in which it
-- pushes them. "Operands (at most 4), reads (3), writes (2)", and "operand, read and write places past the
-- count hold register 0".
-- Assumes nothing.
use Rattle.std.specs.Prelude.{ℕ, List, Option, None}
use Rattle.values.specs.declared.few.Few.{Few}
use Rattle.values.specs.declared.ir.TypedOperand.{TypedOperand}
use Rattle.values.specs.declared.ir.TypedOperand.TheVariants as operand
use Rattle.values.specs.declared.ir.EffectTarget.{EffectTarget}
use Rattle.values.specs.declared.ir.EffectTarget.TheVariants as target
use Rattle.values.specs.declared.ir.ImplicitEffect.{ImplicitEffect}
use Rattle.values.specs.Few.{few}
use Rattle.builders.specs.declared.builders.Body.{Body}

-- the elements in their places, then register 0

abbrev pub operands_of : List TypedOperand → Few TypedOperand 4
operands_of xs = few 4 (operand.Register 0) xs

abbrev pub reads_of : List EffectTarget → Few EffectTarget 3
reads_of xs = few 3 (target.Register 0) xs

abbrev pub writes_of : List EffectTarget → Few EffectTarget 2
writes_of xs = few 2 (target.Register 0) xs

-- operands, reads, writes, implicit effect and jump target
abbrev pub body_of : Few TypedOperand 4 → Few EffectTarget 3 → Few EffectTarget 2
    → Option ImplicitEffect → Option ℕ → Body
body_of operands reads writes effect jump =
    record {
      operands = operands;
      reads = reads;
      writes = writes;
      implicit_effect = effect;
      jump_target = jump;
    }

-- no implicit effect and no jump target, which most arms have not
abbrev pub plain_of : Few TypedOperand 4 → Few EffectTarget 3 → Few EffectTarget 2 → Body
plain_of operands reads writes = body_of operands reads writes None None

-- the same by what the lists hold

abbrev pub body : List TypedOperand → List EffectTarget → List EffectTarget
    → Option ImplicitEffect → Option ℕ → Body
body operands reads writes effect jump =
    body_of (operands_of operands) (reads_of reads) (writes_of writes) effect jump

abbrev pub plain : List TypedOperand → List EffectTarget → List EffectTarget → Body
plain operands reads writes = plain_of (operands_of operands) (reads_of reads) (writes_of writes)
