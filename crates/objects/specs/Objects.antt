-- Document 01, "Records", RULES 10: one definition for each arm of lifter.rs on tables, upvalues, closures
-- and calls, in its order, or one for several arms that push the same.
-- A refinement of the original: what stands here is the Rust's behaviour, and not Lua's. `raw` is the decoded
-- word, as there. Where a loop's jump leads, worked out from pc, comes as an argument.
-- Assumes nothing.
use Rattle.std.specs.Prelude.{ℕ, false, List, [], ◌∷◌, eqb, ℤ, pos, Some, None}
use Rattle.fields.specs.declared.lua54.word.RawInstruction54.{RawInstruction54}
use Rattle.values.specs.declared.ir.TypedOperand.{TypedOperand}
use Rattle.values.specs.declared.ir.TypedOperand.TheVariants as O
use Rattle.values.specs.declared.ir.EffectTarget.TheVariants as E
use Rattle.builders.specs.declared.builders.Body.{Body}
use Rattle.builders.specs.Shapes.{body, plain}
use Rattle.builders.specs.Parts.{
  plus,
  constant,
  upvalue,
  upvalue_target,
  rk,
  rk_target,
  count_less,
  arguments,
  results,
}

-- Getupval
abbrev pub getupval : List ℕ → RawInstruction54 → Body
getupval names raw =
    plain (O.Register raw.a ∷ upvalue names raw.b ∷ []) (upvalue_target names raw.b ∷ [])
    (E.Register raw.a ∷ [])

-- Setupval
abbrev pub setupval : List ℕ → RawInstruction54 → Body
setupval names raw =
    plain (O.Register raw.a ∷ upvalue names raw.b ∷ []) (E.Register raw.a ∷ [])
    (upvalue_target names raw.b ∷ [])

-- Gettabup
abbrev pub gettabup : List ℕ → List ℕ → List ℕ → RawInstruction54 → Body
gettabup tags payloads names raw =
    plain (O.Register raw.a ∷ upvalue names raw.b ∷ rk tags payloads raw.k raw.c ∷ [])
    (rk_target raw.k raw.c ∷ upvalue_target names raw.b ∷ []) (E.Register raw.a ∷ [])

-- Gettable, and Add to Shr
abbrev pub three_registers : RawInstruction54 → Body
three_registers raw =
    plain (O.Register raw.a ∷ O.Register raw.b ∷ O.Register raw.c ∷ [])
    (E.Register raw.b ∷ E.Register raw.c ∷ []) (E.Register raw.a ∷ [])

-- Geti by C, and Addi, Shri, Shli by sC
abbrev pub with_immediate : RawInstruction54 → TypedOperand → Body
with_immediate raw value =
    plain (O.Register raw.a ∷ O.Register raw.b ∷ value ∷ []) (E.Register raw.b ∷ [])
    (E.Register raw.a ∷ [])

-- Getfield, and Addk to Bxork
abbrev pub with_constant : List ℕ → List ℕ → RawInstruction54 → Body
with_constant tags payloads raw =
    plain (O.Register raw.a ∷ O.Register raw.b ∷ constant tags payloads raw.c ∷ [])
    (E.Register raw.b ∷ E.Constant raw.c ∷ []) (E.Register raw.a ∷ [])

-- Settabup
abbrev pub settabup : List ℕ → List ℕ → List ℕ → RawInstruction54 → Body
settabup tags payloads names raw =
    plain (upvalue names raw.a ∷ rk tags payloads raw.k raw.b ∷ O.Register raw.c ∷ [])
    (rk_target raw.k raw.b ∷ E.Register raw.c ∷ []) (upvalue_target names raw.a ∷ [])

-- Settable
abbrev pub settable : List ℕ → List ℕ → RawInstruction54 → Body
settable tags payloads raw =
    plain (O.Register raw.a ∷ O.Register raw.b ∷ rk tags payloads raw.k raw.c ∷ [])
    (rk_target raw.k raw.c ∷ E.Register raw.a ∷ E.Register raw.b ∷ []) []

-- Seti
abbrev pub seti : List ℕ → List ℕ → RawInstruction54 → Body
seti tags payloads raw =
    plain (O.Register raw.a ∷ O.ImmediateInt (pos raw.b) ∷ rk tags payloads raw.k raw.c ∷ [])
    (rk_target raw.k raw.c ∷ E.Register raw.a ∷ []) []

-- Setfield
abbrev pub setfield : List ℕ → List ℕ → RawInstruction54 → Body
setfield tags payloads raw =
    plain (O.Register raw.a ∷ constant tags payloads raw.b ∷ rk tags payloads raw.k raw.c ∷ [])
    (rk_target raw.k raw.c ∷ E.Register raw.a ∷ E.Constant raw.b ∷ []) []

-- Newtable: B stands first, as the array's size, and C as the hash part's
abbrev pub newtable : RawInstruction54 → Body
newtable raw =
    plain (O.Register raw.a ∷ O.Count raw.b false ∷ O.Count raw.c false ∷ []) []
    (E.Register raw.a ∷ [])

-- SelfOp
abbrev pub self_op : List ℕ → List ℕ → RawInstruction54 → Body
self_op tags payloads raw =
    plain (O.Register raw.a ∷ O.Register raw.b ∷ rk tags payloads raw.k raw.c ∷ [])
    (rk_target raw.k raw.c ∷ E.Register raw.b ∷ [])
    (E.Register raw.a ∷ E.Register (plus raw.a 1) ∷ [])

-- Call
abbrev pub call : RawInstruction54 → Body
call raw =
    plain (O.Register raw.a ∷ count_less raw.b ∷ count_less raw.c ∷ [])
    (E.Register raw.a ∷ arguments raw.a raw.b)
    (results raw.a raw.c)

-- Tailcall
abbrev pub tailcall : RawInstruction54 → Body
tailcall raw = plain (O.Register raw.a ∷ count_less raw.b ∷ []) (E.Register raw.a ∷ []) []

-- Return
abbrev pub return : RawInstruction54 → Body
return raw = plain (O.Register raw.a ∷ count_less raw.b ∷ []) (results raw.a raw.b) []

-- Return1
abbrev pub return1 : RawInstruction54 → Body
return1 raw = plain (O.Register raw.a ∷ []) (E.Register raw.a ∷ []) []

-- Forprep, Forloop, Tforprep, Tforloop
abbrev pub loop_jump : RawInstruction54 → ℤ → ℕ → Body
loop_jump raw offset dest = body (O.Register raw.a ∷ O.Jump offset dest ∷ []) [] [] None (Some dest)

-- Tforcall
abbrev pub tforcall : RawInstruction54 → Body
tforcall raw =
    plain (O.Register raw.a ∷ O.ImmediateInt (pos raw.c) ∷ [])
    (E.RegisterRange raw.a (plus raw.a 2) ∷ [])
    (E.RegisterRange (plus raw.a 3) (plus (plus raw.a 2) raw.c) ∷ [])

-- Setlist
abbrev pub setlist : RawInstruction54 → Body
setlist raw =
    plain (O.Register raw.a ∷ O.Count raw.b (eqb raw.b 0) ∷ []) (E.Register raw.a ∷ []) []

-- Closure
abbrev pub closure : RawInstruction54 → Body
closure raw =
    plain (O.Register raw.a ∷ O.Prototype raw.bx ∷ []) (E.Prototype raw.bx ∷ [])
    (E.Register raw.a ∷ [])

-- Vararg
abbrev pub vararg : RawInstruction54 → Body
vararg raw = plain (O.Register raw.a ∷ count_less raw.c ∷ []) [] []

-- Varargprep
abbrev pub varargprep : RawInstruction54 → Body
varargprep raw = plain (O.Count raw.a false ∷ []) [] []

-- Extraarg
abbrev pub extraarg : RawInstruction54 → Body
extraarg raw = plain (O.ExtraArg raw.ax ∷ []) [] []
