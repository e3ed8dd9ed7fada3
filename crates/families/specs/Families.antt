-- Document 01, "Records", RULES 10: one definition for each arm of lifter.rs on loads, arithmetic and
-- control, in its order, or one for several arms that push the same.
-- A refinement of the original: what stands here is the Rust's behaviour, and not Lua's. `raw` is the decoded
-- word, as there. What an arm works out from pc comes as an argument: where a skip or a jump leads, and
-- the index that LOADKX takes.
-- Assumes nothing.
use Rattle.std.specs.Prelude.{ℕ, ◌+◌, ◌-◌, false, not, List, [], ◌∷◌, eqb, Option, Some, None}
use Rattle.fields.specs.declared.lua54.word.RawInstruction54.{RawInstruction54}
use Rattle.values.specs.declared.ir.TypedOperand.{TypedOperand}
use Rattle.values.specs.declared.ir.TypedOperand.TheVariants as O
use Rattle.values.specs.declared.ir.EffectTarget.TheVariants as E
use Rattle.values.specs.declared.ir.ImplicitEffect.{ImplicitEffect}
use Rattle.values.specs.declared.ir.ImplicitEffect.TheVariants.{CloseUpvalues, ConditionalSkip, CompanionPair}
use Rattle.values.specs.declared.ir.CompanionRole.TheVariants as role
use Rattle.builders.specs.declared.builders.Body.{Body}
use Rattle.builders.specs.Shapes.{body, plain}
use Rattle.builders.specs.Parts.{plus, event_of, constant}

-- Move, Unm, Bnot, Not, Len
abbrev pub unary : RawInstruction54 → Body
unary raw =
    plain (O.Register raw.a ∷ O.Register raw.b ∷ []) (E.Register raw.b ∷ [])
    (E.Register raw.a ∷ [])

-- Loadi, Loadf, Loadfalse, Lfalseskip, Loadtrue
abbrev pub load : RawInstruction54 → TypedOperand → Option ImplicitEffect → Body
load raw value effect = body (O.Register raw.a ∷ value ∷ []) [] (E.Register raw.a ∷ []) effect None

-- Loadk, Loadkx
abbrev pub load_constant_body : List ℕ → List ℕ → RawInstruction54 → ℕ → Option ImplicitEffect → Body
load_constant_body tags payloads raw index effect =
    body (O.Register raw.a ∷ constant tags payloads index ∷ []) (E.Constant index ∷ [])
    (E.Register raw.a ∷ []) effect None

-- Loadnil
abbrev pub loadnil : RawInstruction54 → Body
loadnil raw =
    plain (O.Register raw.a ∷ O.Count (raw.b + 1) false ∷ []) []
    (E.RegisterRange raw.a (plus raw.a raw.b) ∷ [])

-- the effect of Mmbin, Mmbini and Mmbink: `pc.saturating_sub(1)`, and the event that C names
abbrev pub pair_effect : ℕ → RawInstruction54 → ImplicitEffect
pair_effect pc raw = CompanionPair (pc - 1) (role.Event (event_of raw.c))

-- Mmbin, Mmbink
abbrev pub mmbin : ℕ → RawInstruction54 → Body
mmbin pc raw = body [] [] [] (Some (pair_effect pc raw)) None

-- Mmbini
abbrev pub mmbini : ℕ → RawInstruction54 → Body
mmbini pc raw =
    body (O.Register raw.a ∷ O.ImmediateInt raw.sb ∷ O.ExtraArg raw.c
    ∷ O.Flag (not (eqb raw.k 0)) ∷ []) [] []
    (Some (pair_effect pc raw)) None

-- Concat
abbrev pub concat : RawInstruction54 → Body
concat raw =
    plain (O.Register raw.a ∷ O.Count raw.b false ∷ [])
    (E.RegisterRange raw.a (plus raw.a raw.b - 1) ∷ [])
    (E.Register raw.a ∷ [])

-- Close
abbrev pub close : RawInstruction54 → Body
close raw = body (O.Register raw.a ∷ []) [] [] (Some (CloseUpvalues raw.a)) None

-- Tbc
abbrev pub tbc : RawInstruction54 → Body
tbc raw = plain (O.Register raw.a ∷ []) [] []

-- Jmp
abbrev pub jmp : RawInstruction54 → ℕ → Body
jmp raw dest = body (O.Jump raw.sj dest ∷ []) (E.JumpTarget dest ∷ []) [] None (Some dest)

-- Eqi, Lti, Lei, Gti, Gei
abbrev pub test_immediate : RawInstruction54 → ℕ → Body
test_immediate raw skip =
    body (O.Register raw.a ∷ O.ImmediateInt raw.sb ∷ O.Flag (not (eqb raw.k 0)) ∷ [])
    (E.Register raw.a ∷ []) []
    (Some (ConditionalSkip skip)) None

-- Eq, Lt, Le, Eqk, Test, Testset with a skip; Return0 and unknown opcodes with nothing
abbrev pub bare : Option ImplicitEffect → Body
bare effect = body [] [] [] effect None
