-- What several arms of lifter.rs share: sums of registers, the event map, and operands and effects that ask
-- the tables. A refinement of the original. Assumes nothing.
use Rattle.std.specs.Prelude.{ℕ, ◌+◌, ◌-◌, min, List, [], ◌∷◌, eqb, leb}
use Rattle.fields.specs.lua54.Events.{TM_LEN, TM_EQ, TM_ADD}
use Rattle.values.specs.declared.ir.TypedOperand.{TypedOperand}
use Rattle.values.specs.declared.ir.TypedOperand.TheVariants as O
use Rattle.values.specs.declared.ir.EffectTarget.{EffectTarget}
use Rattle.values.specs.declared.ir.EffectTarget.TheVariants as E
use Rattle.common.specs.Chain.{choose}
use Rattle.values.specs.Values.{constant_of, name_of}

-- "Register sums saturate at 255, and below at 0, one addition or subtraction at a time":
-- a sum stops at 255; a difference is that of ℕ, which stops at 0
abbrev pub plus : ℕ → ℕ → ℕ
plus a b = min (a + b) 255

-- "or 25 for `__metamethod`"
abbrev pub metamethod : ℕ
metamethod = 25

-- "`tm_name` in lifter.rs maps C 0 to 16 to events C + 6, 17 to 4, 18 to 5, others to 25"
unfoldable pub event_of : ℕ → ℕ
event_of c =
    choose (leb c 16) (c + TM_ADD) (choose (eqb c 17) TM_LEN (choose (eqb c 18) TM_EQ metamethod))

-- TypedOperand::Constant with get_const_val
unfoldable pub constant : List ℕ → List ℕ → ℕ → TypedOperand
constant tags payloads index = O.Constant index (constant_of tags payloads index)

-- TypedOperand::Upvalue and EffectTarget::Upvalue with get_upval_name
unfoldable pub upvalue : List ℕ → ℕ → TypedOperand
upvalue names index = O.Upvalue index (name_of names index)

unfoldable pub upvalue_target : List ℕ → ℕ → EffectTarget
upvalue_target names index = E.Upvalue index (name_of names index)

-- `if raw.k != 0`: a constant, else a register
unfoldable pub rk : List ℕ → List ℕ → ℕ → ℕ → TypedOperand
rk tags payloads k index = choose (eqb k 0) (O.Register index) (constant tags payloads index)

unfoldable pub rk_target : ℕ → ℕ → EffectTarget
rk_target k index = choose (eqb k 0) (E.Register index) (E.Constant index)

-- a count that is one more than meant, 0 for up to the stack top
unfoldable pub count_less : ℕ → TypedOperand
count_less field = O.Count (field - 1) (eqb field 0)

-- CALL's arguments, by B: up to the stack top, none, or a range
unfoldable pub arguments : ℕ → ℕ → List EffectTarget
arguments a b =
    choose (eqb b 0) (E.RegisterRangeToTop (plus a 1) ∷ [])
    (choose (leb b 1) [] (E.RegisterRange (plus a 1) (plus a b - 1) ∷ []))

-- CALL's results, by C, and the values of RETURN, by B
unfoldable pub results : ℕ → ℕ → List EffectTarget
results a field =
    choose (eqb field 0) (E.RegisterRangeToTop a ∷ [])
    (choose (leb field 1) [] (E.RegisterRange a (plus a field - 2) ∷ []))
