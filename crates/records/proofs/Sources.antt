-- Where what a record says comes from: arm by arm, what it pushes; then group by group, which arm is taken.
-- Assumes nothing.
use Prim.Native.Nat.{ℕ, zero, suc}
use mathlib.Core.Path.{◌≡◌, refl, sym, subst}
use mathlib.Core.Bool.{Bool, true, false}
use mathlib.Core.List.{List, [], ◌∷◌}
use Rattle.std.specs.Prelude.{Option}
use lib.IntN.{ℤ}
use lib.Dec.{eqb, leb}
use lib.Ieee.{Float, binary64, of_int}
use lib.ListN.{get_or, take}
use Rattle.fields.specs.declared.lua54.word.RawInstruction54.{RawInstruction54}
use Rattle.fields.specs.lua54.Word.{fields_of, opcode_of}
use Rattle.values.specs.declared.ir.TypedOperand.{TypedOperand}
use Rattle.values.specs.declared.ir.TypedOperand.TheVariants as O
use Rattle.values.specs.declared.ir.EffectTarget.{EffectTarget}
use Rattle.values.specs.declared.ir.EffectTarget.TheVariants as E
use Rattle.values.specs.declared.ir.ImplicitEffect.{ImplicitEffect}
use Rattle.common.specs.Chain.{choose}
use Rattle.values.specs.Few.{few}
use Rattle.values.specs.Values.{constant_of, name_of}
use Rattle.values.proofs.Places.{place_made}
use Rattle.builders.specs.declared.builders.Body.{Body}
use Rattle.builders.specs.Shapes.{body}
use Rattle.builders.specs.Parts.{constant, upvalue, upvalue_target, rk, rk_target, count_less, arguments, results}
use Rattle.families.specs.Families as F
use Rattle.objects.specs.Objects as objects
use Rattle.dispatch.specs.Dispatch.{loads, tables, arithmetic, control, calls, record_body}
use Rattle.records.specs.Lift.{lift_of}
use Rattle.records.specs.Sources.{operand_in, target_in, immediate_float, Sources}

module _ (tags payloads names : List ℕ) (float : Float) where
  abbrev FromOperand : TypedOperand → Type 0
  FromOperand (O.Register index) = Unit {0}
  FromOperand (O.Constant index value) = value ≡ constant_of tags payloads index
  FromOperand (O.Upvalue index name) = name ≡ name_of names index
  FromOperand (O.Prototype index) = Unit {0}
  FromOperand (O.ImmediateInt value) = Unit {0}
  FromOperand (O.ImmediateFloat value) = value ≡ float
  FromOperand (O.Jump offset dest) = Unit {0}
  FromOperand (O.Count value variable) = Unit {0}
  FromOperand (O.Flag value) = Unit {0}
  FromOperand (O.ExtraArg value) = Unit {0}

  abbrev FromTarget : EffectTarget → Type 0
  FromTarget (E.Register index) = Unit {0}
  FromTarget (E.RegisterRange start end) = Unit {0}
  FromTarget (E.RegisterRangeToTop start) = Unit {0}
  FromTarget (E.Upvalue index name) = name ≡ name_of names index
  FromTarget (E.Constant index) = Unit {0}
  FromTarget (E.Prototype index) = Unit {0}
  FromTarget (E.JumpTarget pc) = Unit {0}

  -- all that is pushed

  abbrev Operands : List TypedOperand → Type 0
  Operands [] = Unit {0}
  Operands (x ∷ xs) = FromOperand x × Operands xs

  abbrev Targets : List EffectTarget → Type 0
  Targets [] = Unit {0}
  Targets (x ∷ xs) = FromTarget x × Targets xs

  -- all places of a body
  record From (b : Body) : Type 0 where
    operands : (k : ℕ) → FromOperand (operand_in b.operands.slots k)
    reads : (k : ℕ) → FromTarget (target_in b.reads.slots k)
    writes : (k : ℕ) → FromTarget (target_in b.writes.slots k)

  -- a choice is one of the two

  either : (t : Bool) (x y : Body) → From x → From y → From (choose t x y)
  unfolding choose
  either true x y p q = p
  either false x y p q = q

  either_operand : (t : Bool) (x y : TypedOperand) → FromOperand x → FromOperand y → FromOperand (choose t x y)
  unfolding choose
  either_operand true x y p q = p
  either_operand false x y p q = q

  either_target : (t : Bool) (x y : EffectTarget) → FromTarget x → FromTarget y → FromTarget (choose t x y)
  unfolding choose
  either_target true x y p q = p
  either_target false x y p q = q

  either_targets : (t : Bool) (x y : List EffectTarget) → Targets x → Targets y → Targets (choose t x y)
  unfolding choose
  either_targets true x y p q = p
  either_targets false x y p q = q

  -- the places of a list of what is pushed: that, then register 0

  first_operands : (n : ℕ) (xs : List TypedOperand) → Operands xs → (k : ℕ) → FromOperand (operand_in (take n xs) k)
  first_operands zero xs h k = tt
  first_operands (suc n) [] h k = tt
  first_operands (suc n) (x ∷ xs) h zero = h.0
  first_operands (suc n) (x ∷ xs) h (suc k) = first_operands n xs h.1 k

  first_targets : (n : ℕ) (xs : List EffectTarget) → Targets xs → (k : ℕ) → FromTarget (target_in (take n xs) k)
  first_targets zero xs h k = tt
  first_targets (suc n) [] h k = tt
  first_targets (suc n) (x ∷ xs) h zero = h.0
  first_targets (suc n) (x ∷ xs) h (suc k) = first_targets n xs h.1 k

  in_operands : (n : ℕ) (xs : List TypedOperand) → Operands xs → (k : ℕ)
      → FromOperand (operand_in (few n (O.Register 0) xs).slots k)
  in_operands n xs h k = subst FromOperand (sym (place_made (O.Register 0) n xs k)) (first_operands n xs h k)

  in_targets : (n : ℕ) (xs : List EffectTarget) → Targets xs → (k : ℕ)
      → FromTarget (target_in (few n (E.Register 0) xs).slots k)
  in_targets n xs h k = subst FromTarget (sym (place_made (E.Register 0) n xs k)) (first_targets n xs h k)

  pushed : (xs : List TypedOperand) (ys zs : List EffectTarget) (e : Option ImplicitEffect) (j : Option ℕ)
      → Operands xs → Targets ys → Targets zs → From (body xs ys zs e j)
  pushed xs ys zs e j p q r = record { operands = in_operands 4 xs p; reads = in_targets 3 ys q; writes = in_targets 2 zs r }

  -- what several arms share

  a_constant : (i : ℕ) → FromOperand (constant tags payloads i)
  unfolding constant
  a_constant i = refl

  an_upvalue : (i : ℕ) → FromOperand (upvalue names i)
  unfolding upvalue
  an_upvalue i = refl

  its_target : (i : ℕ) → FromTarget (upvalue_target names i)
  unfolding upvalue_target
  its_target i = refl

  an_rk : (k i : ℕ) → FromOperand (rk tags payloads k i)
  unfolding rk
  an_rk k i = either_operand (eqb k 0) (O.Register i) (constant tags payloads i) tt (a_constant i)

  an_rk_target : (k i : ℕ) → FromTarget (rk_target k i)
  unfolding rk_target
  an_rk_target k i = either_target (eqb k 0) (E.Register i) (E.Constant i) tt tt

  a_count : (field : ℕ) → FromOperand (count_less field)
  unfolding count_less
  a_count field = tt

  all_arguments : (a b : ℕ) → Targets (arguments a b)
  unfolding arguments
  all_arguments a b = either_targets (eqb b 0) _ _ (tt, tt) (either_targets (leb b 1) _ _ tt (tt, tt))

  all_results : (a field : ℕ) → Targets (results a field)
  unfolding results
  all_results a field = either_targets (eqb field 0) _ _ (tt, tt) (either_targets (leb field 1) _ _ tt (tt, tt))

  -- the arms

  module _ (raw : RawInstruction54) where
    a_unary : From (F.unary raw)
    a_unary = pushed _ _ _ _ _ (tt, (tt, tt)) (tt, tt) (tt, tt)

    a_load : (value : TypedOperand) (effect : Option ImplicitEffect) → FromOperand value → From (F.load raw value effect)
    a_load value effect h = pushed _ _ _ _ _ (tt, (h, tt)) tt (tt, tt)

    a_load_constant : (i : ℕ) (effect : Option ImplicitEffect) → From (F.load_constant_body tags payloads raw i effect)
    a_load_constant i effect = pushed _ _ _ _ _ (tt, (a_constant i, tt)) (tt, tt) (tt, tt)

    a_loadnil : From (F.loadnil raw)
    a_loadnil = pushed _ _ _ _ _ (tt, (tt, tt)) tt (tt, tt)

    a_getupval : From (objects.getupval names raw)
    a_getupval = pushed _ _ _ _ _ (tt, (an_upvalue raw.b, tt)) (its_target raw.b, tt) (tt, tt)

    a_setupval : From (objects.setupval names raw)
    a_setupval = pushed _ _ _ _ _ (tt, (an_upvalue raw.b, tt)) (tt, tt) (its_target raw.b, tt)

    a_gettabup : From (objects.gettabup tags payloads names raw)
    a_gettabup =
        pushed _ _ _ _ _ (tt, (an_upvalue raw.b, (an_rk raw.k raw.c, tt))) (an_rk_target raw.k raw.c, (its_target raw.b, tt)) (tt, tt)

    a_three : From (objects.three_registers raw)
    a_three = pushed _ _ _ _ _ (tt, (tt, (tt, tt))) (tt, (tt, tt)) (tt, tt)

    an_immediate : (value : TypedOperand) → FromOperand value → From (objects.with_immediate raw value)
    an_immediate value h = pushed _ _ _ _ _ (tt, (tt, (h, tt))) (tt, tt) (tt, tt)

    with_a_constant : From (objects.with_constant tags payloads raw)
    with_a_constant = pushed _ _ _ _ _ (tt, (tt, (a_constant raw.c, tt))) (tt, (tt, tt)) (tt, tt)

    a_settabup : From (objects.settabup tags payloads names raw)
    a_settabup =
        pushed _ _ _ _ _ (an_upvalue raw.a, (an_rk raw.k raw.b, (tt, tt))) (an_rk_target raw.k raw.b, (tt, tt)) (its_target raw.a, tt)

    a_settable : From (objects.settable tags payloads raw)
    a_settable = pushed _ _ _ _ _ (tt, (tt, (an_rk raw.k raw.c, tt))) (an_rk_target raw.k raw.c, (tt, (tt, tt))) tt

    a_seti : From (objects.seti tags payloads raw)
    a_seti = pushed _ _ _ _ _ (tt, (tt, (an_rk raw.k raw.c, tt))) (an_rk_target raw.k raw.c, (tt, tt)) tt

    a_setfield : From (objects.setfield tags payloads raw)
    a_setfield =
        pushed _ _ _ _ _ (tt, (a_constant raw.b, (an_rk raw.k raw.c, tt))) (an_rk_target raw.k raw.c, (tt, (tt, tt))) tt

    a_newtable : From (objects.newtable raw)
    a_newtable = pushed _ _ _ _ _ (tt, (tt, (tt, tt))) tt (tt, tt)

    a_self : From (objects.self_op tags payloads raw)
    a_self = pushed _ _ _ _ _ (tt, (tt, (an_rk raw.k raw.c, tt))) (an_rk_target raw.k raw.c, (tt, tt)) (tt, (tt, tt))

    an_mmbin : (pc : ℕ) → From (F.mmbin pc raw)
    an_mmbin pc = pushed _ _ _ _ _ tt tt tt

    an_mmbini : (pc : ℕ) → From (F.mmbini pc raw)
    an_mmbini pc = pushed _ _ _ _ _ (tt, (tt, (tt, (tt, tt)))) tt tt

    a_concat : From (F.concat raw)
    a_concat = pushed _ _ _ _ _ (tt, (tt, tt)) (tt, tt) (tt, tt)

    a_close : From (F.close raw)
    a_close = pushed _ _ _ _ _ (tt, tt) tt tt

    a_tbc : From (F.tbc raw)
    a_tbc = pushed _ _ _ _ _ (tt, tt) tt tt

    a_jmp : (dest : ℕ) → From (F.jmp raw dest)
    a_jmp dest = pushed _ _ _ _ _ (tt, tt) (tt, tt) tt

    a_test : (skip : ℕ) → From (F.test_immediate raw skip)
    a_test skip = pushed _ _ _ _ _ (tt, (tt, (tt, tt))) (tt, tt) tt

    a_call : From (objects.call raw)
    a_call =
        pushed _ _ _ _ _ (tt, (a_count raw.b, (a_count raw.c, tt))) (tt, all_arguments raw.a raw.b) (all_results raw.a raw.c)

    a_tailcall : From (objects.tailcall raw)
    a_tailcall = pushed _ _ _ _ _ (tt, (a_count raw.b, tt)) (tt, tt) tt

    a_return : From (objects.return raw)
    a_return = pushed _ _ _ _ _ (tt, (a_count raw.b, tt)) (all_results raw.a raw.b) tt

    a_return1 : From (objects.return1 raw)
    a_return1 = pushed _ _ _ _ _ (tt, tt) (tt, tt) tt

    a_loop_jump : (offset : ℤ) (dest : ℕ) → From (objects.loop_jump raw offset dest)
    a_loop_jump offset dest = pushed _ _ _ _ _ (tt, (tt, tt)) tt tt

    a_tforcall : From (objects.tforcall raw)
    a_tforcall = pushed _ _ _ _ _ (tt, (tt, tt)) (tt, tt) (tt, tt)

    a_setlist : From (objects.setlist raw)
    a_setlist = pushed _ _ _ _ _ (tt, (tt, tt)) (tt, tt) tt

    a_closure : From (objects.closure raw)
    a_closure = pushed _ _ _ _ _ (tt, (tt, tt)) (tt, tt) (tt, tt)

    a_vararg : From (objects.vararg raw)
    a_vararg = pushed _ _ _ _ _ (tt, (a_count raw.c, tt)) tt tt

    a_varargprep : From (objects.varargprep raw)
    a_varargprep = pushed _ _ _ _ _ (tt, tt) tt tt

    an_extraarg : From (objects.extraarg raw)
    an_extraarg = pushed _ _ _ _ _ (tt, tt) tt tt

  a_bare : (effect : Option ImplicitEffect) → From (F.bare effect)
  a_bare effect = pushed _ _ _ _ _ tt tt tt

  -- the groups: LOADF alone has a float
  module _ (words : List ℕ) (pc word : ℕ) (raw : RawInstruction54) (opcode : ℕ) where
    in_loads : of_int binary64 raw.sbx ≡ float → From (loads words tags payloads pc raw opcode)
    unfolding loads
    in_loads e =
        either _ _ _ (a_unary raw)
        (either _ _ _ (a_load raw _ _ tt)
        (either _ _ _ (a_load raw _ _ e)
        (either _ _ _ (a_load_constant raw _ _)
        (either _ _ _ (a_load_constant raw _ _)
        (either _ _ _ (a_load raw _ _ tt)
        (either _ _ _ (a_load raw _ _ tt) (either _ _ _ (a_load raw _ _ tt) (a_loadnil raw))))))))

    in_tables : From (tables tags payloads names raw opcode)
    unfolding tables
    in_tables =
        either _ _ _ (a_getupval raw)
        (either _ _ _ (a_setupval raw)
        (either _ _ _ (a_gettabup raw)
        (either _ _ _ (a_three raw)
        (either _ _ _ (an_immediate raw _ tt)
        (either _ _ _ (with_a_constant raw)
        (either _ _ _ (a_settabup raw)
        (either _ _ _ (a_settable raw)
        (either _ _ _ (a_seti raw) (either _ _ _ (a_setfield raw) (either _ _ _ (a_newtable raw) (a_self raw)))))))))))

    in_arithmetic : From (arithmetic tags payloads pc raw opcode)
    unfolding arithmetic
    in_arithmetic =
        either _ _ _ (an_immediate raw _ tt)
        (either _ _ _ (with_a_constant raw)
        (either _ _ _ (an_immediate raw _ tt)
        (either _ _ _ (a_three raw)
        (either _ _ _ (an_mmbini raw pc) (either _ _ _ (an_mmbin raw pc) (either _ _ _ (a_unary raw) (a_concat raw)))))))

    in_control : From (control pc word raw opcode)
    unfolding control
    in_control =
        either _ _ _ (a_close raw)
        (either _ _ _ (a_tbc raw)
        (either _ _ _ (a_jmp raw _) (either _ _ _ (a_bare _) (either _ _ _ (a_test raw _) (a_bare _)))))

    in_calls : From (calls pc word raw opcode)
    unfolding calls
    in_calls =
        either _ _ _ (a_call raw)
        (either _ _ _ (a_tailcall raw)
        (either _ _ _ (a_return raw)
        (either _ _ _ (a_bare _)
        (either _ _ _ (a_return1 raw)
        (either _ _ _ (a_loop_jump raw _ _)
        (either _ _ _ (a_loop_jump raw _ _)
        (either _ _ _ (a_loop_jump raw _ _)
        (either _ _ _ (a_tforcall raw)
        (either _ _ _ (a_loop_jump raw _ _)
        (either _ _ _ (a_setlist raw)
        (either _ _ _ (a_closure raw)
        (either _ _ _ (a_vararg raw) (either _ _ _ (a_varargprep raw) (either _ _ _ (an_extraarg raw) (a_bare _)))))))))))))))

    in_body : of_int binary64 raw.sbx ≡ float → From (record_body words tags payloads names pc word raw opcode)
    unfolding record_body
    in_body e = either _ _ _ (in_loads e) (either _ _ _ in_tables (either _ _ _ in_arithmetic (either _ _ _ in_control in_calls)))

module _ (words tags payloads names : List ℕ) (pc : ℕ) where
  abbrev all : From tags payloads names (immediate_float words pc) (record_body words tags payloads names pc
      (get_or words pc 0) (fields_of (get_or words pc 0)) (opcode_of (get_or words pc 0)))
  all = in_body tags payloads names (immediate_float words pc) words pc (get_or words pc 0) (fields_of (get_or words pc 0)) (opcode_of (get_or words pc 0)) refl

  pub sources : Sources words tags payloads names pc
  unfolding lift_of
  sources =
      record {
        constants = λ k index value e. subst (FromOperand tags payloads names (immediate_float words pc)) e (all.operands k);
        floats = λ k value e. subst (FromOperand tags payloads names (immediate_float words pc)) e (all.operands k);
        operand_names = λ k index name e. subst (FromOperand tags payloads names (immediate_float words pc)) e (all.operands k);
        read_names = λ k index name e. subst (FromTarget tags payloads names (immediate_float words pc)) e (all.reads k);
        write_names = λ k index name e. subst (FromTarget tags payloads names (immediate_float words pc)) e (all.writes k);
      }
