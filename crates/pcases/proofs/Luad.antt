-- The definition's records are luad's.
-- Assumes nothing.
use Prim.Native.Nat.{ℕ, ◌≤◌, ◌<◌}
use mathlib.Core.Path.{◌≡◌, refl}
use mathlib.Core.Bool.{true, false}
use mathlib.Core.List.{List, [], ◌∷◌}
use native.Mathlib.Omega.{arith}
use lib.Dec.{eqb, leb}
use lib.Ieee.{eq, to_bits, of_bits, of_int, nan_bits}
use lib.ListN.{get_or, replicate}
use borrow.Author.Tests.{leb-true, lt-leb, le-leb, ne_eqb}
use Rattle.fields.specs.declared.lua54.word.RawInstruction54.{RawInstruction54}
use Rattle.fields.specs.lua54.Word.{opcode_of, fields_of}
use Rattle.fields.specs.lua54.Table.{no_fallback, fallback_of}
use Rattle.std.specs.Prelude.{None}
use Rattle.values.specs.declared.ir.Confidence.TheVariants.{Unverified}
use Rattle.values.specs.Values.{choose, constant_of, name_of, value_of, signed64, float_of}
use Rattle.values.specs.Few.{few}
use Rattle.builders.specs.declared.builders.Body.{Body}
use Rattle.builders.specs.Shapes.{body}
use Rattle.builders.specs.Parts.{event_of, constant, upvalue, upvalue_target, rk, rk_target, count_less, arguments, results}
use Rattle.dispatch.specs.Dispatch.{extended_index, wrap, loads, tables, arithmetic, control, calls, record_body}
use Rattle.records.specs.Lift.{before, companion_pc, confidence_of, lift_of}
use Rattle.numbered.specs.Parts.{float_bits}
use Rattle.lifted.specs.Record.{head_numbers, operands_numbers, reads_numbers, writes_numbers, numbers_of}
use Rattle.pcases.specs.Luad.{LuadsRecords}

-- nothing, as lifter.rs has it of an unknown opcode
abbrev empty : Body
empty = body [] [] [] None None

-- ---- an opcode above 82: tests against a known one fail

module _ (o : ℕ) (h : 82 < o) where
  unlike : (k : ℕ) → leb k 82 ≡ true → eqb o k ≡ false
  unlike k l = let l' : k ≤ 82 = leb-true k 82 l in ne_eqb o k (λ e. absurd (omega arith))

  above : (k : ℕ) → leb k 82 ≡ true → leb o k ≡ false
  above k l = let l' : k ≤ 82 = leb-true k 82 l in lt-leb o k (omega arith)

  from : (k : ℕ) → leb k 82 ≡ true → leb k o ≡ true
  from k l = let l' : k ≤ 82 = leb-true k 82 l in le-leb k o (omega arith)

  no-fallback : fallback_of o ≡ no_fallback
  unfolding fallback_of
  no-fallback =
      rw (
        above 14 refl,
        above 18 refl,
        above 20 refl,
        above 48 refl,
        above 49 refl,
        above 50 refl,
        above 52 refl,
        above 53 refl,
        above 55 refl,
        above 69 refl,
        from 11 refl,
        from 15 refl,
        from 20 refl,
        from 46 refl,
        from 49 refl,
        from 50 refl,
        from 52 refl,
        from 53 refl,
        from 55 refl,
        from 68 refl,
      )

  no_companion : (pc : ℕ) → companion_pc o pc ≡ None
  unfolding companion_pc choose
  no_companion pc = rw (unlike 4 refl, unlike 46 refl, unlike 47 refl, unlike 48 refl, unlike 82 refl)

  unverified : confidence_of o ≡ Unverified
  unfolding confidence_of choose
  unverified = rw (above 82 refl)

  module _ (words tags payloads names : List ℕ) (pc word : ℕ) (raw : RawInstruction54) where
    no_call : calls pc word raw o ≡ empty
    unfolding calls choose
    no_call =
        rw (
          unlike 68 refl,
          unlike 69 refl,
          unlike 70 refl,
          unlike 71 refl,
          unlike 72 refl,
          unlike 73 refl,
          unlike 74 refl,
          unlike 75 refl,
          unlike 76 refl,
          unlike 77 refl,
          unlike 78 refl,
          unlike 79 refl,
          unlike 80 refl,
          unlike 81 refl,
          unlike 82 refl,
        )

    no_body : record_body words tags payloads names pc word raw o ≡ empty
    unfolding record_body choose
    no_body = rw (above 8 refl, above 20 refl, above 53 refl, above 67 refl, no_call)

none :
    (words tags payloads names : List ℕ) (pc : ℕ) → 82 < opcode_of (get_or words pc 0)
    → numbers_of (lift_of words tags payloads names pc)
    ≡ pc ∷ get_or words pc 0 ∷ opcode_of (get_or words pc 0) ∷ replicate 50 0
unfolding few lift_of numbers_of head_numbers operands_numbers reads_numbers writes_numbers
none words tags payloads names pc h =
    let word = get_or words pc 0 in
    let o = opcode_of word in
    rw (no_body o h words tags payloads names pc word (fields_of word), no-fallback o h, no_companion o h pc, unverified o h)

reviewed :
    (words tags payloads names : List ℕ) (pc : ℕ) → opcode_of (get_or words pc 0) ≤ 82
    → get_or (numbers_of (lift_of words tags payloads names pc)) 3 0 ≡ 1
unfolding lift_of numbers_of head_numbers confidence_of choose
reviewed words tags payloads names pc h = rw (le-leb (opcode_of (get_or words pc 0)) 82 h)

pub luads_records : LuadsRecords
unfolding few fallback_of choose constant_of name_of value_of signed64 float_of event_of
    constant upvalue upvalue_target rk rk_target count_less arguments results extended_index wrap loads tables
    arithmetic control calls record_body before companion_pc confidence_of lift_of float_bits head_numbers
    operands_numbers reads_numbers writes_numbers numbers_of eq to_bits of_bits of_int nan_bits
luads_records =
    record {
      loads_told = refl;
      tables_told = refl;
      arithmetic_told = refl;
      metamethods_told = refl;
      unary_told = refl;
      control_told = refl;
      calls_told = refl;
      loops_told = refl;
      last_told = refl;
      unknown = none;
      known = reviewed;
    }
