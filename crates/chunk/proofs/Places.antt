-- `specs/Places.antt` holds of the function that is chosen. Assumes nothing.
use mathlib.Core.Path.{◌≡◌, refl, sym, ◌∙◌, ap}
use mathlib.Core.Bool.{Bool, true, false, true≢false}
use mathlib.Core.List.{List, [], ◌∷◌}
use Prim.Native.Nat.{ℕ, zero, suc, ◌+◌, ◌/◌, ◌%◌, ◌^◌, ◌≤◌, ◌<◌}
use native.Mathlib.Omega.{arith}
use lib.Dec.{ltb, leb, eqb}
use lib.ListN.{length, get_or}
use borrow.Author.Tests.{leb-true, lt-ltb, le-ltb, ne_eqb}
use Rattle.common.specs.Chain.{choose}
use Rattle.common.proofs.Lowest.{lowest_laws}
use Rattle.common.specs.Limits.{most_bytes}
use Rattle.std.specs.Prelude.{Some, None}
use Rattle.values.specs.Values.{unnamed, span_of, name_of, span_number}
use Rattle.values.specs.Spans.{past, name_past_at, first_name_past}
use Rattle.std.proofs.Common.{None, Some, Ok}
use Rattle.loaders.specs.Reading.{Outcome, bind, only}
use Rattle.loaders.specs.declared.constants.Constant.{Constant}
use Rattle.loaders.specs.Loaders.{Text, absent, text, plain, string}
use Rattle.lundump.specs.Lundump.{Function, undump}
use Rattle.loaders.specs.Lent.{payload_of, name_number}
use Rattle.lundump.specs.Chunk.{pick, chosen, values_of, payloads_of, names_of}
use Rattle.lundump.specs.Stands.{Stands, OneRead}
use Rattle.chunk.specs.Places.{Plain, Places}
use Rattle.chunk.proofs.Standing.{chosen_stands}
use Rattle.chunk.proofs.Stores.{values_count}
use Rattle.chunk.proofs.Inside.{each_at, TextIn, ConstantIn, constants_in, names_in}

-- ---- a place of 64 bits
module _ (start size : ℕ) (h : start < 4294967296) where
  low : span_number start size % 2 ^ 32 ≡ start
  low = omega (arith, h)

  high : span_number start size / 2 ^ 32 ≡ size
  high = omega (arith, h)

  span : span_of (span_number start size) ≡ record { start = start; len = size }
  span = rw (low, high)

module _ (bytes start size : ℕ) (few : bytes ≤ most_bytes) (h : start + size ≤ bytes) where
  short : start < 4294967296
  short = omega (arith, few, h)

  not_past : past bytes (span_number start size) ≡ false
  unfolding past
  not_past = rw (low start size short, high start size short, le-ltb bytes (start + size) h)

  named : eqb (span_number start size) unnamed ≡ false
  named = ne_eqb (span_number start size) unnamed (λ e. absurd (omega (arith, few, h, e)))

-- ---- the number at an index is that of what stands there
value_at : {A : Type 0} (g : A → ℕ) (xs : List A) (i : ℕ) (d : A) → i < length xs → get_or (values_of g xs) i 0 ≡ g (get_or xs i d)
unfolding values_of
value_at g [] i d l = absurd (omega arith)
value_at g (x ∷ xs) zero d l = refl
value_at g (x ∷ xs) (suc i) d l = value_at g xs i d (omega arith)

module _ (bytes : List ℕ) (few : length bytes ≤ most_bytes) (f : Function) (s : Stands bytes f) where
  module _ (i : ℕ) (d : Constant) (l : i < length f.constants) where
    constant_there : ConstantIn bytes (get_or f.constants i d)
    constant_there = each_at (ConstantIn bytes) f.constants (constants_in bytes f.constants_at f.constants s.constants_next s.constants) i d l

    is_plain : (tag payload : ℕ) → get_or f.constants i d ≡ plain tag payload → Plain tag
    is_plain tag payload e = rw e at constant_there

    module _ (start size : ℕ) (e : get_or f.constants i d ≡ string start size) where
      string_in : start + size ≤ length bytes
      string_in = rw e at constant_there

      payload_is : get_or (payloads_of f) i 0 ≡ span_number start size
      payload_is = value_at payload_of f.constants i d l ∙ ap payload_of e

      string_is : span_of (get_or (payloads_of f) i 0) ≡ record { start = start; len = size }
      string_is = ap span_of payload_is ∙ span start size (short (length bytes) start size few string_in)

      string_ends : past (length bytes) (get_or (payloads_of f) i 0) ≡ false
      string_ends = ap (past (length bytes)) payload_is ∙ not_past (length bytes) start size few string_in

  names_many : length (names_of f) ≡ length f.names
  names_many = values_count name_number f.names

  module _ (i : ℕ) (l : i < length f.names) where
    name_there : TextIn bytes (get_or f.names i absent)
    name_there = each_at (TextIn bytes) f.names (names_in bytes f.upvalues f.names_at f.names s.names_next s.names) i absent l

    number-is : get_or (names_of f) i 0 ≡ name_number (get_or f.names i absent)
    number-is = value_at name_number f.names i absent l

    here : ltb i (length (names_of f)) ≡ true
    here = lt-ltb i (length (names_of f)) (omega (arith, l, names_many))

    absent_is : get_or f.names i absent ≡ absent → name_of (names_of f) i ≡ None
    unfolding name_of choose
    absent_is e = rw (here, number-is, e)

    module _ (start size : ℕ) (e : get_or f.names i absent ≡ text start size) where
      name_in : start + size ≤ length bytes
      name_in = rw e at name_there

      name_is : name_of (names_of f) i ≡ Some (record { start = start; len = size })
      unfolding name_of choose
      name_is =
          rw (here, number-is, e, named (length bytes) start size few name_in)
          (ap Some (span start size (short (length bytes) start size few name_in)))

    -- number 5 passes it
    ends-by : (t : Text) → get_or f.names i absent ≡ t → name_past_at (names_of f) (length bytes) i ≡ false
    unfolding name_past_at choose
    ends-by None e = rw (number-is, e)
    ends-by (Some s) e =
        rw (number-is, e, named (length bytes) s.start s.size few (name_in s.start s.size e))
        (not_past (length bytes) s.start s.size few (name_in s.start s.size e))

  all_end : first_name_past (names_of f) (length bytes) ≡ length (names_of f)
  all_end =
      sym (lowest_laws.nowhere (name_past_at (names_of f) (length bytes)) (length (names_of f))
      (λ i l. ends-by i (omega (arith, names_many, l)) (get_or f.names i absent) refl))

  places_of : Places bytes f
  places_of =
      record {
        plain_tag = λ i tag payload d l e. is_plain i d l tag payload e;
        string_inside = λ i start size d l e. string_in i d l start size e;
        string_place = λ i start size d l e. string_is i d l start size e;
        string_not_past = λ i start size d l e. string_ends i d l start size e;
        name_inside = λ i start size l e. name_in i l start size e;
        name_place = λ i start size l e. name_is i l start size e;
        name_absent = λ i l e. absent_is i l e;
        none_past = all_end;
      }

-- ---- what is accepted is no longer than it may be
accepted_few : (k : ℕ) (bytes : List ℕ) (f : Function) (at : ℕ) → chosen k bytes ≡ Ok (f, at) → length bytes ≤ most_bytes
unfolding chosen
accepted_few k bytes f at h = go (leb (length bytes) most_bytes) refl h
  where
    go : (b : Bool) → leb (length bytes) most_bytes ≡ b → only b (bind (undump bytes 0) (pick k)) ≡ Ok (f, at) → length bytes ≤ most_bytes
    go true e h = leb-true (length bytes) most_bytes e
    go false e h = absurd (true≢false (cc))

pub places : (k : ℕ) (bytes : List ℕ) (f : Function) (at : ℕ) → chosen k bytes ≡ Ok (f, at) → Places bytes f
places k bytes f at h = places_of bytes (accepted_few k bytes f at h) f (stands_as (chosen k bytes) h (chosen_stands bytes k))
  where
    stands_as : (X : Outcome Function) → X ≡ Ok (f, at) → OneRead bytes X → Stands bytes f
    stands_as X e s = rw e at s
