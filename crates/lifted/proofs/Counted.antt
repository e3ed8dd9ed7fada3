-- How many numbers a record has, and the records of a function put one after another. Assumes nothing.
use mathlib.Core.Path.{◌≡◌, refl, ◌∙◌}
use mathlib.Core.List.{List, [], ◌∷◌, ◌++◌}
use Prim.Native.Nat.{ℕ, zero, suc, ◌+◌, ◌*◌, ◌<◌, ◌≤◌}
use native.Mathlib.Numerals.{add-one}
use native.Mathlib.Omega.{arith}
use lib.ListN.{length, get_or, length-append}
use Rattle.values.specs.declared.few.Few.{Few}
use Rattle.values.specs.declared.ir.TypedOperand.{TypedOperand}
use Rattle.values.specs.declared.ir.EffectTarget.{EffectTarget}
use Rattle.values.specs.declared.ir.SemanticInstruction.{SemanticInstruction}
use Rattle.records.specs.Lift.{lift_of}
use Rattle.common.specs.Lists.{put}
use Rattle.numbered.specs.declared.parts.FlatSlot.{FlatSlot}
use Rattle.lifted.specs.Record.{slot_numbers, places_numbers, head_numbers, operands_numbers, reads_numbers, writes_numbers, numbers_of, records_numbers}
use Rattle.common.proofs.Put.{put_laws}

-- ---- lengths

pub length_head : (i : SemanticInstruction) → length (head_numbers i) ≡ 14
unfolding head_numbers
length_head i = refl

module _ {X : Type 0} (flat : X → FlatSlot) (filler : X) (xs : List X) where
  pub length_places : (k : ℕ) → length (places_numbers flat filler xs k) ≡ 4 * k
  length_places zero = refl
  length_places (suc k) =
      length-append (places_numbers flat filler xs k) (slot_numbers (flat (get_or xs k filler)))
      ∙ omega (arith, length_places k)

  -- one place more
  pub place_more : (count : ℕ) (l o o' : List ℕ) (at n k : ℕ) → k < n → at + (1 + 4 * n) ≤ length l
      → o ≡ put l at ((count ∷ []) ++ places_numbers flat filler xs k)
      → o' ≡ put o (at + (1 + 4 * k)) (slot_numbers (flat (get_or xs k filler)))
      → o' ≡ put l at ((count ∷ []) ++ places_numbers flat filler xs (k + 1))
  place_more count l o o' at n k h room e f =
      let m : length ((count ∷ []) ++ places_numbers flat filler xs k) ≡ 1 + 4 * k = omega (arith, length_places k) in
      rw (add-one k) (put_laws.and_then l o o' at (1 + 4 * k) ((count ∷ []) ++ places_numbers flat filler xs k)
      (slot_numbers (flat (get_or xs k filler))) e m (omega arith) f)

pub length_operands : (l : Few TypedOperand 4) → length (operands_numbers l) ≡ 17
unfolding operands_numbers
length_operands l = refl

pub length_reads : (l : Few EffectTarget 3) → length (reads_numbers l) ≡ 13
unfolding reads_numbers
length_reads l = refl

pub length_writes : (l : Few EffectTarget 2) → length (writes_numbers l) ≡ 9
unfolding writes_numbers
length_writes l = refl

pub length_head_operands : (i : SemanticInstruction) → length (head_numbers i ++ operands_numbers i.operands) ≡ 31
unfolding head_numbers operands_numbers
length_head_operands i = refl

pub length_before_writes : (i : SemanticInstruction) → length (head_numbers i ++ operands_numbers i.operands ++ reads_numbers i.reads) ≡ 44
unfolding head_numbers operands_numbers reads_numbers
length_before_writes i = refl

pub length_numbers : (i : SemanticInstruction) → length (numbers_of i) ≡ 53
unfolding numbers_of head_numbers operands_numbers reads_numbers writes_numbers
length_numbers i = refl

module _ (words tags payloads names : List ℕ) where
  pub length_records : (n : ℕ) → length (records_numbers words tags payloads names n) ≡ 53 * n
  unfolding records_numbers
  length_records zero = refl
  length_records (suc n) =
      length-append (records_numbers words tags payloads names n) (numbers_of (lift_of words tags payloads names n))
      ∙ omega (arith, length_records n, length_numbers (lift_of words tags payloads names n))

  -- one record more
  pub record_more : (l o o' : List ℕ) (i : ℕ) → o ≡ put l 0 (records_numbers words tags payloads names i) → 53 * i + 53 ≤ length l
      → o' ≡ put o (53 * i) (numbers_of (lift_of words tags payloads names i))
      → o' ≡ put l 0 (records_numbers words tags payloads names (i + 1))
  unfolding records_numbers
  record_more l o o' i e h f =
      let z : 53 * i ≡ 0 + 53 * i = omega arith in
      let k : length (numbers_of (lift_of words tags payloads names i)) ≡ 53 = length_numbers (lift_of words tags payloads names i) in
      rw (add-one i) (put_laws.and_then l o o' 0 (53 * i) (records_numbers words tags payloads names i)
      (numbers_of (lift_of words tags payloads names i)) e (length_records i) (rw k (omega arith))
      (rw z at f))

  pub record_none : (l : List ℕ) → l ≡ put l 0 (records_numbers words tags payloads names 0)
  unfolding records_numbers put
  record_none l = refl
