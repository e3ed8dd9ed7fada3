-- What the caller's list of records is afterwards, element by element.
-- Assumes nothing.
use mathlib.Core.Path.{◌≡◌, refl, sym, ap, ◌∙◌, subst}
use Prim.Native.Nat.{ℕ, zero, suc, ◌<◌, ◌≤◌}
use native.Mathlib.Omega.{arith}
use native.Mathlib.Nat.{not-suc-le-zero}
use mathlib.Core.Bool.{Bool, true, false}
use mathlib.Core.List.{List}
use lib.Dec.{eqb}
use lib.ListN.{length, get_or, length-set}
use lib.Seq.{get_or-set_same, get_or-set_other}
use borrow.Author.Tests.{eqb-true, eqb-false}
use Rattle.values.specs.declared.ir.SemanticInstruction.{SemanticInstruction}
use Rattle.records.specs.Lift.{lift_of}
use Rattle.std.specs.Prelude.{Result, Ok, Err, ⊤}
use Rattle.common.specs.declared.refusal.Refusal.{Refusal}
use Rattle.tables.specs.Laws.{WrittenLaws}
use Rattle.tables.specs.Refusals.{answer_of, written}
use Rattle.records.specs.Walk.{filled_records, ElementWise}
use Rattle.tables.proofs.Laws.{written_laws}

fits : {n m l : ℕ} → suc n ≤ m → l ≡ m → n < l
fits a e = omega (arith, a, e)

module _ (words tags payloads names : List ℕ) where
  abbrev filled : ℕ → List SemanticInstruction → List SemanticInstruction
  filled n ys = filled_records words tags payloads names n ys

  abbrev lift : ℕ → SemanticInstruction
  lift i = lift_of words tags payloads names i

  pub length_filled : (n : ℕ) (ys : List SemanticInstruction) → length (filled n ys) ≡ length ys
  length_filled zero ys = refl
  length_filled (suc n) ys =
      length-set (filled n ys) n (lift n) ∙ length_filled n ys

  past : (n : ℕ) (ys : List SemanticInstruction) (i : ℕ) (d : SemanticInstruction) → n ≤ i
      → get_or (filled n ys) i d ≡ get_or ys i d
  past zero ys i d h = refl
  past (suc n) ys i d h =
      get_or-set_other (filled n ys) n i (lift n) d (λ e. omega (arith, h, e))
      ∙ past n ys i d (omega (arith, h))

  -- a step of `below`, with what is known for the words before
  below_at : (n : ℕ) (ys : List SemanticInstruction) (i : ℕ) (d : SemanticInstruction) → suc n ≤ length ys → i < suc n
      → (i < n → get_or (filled n ys) i d ≡ lift i)
      → (t : Bool) → eqb i n ≡ t → get_or (filled (suc n) ys) i d ≡ lift i
  below_at n ys i d h l before true e =
      subst (λ (j : ℕ). get_or (filled (suc n) ys) j d ≡ lift j) (sym (eqb-true i n e))
      (get_or-set_same (filled n ys) n (lift n) d (fits h (length_filled n ys)))
  below_at n ys i d h l before false e =
      get_or-set_other (filled n ys) n i (lift n) d (eqb-false i n e)
      ∙ before (omega (arith, l, eqb-false i n e))

  below : (n : ℕ) (ys : List SemanticInstruction) (i : ℕ) (d : SemanticInstruction) → n ≤ length ys → i < n
      → get_or (filled n ys) i d ≡ lift i
  below zero ys i d h l = absurd (not-suc-le-zero l)
  below (suc n) ys i d h l = below_at n ys i d h l (below n ys i d (omega (arith, h))) (eqb i n) refl

  module _ (bytes : ℕ) (ys : List SemanticInstruction) where
    abbrev answer : Result ⊤ Refusal
    answer = answer_of (length words) tags payloads names bytes (length ys)

    laws : WrittenLaws (length words) tags payloads names bytes (length ys)
    laws = written_laws (length words) tags payloads names bytes (length ys)

    all : answer ≡ Ok tt → written (length words) answer ≡ length words
    all e = ap (written (length words)) e

    none : (refusal : Refusal) → answer ≡ Err refusal → written (length words) answer ≡ 0
    none refusal e = ap (written (length words)) e

    pub element_wise : ElementWise words tags payloads names bytes ys
    element_wise =
        record {
          same_length = length_filled (written (length words) answer) ys;
          lifted = λ e i d h. below (written (length words) answer) ys i d laws.within_room (omega (arith, h, all e));
          untouched = λ i d h. past (written (length words) answer) ys i d (omega (arith, h, laws.within_words));
          refused = λ refusal e. rw (none refusal e);
        }
