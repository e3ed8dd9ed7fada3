-- What is read of a string lies inside the bytes, and a constant has one of the seven tags. Assumes nothing.
use mathlib.Core.Path.{◌≡◌, refl}
use mathlib.Core.Logic.{inl, inr}
use mathlib.Core.Bool.{Bool, true, false, cond}
use mathlib.Core.List.{List, [], ◌∷◌}
use Prim.Native.Nat.{ℕ, zero, suc, ◌+◌, ◌≤◌, ◌<◌}
use native.Mathlib.Omega.{arith}
use lib.Dec.{leb, eqb}
use lib.ListN.{length, get_or, replicate}
use Rattle.values.specs.Values.{TAG_NIL, TAG_FALSE, TAG_TRUE, TAG_INTEGER, TAG_FLOAT, TAG_SHORT_STRING, TAG_LONG_STRING}
use Rattle.common.specs.Limits.{most_constants}
use Rattle.std.proofs.Common.{None, Some, Ok, Err}
use Rattle.loaders.specs.declared.constants.Constant.TheVariants as constant
use Rattle.loaders.specs.Reading.{Outcome, Reader, bind, only, repeat}
use Rattle.loaders.specs.declared.constants.Constant.{Constant}
use Rattle.loaders.specs.Loaders.{Text, absent, text, plain, string, load_byte, load_int}
use Rattle.loaders.specs.Loaders.{load_number, load_integer, load_string_n, present, load_string}
use Rattle.lundump.specs.Lundump.{load_items}
use Rattle.loaders.specs.Loaders.{constant_by_tag, load_constant}
use Rattle.lundump.specs.Lundump.{load_constants, load_name, names_from}
use Rattle.lundump.specs.Lundump.{load_names}
use Rattle.chunk.specs.Places.{Plain}
use Rattle.loaders.proofs.Texts.{text_inside}

-- ---- a fact of each thing that is read
module _ {A : Type 0} (Q : A → Type 0) where
  abbrev pub Of : Outcome A → Type 0
  Of (Ok (a, at)) = Q a
  Of (Err e) = Unit

  abbrev pub Each : List A → Type 0
  Each [] = Unit
  Each (x ∷ xs) = Q x × Each xs

  pub each_at : (xs : List A) → Each xs → (i : ℕ) (d : A) → i < length xs → Q (get_or xs i d)
  each_at [] h i d l = absurd (omega arith)
  each_at (x ∷ xs) h zero d l = h.0
  each_at (x ∷ xs) h (suc i) d l = each_at xs h.1 i d (omega arith)

of_bind : {A B : Type 0} (Q : B → Type 0) (X : Outcome A) (g : A → ℕ → Outcome B) → ((a : A) (at : ℕ) → Of Q (g a at)) → Of Q (bind X g)
of_bind Q (Ok (a, at)) g h = h a at
of_bind Q (Err e) g h = tt

of_only : {A : Type 0} (Q : A → Type 0) (b : Bool) (X : Outcome A) → Of Q X → Of Q (only b X)
of_only Q true X h = h
of_only Q false X h = tt

module _ {A : Type 0} (Q : A → Type 0) (r : ℕ → Reader A) (bytes : List ℕ) (one : (i at : ℕ) → Of Q (r i bytes at)) where
  more : (x : A) → Q x → (Y : Outcome (List A)) → Of (Each Q) Y → Of (Each Q) (bind Y (λ xs at₂. Ok (x ∷ xs, at₂)))
  more x q (Ok (xs, at₂)) h = (q, h)
  more x q (Err e) h = tt

  then_more : (i n : ℕ) → ((at : ℕ) → Of (Each Q) (repeat r (i + 1) n bytes at)) → (X : Outcome A) → Of Q X
      → Of (Each Q) (bind X (λ x at₁. bind (repeat r (i + 1) n bytes at₁) (λ xs at₂. Ok (x ∷ xs, at₂))))
  then_more i n later (Ok (x, at₁)) q = more x q (repeat r (i + 1) n bytes at₁) (later at₁)
  then_more i n later (Err e) q = tt

  pub repeated : (n i at : ℕ) → Of (Each Q) (repeat r i n bytes at)
  unfolding repeat
  repeated zero i at = tt
  repeated (suc n) i at = then_more i n (repeated n (i + 1)) (r i bytes at) (one i at)

module _ (bytes : List ℕ) where
  -- a string that was read, and a constant
  abbrev pub TextIn : Text → Type 0
  TextIn None = Unit
  TextIn (Some s) = s.start + s.size ≤ length bytes

  abbrev pub ConstantIn : Constant → Type 0
  ConstantIn (constant.Plain tag payload) = Plain tag
  ConstantIn (constant.String s) = s.start + s.size ≤ length bytes

  text_in : (at : ℕ) (X : Outcome Text) → load_string_n bytes at ≡ X → Of TextIn X
  text_in at (Ok (None, next)) e = tt
  text_in at (Ok (Some s, next)) e = text_inside bytes at (Some s) next e
  text_in at (Err x) e = tt

  present_in : (X : Outcome Text) → Of TextIn X → Of ConstantIn (bind X present)
  present_in (Ok (None, at)) h = tt
  present_in (Ok (Some s, at)) h = h
  present_in (Err e) h = tt

  string_in : (at : ℕ) → Of ConstantIn (load_string bytes at)
  unfolding load_string
  string_in at = present_in (load_string_n bytes at) (text_in at (load_string_n bytes at) refl)

  either : (b : Bool) (X Y : Outcome Constant) → Of ConstantIn X → Of ConstantIn Y → Of ConstantIn (cond b X Y)
  either true X Y h k = h
  either false X Y h k = k

  constant_of : (i t at : ℕ) → Of ConstantIn (constant_by_tag i t bytes at)
  unfolding constant_by_tag
  constant_of i t at =
      either (eqb t TAG_NIL) _ _ (inl refl)
      (either (eqb t TAG_FALSE) _ _ (inr (inl refl))
      (either (eqb t TAG_TRUE) _ _ (inr (inr (inl refl)))
      (either (eqb t TAG_FLOAT) _ _ (of_bind ConstantIn (load_number bytes at) _ (λ x at₁. inr (inr (inr (inr refl)))))
      (either (eqb t TAG_INTEGER) _ _ (of_bind ConstantIn (load_integer bytes at) _ (λ x at₁. inr (inr (inr (inl refl)))))
      (either (eqb t TAG_SHORT_STRING) _ _ (string_in at)
      (either (eqb t TAG_LONG_STRING) _ _ (string_in at) tt))))))

  constant_in : (i at : ℕ) → Of ConstantIn (load_constant i bytes at)
  unfolding load_constant
  constant_in i at = of_bind ConstantIn (load_byte bytes at) _ (λ t at₁. constant_of i t at₁)

  constants : (at : ℕ) → Of (Each ConstantIn) (load_constants bytes at)
  unfolding load_items
  constants at =
      of_bind (Each ConstantIn) (load_int bytes at) _ (λ n at₁.
      of_only (Each ConstantIn) (leb n most_constants) (repeat load_constant 0 n bytes at₁) (repeated ConstantIn load_constant bytes constant_in n 0 at₁))

  none_in : (n : ℕ) → Each TextIn (replicate n absent)
  none_in zero = tt
  none_in (suc n) = (tt, none_in n)

  names-from : (upvalues n at : ℕ) → Of (Each TextIn) (names_from upvalues n bytes at)
  unfolding names_from
  names-from ups zero at = none_in ups
  names-from ups (suc n) at = repeated TextIn load_name bytes (λ i at₁. text_in at₁ (load_string_n bytes at₁) refl) ups 0 at

  names : (upvalues at : ℕ) → Of (Each TextIn) (load_names upvalues bytes at)
  unfolding load_names
  names ups at = of_bind (Each TextIn) (load_int bytes at) _ (λ n at₁. names-from ups n at₁)

  -- of what a position was read to
  was : {A : Type 0} (Q : A → Type 0) (X : Outcome A) (a : A) (next : ℕ) → X ≡ Ok (a, next) → Of Q X → Q a
  was Q X a next e h = rw e at h

  pub constants_in : (at : ℕ) (ks : List Constant) (next : ℕ) → load_constants bytes at ≡ Ok (ks, next) → Each ConstantIn ks
  constants_in at ks next e = was (Each ConstantIn) (load_constants bytes at) ks next e (constants at)

  pub names_in : (upvalues at : ℕ) (ts : List Text) (next : ℕ) → load_names upvalues bytes at ≡ Ok (ts, next) → Each TextIn ts
  names_in ups at ts next e = was (Each TextIn) (load_names ups bytes at) ts next e (names ups at)
