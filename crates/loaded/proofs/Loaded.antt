-- `specs/Loaded.antt` holds. Assumes nothing.
use mathlib.Core.Path.{◌≡◌, refl, sym, ◌∙◌, ap}
use mathlib.Core.Logic.{⊎_elim}
use mathlib.Core.Bool.{Bool, true, false, cond}
use mathlib.Core.List.{List, [], ◌∷◌}
use Prim.Native.Nat.{ℕ, zero, suc, ◌≤◌, ◌<◌}
use native.Mathlib.Omega.{arith}
use lib.Dec.{leb, ltb}
use lib.ListN.{length, get_or}
use borrow.Author.Tests.{eq-eqb, lt-ltb, le-ltb}
use Rattle.common.specs.Limits.{most_words, most_constants, most_names, short_length}
use Rattle.std.specs.Prelude.{Ok, Err}
use Rattle.common.specs.declared.refusal.Refusal.TheVariants.{ShortSlice}
use Rattle.common.specs.Chain.{choose}
use Rattle.common.proofs.Lowest.{lowest_laws}
use Rattle.values.specs.Spans.{past, first_name_past}
use Rattle.tables.specs.Refusals.{unknown_tag, unknown_tag_at, is_string, string_past_at, first_unknown_tag, first_string_past, answer_of}
use Rattle.loaders.specs.Reading.{Outcome}
use Rattle.loaders.specs.declared.constants.Constant.{Constant}
use Rattle.loaders.specs.declared.constants.Constant.TheVariants as constant
use Rattle.loaders.specs.Loaders.{plain}
use Rattle.lundump.specs.Lundump.{Function}
use Rattle.loaders.specs.Lent.{tag_of, payload_of, name_number, string_tag}
use Rattle.lundump.specs.Chunk.{chosen, values_of, words_of, tags_of, payloads_of, names_of}
use Rattle.lundump.specs.Stands.{Stands, OneRead}
use Rattle.chunk.specs.Places.{Plain, Places}
use Rattle.chunk.proofs.Laws.{laws}
use Rattle.loaded.specs.Loaded.{lifting, Loaded}

-- ---- tags
plain_known : (tag : ℕ) → Plain tag → unknown_tag tag ≡ false
unfolding unknown_tag choose
plain_known tag h = ⊎_elim (λ e. rw e) (λ h₁. ⊎_elim (λ e. rw e) (λ h₂. ⊎_elim (λ e. rw e) (λ h₃. ⊎_elim (λ e. rw e) (λ e. rw e) h₃) h₂) h₁) h

plain_no_string : (tag : ℕ) → Plain tag → is_string tag ≡ false
unfolding is_string choose
plain_no_string tag h = ⊎_elim (λ e. rw e) (λ h₁. ⊎_elim (λ e. rw e) (λ h₂. ⊎_elim (λ e. rw e) (λ h₃. ⊎_elim (λ e. rw e) (λ e. rw e) h₃) h₂) h₁) h

string_known : (size : ℕ) → unknown_tag (string_tag size) ≡ false
unfolding unknown_tag choose
string_known size = go (leb size short_length)
  where
    go : (b : Bool) → unknown_tag (cond b 4 20) ≡ false
    go true = refl
    go false = refl

no-string : (b p : Bool) → b ≡ false → choose b p false ≡ false
unfolding choose
no-string b p e = rw e

not_past : (b p : Bool) → p ≡ false → choose b p false ≡ false
unfolding choose
not_past true p e = e
not_past false p e = refl

-- ---- a number for each
values_count : {A : Type 0} (g : A → ℕ) (xs : List A) → length (values_of g xs) ≡ length xs
unfolding values_of
values_count g [] = refl
values_count g (x ∷ xs) = ap suc (values_count g xs)

value_at : {A : Type 0} (g : A → ℕ) (xs : List A) (i : ℕ) (d : A) → i < length xs → get_or (values_of g xs) i 0 ≡ g (get_or xs i d)
unfolding values_of
value_at g [] i d l = absurd (omega arith)
value_at g (x ∷ xs) zero d l = refl
value_at g (x ∷ xs) (suc i) d l = value_at g xs i d (omega arith)

module _ (bytes : List ℕ) (f : Function) (s : Stands bytes f) (p : Places bytes f) where
  abbrev d : Constant
  d = plain 0 0

  tags_many : length (tags_of f) ≡ length f.constants
  tags_many = values_count tag_of f.constants

  payloads_many : length (payloads_of f) ≡ length f.constants
  payloads_many = values_count payload_of f.constants

  names_many : length (names_of f) ≡ length f.names
  names_many = values_count name_number f.names

  module _ (i : ℕ) (l : i < length f.constants) where
    tag_is : get_or (tags_of f) i 0 ≡ tag_of (get_or f.constants i d)
    tag_is = value_at tag_of f.constants i d l

    known_by : (c : Constant) → get_or f.constants i d ≡ c → unknown_tag (tag_of c) ≡ false
    known_by (constant.Plain tag payload) e = plain_known tag (p.plain_tag i tag payload d l e)
    known_by (constant.String b) e = string_known b.size

    known : unknown_tag_at (tags_of f) i ≡ false
    unfolding unknown_tag_at
    known = ap unknown_tag tag_is ∙ known_by (get_or f.constants i d) refl

    inside_by : (c : Constant) → get_or f.constants i d ≡ c → choose (is_string (tag_of c)) (past (length bytes) (get_or (payloads_of f) i 0)) false ≡ false
    inside_by (constant.Plain tag payload) e = no-string (is_string tag) _ (plain_no_string tag (p.plain_tag i tag payload d l e))
    inside_by (constant.String b) e = not_past (is_string (string_tag b.size)) _ (p.string_not_past i b.start b.size d l e)

    inside : string_past_at (tags_of f) (payloads_of f) (length bytes) i ≡ false
    unfolding string_past_at
    inside =
        ap (λ (t : ℕ). choose (is_string t) (past (length bytes) (get_or (payloads_of f) i 0)) false) tag_is
        ∙ inside_by (get_or f.constants i d) refl

  all_known : first_unknown_tag (tags_of f) ≡ length (tags_of f)
  all_known = sym (lowest_laws.nowhere (unknown_tag_at (tags_of f)) (length (tags_of f)) (λ i l. known i (omega (arith, l, tags_many))))

  all_inside : first_string_past (tags_of f) (payloads_of f) (length bytes) ≡ length (tags_of f)
  all_inside =
      sym (lowest_laws.nowhere (string_past_at (tags_of f) (payloads_of f) (length bytes)) (length (tags_of f))
      (λ i l. inside i (omega (arith, l, tags_many))))

  words_few : length (words_of f) ≤ most_words
  words_few = s.few-words

  tags_few : length (tags_of f) ≤ most_constants
  tags_few = omega (arith, tags_many, s.few_constants)

  names_few : length (names_of f) ≤ most_names
  names_few = omega (arith, names_many, s.few_names)

  as_many : length (tags_of f) ≡ length (payloads_of f)
  as_many = tags_many ∙ sym payloads_many

  -- up to number 6
  passed : (room : ℕ) → lifting bytes f room ≡ cond (ltb room (length (words_of f))) (Err ShortSlice) (Ok tt)
  unfolding answer_of
  passed room =
      rw (
        le-ltb most_words (length (words_of f)) words_few,
        eq-eqb (length (tags_of f)) (length (payloads_of f)) as_many,
        le-ltb most_constants (length (tags_of f)) tags_few,
        le-ltb (first_unknown_tag (tags_of f)) (length (tags_of f)) (omega (arith, all_known)),
        le-ltb (first_string_past (tags_of f) (payloads_of f) (length bytes)) (length (tags_of f)) (omega (arith, all_inside)),
        le-ltb most_names (length (names_of f)) names_few,
        le-ltb (first_name_past (names_of f) (length bytes)) (length (names_of f)) (omega (arith, p.none_past)),
      )

module _ (k : ℕ) (bytes : List ℕ) (f : Function) (at : ℕ) (h : chosen k bytes ≡ Ok (f, at)) where
  stands_as : (X : Outcome Function) → X ≡ Ok (f, at) → OneRead bytes X → Stands bytes f
  stands_as X e o = rw e at o

  to_room : (room : ℕ) → lifting bytes f room ≡ cond (ltb room (length (words_of f))) (Err ShortSlice) (Ok tt)
  to_room = passed bytes f (stands_as (chosen k bytes) h (laws.stands k bytes)) (laws.places k bytes f at h)

pub loaded : Loaded
loaded =
    record {
      lifted = λ k bytes f at h room l. to_room k bytes f at h room ∙ rw (le-ltb room (length (words_of f)) l);
      short = λ k bytes f at h room l. to_room k bytes f at h room ∙ rw (lt-ltb room (length (words_of f)) l);
    }
