-- Readers go forward, so that functions stand in the list in the order of their first bytes, and are no more than the bytes.
-- Assumes nothing.
use mathlib.Core.Path.{◌≡◌, refl}
use mathlib.Core.Bool.{Bool, true, false, cond}
use mathlib.Core.List.{List, [], ◌∷◌, ◌++◌}
use Prim.Native.Nat.{ℕ, zero, suc, ◌+◌, ◌*◌, ◌-◌, ◌/◌, ◌%◌, ◌≤◌, ◌<◌}
use native.Mathlib.Omega.{arith}
use lib.Dec.{ltb, leb, eqb}
use lib.ListN.{length, drop, get_or}
use borrow.Author.Tests.{ltb-true}
use Rattle.values.specs.Values.{TAG_NIL, TAG_FALSE, TAG_TRUE, TAG_INTEGER, TAG_FLOAT, TAG_SHORT_STRING, TAG_LONG_STRING}
use Rattle.common.specs.Limits.{most_words, most_constants, most_names, levels_below, size_max, int_max}
use Rattle.std.proofs.Common.{None, Some, Ok, Err}
use Rattle.loaders.specs.Reading.{Outcome, Reader, bind, and_then, only, repeat}
use Rattle.loaders.specs.declared.constants.Constant.{Constant}
use Rattle.loaders.specs.Loaders.{Text, absent, text, load_block, load_byte, unsigned_from, load_unsigned, load_size, load_int}
use Rattle.lundump.specs.Lundump.{Function}
use Rattle.loaders.specs.Loaders.{load_number, load_integer, string_of, load_string_n, present, load_string}
use Rattle.lundump.specs.Lundump.{load_vector, load_items, load_code}
use Rattle.loaders.specs.Loaders.{constant_by_tag, load_constant}
use Rattle.lundump.specs.Lundump.{load_constants, load_upvalues, load_abs_line}
use Rattle.lundump.specs.Lundump.{load_loc_var, load_lines, load_name, names_from, load_names}
use Rattle.lundump.specs.Lundump.{load_head, function_with, several, none_of, load_protos, load_function, check_header, undump}
use Rattle.lundump.specs.Stands.{StandBetween, ReadBetween}
use Rattle.lundump.proofs.Thens.{then1, then2, then3, then4, then5, then6, then7}

-- ---- what is read ends where it starts, or later
abbrev Up : {A : Type 0} → ℕ → Outcome A → Type 0
Up at (Ok (a, next)) = at ≤ next
Up at (Err e) = Unit

raise : {A : Type 0} (at at₁ : ℕ) (X : Outcome A) → at ≤ at₁ → Up at₁ X → Up at X
raise at at₁ (Ok (a, next)) h k = omega (arith, h, k)
raise at at₁ (Err e) h k = tt

up_bind : {A B : Type 0} (at : ℕ) (X : Outcome A) (g : A → ℕ → Outcome B) → Up at X → ((a : A) (at₁ : ℕ) → Up at₁ (g a at₁)) → Up at (bind X g)
up_bind at (Ok (a, at₁)) g h k = raise at at₁ (g a at₁) h (k a at₁)
up_bind at (Err e) g h k = tt

up_only : {A : Type 0} (b : Bool) (at : ℕ) (X : Outcome A) → Up at X → Up at (only b X)
up_only true at X h = h
up_only false at X h = tt

up_cond : {A : Type 0} (b : Bool) (at : ℕ) (X Y : Outcome A) → Up at X → Up at Y → Up at (cond b X Y)
up_cond true at X Y h k = h
up_cond false at X Y h k = k

here : (at : ℕ) → at ≤ at
here at = omega arith

module _ (bytes : List ℕ) where
  -- a reader goes forward
  abbrev Forward : {A : Type 0} → Reader A → Type 0
  Forward r = (at : ℕ) → Up at (r bytes at)

  up_then : {A B : Type 0} (r : Reader A) (r₂ : Reader B) → Forward r → Forward r₂ → Forward (and_then r r₂)
  up_then r r₂ h k at = up_bind at (r bytes at) (λ _ at₁. r₂ bytes at₁) (h at) (λ _ at₁. k at₁)

  block : (size : ℕ) → Forward (load_block size)
  unfolding load_block
  block size at = up_only (leb (at + size) (length bytes)) at (Ok (tt, at + size)) (omega arith)

  byte : Forward load_byte
  unfolding load_byte
  byte at = up_only (ltb at (length bytes)) at _ (omega arith)

  unsigned-from : (limit x at : ℕ) (rest : List ℕ) → Up at (unsigned_from limit x at rest)
  unfolding unsigned_from
  unsigned-from limit x at [] = tt
  unsigned-from limit x at (b ∷ rest) =
      let y = x * 128 + b % 128 in
      let more = unsigned_from limit y (at + 1) rest in
      up_only (ltb x limit) at (cond (leb 128 b) (Ok (y, at + 1)) more)
      (up_cond (leb 128 b) at (Ok (y, at + 1)) more (omega arith) (raise at (at + 1) more (omega arith) (unsigned-from limit y (at + 1) rest)))

  unsigned : (limit : ℕ) → Forward (load_unsigned limit)
  unfolding load_unsigned
  unsigned limit at = unsigned-from (limit / 128) 0 at (drop at bytes)

  number : Forward load_number
  unfolding load_number
  number at = up_bind at (load_block 8 bytes at) _ (block 8 at) (λ _ at₁. here at₁)

  integer : Forward load_integer
  unfolding load_integer
  integer at = up_bind at (load_block 8 bytes at) _ (block 8 at) (λ _ at₁. here at₁)

  string-of : (size : ℕ) → Forward (string_of size)
  unfolding string_of
  string-of zero at = here at
  string-of (suc size) at = up_bind at (load_block size bytes at) _ (block size at) (λ _ at₁. here at₁)

  string_n : Forward load_string_n
  unfolding load_string_n
  string_n at = up_bind at (load_size bytes at) _ (unsigned size_max at) (λ size at₁. string-of size at₁)

  is_present : (t : Text) (at : ℕ) → Up at (present t at)
  is_present None at = tt
  is_present (Some s) at = here at

  string : Forward load_string
  unfolding load_string
  string at = up_bind at (load_string_n bytes at) present (string_n at) is_present

  vector : (most each : ℕ) → Forward (load_vector most each)
  unfolding load_vector
  vector most each at =
      up_bind at (load_int bytes at) _ (unsigned int_max at) (λ n at₁.
      up_only (leb n most) at₁ _ (up_bind at₁ (load_block (each * n) bytes at₁) _ (block (each * n) at₁) (λ _ at₂. here at₂)))

  repeated : {A : Type 0} (r : ℕ → Reader A) → ((i : ℕ) → Forward (r i)) → (n i : ℕ) → Forward (repeat r i n)
  unfolding repeat
  repeated r each zero i at = here at
  repeated r each (suc n) i at =
      up_bind at (r i bytes at) _ (each i at) (λ x at₁.
      up_bind at₁ (repeat r (i + 1) n bytes at₁) _ (repeated r each n (i + 1) at₁) (λ xs at₂. here at₂))

  items : {A : Type 0} (most : ℕ) (r : ℕ → Reader A) → ((i : ℕ) → Forward (r i)) → Forward (load_items most r)
  unfolding load_items
  items most r each at =
      up_bind at (load_int bytes at) _ (unsigned int_max at) (λ n at₁. up_only (leb n most) at₁ _ (repeated r each n 0 at₁))

  code : Forward load_code
  unfolding load_code
  code at = up_bind at (load_vector most_words 4 bytes at) _ (vector most_words 4 at) (λ v at₁. here at₁)

  constant_of : (i t : ℕ) → Forward (constant_by_tag i t)
  unfolding constant_by_tag
  constant_of i t at =
      up_cond (eqb t TAG_NIL) at _ _ (here at)
      (up_cond (eqb t TAG_FALSE) at _ _ (here at)
      (up_cond (eqb t TAG_TRUE) at _ _ (here at)
      (up_cond (eqb t TAG_FLOAT) at _ _ (up_bind at (load_number bytes at) _ (number at) (λ x at₁. here at₁))
      (up_cond (eqb t TAG_INTEGER) at _ _ (up_bind at (load_integer bytes at) _ (integer at) (λ x at₁. here at₁))
      (up_cond (eqb t TAG_SHORT_STRING) at _ _ (string at)
      (up_cond (eqb t TAG_LONG_STRING) at _ _ (string at) tt))))))

  constant : (i : ℕ) → Forward (load_constant i)
  unfolding load_constant
  constant i at = up_bind at (load_byte bytes at) _ (byte at) (λ t at₁. constant_of i t at₁)

  upvalues : Forward load_upvalues
  unfolding load_upvalues
  upvalues at = up_bind at (load_vector most_names 3 bytes at) _ (vector most_names 3 at) (λ v at₁. here at₁)

  int : Forward load_int
  int = unsigned int_max

  abs_line : (i : ℕ) → Forward (load_abs_line i)
  unfolding load_abs_line
  abs_line i = up_then load_int load_int int int

  loc_var : (i : ℕ) → Forward (load_loc_var i)
  unfolding load_loc_var
  loc_var i = up_then load_string_n (and_then load_int load_int) string_n (up_then load_int load_int int int)

  lines : Forward load_lines
  unfolding load_lines
  lines =
      up_then (load_vector int_max 1) (and_then (load_items int_max load_abs_line) (load_items int_max load_loc_var)) (vector int_max 1)
      (up_then (load_items int_max load_abs_line) (load_items int_max load_loc_var) (items int_max load_abs_line abs_line) (items int_max load_loc_var loc_var))

  names-from : (upvalues n : ℕ) → Forward (names_from upvalues n)
  unfolding names_from
  names-from ups zero at = here at
  names-from ups (suc n) at = repeated load_name (λ i. string_n) ups 0 at

  names : (ups : ℕ) → Forward (load_names ups)
  unfolding load_names
  names ups at = up_bind at (load_int bytes at) _ (int at) (λ n at₁. names-from ups n at₁)

  -- ---- a function's head takes a byte at least
  abbrev Past : {A : Type 0} → ℕ → Outcome A → Type 0
  Past at X = Up (at + 1) X

  after : {A B : Type 0} (at : ℕ) (X : Outcome A) (g : A → ℕ → Outcome B) → Up at X → ((a : A) (at₁ : ℕ) → Past at₁ (g a at₁)) → Past at (bind X g)
  after at (Ok (a, at₁)) g h k = raise (at + 1) (at₁ + 1) (g a at₁) (omega (arith, h)) (k a at₁)
  after at (Err e) g h k = tt

  one_byte : (at : ℕ) → Past at (load_byte bytes at)
  unfolding load_byte
  one_byte at = up_only (ltb at (length bytes)) (at + 1) _ (here (at + 1))

  head : (at : ℕ) → Past at (load_head bytes at)
  unfolding load_head
  head at =
      after at (load_string_n bytes at) _ (string_n at) (λ _ at₁.
      after at₁ (load_int bytes at₁) _ (int at₁) (λ _ at₂.
      after at₂ (load_int bytes at₂) _ (int at₂) (λ _ at₃.
      after at₃ (load_byte bytes at₃) _ (byte at₃) (λ _ at₄.
      after at₄ (load_byte bytes at₄) _ (byte at₄) (λ _ at₅. one_byte at₅)))))

  -- and its first byte is one of those there are
  abbrev Has : {A : Type 0} → ℕ → Outcome A → Type 0
  Has at (Ok (a, next)) = at < length bytes
  Has at (Err e) = Unit

  has_lower : {A : Type 0} (at at₁ : ℕ) (X : Outcome A) → at ≤ at₁ → Has at₁ X → Has at X
  has_lower at at₁ (Ok (a, next)) h k = omega (arith, h, k)
  has_lower at at₁ (Err e) h k = tt

  has_later : {A B : Type 0} (at : ℕ) (X : Outcome A) (g : A → ℕ → Outcome B) → Up at X → ((a : A) (at₁ : ℕ) → Has at₁ (g a at₁)) → Has at (bind X g)
  has_later at (Ok (a, at₁)) g h k = has_lower at at₁ (g a at₁) h (k a at₁)
  has_later at (Err e) g h k = tt

  byte_has : (at : ℕ) → Has at (load_byte bytes at)
  unfolding load_byte
  byte_has at = go (ltb at (length bytes)) refl
    where
      go : (b : Bool) → ltb at (length bytes) ≡ b → Has at (only b (Ok (get_or bytes at 0, at + 1)))
      go true e = ltb-true at (length bytes) e
      go false e = tt

  head_has : (at : ℕ) → Has at (load_head bytes at)
  unfolding load_head
  head_has at =
      has_later at (load_string_n bytes at) _ (string_n at) (λ _ at₁.
      has_later at₁ (load_int bytes at₁) _ (int at₁) (λ _ at₂.
      has_later at₂ (load_int bytes at₂) _ (int at₂) (λ _ at₃.
      has_later at₃ (load_byte bytes at₃) _ (byte at₃) (λ _ at₄.
      has_later at₄ (load_byte bytes at₄) _ (byte at₄) (λ _ at₅. byte_has at₅)))))

-- ---- functions one after another, from a position to a position
module _ (size : ℕ) where
  ends : (lo hi : ℕ) (fs : List Function) → StandBetween size lo fs hi → lo ≤ hi
  ends lo hi [] k = k
  ends lo hi (f ∷ fs) k = omega (arith, k.0, ends (f.first_at + 1) hi fs k.1.1.1)

  lower : (lo lo₁ hi : ℕ) (fs : List Function) → lo ≤ lo₁ → StandBetween size lo₁ fs hi → StandBetween size lo fs hi
  lower lo lo₁ hi [] h k = omega (arith, h, k)
  lower lo lo₁ hi (f ∷ fs) h k = (omega (arith, h, k.0), k.1)

  higher : (lo hi hi₁ : ℕ) (fs : List Function) → hi ≤ hi₁ → StandBetween size lo fs hi → StandBetween size lo fs hi₁
  higher lo hi hi₁ [] h k = omega (arith, h, k)
  higher lo hi hi₁ (f ∷ fs) h k = (k.0, (k.1.0, (omega (arith, h, k.1.1.0), higher (f.first_at + 1) hi hi₁ fs h k.1.1.1)))

  joined : (lo mid hi : ℕ) (fs gs : List Function) → StandBetween size lo fs mid → StandBetween size mid gs hi → StandBetween size lo (fs ++ gs) hi
  joined lo mid hi [] gs h k = lower lo mid hi gs h k
  joined lo mid hi (f ∷ fs) gs h k =
      (h.0, (h.1.0, (omega (arith, h.1.1.0, ends mid hi gs k), joined (f.first_at + 1) mid hi fs gs h.1.1.1 k)))

  -- the first byte of each lies at the position or after it
  above : (lo hi k : ℕ) (fs : List Function) (d : Function) → StandBetween size lo fs hi → k < length fs → lo ≤ (get_or fs k d).first_at
  above lo hi k [] d b h = absurd (omega arith)
  above lo hi zero (f ∷ fs) d b h = b.0
  above lo hi (suc k) (f ∷ fs) d b h = omega (arith, b.0, above (f.first_at + 1) hi k fs d b.1.1.1 (omega arith))

  rises : (lo hi : ℕ) (fs : List Function) → StandBetween size lo fs hi → (j k : ℕ) (d : Function) → j < k
      → k < length fs → (get_or fs j d).first_at < (get_or fs k d).first_at
  rises lo hi [] b j k d h l = absurd (omega arith)
  rises lo hi (f ∷ fs) b j zero d h l = absurd (omega arith)
  rises lo hi (f ∷ fs) b zero (suc k) d h l = omega (arith, above (f.first_at + 1) hi k fs d b.1.1.1 (omega arith))
  rises lo hi (f ∷ fs) b (suc j) (suc k) d h l = rises (f.first_at + 1) hi fs b.1.1.1 j k d (omega arith) (omega arith)

  -- so they are as many as the bytes from the position on, at most
  fewer : (lo hi : ℕ) (fs : List Function) → StandBetween size lo fs hi → length fs ≤ size - lo
  fewer lo hi [] b = omega arith
  fewer lo hi (f ∷ fs) b = omega (arith, b.0, b.1.0, fewer (f.first_at + 1) hi fs b.1.1.1)

  abbrev Read : ℕ → Outcome (List Function) → Type 0
  Read = ReadBetween size

  lower_read : (lo lo₁ : ℕ) (X : Outcome (List Function)) → lo ≤ lo₁ → Read lo₁ X → Read lo X
  lower_read lo lo₁ (Ok (fs, at)) h k = lower lo lo₁ at fs h k
  lower_read lo lo₁ (Err e) h k = tt

  -- after what goes forward
  read_bind : {A : Type 0} (at : ℕ) (X : Outcome A) (g : A → ℕ → Outcome (List Function)) → Up at X
      → ((a : A) (at₁ : ℕ) → Read at₁ (g a at₁)) → Read at (bind X g)
  read_bind at (Ok (a, at₁)) g h k = lower_read at at₁ (g a at₁) h (k a at₁)
  read_bind at (Err e) g h k = tt

module _ (bytes : List ℕ) where
  abbrev size : ℕ
  size = length bytes

  module _ (r : Reader (List Function)) (each : (at : ℕ) → Read size at (r bytes at)) where
    both : (lo : ℕ) (fs : List Function) (at : ℕ) → StandBetween size lo fs at → (X : Outcome (List Function))
        → Read size at X → Read size lo (bind X (λ more at₂. Ok (fs ++ more, at₂)))
    both lo fs at h (Ok (more, at₂)) k = joined size lo at at₂ fs more h k
    both lo fs at h (Err e) k = tt

    several_on : (n lo : ℕ) → ((at : ℕ) → Read size at (several r n bytes at)) → (X : Outcome (List Function)) → Read size lo X
        → Read size lo (bind X (λ fs at₁. bind (several r n bytes at₁) (λ more at₂. Ok (fs ++ more, at₂))))
    several_on n lo later (Ok (fs, at)) h = both lo fs at h (several r n bytes at) (later at)
    several_on n lo later (Err e) h = tt

    pub several_rise : (n at : ℕ) → Read size at (several r n bytes at)
    unfolding several
    several_rise zero at = omega arith
    several_rise (suc n) at = several_on n at (several_rise n) (r bytes at) (each at)

  -- one function, which starts at at₀: those within it start later
  module _ (P : Reader (List Function)) (inside : (at : ℕ) → Read size at (P bytes at)) (at₀ : ℕ) where
    module _ (begun : at₀ < size) where
      r7 : (at₁ : ℕ) (ws : List ℕ) (at₂ : ℕ) (ks : List Constant) (n : ℕ) (inner : List Function) (at₅ at₆ : ℕ) (X : Outcome (List Text))
          → StandBetween size (at₀ + 1) inner at₅ → at₅ ≤ at₆ → Up at₆ X → Read size at₀ (bind X (then7 bytes P at₀ at₁ ws at₂ ks n inner at₅ at₆))
      r7 at₁ ws at₂ ks n inner at₅ at₆ (Ok (t, at₇)) b h u = (here at₀, (begun, (here at₇, higher size (at₀ + 1) at₅ at₇ inner (omega (arith, h, u)) b)))
      r7 at₁ ws at₂ ks n inner at₅ at₆ (Err e) b h u = tt

      r6 : (at₁ : ℕ) (ws : List ℕ) (at₂ : ℕ) (ks : List Constant) (n : ℕ) (inner : List Function) (at₅ : ℕ) (X : Outcome (List ℕ))
          → StandBetween size (at₀ + 1) inner at₅ → Up at₅ X → Read size at₀ (bind X (then6 bytes P at₀ at₁ ws at₂ ks n inner at₅))
      r6 at₁ ws at₂ ks n inner at₅ (Ok (z, at₆)) b u = r7 at₁ ws at₂ ks n inner at₅ at₆ (load_names n bytes at₆) b u (names bytes n at₆)
      r6 at₁ ws at₂ ks n inner at₅ (Err e) b u = tt

      r5 : (at₁ : ℕ) (ws : List ℕ) (at₂ : ℕ) (ks : List Constant) (n at₄ : ℕ) (X : Outcome (List Function))
          → at₀ + 1 ≤ at₄ → Read size at₄ X → Read size at₀ (bind X (then5 bytes P at₀ at₁ ws at₂ ks n))
      r5 at₁ ws at₂ ks n at₄ (Ok (inner, at₅)) h b =
          r6 at₁ ws at₂ ks n inner at₅ (load_lines bytes at₅) (lower size (at₀ + 1) at₄ at₅ inner h b)
          (lines bytes at₅)
      r5 at₁ ws at₂ ks n at₄ (Err e) h b = tt

      r4 : (at₁ : ℕ) (ws : List ℕ) (at₂ : ℕ) (ks : List Constant) (at₃ : ℕ) (X : Outcome ℕ)
          → at₀ + 1 ≤ at₃ → Up at₃ X → Read size at₀ (bind X (then4 bytes P at₀ at₁ ws at₂ ks))
      r4 at₁ ws at₂ ks at₃ (Ok (n, at₄)) h u = r5 at₁ ws at₂ ks n at₄ (P bytes at₄) (omega (arith, h, u)) (inside at₄)
      r4 at₁ ws at₂ ks at₃ (Err e) h u = tt

      r3 : (at₁ : ℕ) (ws : List ℕ) (at₂ : ℕ) (X : Outcome (List Constant))
          → at₀ + 1 ≤ at₂ → Up at₂ X → Read size at₀ (bind X (then3 bytes P at₀ at₁ ws at₂))
      r3 at₁ ws at₂ (Ok (ks, at₃)) h u = r4 at₁ ws at₂ ks at₃ (load_upvalues bytes at₃) (omega (arith, h, u)) (upvalues bytes at₃)
      r3 at₁ ws at₂ (Err e) h u = tt

      r2 : (at₁ : ℕ) (X : Outcome (List ℕ)) → at₀ + 1 ≤ at₁ → Up at₁ X → Read size at₀ (bind X (then2 bytes P at₀ at₁))
      r2 at₁ (Ok (ws, at₂)) h u =
          r3 at₁ ws at₂ (load_constants bytes at₂) (omega (arith, h, u)) (items bytes most_constants load_constant (constant bytes) at₂)
      r2 at₁ (Err e) h u = tt

    r1 : (X : Outcome ℕ) → Has bytes at₀ X → Up (at₀ + 1) X → Read size at₀ (bind X (then1 bytes P at₀))
    r1 (Ok (m, at₁)) begun u = r2 begun at₁ (load_code bytes at₁) u (code bytes at₁)
    r1 (Err e) begun u = tt

    one_rises : Read size at₀ (function_with P bytes at₀)
    unfolding function_with
    one_rises = r1 (load_head bytes at₀) (head_has bytes at₀) (head bytes at₀)

  none_rise : (n at : ℕ) → Read size at (none_of n bytes at)
  unfolding none_of
  none_rise zero at = omega arith
  none_rise (suc n) at = tt

  pub protos_rise : (level at : ℕ) → Read size at (load_protos level bytes at)
  unfolding load_protos
  protos_rise zero at = read_bind size at (load_int bytes at) (λ n at₁. none_of n bytes at₁) (int bytes at) none_rise
  protos_rise (suc level) at =
      read_bind size at (load_int bytes at) (λ n at₁. several (function_with (load_protos level)) n bytes at₁) (int bytes at)
      (several_rise (function_with (load_protos level)) (one_rises (load_protos level) (protos_rise level)))

  pub function_rises : (level at : ℕ) → Read size at (load_function level bytes at)
  function_rises level at = one_rises (load_protos level) (protos_rise level) at

  from_start : {A : Type 0} (X : Outcome A) (g : ℕ → Outcome (List Function)) → ((at : ℕ) → Read size at (g at)) → Read size 0 (bind X (λ _ at. g at))
  from_start (Ok (a, at)) g h = lower_read size 0 at (g at) (omega arith) (h at)
  from_start (Err e) g h = tt

  then_read : {A : Type 0} (X : Outcome A) (g : ℕ → Outcome (List Function)) → ((at : ℕ) → Read size 0 (g at)) → Read size 0 (bind X (λ _ at. g at))
  then_read (Ok (a, at)) g h = h at
  then_read (Err e) g h = tt

  undump_rises : Read size 0 (undump bytes 0)
  unfolding undump
  undump_rises =
      then_read (check_header bytes 0) (λ at. bind (load_byte bytes at) (λ _ at₁. load_function levels_below bytes at₁))
      (λ at. from_start (load_byte bytes at) (λ at₁. load_function levels_below bytes at₁) (function_rises levels_below))

  pub by_first_byte : (fs : List Function) (at : ℕ) → undump bytes 0 ≡ Ok (fs, at)
      → (j k : ℕ) (d : Function) → j < k → k < length fs → (get_or fs j d).first_at < (get_or fs k d).first_at
  by_first_byte fs at e = rises size 0 at fs (rw e at undump_rises)

  pub few : (fs : List Function) (at : ℕ) → undump bytes 0 ≡ Ok (fs, at) → length fs ≤ length bytes
  few fs at e = omega (arith, fewer size 0 at fs (rw e at undump_rises))
