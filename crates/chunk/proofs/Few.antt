-- Reading a chunk refuses by numbers 3, 14, 15 and 16 alone, which are at most 16. Assumes nothing.
use Rattle.std.proofs.Common.{ℕ, zero, suc, ◌+◌, ◌*◌, ◌/◌, ◌%◌, ◌≤◌, Bool, true, false, cond, List, [], ◌∷◌, ◌++◌, None, Some, Ok, Err, length, drop, leb, ltb, eqb, arith}
use Rattle.common.specs.Limits.{most_words, most_constants, most_names, levels_below, int_max, size_max, most_bytes}
use Rattle.common.specs.Refusals.{refusal_number}
use Rattle.values.specs.Values.{TAG_NIL, TAG_FALSE, TAG_TRUE, TAG_INTEGER, TAG_FLOAT, TAG_SHORT_STRING, TAG_LONG_STRING}
use Rattle.loaders.specs.Reading.{Outcome, Reader, bind, only, repeat}
use Rattle.loaders.specs.Loaders.{Text, load_block, load_byte, unsigned_from, load_unsigned, load_size, load_int, load_number, load_integer}
use Rattle.loaders.specs.Loaders.{string_of, load_string_n, present, load_string, constant_by_tag, load_constant}
use Rattle.lundump.specs.Lundump.{Function, load_vector, load_items, load_code, load_constants, load_upvalues, load_abs_line, load_loc_var, load_lines}
use Rattle.lundump.specs.Lundump.{load_name, names_from, load_names, load_head, function_with, several, none_of, load_protos, load_function, check_bytes, check_header, undump}
use Rattle.lundump.specs.Chunk.{pick, chosen}

abbrev pub Few : {A : Type 0} → Outcome A → Type 0
Few (Ok p) = Unit
Few (Err e) = refusal_number e ≤ 16

few_bind : {A B : Type 0} (X : Outcome A) (g : A → ℕ → Outcome B) → Few X → ((a : A) (at : ℕ) → Few (g a at)) → Few (bind X g)
few_bind (Ok (a, at)) g h k = k a at
few_bind (Err e) g h k = h

few_only : {A : Type 0} (b : Bool) (X : Outcome A) → Few X → Few (only b X)
few_only true X h = h
few_only false X h = omega arith

few_cond : {A : Type 0} (b : Bool) (X Y : Outcome A) → Few X → Few Y → Few (cond b X Y)
few_cond true X Y h k = h
few_cond false X Y h k = k

module _ (bytes : List ℕ) where
  abbrev Always : {A : Type 0} → Reader A → Type 0
  Always r = (at : ℕ) → Few (r bytes at)

  block : (size : ℕ) → Always (load_block size)
  unfolding load_block
  block size at = few_only (leb (at + size) (length bytes)) _ tt

  byte : Always load_byte
  unfolding load_byte
  byte at = few_only (ltb at (length bytes)) _ tt

  unsigned-from : (limit x at : ℕ) (rest : List ℕ) → Few (unsigned_from limit x at rest)
  unfolding unsigned_from
  unsigned-from limit x at [] = omega arith
  unsigned-from limit x at (b ∷ rest) =
      let y = x * 128 + b % 128 in
      few_only (ltb x limit) _ (few_cond (leb 128 b) (Ok (y, at + 1)) (unsigned_from limit y (at + 1) rest) tt (unsigned-from limit y (at + 1) rest))

  unsigned : (limit : ℕ) → Always (load_unsigned limit)
  unfolding load_unsigned
  unsigned limit at = unsigned-from (limit / 128) 0 at (drop at bytes)

  number : Always load_number
  unfolding load_number
  number at = few_bind (load_block 8 bytes at) _ (block 8 at) (λ _ at₁. tt)

  integer : Always load_integer
  unfolding load_integer
  integer at = few_bind (load_block 8 bytes at) _ (block 8 at) (λ _ at₁. tt)

  string-of : (size : ℕ) → Always (string_of size)
  unfolding string_of
  string-of zero at = tt
  string-of (suc size) at = few_bind (load_block size bytes at) _ (block size at) (λ _ at₁. tt)

  string_n : Always load_string_n
  unfolding load_string_n
  string_n at = few_bind (load_size bytes at) _ (unsigned size_max at) (λ size at₁. string-of size at₁)

  is_present : (t : Text) (at : ℕ) → Few (present t at)
  is_present None at = omega arith
  is_present (Some s) at = tt

  string : Always load_string
  unfolding load_string
  string at = few_bind (load_string_n bytes at) present (string_n at) is_present

  by_tag : (i t : ℕ) → Always (constant_by_tag i t)
  unfolding constant_by_tag
  by_tag i t at =
      few_cond (eqb t TAG_NIL) _ _ tt
      (few_cond (eqb t TAG_FALSE) _ _ tt
      (few_cond (eqb t TAG_TRUE) _ _ tt
      (few_cond (eqb t TAG_FLOAT) _ _ (few_bind (load_number bytes at) _ (number at) (λ x at₁. tt))
      (few_cond (eqb t TAG_INTEGER) _ _ (few_bind (load_integer bytes at) _ (integer at) (λ x at₁. tt))
      (few_cond (eqb t TAG_SHORT_STRING) _ _ (string at)
      (few_cond (eqb t TAG_LONG_STRING) _ _ (string at) (omega arith)))))))

  constant : (i : ℕ) → Always (load_constant i)
  unfolding load_constant
  constant i at = few_bind (load_byte bytes at) _ (byte at) (λ t at₁. by_tag i t at₁)

  vector : (most each : ℕ) → Always (load_vector most each)
  unfolding load_vector
  vector most each at =
      few_bind (load_int bytes at) _ (unsigned int_max at) (λ n at₁.
      few_only (leb n most) _ (few_bind (load_block (each * n) bytes at₁) _ (block (each * n) at₁) (λ _ at₂. tt)))

  repeated : {A : Type 0} (r : ℕ → Reader A) → ((i : ℕ) → Always (r i)) → (n i : ℕ) → Always (repeat r i n)
  unfolding repeat
  repeated r each zero i at = tt
  repeated r each (suc n) i at =
      few_bind (r i bytes at) _ (each i at) (λ x at₁.
      few_bind (repeat r (i + 1) n bytes at₁) _ (repeated r each n (i + 1) at₁) (λ xs at₂. tt))

  items : {A : Type 0} (most : ℕ) (r : ℕ → Reader A) → ((i : ℕ) → Always (r i)) → Always (load_items most r)
  unfolding load_items
  items most r each at =
      few_bind (load_int bytes at) _ (unsigned int_max at) (λ n at₁. few_only (leb n most) (repeat r 0 n bytes at₁) (repeated r each n 0 at₁))

  code : Always load_code
  unfolding load_code
  code at = few_bind (load_vector most_words 4 bytes at) _ (vector most_words 4 at) (λ v at₁. tt)

  upvalues : Always load_upvalues
  unfolding load_upvalues
  upvalues at = few_bind (load_vector most_names 3 bytes at) _ (vector most_names 3 at) (λ v at₁. tt)

  abs_line : (i : ℕ) → Always (load_abs_line i)
  unfolding load_abs_line
  abs_line i at = few_bind (load_int bytes at) _ (unsigned int_max at) (λ _ at₁. unsigned int_max at₁)

  loc_var : (i : ℕ) → Always (load_loc_var i)
  unfolding load_loc_var
  loc_var i at =
      few_bind (load_string_n bytes at) _ (string_n at) (λ _ at₁.
      few_bind (load_int bytes at₁) _ (unsigned int_max at₁) (λ _ at₂. unsigned int_max at₂))

  lines : Always load_lines
  unfolding load_lines
  lines at =
      few_bind (load_vector int_max 1 bytes at) _ (vector int_max 1 at) (λ _ at₁.
      few_bind (load_items int_max load_abs_line bytes at₁) _ (items int_max load_abs_line abs_line at₁) (λ _ at₂.
      items int_max load_loc_var loc_var at₂))

  names-from : (ups n : ℕ) → Always (names_from ups n)
  unfolding names_from
  names-from ups zero at = tt
  names-from ups (suc n) at = repeated load_name (λ i. string_n) ups 0 at

  names : (ups : ℕ) → Always (load_names ups)
  unfolding load_names
  names ups at = few_bind (load_int bytes at) _ (unsigned int_max at) (λ n at₁. names-from ups n at₁)

  head : Always load_head
  unfolding load_head
  head at =
      few_bind (load_string_n bytes at) _ (string_n at) (λ _ at₁.
      few_bind (load_int bytes at₁) _ (unsigned int_max at₁) (λ _ at₂.
      few_bind (load_int bytes at₂) _ (unsigned int_max at₂) (λ _ at₃.
      few_bind (load_byte bytes at₃) _ (byte at₃) (λ _ at₄.
      few_bind (load_byte bytes at₄) _ (byte at₄) (λ _ at₅. byte at₅)))))

  function : (P : Reader (List Function)) → Always P → Always (function_with P)
  unfolding function_with
  function P inner at =
      few_bind (load_head bytes at) _ (head at) (λ _ at₁.
      few_bind (load_code bytes at₁) _ (code at₁) (λ _ at₂.
      few_bind (load_constants bytes at₂) _ (items most_constants load_constant constant at₂) (λ _ at₃.
      few_bind (load_upvalues bytes at₃) _ (upvalues at₃) (λ n at₄.
      few_bind (P bytes at₄) _ (inner at₄) (λ _ at₅.
      few_bind (load_lines bytes at₅) _ (lines at₅) (λ _ at₆.
      few_bind (load_names n bytes at₆) _ (names n at₆) (λ _ at₇. tt)))))))

  several_few : (r : Reader (List Function)) → Always r → (n : ℕ) → Always (several r n)
  unfolding several
  several_few r each zero at = tt
  several_few r each (suc n) at =
      few_bind (r bytes at) _ (each at) (λ fs at₁. few_bind (several r n bytes at₁) _ (several_few r each n at₁) (λ more at₂. tt))

  none_few : (n : ℕ) → Always (none_of n)
  unfolding none_of
  none_few zero at = tt
  none_few (suc n) at = omega arith

  protos : (level : ℕ) → Always (load_protos level)
  unfolding load_protos
  protos zero at = few_bind (load_int bytes at) _ (unsigned int_max at) (λ n at₁. none_few n at₁)
  protos (suc level) at =
      few_bind (load_int bytes at) _ (unsigned int_max at) (λ n at₁.
      several_few (function_with (load_protos level)) (function (load_protos level) (protos level)) n at₁)

  -- functions that are read from any byte on
  pub functions : (level : ℕ) → Always (load_function level)
  functions level = function (load_protos level) (protos level)

  bytes_few : (hs : List ℕ) → Always (check_bytes hs)
  unfolding check_bytes
  bytes_few [] at = tt
  bytes_few (h ∷ hs) at =
      few_bind (load_byte bytes at) _ (byte at) (λ b at₁. few_cond (eqb b h) (check_bytes hs bytes at₁) _ (bytes_few hs at₁) (omega arith))

  header : Always check_header
  unfolding check_header
  header at = bytes_few _ at

  all : Always undump
  unfolding undump
  all at =
      few_bind (check_header bytes at) _ (header at) (λ _ at₁.
      few_bind (load_byte bytes at₁) _ (byte at₁) (λ _ at₂. functions levels_below at₂))

  picked : (k : ℕ) (fs : List Function) (at : ℕ) → Few (pick k fs at)
  unfolding pick
  picked zero [] at = omega arith
  picked (suc k) [] at = omega arith
  picked zero (f ∷ fs) at = tt
  picked (suc k) (f ∷ fs) at = picked k fs at

  -- the function that is chosen
  pub chosen_few : (k : ℕ) → Few (chosen k bytes)
  unfolding chosen
  chosen_few k = few_only (leb (length bytes) most_bytes) _ (few_bind (undump bytes 0) (pick k) (all 0) (picked k))
