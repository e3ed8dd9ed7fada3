-- How much of a part of a function is read: no more than its limit.
-- Assumes nothing.
use mathlib.Core.Path.{◌≡◌, refl, ◌∙◌, ap}
use mathlib.Core.Bool.{Bool, true, false, true≢false}
use mathlib.Core.List.{List}
use Prim.Native.Nat.{ℕ, zero, suc, ◌+◌, ◌*◌, ◌≤◌, ◌<◌}
use native.Mathlib.Omega.{arith}
use lib.Dec.{leb}
use lib.ListN.{length, replicate}
use borrow.Author.Tests.{leb-true, le-leb, lt-leb}
use Rattle.common.specs.Limits.{most_words, most_names}
use Rattle.std.proofs.Common.{Ok, Err}
use Rattle.loaders.specs.Reading.{Outcome, Reader, bind, only, repeat}
use Rattle.loaders.specs.Loaders.{Text, absent, load_block, load_int}
use Rattle.lundump.specs.Lundump.{Vector, load_vector, load_items}
use Rattle.lundump.specs.Lundump.{load_code, load_upvalues, load_names, names_from, load_name, words_from}
use Rattle.loaders.proofs.Same.{same_value}
use Rattle.lundump.proofs.Words.{words_count}
use Rattle.lundump.proofs.Repeats.{repeat_length}

-- "names, one per upvalue"
replicate_length : (n : ℕ) → length (replicate {A = Text} n absent) ≡ n
replicate_length zero = refl
replicate_length (suc n) = ap suc (replicate_length n)

module _ (bytes : List ℕ) (upvalues at : ℕ) (names : List Text) (next : ℕ) where
  from_count : (n start : ℕ) → names_from upvalues n bytes start ≡ Ok (names, next) → length names ≡ upvalues
  unfolding names_from
  from_count zero start h = let e : replicate upvalues absent ≡ names = same_value _ _ _ _ h in rw (← e) (replicate_length upvalues)
  from_count (suc n) start h = repeat_length load_name bytes upvalues 0 start names next h

  from_int : (X : Outcome ℕ) → bind X (λ n at₁. names_from upvalues n bytes at₁) ≡ Ok (names, next) → length names ≡ upvalues
  from_int (Ok (n, start)) h = from_count n start h
  from_int (Err e) h = absurd (true≢false (cc))

  pub names_length : load_names upvalues bytes at ≡ Ok (names, next) → length names ≡ upvalues
  unfolding load_names
  names_length h = from_int (load_int bytes at) h

-- ---- the limits
module _ (bytes : List ℕ) where
  vector_within : (most each at : ℕ) (v : Vector) (next : ℕ) → load_vector most each bytes at ≡ Ok (v, next) → v.count ≤ most
  unfolding load_vector
  vector_within most each at v next h = by_count (load_int bytes at) h
    where
      by_block : (n start : ℕ) (X : Outcome (Unit {0})) → bind X (λ _ at₂. Ok (record { start = start; count = n }, at₂)) ≡ Ok (v, next) → v.count ≡ n
      by_block n start (Ok (u, at₂)) h = let e : record { start = start; count = n } ≡ v = same_value _ _ _ _ h in rw (← e)
      by_block n start (Err x) h = absurd (true≢false (cc))

      by_limit : (n start : ℕ) (b : Bool) → leb n most ≡ b
          → only b (bind (load_block (each * n) bytes start) (λ _ at₂. Ok (record { start = start; count = n }, at₂))) ≡ Ok (v, next) → v.count ≤ most
      by_limit n start true e h = let c = by_block n start (load_block (each * n) bytes start) h in omega (arith, leb-true n most e)
      by_limit n start false e h = absurd (true≢false (cc))

      by_count : (X : Outcome ℕ)
          → bind X (λ n at₁. only (leb n most)
          (bind (load_block (each * n) bytes at₁) (λ _ at₂. Ok (record { start = at₁; count = n }, at₂))))
          ≡ Ok (v, next)
          → v.count ≤ most
      by_count (Ok (n, start)) h = by_limit n start (leb n most) refl h
      by_count (Err x) h = absurd (true≢false (cc))

  pub few-words : (at : ℕ) (ws : List ℕ) (next : ℕ) → load_code bytes at ≡ Ok (ws, next) → length ws ≤ most_words
  unfolding load_code
  few-words at ws next h = by_vector (load_vector most_words 4 bytes at) refl h
    where
      by_vector : (X : Outcome Vector) → load_vector most_words 4 bytes at ≡ X
          → bind X (λ v at₁. Ok (words_from v.count bytes v.start, at₁)) ≡ Ok (ws, next)
          → length ws ≤ most_words
      by_vector (Ok (v, at₁)) e h =
          let w : words_from v.count bytes v.start ≡ ws = same_value _ _ _ _ h in
          let c : v.count ≡ length ws = words_count v.count bytes v.start ∙ ap length w in
          omega (arith, vector_within most_words 4 at v at₁ e)
      by_vector (Err x) e h = absurd (true≢false (cc))

  pub few_upvalues : (at n next : ℕ) → load_upvalues bytes at ≡ Ok (n, next) → n ≤ most_names
  unfolding load_upvalues
  few_upvalues at n next h = by_vector (load_vector most_names 3 bytes at) refl h
    where
      by_vector : (X : Outcome Vector) → load_vector most_names 3 bytes at ≡ X → bind X (λ v at₁. Ok (v.count, at₁)) ≡ Ok (n, next) → n ≤ most_names
      by_vector (Ok (v, at₁)) e h = let c : v.count ≡ n = same_value _ _ _ _ h in omega (arith, vector_within most_names 3 at v at₁ e)
      by_vector (Err x) e h = absurd (true≢false (cc))

  pub few_items : {A : Type 0} (most : ℕ) (r : ℕ → Reader A) (at : ℕ) (xs : List A) (next : ℕ) → load_items most r bytes at ≡ Ok (xs, next) → length xs ≤ most
  unfolding load_items
  few_items {A} most r at xs next h = by_count (load_int bytes at) h
    where
      by_limit : (n start : ℕ) (b : Bool) → leb n most ≡ b → only b (repeat r 0 n bytes start) ≡ Ok (xs, next) → length xs ≤ most
      by_limit n start true e h = let c = repeat_length r bytes n 0 start xs next h in omega (arith, leb-true n most e)
      by_limit n start false e h = absurd (true≢false (cc))

      by_count : (X : Outcome ℕ) → bind X (λ n at₁. only (leb n most) (repeat r 0 n bytes at₁)) ≡ Ok (xs, next) → length xs ≤ most
      by_count (Ok (n, start)) h = by_limit n start (leb n most) refl h
      by_count (Err x) h = absurd (true≢false (cc))
