-- A block and a string that were read lie inside the bytes. Assumes nothing.
use Rattle.std.proofs.Common.{◌≡◌, ℕ, zero, suc, ◌+◌, ◌≤◌, Bool, true, false, List, length, leb, Some, Ok, Err, refl, ap, arith}
use borrow.Author.Tests.{leb-true}
use Rattle.loaders.specs.Reading.{Outcome, bind, only}
use Rattle.loaders.specs.Loaders.{Text, text, load_block, load_size, string_of, load_string_n}
use Rattle.loaders.specs.Lent.{Inside}
use Rattle.loaders.proofs.Same.{same_value}

in_bytes : (size at : ℕ) (bytes : List ℕ) (b : Bool) → leb (at + size) (length bytes) ≡ b → (next : ℕ)
    → ◌≡◌ {A = Outcome (Unit {0})} (only b (Ok (tt, at + size))) (Ok (tt, next)) → at + size ≤ length bytes
in_bytes size at bytes true h next e = leb-true _ _ h
in_bytes size at bytes false h next e = absurd (cc)

pub block_inside : (size at : ℕ) (bytes : List ℕ) (next : ℕ) → load_block size bytes at ≡ Ok (tt, next) → at + size ≤ length bytes
unfolding load_block
block_inside size at bytes next h = in_bytes size at bytes (leb (at + size) (length bytes)) refl next h

module _ (bytes : List ℕ) where
  abbrev AllInside : Outcome Text → Type 0
  AllInside (Ok (t, at)) = Inside (length bytes) t
  AllInside (Err e) = Unit

  by_block : (size at : ℕ) (X : Outcome (Unit {0})) → load_block size bytes at ≡ X → AllInside (bind X (λ _ at₁. Ok (text at size, at₁)))
  by_block size at (Ok (tt, next)) e = block_inside size at bytes next e
  by_block size at (Err x) e = tt

  by_size : (size at : ℕ) → AllInside (string_of size bytes at)
  unfolding string_of
  by_size zero at = tt
  by_size (suc size) at = by_block size at (load_block size bytes at) refl

  read_inside : (X : Outcome ℕ) → AllInside (bind X (λ size at₁. string_of size bytes at₁))
  read_inside (Ok (n, at)) = by_size n at
  read_inside (Err x) = tt

  -- the bytes of a string lie inside
  pub text_inside : (at : ℕ) (t : Text) (next : ℕ) → load_string_n bytes at ≡ Ok (t, next) → Inside (length bytes) t
  unfolding load_string_n
  text_inside at t next h = rw h at (read_inside (load_size bytes at))
