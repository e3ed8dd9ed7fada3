-- What is over a limit is refused, and what is not is read. Assumes nothing.
use mathlib.Core.Path.{◌≡◌, refl}
use mathlib.Core.Bool.{Bool, true, false}
use mathlib.Core.List.{List}
use Prim.Native.Nat.{ℕ, ◌+◌, ◌*◌, ◌≤◌, ◌<◌}
use lib.Dec.{leb}
use lib.ListN.{length}
use borrow.Author.Tests.{le-leb, lt-leb}
use Rattle.common.specs.declared.refusal.Refusal.TheVariants.{MalformedChunk}
use Rattle.std.proofs.Common.{Ok, Err}
use Rattle.loaders.specs.Reading.{only}
use Rattle.loaders.specs.Loaders.{load_int, load_block}
use Rattle.lundump.specs.Lundump.{Vector, load_vector, load_items, load_code, load_upvalues}
use Rattle.lundump.specs.Limits.{CountRead, LimitsKept}

module _ (bytes : List ℕ) (at n past : ℕ) (h : load_int bytes at ≡ Ok (n, past)) where
  -- as many bytes as each takes
  held : (most each : ℕ) → n ≤ most → past + each * n ≤ length bytes
      → load_vector most each bytes at ≡ Ok (record { start = past; count = n }, past + each * n)
  unfolding load_vector load_block
  held most each l m = rw h (rw (le-leb n most l) (rw (le-leb (past + each * n) (length bytes) m)))

  cut : (most each : ℕ) → length bytes < past + each * n → load_vector most each bytes at ≡ Err MalformedChunk
  unfolding load_vector load_block
  cut most each m = rw h (rw (lt-leb (past + each * n) (length bytes) m) (either (leb n most)))
    where
      either : (b : Bool) → only {A = Vector} b (Err MalformedChunk) ≡ Err MalformedChunk
      either true = refl
      either false = refl

  over : (most each : ℕ) → most < n → load_vector most each bytes at ≡ Err MalformedChunk
  unfolding load_vector
  over most each l = rw h (rw (lt-leb n most l))

  read : CountRead bytes at n past
  unfolding load_code load_upvalues load_items
  read =
      record {
        words = λ l m. rw (held 32768 4 l m);
        cut_words = λ m. rw (cut 32768 4 m);
        many-words = λ l. rw (over 32768 4 l);
        constants = λ l. rw h (rw (le-leb n 65536 l));
        many_constants = λ l. rw h (rw (lt-leb n 65536 l));
        upvalues = λ l m. rw (held 255 3 l m);
        cut_upvalues = λ m. rw (cut 255 3 m);
        many_upvalues = λ l. rw (over 255 3 l);
      }

pub limits_kept : LimitsKept
limits_kept = read
