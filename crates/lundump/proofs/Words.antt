-- The code's words are as many as were counted. Assumes nothing.
use Rattle.std.proofs.Common.{◌≡◌, ℕ, zero, suc, ◌+◌, List, length, Ok, Err, refl, ap}
use Rattle.common.specs.Limits.{most_words}
use Rattle.loaders.specs.Reading.{Outcome, bind, read_as}
use Rattle.lundump.specs.Lundump.{Vector, load_vector, load_code, words_from}
use Rattle.lundump.specs.Limited.{count_of}

pub words_count : (n : ℕ) (bytes : List ℕ) (at : ℕ) → n ≡ length (words_from n bytes at)
unfolding words_from
words_count zero bytes at = refl
words_count (suc n) bytes at = ap suc (words_count n bytes (at + 4))

by_vector : (bytes : List ℕ) (X : Outcome Vector)
    → read_as length (bind X (λ v at₁. Ok (words_from v.count bytes v.start, at₁))) ≡ read_as count_of X
by_vector bytes (Ok (v, at)) = rw (← words_count v.count bytes v.start)
by_vector bytes (Err e) = refl

pub code_by_vector : (bytes : List ℕ) (at : ℕ) → read_as length (load_code bytes at) ≡ read_as count_of (load_vector most_words 4 bytes at)
unfolding load_code
code_by_vector bytes at = by_vector bytes (load_vector most_words 4 bytes at)
