-- What holds of the program's answer, whatever the input. The proof of `Claims` is `proofs/Claims.antt`.
-- Assumes nothing.
use Rattle.std.specs.Prelude.{◌≡◌, List, ℕ, ◌≤◌, length, take}
use Rattle.listing.specs.Answer.{listing_answer}

-- the longest answer: 4,096 lines of 31 bytes, and the last one of 13
abbrev pub page_length : ℕ
page_length = 126989

-- so many bytes of an input decide: 4,096 lines of 11, and one byte more, for which there is no room
abbrev pub deciding_length : ℕ
deciding_length = 45057

pub record Claims : Type 0 where
  -- the answer fits the page
  pub fits : (text : List ℕ) → length (listing_answer text) ≤ page_length
  -- the answer to the first k bytes of an input is the answer to all of it, where k bytes decide
  pub enough : (k : ℕ) (input : List ℕ) → deciding_length ≤ k
      → listing_answer (take k input) ≡ listing_answer input

-- the first n bytes of the buffer are what was read of the input: all of it, or as much as the buffer holds
abbrev pub ReadInto : List ℕ → ℕ → List ℕ → Type 0
ReadInto buffer n input = take n buffer ≡ take (length buffer) input

-- the buffer is large enough: of whatever input its first n bytes were read, the answer to
-- them is that to the input
abbrev pub EnoughRead : List ℕ → ℕ → Type 0
EnoughRead buffer n =
    (input : List ℕ) → ReadInto buffer n input → listing_answer (take n buffer) ≡ listing_answer input
