-- The definitions compute on names.
-- Assumes nothing.
use Rattle.std.specs.Prelude.{◌≡◌, List, [], ◌∷◌, ℕ}
use Rattle.values.specs.Values.{unnamed}
use Rattle.chunk.specs.Names.{shown_of}
use Rattle.chunk.specs.Claims.{shows}

-- Names of a chunk of 14 bytes and of a list of 8: the chunk's are bytes 6 and 7, an empty one at 3, and
-- none; the list's bytes 0 to 2, 4 to 7 twice, and none
abbrev own : List ℕ
own = 8589934598 ∷ 3 ∷ unnamed ∷ []

abbrev other : List ℕ
other = 12884901888 ∷ 17179869188 ∷ 17179869188 ∷ unnamed ∷ []

pub record NamesRead : Type 0 where
  pub of_chunk : shown_of 14 own 8 other 0 ≡ shows 0 0 1 6 2
  -- a name that is there and empty is a name
  pub empty : shown_of 14 own 8 other 1 ≡ shows 0 0 1 3 0
  pub of_list : shown_of 14 own 8 other 2 ≡ shows 0 0 0 4 4
  pub neither : shown_of 14 own 8 other 3 ≡ shows 0 0 0 0 0
  pub past_both : shown_of 14 own 8 other 4 ≡ shows 0 0 0 0 0
  pub chunk_first : shown_of 7 own 7 other 0 ≡ shows 5 0 0 0 0
  pub then_list : shown_of 14 own 7 other 0 ≡ shows 5 1 0 0 0
