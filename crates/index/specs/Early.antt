-- Whether a chunk that is refused by 15 ends early.
-- Assumes nothing.
use Rattle.std.specs.Prelude.{Bool, not, List, ℕ, ◌-◌, eqb, length, replicate}
use Rattle.common.specs.Numbers.{MALFORMED_CHUNK}
use Rattle.common.specs.Lists.{put}
use Rattle.index.specs.Listing.{functions_of, listed_of}

-- whether a chunk is not refused by 15
unfoldable pub reads_on : List ℕ → Bool
reads_on bytes = not (eqb (listed_of (functions_of bytes)).number MALFORMED_CHUNK)

-- Of 15's causes "the bytes end early" is one that other bytes behind them mend: the first n of a room are
-- read on into as many of these as the room has. Each is a count of 1, the length of a string that has no
-- bytes, and no constant's tag, so that 15 refuses none with which something begins. One that ends a number
-- may be refused: of a header, a function's head and the words' count cut to 2 0 the count is 32,769 then,
-- and with 128 behind 32,768. Where these bytes do not mend it, a count or number is over its limit, or a
-- constant string absent, in the bytes themselves or with the number that they cut
abbrev pub filler : ℕ
filler = 129

unfoldable pub ends_early : List ℕ → ℕ → Bool
ends_early room n = reads_on (put room n (replicate (length room - n) filler))
