-- All functions of a chunk: how many there are, where each stands, and which one it stands in.
-- Assumes nothing.
use Rattle.std.specs.Prelude.{cond, ◌&&◌, List, [], ◌∷◌, ◌++◌, ℕ, ◌+◌, ltb, leb, length, drop}
use Rattle.common.specs.Numbers.{«ACCEPTED»}
use Rattle.common.specs.Limits.{most_bytes}
use Rattle.common.specs.declared.refusal.Refusal.TheVariants.{ShortSlice}
use Rattle.common.specs.Refusals.{refusal_number, refusal_place}
use Rattle.std.specs.Prelude.{Ok, Err}
use Rattle.loaders.specs.Reading.{Outcome, bind, only}
use Rattle.lundump.specs.Lundump.{Function, undump}
use Rattle.lundump.specs.Chunk.{values_of}
use Rattle.index.specs.declared.listing.Listed.{Listed}

-- "The chunk's length is checked first"; then all of it is read
unfoldable pub functions_of : List ℕ → Outcome (List Function)
functions_of bytes = only (leb (length bytes) most_bytes) (undump bytes 0)

-- where the first byte of each stands
abbrev pub places_of : List Function → List ℕ
places_of fs = values_of (λ f. f.first_at) fs

-- "Functions hold functions": one stands in the last one before it whose bytes go on past its first byte.
-- `seen` has the position past the last byte of each function before it and its number, the last one first;
-- where none goes on so far, it is `outer`
unfoldable pub stands_in : ℕ → List (ℕ × ℕ) → ℕ → ℕ
stands_in outer [] at = outer
stands_in outer (s ∷ seen) at = cond (ltb at s.0) s.1 (stands_in outer seen at)

-- the number of the function that each stands in, where the first has number i
unfoldable pub parents_from : ℕ → List (ℕ × ℕ) → ℕ → List Function → List ℕ
parents_from outer seen i [] = []
parents_from outer seen i (f ∷ fs) =
    stands_in outer seen f.first_at ∷ parents_from outer ((f.end_at, i) ∷ seen) (i + 1) fs

-- the main function stands in none, which 2^64 - 1 says
abbrev pub no_function : ℕ
no_function = 18446744073709551615

abbrev pub parents_of : List Function → List ℕ
parents_of fs = parents_from no_function [] 0 fs

-- the answer: "a refusal reports 0 for every number but its own and its place"
abbrev pub listed_of : Outcome (List Function) → Listed
listed_of (Ok (fs, at)) = record { number = «ACCEPTED»; place = 0; functions = length fs }
listed_of (Err e) = record { number = refusal_number e; place = refusal_place e; functions = 0 }

-- "6 covers each slice to be filled", and comes last
abbrev pub room_for_all : ℕ → ℕ → List Function → ℕ → Outcome (List Function)
room_for_all places parents fs at =
    cond (leb (length fs) places && leb (length fs) parents) (Ok (fs, at)) (Err ShortSlice)

unfoldable pub listed_in : List ℕ → ℕ → ℕ → Outcome (List Function)
listed_in bytes places parents = bind (functions_of bytes) (room_for_all places parents)

-- a slice afterwards: a number for each function and what stood past them; of a refusal
-- "nothing lent is altered"
unfoldable pub after_all : (List Function → List ℕ) → Outcome (List Function) → List ℕ → List ℕ
after_all part (Ok (fs, at)) out = part fs ++ drop (length (part fs)) out
after_all part (Err e) out = out
