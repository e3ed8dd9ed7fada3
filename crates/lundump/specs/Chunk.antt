-- Document 02, C-11: the function chosen of a chunk, what the first pass reports of it, and what the second
-- one leaves in the lent slices. Both passes are about `chosen` alone.
-- Assumes nothing.
use Rattle.std.specs.Prelude.{Bool, cond, ◌&&◌, List, [], ◌∷◌, ◌++◌, ℕ, zero, suc, leb, length, drop}
use Rattle.common.specs.Numbers.{«ACCEPTED»}
use Rattle.common.specs.declared.refusal.Refusal.TheVariants.{MalformedChunk, ShortSlice}
use Rattle.lundump.specs.declared.counts.Counts.{Counts}
use Rattle.lundump.specs.declared.functions.Rooms.{Rooms}
use Rattle.common.specs.Limits.{most_constants, most_names, most_bytes}
use Rattle.common.specs.Refusals.{refusal_number, refusal_place}
use Rattle.std.specs.Prelude.{Ok, Err}
use Rattle.loaders.specs.Reading.{Outcome, bind, only}
use Rattle.lundump.specs.Lundump.{Function, undump}
use Rattle.loaders.specs.Lent.{tag_of, payload_of, name_number}

-- "Functions count from 0"; "the chosen function does not exist" is 15, after all was read
unfoldable pub pick : ℕ → List Function → ℕ → Outcome Function
pick k [] at = Err MalformedChunk
pick zero (f ∷ fs) at = Ok (f, at)
pick (suc k) (f ∷ fs) at = pick k fs at

-- "The chunk's length is checked first"; then what is read counts, functions before, after and around the
-- chosen one too. "trailing bytes are ignored"
unfoldable pub chosen : ℕ → List ℕ → Outcome Function
chosen k bytes = only (leb (length bytes) most_bytes) (bind (undump bytes 0) (pick k))

-- What stands in the lent slices for a function

-- a number for each of a list
unfoldable pub values_of : {A : Type 0} → (A → ℕ) → List A → List ℕ
values_of g [] = []
values_of g (x ∷ xs) = g x ∷ values_of g xs

abbrev pub words_of : Function → List ℕ
words_of f = f.words

abbrev pub tags_of : Function → List ℕ
tags_of f = values_of tag_of f.constants

abbrev pub payloads_of : Function → List ℕ
payloads_of f = values_of payload_of f.constants

abbrev pub names_of : Function → List ℕ
names_of f = values_of name_number f.names

-- The answer of both passes: "a refusal reports 0 for every number but its own and its place"
unfoldable pub counts_of : Outcome Function → Counts
counts_of (Ok (f, at)) =
    record {
      number = «ACCEPTED»;
      place = 0;
      words = length f.words;
      constants = length f.constants;
      names = length f.names;
    }
counts_of (Err e) =
    record { number = refusal_number e; place = refusal_place e; words = 0; constants = 0; names = 0 }

-- The second pass: `Rooms` are the lengths of the lent slices
abbrev pub rooms_of : List ℕ → List ℕ → List ℕ → List ℕ → Rooms
rooms_of words tags payloads names =
    record { words = length words; tags = length tags; payloads = length payloads; names = length names }

-- the rooms of one who wants the words alone: as long as can be, but for the words
abbrev pub words_room : ℕ → Rooms
words_room words =
    record { words = words; tags = most_constants; payloads = most_constants; names = most_names }

unfoldable pub fits : Function → Rooms → Bool
fits f rooms =
    leb (length f.words) rooms.words
    && (leb (length f.constants) rooms.tags
    && (leb (length f.constants) rooms.payloads
    && leb (length f.names) rooms.names))

-- "6 covers each slice to be filled", and comes last
abbrev pub room_for : Rooms → Function → ℕ → Outcome Function
room_for rooms f at = cond (fits f rooms) (Ok (f, at)) (Err ShortSlice)

unfoldable pub filled : ℕ → List ℕ → Rooms → Outcome Function
filled k bytes rooms = bind (chosen k bytes) (room_for rooms)

-- a slice after the second pass: the function's part and what stood past it; of a refusal
-- "nothing lent is altered"
unfoldable pub after : (Function → List ℕ) → Outcome Function → List ℕ → List ℕ
after part (Ok (f, at)) out = part f ++ drop (length (part f)) out
after part (Err e) out = out
