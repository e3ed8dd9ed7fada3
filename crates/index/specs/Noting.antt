-- Inner: no promise and no law between crates rests on what stands here.
-- The second reading of all functions, for the contracts within this crate: what is stored of those that
-- are read from a position on.
-- Assumes nothing.
use Rattle.std.specs.Prelude.{◌≡◌, List, [], ℕ, ◌+◌, ◌≤◌, ◌<◌, leb, length, set, Result, Ok, Err}
use Rattle.common.specs.Numbers.{«ACCEPTED»}
use Rattle.common.specs.Limits.{most_bytes}
use Rattle.common.specs.Lists.{put}
use Rattle.common.specs.declared.refusal.Refusal.{Refusal}
use Rattle.common.specs.Refusals.{refusal_number, refusal_place}
use Rattle.loaders.specs.Reading.{Outcome, Reader, bind, only, past_of}
use Rattle.loaders.specs.Loaders.{load_byte}
use Rattle.lundump.specs.Lundump.{Function, check_header}
use Rattle.index.specs.declared.listing.Listed.{Listed}
use Rattle.index.specs.Listing.{places_of, parents_from}

-- where the main function of a chunk stands, behind the header and a byte
unfoldable pub main_from : List ℕ → Result ℕ Refusal
main_from bytes =
    past_of (only (leb (length bytes) most_bytes) (bind (check_header bytes 0) (λ _ at. load_byte bytes at)))

-- how many there are
abbrev pub tallied : Outcome (List Function) → Result ℕ Refusal
tallied (Ok (fs, at)) = Ok (length fs)
tallied (Err e) = Err e

abbrev pub told : Result ℕ Refusal → Listed
told (Ok n) = record { number = «ACCEPTED»; place = 0; functions = n }
told (Err e) = record { number = refusal_number e; place = refusal_place e; functions = 0 }

-- one function, where there is room for it
pub record Noted (i at parent : ℕ) (pl pa pl' pa' : List ℕ) : Type 0 where
  pub places_same : length pl' ≡ length pl
  pub parents_same : length pa' ≡ length pa
  pub written : i < length pl → i < length pa → (pl' ≡ set pl i at) × (pa' ≡ set pa i parent)

-- those that were read, where the first has number i, one that stands in none of them stands in `outer`,
-- and there is room for all
abbrev pub Wrote : Outcome (List Function) → ℕ → ℕ → List ℕ → List ℕ → List ℕ → List ℕ → Type 0
Wrote (Ok (fs, at)) outer i pl pa pl' pa' =
    i + length fs ≤ length pl → i + length fs ≤ length pa
    → (pl' ≡ put pl i (places_of fs)) × (pa' ≡ put pa i (parents_from outer [] i fs))
Wrote (Err e) outer i pl pa pl' pa' = Unit

pub record WroteAt (r : Reader (List Function)) (bytes : List ℕ) (at outer i : ℕ)
    (pl pa pl' pa' : List ℕ) : Type 0 where
  pub places_same : length pl' ≡ length pl
  pub parents_same : length pa' ≡ length pa
  pub written : Wrote (r bytes at) outer i pl pa pl' pa'
