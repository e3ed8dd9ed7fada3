-- The function at a place. Assumes nothing.
use Rattle.std.proofs.Common.{◌≡◌, ℕ, ◌≤◌, ◌<◌, List, [], ◌∷◌, length, Ok, Err, refl}
use borrow.Author.Tests.{le-leb, lt-leb}
use Rattle.common.specs.Limits.{most_bytes, levels_below}
use Rattle.common.specs.declared.refusal.Refusal.TheVariants.{MalformedChunk}
use Rattle.loaders.specs.Reading.{Outcome, bind, read_as}
use Rattle.lundump.specs.Lundump.{Function, load_function}
use Rattle.lundump.specs.Chunk.{pick}
use Rattle.lundump.specs.Search.{search, located_of, found_of, located_by}
use Rattle.lines.specs.Choices.{function_at}

first_found : (at : ℕ) (fs : List Function) → found_of (search (Err 0) fs) ≡ located_of (pick 0 fs at)
unfolding search pick
first_found at [] = refl
first_found at (f ∷ fs) = refl

first_walked : (X : Outcome (List Function)) → located_by (read_as (search (Err 0)) X) ≡ located_of (bind X (pick 0))
first_walked (Ok (fs, at)) = first_found at fs
first_walked (Err e) = refl

module _ (at : ℕ) (bytes : List ℕ) where
  pub place_too_long : most_bytes < length bytes → located_of (function_at at bytes) ≡ Err MalformedChunk
  unfolding function_at
  place_too_long h = rw (lt-leb (length bytes) most_bytes h)

  pub place_there : length bytes ≤ most_bytes
      → located_by (read_as (search (Err 0)) (load_function levels_below bytes at)) ≡ located_of (function_at at bytes)
  unfolding function_at
  place_there h = rw (le-leb (length bytes) most_bytes h) (first_walked (load_function levels_below bytes at))
