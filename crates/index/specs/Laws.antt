-- What callers go by beside the contracts: all functions of a chunk, by number and by place.
-- proofs/Laws.antt proves it.
-- Assumes nothing.
use Rattle.std.specs.Prelude.{◌≡◌, List, ℕ, ◌≤◌, ◌<◌, length, get_or}
use Rattle.common.specs.declared.refusal.Refusal.{Refusal}
use Rattle.common.specs.declared.refusal.Refusal.TheVariants.{MalformedChunk}
use Rattle.std.specs.Prelude.{Ok, Err}
use Rattle.lundump.specs.Lundump.{Function}
use Rattle.lundump.specs.Chunk.{chosen, counts_of, filled, after}
use Rattle.lundump.specs.declared.functions.Rooms.{Rooms}
use Rattle.lines.specs.declared.choosing.Choice.TheVariants.{Number, Place}
use Rattle.lines.specs.Choices.{function_at, filled_by}
use Rattle.lines.specs.Heads.{head_of, head_from}
use Rattle.index.specs.Listing.{functions_of, places_of, parents_of, no_function}

-- function k of a chunk, f, and the place that is listed for it
pub record AtItsPlace (k : ℕ) (bytes : List ℕ) (f : Function) : Type 0 where
  -- the function that is read from there is f, to its own end
  pub same : function_at f.first_at bytes ≡ Ok (f, f.end_at)
  -- so that all that is told and filled of it is as for its number, whatever the slices are
  pub counts : (rooms : Rooms)
      → counts_of (filled_by (Place f.first_at) bytes rooms) ≡ counts_of (filled_by (Number k) bytes rooms)
  pub slices :
      (rooms : Rooms) (part : Function → List ℕ) (out : List ℕ)
      → after part (filled_by (Place f.first_at) bytes rooms) out
      ≡ after part (filled_by (Number k) bytes rooms) out
  pub head : head_of (Place f.first_at) bytes ≡ head_of (Number k) bytes
  -- also where only the head is read
  pub head_alone : head_from f.first_at bytes ≡ head_of (Number k) bytes

-- j is the function that k stands in: its bytes go on past k's first byte, and so do
-- those of no other between them
pub record Inner (fs : List Function) (j k : ℕ) : Type 0 where
  pub before : j < k
  pub encloses : (d : Function) → (get_or fs k d).first_at < (get_or fs j d).end_at
  pub nearest : (i : ℕ) (d : Function) → j < i → i < k → (get_or fs i d).end_at ≤ (get_or fs k d).first_at

-- a chunk that is read to its end
pub record Listing (bytes : List ℕ) (fs : List Function) (at : ℕ) : Type 0 where
  -- as many as the numbers that choose one
  pub chosen_each : (k : ℕ) (d : Function) → k < length fs → chosen k bytes ≡ Ok (get_or fs k d, at)
  pub chosen_none : (k : ℕ) → length fs ≤ k → chosen k bytes ≡ Err MalformedChunk
  pub some : 0 < length fs
  pub few : length fs ≤ length bytes
  -- a place for each, and a function that it stands in
  pub places_count : length (places_of fs) ≡ length fs
  pub parents_count : length (parents_of fs) ≡ length fs
  pub place : (k : ℕ) (d : Function) → k < length fs → get_or (places_of fs) k 0 ≡ (get_or fs k d).first_at
  pub at_place : (k : ℕ) (d : Function) → k < length fs → AtItsPlace k bytes (get_or fs k d)
  -- the main function stands in none, and every other one in one before it
  pub main : get_or (parents_of fs) 0 0 ≡ no_function
  pub parent : (k : ℕ) → 0 < k → k < length fs → Inner fs (get_or (parents_of fs) k 0) k

pub record Laws : Type 0 where
  pub listing : (bytes : List ℕ) (fs : List Function) (at : ℕ)
      → functions_of bytes ≡ Ok (fs, at) → Listing bytes fs at
  -- of one that is not, every number is refused as the list is
  pub refusing : (bytes : List ℕ) (e : Refusal) (k : ℕ)
      → functions_of bytes ≡ Err e → chosen k bytes ≡ Err e
  -- by its number a function is filled as crate `chunk` fills it
  pub by_number : (k : ℕ) (bytes : List ℕ) (rooms : Rooms)
      → filled_by (Number k) bytes rooms ≡ filled k bytes rooms
