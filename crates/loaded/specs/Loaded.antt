-- A function that the second pass fills from a chunk is lifted with the chunk's bytes as its string bytes:
-- of document 01's checks 1 to 6 (RULES 8) only the last, which asks for room, can refuse it.
-- Assumes nothing.
use Rattle.std.specs.Prelude.{◌≡◌, List, ℕ, ◌≤◌, ◌<◌, length}
use Rattle.common.specs.declared.refusal.Refusal.{Refusal}
use Rattle.common.specs.declared.refusal.Refusal.TheVariants.{ShortSlice}
use Rattle.tables.specs.Refusals.{answer_of}
use Rattle.std.specs.Prelude.{Result, ⊤, Ok, Err}
use Rattle.lundump.specs.Lundump.{Function}
use Rattle.lundump.specs.Chunk.{chosen, words_of, tags_of, payloads_of, names_of}

-- what a lift answers to a function's words, tags, payloads and names, with room for so many records
abbrev pub lifting : List ℕ → Function → ℕ → Result ⊤ Refusal
lifting bytes f room = answer_of (length (words_of f)) (tags_of f) (payloads_of f) (names_of f)
    (length bytes) room

pub record Loaded : Type 0 where
  pub lifted : (k : ℕ) (bytes : List ℕ) (f : Function) (at : ℕ) → chosen k bytes ≡ Ok (f, at)
      → (room : ℕ) → length (words_of f) ≤ room → lifting bytes f room ≡ Ok tt
  -- "a lent result slice shorter than the words"
  pub short : (k : ℕ) (bytes : List ℕ) (f : Function) (at : ℕ) → chosen k bytes ≡ Ok (f, at)
      → (room : ℕ) → room < length (words_of f) → lifting bytes f room ≡ Err ShortSlice
