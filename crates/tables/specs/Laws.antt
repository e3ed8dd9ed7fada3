-- What callers go by of how many records are written.
-- Assumes nothing.
use Rattle.std.specs.Prelude.{ℕ, ◌<◌, ◌≤◌, List}
use Rattle.common.specs.Limits.{most_words}
use Rattle.tables.specs.Refusals.{written_of}

module _ (n : ℕ) (tags payloads names : List ℕ) (bytes room : ℕ) where
  pub record WrittenLaws : Type 0 where
    -- as many records as words and as there is room for
    pub within_words : written_of n tags payloads names bytes room ≤ n
    pub within_room : written_of n tags payloads names bytes room ≤ room
    -- none where there are too many words
    pub few-words : (i : ℕ) → i < written_of n tags payloads names bytes room → n ≤ most_words
