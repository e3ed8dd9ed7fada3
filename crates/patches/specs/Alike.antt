-- Where two lists of words hold the same.
-- Assumes nothing.
use Rattle.std.specs.Prelude.{◌≡◌, List, ℕ, get_or}

-- both lists hold the same at i: past their ends that is 0, in both
abbrev pub SameAt : List ℕ → List ℕ → ℕ → Type 0
SameAt ws vs i = get_or ws i 0 ≡ get_or vs i 0
