-- The first name past the bytes, as a search finds it.
-- Assumes nothing.
use Rattle.std.proofs.Common.{◌≡◌, refl, List, ℕ, length}
use Rattle.std.specs.List.{position}
use Rattle.common.proofs.Position.{found, found_of}
use Rattle.values.specs.Spans.{name_past, name_past_at, first_name_past}

pub name_found : (names : List ℕ) (bytes : ℕ)
    → position (name_past bytes) names ≡ found_of (first_name_past names bytes) (length names)
unfolding name_past_at name_past
name_found names bytes = found (name_past bytes) 0 (name_past_at names bytes) names (λ k l. refl)
