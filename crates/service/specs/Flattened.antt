-- What C gets of an answer, number by number (include/lawendeb.h): one that is changed in its definition and
-- in the code alike is refused here.
-- Assumes nothing.
use Rattle.std.specs.Prelude.{ℕ, ◌≡◌, ◌↔◌, None, Some, Ok, Err}
use Rattle.common.specs.declared.refusal.Refusal.{Refusal}
use Rattle.common.specs.Refusals.{refusal_number, refusal_place}
use Rattle.service.specs.Questions.{Nearest}
use Rattle.service.specs.declared.c.FlatNearest.{FlatNearest}
use Rattle.service.specs.declared.c.FlatCrossed.{FlatCrossed}
use Rattle.service.specs.Flat.{flat_nearest, flat_crossed}

-- the four numbers of the nearest service
abbrev pub ToldNearest : FlatNearest → ℕ → ℕ → ℕ → ℕ → Type 0
ToldNearest r number place found fewest =
    (r.number ≡ number) × ((r.place ≡ place) × ((r.found ≡ found) × (r.fewest ≡ fewest)))

-- the three numbers of a crossing count
abbrev pub ToldCrossed : FlatCrossed → ℕ → ℕ → ℕ → Type 0
ToldCrossed r number place count = (r.number ≡ number) × ((r.place ≡ place) × (r.count ≡ count))

pub record Flattened : Type 0 where
  -- request C-22: "give the fewest words to the next serving step or return": C is told of k words exactly if
  -- they are the answer
  pub found :
      (r : Nearest) (k : ℕ)
      → (((flat_nearest r).found ≡ 1) × ((flat_nearest r).fewest ≡ k)) ↔ (r ≡ Ok (Some k))
  pub fewest : (k : ℕ) → ToldNearest (flat_nearest (Ok (Some k))) 0 0 1 k
  -- "An unreachable word, or one past the end, has no fewest, and the answer says so"
  pub nowhere : ToldNearest (flat_nearest (Ok None)) 0 0 0 0
  -- "a refusal reports 0 for every number but its own and its place"
  pub refused : (e : Refusal) → ToldNearest (flat_nearest (Err e)) (refusal_number e) (refusal_place e) 0 0
  -- "For a word w, count the steps from reachable words that pass strictly over w"
  pub crossed : (k : ℕ) → ToldCrossed (flat_crossed (Ok k)) 0 0 k
  pub crossed_refused :
      (e : Refusal) → ToldCrossed (flat_crossed (Err e)) (refusal_number e) (refusal_place e) 0
