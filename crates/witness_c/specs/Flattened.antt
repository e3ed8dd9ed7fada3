-- What C gets of an answer, number by number (include/lawendeb.h): one that is changed in its definition and
-- in the code alike is refused here.
-- Assumes nothing.
use Rattle.std.specs.Prelude.{ℕ, ◌≡◌, Err, List, length}
use Rattle.common.specs.declared.refusal.Refusal.{Refusal}
use Rattle.common.specs.Refusals.{refusal_number, refusal_place}
use Rattle.runs.specs.Run.{accepted_run}
use Rattle.witness_c.specs.declared.c.FlatPath.{FlatPath}
use Rattle.witness.specs.Witness.{accepted_path, path_answer_by}
use Rattle.witness_c.specs.Flat.{flat_path}

-- the five numbers of an answer
abbrev pub Told : FlatPath → ℕ → ℕ → ℕ → ℕ → ℕ → Type 0
Told r number place longest first count =
    (r.number ≡ number) × ((r.place ≡ place)
    × ((r.longest ≡ longest) × ((r.first ≡ first) × (r.count ≡ count))))

pub record Flattened : Type 0 where
  -- L, its first word, and how many words the path has
  pub accepted : (l f c : ℕ) → Told (flat_path (accepted_path l f c)) 0 0 l f c
  -- "a refusal reports 0 for every number but its own and its place"
  pub refused : (e : Refusal) → Told (flat_path (Err e)) (refusal_number e) (refusal_place e) 0 0 0
  -- the same from the run's own answer and the path
  pub of_run :
      (l f : ℕ) (path : List ℕ)
      → Told (flat_path (path_answer_by (accepted_run l f) path)) 0 0 l f (length path)
  pub of_refusal : (e : Refusal) (path : List ℕ)
      → Told (flat_path (path_answer_by (Err e) path)) (refusal_number e) (refusal_place e) 0 0 0
