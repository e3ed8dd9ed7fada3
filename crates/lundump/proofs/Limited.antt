-- A vector and a list, by their counts. Assumes nothing.
use Rattle.std.proofs.Common.{◌≡◌, ℕ, ◌*◌, Bool, true, false, List, Ok, Err, leb, refl}
use Rattle.loaders.specs.Reading.{Outcome, Reader, bind, only, repeat}
use Rattle.loaders.specs.Loaders.{load_int, load_block}
use Rattle.lundump.specs.Lundump.{Vector, load_vector, load_items}
use Rattle.lundump.specs.Limited.{load_count}

-- what goes on from a count that is held to a limit
by_limit : {B : Type 0} (b : Bool) (n at : ℕ) (k : ℕ → ℕ → Outcome B) → only b (k n at) ≡ bind (only b (Ok (n, at))) k
by_limit true n at k = refl
by_limit false n at k = refl

by_count : {B : Type 0} (X : Outcome ℕ) (most : ℕ) (k : ℕ → ℕ → Outcome B)
    → bind X (λ n at. only (leb n most) (k n at)) ≡ bind (bind X (λ n at. only (leb n most) (Ok (n, at)))) k
by_count (Ok (n, at)) most k = by_limit (leb n most) n at k
by_count (Err e) most k = refl

module _ (most : ℕ) (bytes : List ℕ) (at : ℕ) where
  pub vector_by_count : (each : ℕ) → load_vector most each bytes at
      ≡ bind (load_count most bytes at) (λ n at₁. bind (load_block (each * n) bytes at₁) (λ _ at₂. Ok (record { start = at₁; count = n }, at₂)))
  unfolding load_vector load_count
  vector_by_count each = by_count (load_int bytes at) most _

  pub items_by_count : {A : Type 0} (r : ℕ → Reader A) → load_items most r bytes at ≡ bind (load_count most bytes at) (λ n at₁. repeat r 0 n bytes at₁)
  unfolding load_items load_count
  items_by_count r = by_count (load_int bytes at) most _
