-- Inner: no public promise and no law between crates rests on what stands here.
-- The counts that stand before vectors and lists, for the contracts within this crate.
-- Assumes nothing.
use Rattle.std.specs.Prelude.{◌≡◌, List, ℕ, leb, Ok}
use Rattle.std.specs.Borrow.{Bor}
use Rattle.loaders.specs.Reading.{Outcome, Reader, bind, only}
use Rattle.loaders.specs.Loaders.{load_int}
use Rattle.lundump.specs.Lundump.{Vector}

-- the number that stands for a vector
abbrev pub count_of : Vector → ℕ
count_of v = v.count

-- a count of at most so many
unfoldable pub load_count : ℕ → Reader ℕ
load_count most bytes at = bind (load_int bytes at) (λ n at₁. only (leb n most) (Ok (n, at₁)))

-- each call for an item gives what the reader of its index reads
abbrev pub Reads : {A : Type 0} → (Bor (List ℕ) → ℕ → ℕ → Outcome A → Type 0) → (ℕ → Reader A) → Type 0
Reads {A} gives reader =
    (bytes : Bor (List ℕ)) (at i : ℕ) (x : Outcome A) → gives bytes at i x → x ≡ reader i bytes.now at
