-- A list in a fixed number of places, as a record holds it.
-- Assumes nothing.
use Rattle.std.specs.Prelude.{ℕ, ◌-◌, List, ◌++◌, length, take, replicate}
use Rattle.values.specs.declared.few.Few.{Few}

-- the first n items in n places, and the filler in what places are left; how many places are taken
unfoldable pub few : {X : Type 0} (n : ℕ) → X → List X → Few X n
few n filler xs =
    record {
      slots = take n xs ++ replicate (n - length (take n xs)) filler;
      count = length (take n xs);
    }
