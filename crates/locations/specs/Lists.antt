-- Lists of locations, what they hold of each kind, and the arrays with counts that answer them. An array
-- holds three, the most that a case names in one list; specs/Meaning.antt has that no count is higher.
-- Assumes nothing.
use Rattle.std.specs.Prelude.{ℕ, zero, suc, ◌-◌, List, [], ◌∷◌, ◌++◌, length}
use Rattle.locations.specs.declared.answer.Range.{Range}
use Rattle.locations.specs.declared.answer.Ranges.{Ranges}
use Rattle.locations.specs.declared.answer.Indices.{Indices}
use Rattle.locations.specs.declared.answer.Top.{Top}
use Rattle.locations.specs.declared.location.Location.{Location}
use Rattle.locations.specs.declared.location.Location.TheVariants as L
use Rattle.locations.specs.declared.interval.Interval.{Interval}

-- What a location holds of each kind

abbrev pub intervals_of : Location → List Interval
intervals_of L.Nothing = []
intervals_of (L.Registers first end) = record { first = first; end = end } ∷ []
intervals_of (L.ToTop first) = []
intervals_of (L.Constant index) = []
intervals_of (L.Upvalue index) = []

abbrev pub tops_of : Location → List ℕ
tops_of L.Nothing = []
tops_of (L.Registers first end) = []
tops_of (L.ToTop first) = first ∷ []
tops_of (L.Constant index) = []
tops_of (L.Upvalue index) = []

abbrev pub constants_of : Location → List ℕ
constants_of L.Nothing = []
constants_of (L.Registers first end) = []
constants_of (L.ToTop first) = []
constants_of (L.Constant index) = index ∷ []
constants_of (L.Upvalue index) = []

abbrev pub upvalues_of : Location → List ℕ
upvalues_of L.Nothing = []
upvalues_of (L.Registers first end) = []
upvalues_of (L.ToTop first) = []
upvalues_of (L.Constant index) = []
upvalues_of (L.Upvalue index) = index ∷ []

-- what several locations hold of a kind
unfoldable pub gather : {X : Type 0} → (Location → List X) → List Location → List X
gather kind [] = []
gather kind (location ∷ locations) = kind location ++ gather kind locations

-- Answers: places past the count hold 0

abbrev pub range_of : Interval → Range
range_of x = record { first = x.first; last = x.end - 1 }

abbrev pub ranges : ℕ → List Interval → List Range
ranges zero xs = []
ranges (suc n) [] = record { first = 0; last = 0 } ∷ ranges n []
ranges (suc n) (x ∷ xs) = range_of x ∷ ranges n xs

unfoldable pub ranges_of : List Interval → Ranges
ranges_of xs = record { items = ranges 3 xs; count = length xs }

abbrev pub first_numbers : ℕ → List ℕ → List ℕ
first_numbers zero xs = []
first_numbers (suc n) [] = 0 ∷ first_numbers n []
first_numbers (suc n) (x ∷ xs) = x ∷ first_numbers n xs

unfoldable pub indices_of : List ℕ → Indices
indices_of xs = record { items = first_numbers 3 xs; count = length xs }

unfoldable pub first_top : List ℕ → Top → Top
first_top [] other = other
first_top (first ∷ rest) other = record { first = first; count = 1 }

abbrev pub top_of : List ℕ → Top
top_of xs = first_top xs (record { first = 0; count = 0 })
