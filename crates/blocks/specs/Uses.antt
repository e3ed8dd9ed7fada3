-- What the words of a function read and set, "by C-14's lists".
-- Assumes nothing.
use Rattle.std.specs.Prelude.{Bool, false, ◌&&◌, ◌||◌, List, [], ◌∷◌, ℕ, ◌+◌, max, leb, eqb, length}
use Rattle.graph.specs.Longest.{most}
use Rattle.graph.specs.Assignment.{Usage}
use Rattle.locations.specs.declared.answer.Range.{Range}
use Rattle.locations.specs.declared.answer.Touches.{Touches}
use Rattle.touches.specs.Touches.{touches_of}
use Rattle.locations.specs.Form.{ranges_in}

-- a register of one range, and of one of several
abbrev pub in_range : ℕ → Range → Bool
in_range r x = leb x.first r && leb r x.last

unfoldable pub in_ranges : ℕ → List Range → Bool
in_ranges r [] = false
in_ranges r (x ∷ xs) = in_range r x || in_ranges r xs

-- "each register named as read". "a read up to the top needs nothing beyond its named registers":
-- the list of those up to the top is not asked
abbrev pub reads_by : Touches → ℕ → Bool
reads_by t r = in_ranges r (ranges_in t.reads)

-- "named as written": on every way on, or on the way on that is taken, "listed with that step".
-- "A write up to the stack top sets nothing"
abbrev pub sets_by : Touches → ℕ → ℕ → Bool
sets_by t q r =
    in_ranges r (ranges_in t.writes) || (eqb q t.edge && in_ranges r (ranges_in t.edge_writes))

-- one past the highest register of some ranges
unfoldable pub end_of : List Range → ℕ
end_of [] = 0
end_of (x ∷ xs) = max (x.last + 1) (end_of xs)

abbrev pub reads_end : List ℕ → ℕ → ℕ
reads_end ws p = end_of (ranges_in (touches_of ws p).reads)

-- one past the highest register that a word reads
unfoldable pub registers_of : List ℕ → ℕ
registers_of ws = most (reads_end ws) (length ws)

abbrev pub usage_of : List ℕ → Usage
usage_of ws =
    record {
      reads = λ p r. reads_by (touches_of ws p) r;
      sets = λ p q r. sets_by (touches_of ws p) q r;
      registers = registers_of ws;
    }
