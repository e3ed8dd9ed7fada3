-- What the examples of either version are made of: an answer as a list of items, and that each example's
-- word has those said of it. The words, by number, stand in lua54/Examples.antt and lua53/Examples.antt.
-- Assumes nothing.
use Rattle.std.specs.Prelude.{ℕ, ◌≡◌, cond, List, [], ◌∷◌, ◌++◌, eqb}
use Rattle.fields.specs.declared.version.Version.{Version}
use Rattle.locations.specs.declared.answer.Range.{Range}
use Rattle.locations.specs.declared.answer.Top.{Top}
use Rattle.locations.specs.declared.answer.Touches.{Touches}
use Rattle.locations.specs.Form.{ranges_in, numbers_in}
use Rattle.touches.specs.Touches.{touches_for}

-- what an answer lists, an item at a time
pub data TouchedItem : Type 0 where
  -- registers, the first and the last
  reads : ℕ → ℕ → TouchedItem
  -- registers from this one up to the top
  reads_from : ℕ → TouchedItem
  constant : ℕ → TouchedItem
  upvalue : ℕ → TouchedItem
  writes : ℕ → ℕ → TouchedItem
  writes_from : ℕ → TouchedItem
  -- an upvalue that is written
  sets : ℕ → TouchedItem
  -- only on the step to a word, which stands first
  writes_to : ℕ → ℕ → ℕ → TouchedItem

abbrev ranged : (ℕ → ℕ → TouchedItem) → List Range → List TouchedItem
ranged item [] = []
ranged item (r ∷ rs) = item r.first r.last ∷ ranged item rs

abbrev indexed : (ℕ → TouchedItem) → List ℕ → List TouchedItem
indexed item [] = []
indexed item (n ∷ ns) = item n ∷ indexed item ns

abbrev topped : (ℕ → TouchedItem) → Top → List TouchedItem
topped item t = cond (eqb t.count 0) [] (item t.first ∷ [])

-- all of them, list by list
abbrev pub items_of : Touches → List TouchedItem
items_of t =
    ranged reads (ranges_in t.reads)
    ++ (topped reads_from t.reads_to_top
    ++ (indexed constant (numbers_in t.constants)
    ++ (indexed upvalue (numbers_in t.upvalues)
    ++ (ranged writes (ranges_in t.writes)
    ++ (topped writes_from t.writes_to_top
    ++ (indexed sets (numbers_in t.upvalue_writes)
    ++ ranged (writes_to t.edge) (ranges_in t.edge_writes)))))))

pub data Example : Type 0 where
  -- of these words, the one of this number touches this
  at : List ℕ → ℕ → List TouchedItem → Example

abbrev pub ExampleHolds : Version → Example → Type 0
ExampleHolds v (at words p items) = items_of (touches_for v words p) ≡ items

abbrev pub ExamplesHold : Version → List Example → Type 0
ExamplesHold v [] = Unit {0}
ExamplesHold v (example ∷ examples) = ExampleHolds v example × ExamplesHold v examples

-- word 1 of four; the others are 0, which is a MOVE, but for the one that it wants after it, or before it
abbrev pub alone : ℕ → List TouchedItem → Example
alone word items = at (0 ∷ word ∷ 0 ∷ 0 ∷ []) 1 items

abbrev pub along : ℕ → ℕ → List TouchedItem → Example
along word companion items = at (0 ∷ word ∷ companion ∷ 0 ∷ []) 1 items

abbrev pub after : ℕ → ℕ → List TouchedItem → Example
after companion word items = at (companion ∷ word ∷ 0 ∷ 0 ∷ []) 1 items
