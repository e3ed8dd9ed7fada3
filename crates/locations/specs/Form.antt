-- The form of an answer, in document 02's words: "Each list rises without repeats; registers stand in longest
-- ranges, which use 16 bits and never saturate, and a range up to the stack top is given apart".
-- Assumes nothing.
use Rattle.std.specs.Prelude.{ℕ, ◌+◌, ◌-◌, ◌≤◌, ◌<◌, ◌≡◌, ◌⊎◌, ◌↔◌, List, [], ◌∷◌, take, drop, replicate}
use Rattle.locations.specs.declared.answer.Range.{Range}
use Rattle.locations.specs.declared.answer.Ranges.{Ranges}
use Rattle.locations.specs.declared.answer.Indices.{Indices}
use Rattle.locations.specs.declared.answer.Top.{Top}
use Rattle.locations.specs.declared.answer.Touches.{Touches}

-- the items up to the count
abbrev pub ranges_in : Ranges → List Range
ranges_in r = take r.count r.items

abbrev pub numbers_in : Indices → List ℕ
numbers_in r = take r.count r.items

-- a register of one of the ranges
abbrev pub Within : ℕ → List Range → Type 0
Within q [] = ⊥
Within q (x ∷ xs) = ((x.first ≤ q) × (q ≤ x.last)) ⊎ Within q xs

-- "Each list rises without repeats; registers stand in longest ranges": between two ranges there is a
-- register that is in neither
abbrev pub GapAfter : ℕ → List Range → Type 0
GapAfter last [] = Unit {0}
GapAfter last (x ∷ xs) = last + 1 < x.first

abbrev pub Longest : List Range → Type 0
Longest [] = Unit {0}
Longest (x ∷ xs) = (x.first ≤ x.last) × (GapAfter x.last xs × Longest xs)

abbrev pub Past : ℕ → List ℕ → Type 0
Past q [] = Unit {0}
Past q (x ∷ xs) = q < x

abbrev pub Rising : List ℕ → Type 0
Rising [] = Unit {0}
Rising (x ∷ xs) = Past x xs × Rising xs

-- these are the longest ranges, since no other such list has the same registers
abbrev pub OnlyOne : Type 0
OnlyOne = (xs ys : List Range) → Longest xs → Longest ys → ((q : ℕ) → Within q xs ↔ Within q ys) → xs ≡ ys

-- places past the count hold 0
abbrev pub ZeroRanges : Ranges → Type 0
ZeroRanges r = drop r.count r.items ≡ replicate (3 - r.count) (record { first = 0; last = 0 })

abbrev pub ZeroIndices : Indices → Type 0
ZeroIndices r = drop r.count r.items ≡ replicate (3 - r.count) 0

-- one range up to the top, or none
abbrev pub AtMostOne : Top → Type 0
AtMostOne t = (t.count ≡ 1) ⊎ ((t.count ≡ 0) × (t.first ≡ 0))

-- An answer's lists, each in its form, and none longer than its array, so that nothing is dropped
pub record Form (t : Touches) : Type 0 where
  pub reads : Longest (ranges_in t.reads) × (t.reads.count ≤ 3)
  pub constants : Rising (numbers_in t.constants) × (t.constants.count ≤ 3)
  pub upvalues : Rising (numbers_in t.upvalues) × (t.upvalues.count ≤ 3)
  pub writes : Longest (ranges_in t.writes) × (t.writes.count ≤ 3)
  pub «upvalue-writes» : Rising (numbers_in t.upvalue_writes) × (t.upvalue_writes.count ≤ 3)
  pub «edge-writes» : Longest (ranges_in t.edge_writes) × (t.edge_writes.count ≤ 3)
  pub «zero-ranges» : ZeroRanges t.reads × (ZeroRanges t.writes × ZeroRanges t.edge_writes)
  pub «zero-indices» : ZeroIndices t.constants
      × (ZeroIndices t.upvalues × ZeroIndices t.upvalue_writes)
  pub tops : AtMostOne t.reads_to_top × AtMostOne t.writes_to_top
  -- no edge if nothing is written on one step only
  pub «no_edge» : t.edge_writes.count ≡ 0 → t.edge ≡ 0
