-- "Checks run in this order", of lifting: which condition gives which of 1 to 6 exactly, with those before
-- it not holding, and which place, by document 01's own numbers. Two of them in another order, another limit,
-- another tag or another place, in definition and code alike, is refused here. proofs/Order.antt proves it
-- for any lengths and lists.
-- Assumes nothing.
use Rattle.std.specs.Prelude.{◌≡◌, ◌↔◌, ◌⊎◌, List, ℕ, ◌+◌, ◌-◌, ◌/◌, ◌%◌, ◌^◌, ◌≤◌, ◌<◌, length, get_or}
use Rattle.common.specs.Refusals.{answer_number, answer_place}
use Rattle.tables.specs.Refusals.{answer_of}

-- "tags 0 nil, 1 false, 17 true, 3 integer, 19 float, 4 short string, 20 long string"
abbrev pub Known : ℕ → Type 0
Known tag = (tag ≡ 0) ⊎ ((tag ≡ 1) ⊎ ((tag ≡ 17) ⊎ ((tag ≡ 3) ⊎ ((tag ≡ 19) ⊎ ((tag ≡ 4) ⊎ (tag ≡ 20))))))

-- a place, "start in the low 32 bits, length in the high 32", ends past so many bytes
abbrev pub EndsPast : ℕ → ℕ → Type 0
EndsPast bytes place = bytes < place % 2 ^ 32 + place / 2 ^ 32

module _ (n : ℕ) (tags payloads names : List ℕ) (bytes room : ℕ) where
  abbrev pub number : ℕ
  number = answer_number (answer_of n tags payloads names bytes room)

  abbrev pub place : ℕ
  place = answer_place (answer_of n tags payloads names bytes room)

  -- "unknown tag"
  abbrev pub UnknownAt : ℕ → Type 0
  UnknownAt i = (i < length tags) × (Known (get_or tags i 0) → ⊥)

  -- "string ends past the string bytes"
  abbrev pub StringPastAt : ℕ → Type 0
  StringPastAt i =
      (i < length tags)
      × (((get_or tags i 0 ≡ 4) ⊎ (get_or tags i 0 ≡ 20)) × EndsPast bytes (get_or payloads i 0))

  -- "a name past the string bytes", "2^64 - 1 meaning unnamed"
  abbrev pub NamePastAt : ℕ → Type 0
  NamePastAt i = (i < length names)
      × ((get_or names i 0 ≡ 2 ^ 64 - 1 → ⊥) × EndsPast bytes (get_or names i 0))

  abbrev pub Nowhere : (ℕ → Type 0) → Type 0
  Nowhere P = (i : ℕ) → P i → ⊥

  -- what lets through 1, then 2, 3, 4 and 5
  abbrev pub Few : Type 0
  Few = n ≤ 32768

  abbrev pub TablesCounted : Type 0
  TablesCounted = Few × ((length tags ≡ length payloads) × (length tags ≤ 65536))

  abbrev pub Tagged : Type 0
  Tagged = TablesCounted × Nowhere UnknownAt

  abbrev pub StringsPlaced : Type 0
  StringsPlaced = Tagged × Nowhere StringPastAt

  abbrev pub Named : Type 0
  Named = StringsPlaced × ((length names ≤ 255) × Nowhere NamePastAt)

  pub record Order : Type 0 where
    pub one : (number ≡ 1) ↔ (32768 < n)
    -- "tag and payload counts differ, or over 65,536"
    pub two : (number ≡ 2) ↔ (Few × ((length tags ≡ length payloads → ⊥) ⊎ (65536 < length tags)))
    pub three : (number ≡ 3) ↔ (TablesCounted × ((i : ℕ) × UnknownAt i))
    pub four : (number ≡ 4) ↔ (Tagged × ((i : ℕ) × StringPastAt i))
    -- "over 255 names, or a name past the string bytes"
    pub five : (number ≡ 5) ↔ (StringsPlaced × ((255 < length names) ⊎ ((i : ℕ) × NamePastAt i)))
    -- "a lent result slice shorter than the words"
    pub six : (number ≡ 6) ↔ (Named × (room < n))
    pub accepted : (number ≡ 0) ↔ (Named × (n ≤ room))
    -- "place: lowest index"
    pub place_3 : number ≡ 3 → UnknownAt place × ((i : ℕ) → UnknownAt i → place ≤ i)
    pub place_4 : number ≡ 4 → StringPastAt place × ((i : ℕ) → StringPastAt i → place ≤ i)
    -- "place: lowest index if the count is allowed, else 0"
    pub place_5 : number ≡ 5 → length names ≤ 255 → NamePastAt place × ((i : ℕ) → NamePastAt i → place ≤ i)
    pub many_names : number ≡ 5 → 255 < length names → place ≡ 0
    -- "a place, 0 unless named"
    pub no_place : (number ≡ 3 → ⊥) → (number ≡ 4 → ⊥) → (number ≡ 5 → ⊥) → place ≡ 0
