-- "Checks run in this order": of a feed's checks, which condition gives which number exactly, with those
-- before it not holding, by the documents' own numbers: 1, then 18 ("after 1 in the meter"), then 11,
-- then 10; and what an accepted feed makes of the meter, field by field. proofs/Order.antt proves it for any
-- scale, meter and word number.
-- Assumes nothing.
use Rattle.std.specs.Prelude.{◌≡◌, ◌↔◌, true, false, ℕ, ◌+◌, ◌*◌, ◌≤◌, ◌<◌, min, max}
use Rattle.graph.specs.Graph.{In}
use Rattle.runs.specs.Weights.{refuses_weights, weights_place}
use Rattle.meter.specs.declared.step.Meter.{Meter}
use Rattle.meter.specs.Feed.{Scale, feed_of, moved_to}

-- number 11, "meter not of this function", of a function of n words
pub data Foreign (n : ℕ) (m : Meter) : Type 0 where
  -- request C-19: "A highest below the count falls under number 11"
  below : m.highest < m.count → Foreign n m
  -- "begun with last ≥ n, count 0"; request C-17: "a count above 255 times (last + 1)"
  far : (m.begun ≡ 0 → ⊥) → n ≤ m.last → Foreign n m
  none : (m.begun ≡ 0 → ⊥) → m.count ≡ 0 → Foreign n m
  much : (m.begun ≡ 0 → ⊥) → 255 * (m.last + 1) < m.count → Foreign n m
  -- "not begun with last or count nonzero"
  last : m.begun ≡ 0 → (m.last ≡ 0 → ⊥) → Foreign n m
  count : m.begun ≡ 0 → (m.count ≡ 0 → ⊥) → Foreign n m

-- number 10, "fed word is n or more, or no step from the last, or the first is not 0"
pub data Stray (s : Scale) (m : Meter) (q : ℕ) : Type 0 where
  past : s.graph.size ≤ q → Stray s m q
  no_step : (m.begun ≡ 0 → ⊥) → (In q (s.graph.successors m.last) → ⊥) → Stray s m q
  not_first : m.begun ≡ 0 → (q ≡ 0 → ⊥) → Stray s m q

module _ (s : Scale) (m : Meter) (q : ℕ) where
  abbrev pub number : ℕ
  number = (feed_of s m q).answer.number

  -- the words are not too many, and 18 lets the weights through
  abbrev pub FeedWeighed : Type 0
  FeedWeighed = (s.graph.size ≤ 32768) × (refuses_weights s.table ≡ false)

  -- what a feed of q that is accepted makes of m, any meter that 11 lets through, whether a list of calls led
  -- to it or not
  pub record Moved (next : Meter) : Type 0 where
    pub begun : next.begun ≡ 0 → ⊥
    pub last : next.last ≡ q
    -- "The first word fed must be 0, bad or not, and makes the count [its weight]."
    pub first : m.begun ≡ 0
        → (q ≡ 0) × ((next.count ≡ s.weight q) × (next.services ≡ m.services))
    -- "A serving step makes it [the weight of the word it leads to] and adds a service, staying at
    -- 4,294,967,295"
    pub serving : (m.begun ≡ 0 → ⊥) → s.graph.serves m.last q ≡ true
        → (next.count ≡ s.weight q) × (next.services ≡ min (m.services + 1) 4294967295)
    -- "another step adds [that word's weight]"
    pub other : (m.begun ≡ 0 → ⊥) → s.graph.serves m.last q ≡ false
        → (next.count ≡ m.count + s.weight q) × (next.services ≡ m.services)
    -- request C-19: "the highest count a meter has shown, held in the meter"
    pub highest : next.highest ≡ max m.highest next.count

  -- 10 before 11, 11 before 18, 18 before 1, a highest that 11 leaves out, in definition and
  -- code alike, is refused here
  pub record Order : Type 0 where
    pub one : (number ≡ 1) ↔ (32768 < s.graph.size)
    pub eighteen : (number ≡ 18) ↔ ((s.graph.size ≤ 32768) × (refuses_weights s.table ≡ true))
    pub eleven : (number ≡ 11) ↔ (FeedWeighed × Foreign s.graph.size m)
    pub ten : (number ≡ 10) ↔ (FeedWeighed × (Foreign s.graph.size m → ⊥) × Stray s m q)
    pub accepted : (number ≡ 0) ↔ (FeedWeighed × (Foreign s.graph.size m → ⊥) × (Stray s m q → ⊥))
    -- 18 alone names a place; a refusal leaves the meter, and what is accepted moves it
    pub place_18 : number ≡ 18 → (feed_of s m q).answer.place ≡ weights_place s.table
    pub no_place : (number ≡ 18 → ⊥) → (feed_of s m q).answer.place ≡ 0
    pub kept : (number ≡ 0 → ⊥) → (feed_of s m q).meter ≡ m
    pub moved : number ≡ 0 → (feed_of s m q).meter ≡ moved_to s m q
    pub moves : number ≡ 0 → Moved (feed_of s m q).meter
