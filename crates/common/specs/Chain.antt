-- "Checks run in this order": a chain of refusals, one line a check.
-- Assumes nothing.
use Rattle.std.specs.Prelude.{Bool, true, false, cond, ℕ, ltb, eqb, Result, Ok, Err, ⊤}
use Rattle.common.specs.declared.refusal.Refusal.{Refusal}
use Rattle.common.specs.declared.refusal.Refusal.TheVariants.{TooManyWords, ShortSlice, NoWords}
use Rattle.common.specs.Limits.{most_words}

-- where the test holds, that refusal; else what the later checks say
abbrev pub refuse_if : {X : Type 0} → Bool → X → X → X
refuse_if test refusal later = cond test refusal later

-- the library's `cond`, shut: where many tests stand one in the other, each opens only where a proof says so
unfoldable pub choose : {X : Type 0} → Bool → X → X → X
choose true a b = a
choose false a b = b

-- 1 and 6, in this order: of n words, whether a lent result slice is too short for them, and what the later
-- checks say
abbrev pub check_room : {X : Type 0} → ℕ → Bool → Result X Refusal → Result X Refusal
check_room n short later =
    -- "more than 32,768 words"
    refuse_if (ltb most_words n) (Err TooManyWords)
    -- "a lent result slice shorter than the words"
    (refuse_if short (Err ShortSlice) later)

-- and 7 after them
abbrev pub check_sizes : {X : Type 0} → ℕ → Bool → Result X Refusal → Result X Refusal
check_sizes n short later =
    check_room n short
    -- "no words"
    (refuse_if (eqb n 0) (Err NoWords) later)

-- their answer alone: of n words, and the length of the shortest lent result slice
unfoldable pub room_answer : ℕ → ℕ → Result ⊤ Refusal
room_answer n room = check_room n (ltb room n) (Ok tt)

unfoldable pub sizes_answer : ℕ → ℕ → Result ⊤ Refusal
sizes_answer n room = check_sizes n (ltb room n) (Ok tt)
