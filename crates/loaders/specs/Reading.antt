-- Readers: how this crate's definitions say "the first met in reading order, byte by byte, counts".
-- A reader is a function of all the bytes and a position. It gives a value and the position after
-- it, or the refusal that it met. `bind` stops at the first refusal, so the order of the readers
-- is the order of the checks.
-- Assumes nothing.
use Rattle.std.specs.Prelude.{Bool, true, false, List, [], ◌∷◌, ℕ, zero, suc, ◌+◌, ◌*◌, get_or}
use Rattle.std.specs.Prelude.{Result, Ok, Err}
use Rattle.common.specs.declared.refusal.Refusal.{Refusal}
use Rattle.common.specs.declared.refusal.Refusal.TheVariants.{MalformedChunk}

-- what was read and the position after it, or the refusal
abbrev pub Outcome : Type 0 → Type 0
Outcome A = Result (A × ℕ) Refusal

abbrev pub Reader : Type 0 → Type 0
Reader A = List ℕ → ℕ → Outcome A

-- what is read, and then what goes on from its value and the position after it
abbrev pub bind : {A B : Type 0} → Outcome A → (A → ℕ → Outcome B) → Outcome B
bind (Ok (a, at)) f = f a at
bind (Err e) f = Err e

-- one reader after another, for the second one's value
abbrev pub and_then : {A B : Type 0} → Reader A → Reader B → Reader B
and_then r r₂ bytes at = bind (r bytes at) (λ _ at₁. r₂ bytes at₁)

-- what is read if the test holds; 15 if not
abbrev pub only : {A : Type 0} → Bool → Outcome A → Outcome A
only true r = r
only false r = Err MalformedChunk

-- C's loops `for (i = 0; i < n; i++)`: n items, of which the first has index i
unfoldable pub repeat : {A : Type 0} → (ℕ → Reader A) → ℕ → ℕ → Reader (List A)
repeat r i zero bytes at = Ok ([], at)
repeat r i (suc n) bytes at =
    bind (r i bytes at) (λ x at₁.
    bind (repeat r (i + 1) n bytes at₁) (λ xs at₂.
    Ok (x ∷ xs, at₂)))

-- the number of k bytes from a position on, "little-endian"
unfoldable pub little_end : ℕ → List ℕ → ℕ → ℕ
little_end zero bytes at = 0
little_end (suc k) bytes at = get_or bytes at 0 + 256 * little_end k bytes (at + 1)

-- of what is read, something else
abbrev pub read_as : {A B : Type 0} → (A → B) → Outcome A → Outcome B
read_as f (Ok (a, at)) = Ok (f a, at)
read_as f (Err e) = Err e

-- the position after it alone
abbrev pub past_of : {A : Type 0} → Outcome A → Result ℕ Refusal
past_of (Ok (a, at)) = Ok at
past_of (Err e) = Err e
