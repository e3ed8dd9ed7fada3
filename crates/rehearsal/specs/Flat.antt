-- The answer as C gets it: plain numbers. Which of them is which, by the answer's own parts: proofs/Flat.antt
-- proves `FlatParts`, and `Claims` says it of what a rehearsal gives.
-- Assumes nothing.
use Rattle.std.specs.Prelude.{◌≡◌, ℕ, [], ◌∷◌, Ok, Err}
use Rattle.common.specs.declared.refusal.Refusal.{Refusal}
use Rattle.common.specs.Refusals.{refusal_number, refusal_place}
use Rattle.rehearsal.specs.declared.c.FlatRehearsal.{FlatRehearsal}
use Rattle.rehearsal.specs.Rehearse.{Rehearsal, rehearsal_number, rehearsal_place, wait_of}

unfoldable pub flat_rehearsal : Rehearsal → FlatRehearsal
flat_rehearsal r =
    record {
      number = rehearsal_number r;
      place = rehearsal_place r;
      first = wait_of r 0;
      second = wait_of r 1;
      third = wait_of r 2;
      fourth = wait_of r 3;
    }

-- two of the waits exchanged, in definition and code alike, are refused here
pub record FlatParts : Type 0 where
  -- "It reports the longest wait of each script"; "Each answer carries its number, 0 when accepted"
  pub rehearsed : (a b c d : ℕ)
      → flat_rehearsal (Ok (a ∷ b ∷ c ∷ d ∷ []))
      ≡ record { number = 0; place = 0; first = a; second = b; third = c; fourth = d }
  -- "a refusal reports 0 for every number but its own and its place" (request C-11)
  pub refused : (e : Refusal)
      → flat_rehearsal (Err e)
      ≡ record {
        number = refusal_number e;
        place = refusal_place e;
        first = 0;
        second = 0;
        third = 0;
        fourth = 0;
      }
  -- the waits by the scripts' numbers
  pub waits : (a b c d : ℕ)
      → (wait_of (Ok (a ∷ b ∷ c ∷ d ∷ [])) 0 ≡ a)
      × ((wait_of (Ok (a ∷ b ∷ c ∷ d ∷ [])) 1 ≡ b)
      × ((wait_of (Ok (a ∷ b ∷ c ∷ d ∷ [])) 2 ≡ c) × (wait_of (Ok (a ∷ b ∷ c ∷ d ∷ [])) 3 ≡ d)))
