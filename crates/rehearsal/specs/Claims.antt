-- Request C-21: what is claimed of the answer that `rehearse` gives, a field for each sentence.
-- proofs/Claims.antt proves `Claims` of all inputs.
-- Assumes nothing.
use Rattle.std.specs.Prelude.{◌≡◌, ◌↔◌, true, List, [], ◌∷◌, ℕ, Ok, Err, ◌*◌, ◌-◌, ◌≤◌, ◌<◌}
use Rattle.common.specs.Numbers.{«ACCEPTED»}
use Rattle.graph.specs.Graph.{In}
use Rattle.common.specs.declared.refusal.Refusal.TheVariants.{OutOfRange}
use Rattle.rehearsal.specs.Machine.{Event}
use Rattle.rehearsal.specs.Waits.{longest_wait, WaitIn, Waits, turns_of}
use Rattle.rehearsal.specs.Schedule.{Scheduled}
use Rattle.rehearsal.specs.Paths.{OnPath, Proper}
use Rattle.rehearsal.specs.Rehearse.{
  out_of_range,
  script_at,
  graphs_of,
  rehearsed,
  rehearse_of,
  marks_left,
  lengths_left,
  rehearsal_number,
  rehearsal_place,
  wait_of,
}
use Rattle.rehearsal.specs.Flat.{flat_rehearsal}
use Rattle.rehearsal.specs.Accepting.{run_number, LowestRefused, LastTried}

-- "1 to 4 accepted scripts", "q from 1 to 1,000", "a lent list of 0s and 1s"
pub record InRange (k q : ℕ) (choices : List ℕ) : Type 0 where
  pub some : 0 < k
  pub few : k ≤ 4
  pub word : 0 < q
  pub short : q ≤ 1000
  pub bits : (c : ℕ) → In c choices → c ≤ 1

module _ (w0 w1 w2 w3 : List ℕ) (k q : ℕ) (choices : List ℕ) (limit : ℕ) (marks lengths : List ℕ) where
  -- what ran
  abbrev events : List Event
  events = rehearsed w0 w1 w2 w3 k q choices limit

  -- a rehearsal that is not turned away
  pub record Rehearses : Type 0 where
    pub in-range : InRange k q choices
    -- "accepted scripts", each by the longest run with the slices as they were lent
    pub accepted : (i : ℕ) → i < k → run_number w0 w1 w2 w3 k marks lengths i ≡ «ACCEPTED»
    -- rotation, turns, choices and the three ends, told by the events alone
    pub scheduled : Scheduled (graphs_of w0 w1 w2 w3) k q choices limit [] events
    -- and the request's words allow no other
    pub only : (es : List Event) → Scheduled (graphs_of w0 w1 w2 w3) k q choices limit [] es → es ≡ events
    -- every word that ran is on a course of its script, and is not bad
    pub on_path : (i : ℕ) → i < k → OnPath (graphs_of w0 w1 w2 w3 i) i events
    pub known : (e : Event) → In e events → e.script < k
    pub proper : (e : Event) → In e events → Proper (script_at w0 w1 w2 w3 e.script) e.word
    -- "It reports the longest wait of each script"
    pub reports :
        (i : ℕ) → i < 4
        → wait_of (rehearse_of w0 w1 w2 w3 k q choices limit marks lengths) i ≡ longest_wait i events
    -- in the order in which the scripts are given, as Rust gets it, and as C does
    pub report :
        rehearse_of w0 w1 w2 w3 k q choices limit marks lengths
        ≡ Ok (longest_wait 0 events ∷ longest_wait 1 events ∷ longest_wait 2 events
        ∷ longest_wait 3 events ∷ [])
    pub flat :
        flat_rehearsal (rehearse_of w0 w1 w2 w3 k q choices limit marks lengths)
        ≡ record {
          number = 0;
          place = 0;
          first = longest_wait 0 events;
          second = longest_wait 1 events;
          third = longest_wait 2 events;
          fourth = longest_wait 3 events;
        }
    pub waits : (i : ℕ) → Waits i events
    -- "a script with fewer than two turns reports 0"
    pub few_turns : (i : ℕ) → turns_of i events < 2 → longest_wait i events ≡ 0
    -- "no wait between two turns of an unfinished script exceeds (k - 1) times q"
    pub bounded : (i w : ℕ) → WaitIn i events w → w ≤ (k - 1) * q

  pub record Claims : Type 0 where
    -- "the first given first": which list is script 0, 1, 2 and 3. Two of them exchanged, in definitions and
    -- code alike, are refused here
    pub given :
        (script_at w0 w1 w2 w3 0 ≡ w0)
        × ((script_at w0 w1 w2 w3 1 ≡ w1) × ((script_at w0 w1 w2 w3 2 ≡ w2) × (script_at w0 w1 w2 w3 3 ≡ w3)))
    pub accepted : rehearsal_number (rehearse_of w0 w1 w2 w3 k q choices limit marks lengths) ≡ «ACCEPTED»
        → Rehearses
    -- "with k scripts no wait .. exceeds (k - 1) times q": of each number that the answer reports
    pub bound : (i : ℕ) → wait_of (rehearse_of w0 w1 w2 w3 k q choices limit marks lengths) i ≤ (k - 1) * q
    -- "23 a script count, q or choice out of range": its place is 0, as of each refusal that names none
    pub range : (out_of_range k q choices ≡ true → ⊥) ↔ InRange k q choices
    pub turned-away :
        (InRange k q choices → ⊥)
        → rehearse_of w0 w1 w2 w3 k q choices limit marks lengths ≡ Err OutOfRange
    -- "before anything is rehearsed": no slice is touched
    pub untouched :
        (InRange k q choices → ⊥)
        → (marks_left w0 w1 w2 w3 k q choices limit marks lengths ≡ marks)
        × (lengths_left w0 w1 w2 w3 k q choices limit marks lengths ≡ lengths)
    -- "then whatever the longest run gives for the lowest script it refuses"
    pub lowest :
        InRange k q choices
        → (rehearsal_number (rehearse_of w0 w1 w2 w3 k q choices limit marks lengths) ≡ «ACCEPTED» → ⊥)
        → LowestRefused w0 w1 w2 w3 k marks lengths
        (rehearsal_number (rehearse_of w0 w1 w2 w3 k q choices limit marks lengths))
        (rehearsal_place (rehearse_of w0 w1 w2 w3 k q choices limit marks lengths))
    -- "in one pair of work slices, which keep what the last run tried left"
    pub kept :
        InRange k q choices
        → LastTried w0 w1 w2 w3 k marks lengths (marks_left w0 w1 w2 w3 k q choices limit marks lengths)
        (lengths_left w0 w1 w2 w3 k q choices limit marks lengths)
    -- "a refusal reports 0 for every number but its own and its place" (request C-11)
    pub no_waits :
        (rehearsal_number (rehearse_of w0 w1 w2 w3 k q choices limit marks lengths) ≡ «ACCEPTED» → ⊥)
        → (i : ℕ) → wait_of (rehearse_of w0 w1 w2 w3 k q choices limit marks lengths) i ≡ 0
    -- so does what C gets
    pub flat_refused :
        (rehearsal_number (rehearse_of w0 w1 w2 w3 k q choices limit marks lengths) ≡ «ACCEPTED» → ⊥)
        → flat_rehearsal (rehearse_of w0 w1 w2 w3 k q choices limit marks lengths)
        ≡ record {
          number = rehearsal_number (rehearse_of w0 w1 w2 w3 k q choices limit marks lengths);
          place = rehearsal_place (rehearse_of w0 w1 w2 w3 k q choices limit marks lengths);
          first = 0;
          second = 0;
          third = 0;
          fourth = 0;
        }
