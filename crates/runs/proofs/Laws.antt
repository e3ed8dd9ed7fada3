-- The laws that callers go by, each from its own file. Assumes nothing.
use mathlib.Core.Path.{◌≡◌, ap}
use mathlib.Core.List.{List}
use Prim.Native.Nat.{ℕ, ◌%◌, ◌≤◌}
use native.Mathlib.Omega.{arith}
use lib.ListN.{get_or}
use Rattle.common.specs.Limits.{heaviest_weight}
use Rattle.fields.specs.declared.version.Version.TheVariants.{Lua54, Lua53}
use Rattle.runs.specs.Script.{Script, slot_of, script_of, Sound}
use Rattle.runs.specs.Run.{run_of}
use Rattle.runs.specs.Demand.{Demand}
use Rattle.runs.specs.Laws.{Enough, Laws}
use Rattle.sweep.proofs.Laws as sweep
use Rattle.runs.proofs.Lawful.{lawful, sound}
use Rattle.runs.proofs.Nine.{never_given, within_words, counted}
use Rattle.runs.proofs.Order.{order, weights_refused}
use Rattle.runs.proofs.Counted.{earlier_run, ones_accepted, ones_weigh}
use Rattle.runs.proofs.Demand as first-half
use Rattle.runs.proofs.EntryLaws.{entry_laws}
use Rattle.runs.proofs.Slices.{enough, slices}
use Rattle.runs.proofs.Weights.{weight_laws}

-- the bits that a word is weighed by
low_seven : (word : ℕ) → slot_of Lua54 word ≡ word % 128
low_seven word = omega arith

low_six : (word : ℕ) → slot_of Lua53 word ≡ word % 64
low_six word = omega arith

demand :
    (ws : Script) → Sound ws → (weights : List ℕ) (marks lengths : ℕ) → Enough ws.size weights marks lengths
    → ((i : ℕ) → get_or weights i 0 ≤ heaviest_weight) → Demand ws weights (run_of ws weights marks lengths)
demand ws s weights a b e bytes =
    first-half.demand ws s weights (record { accepted = e.weighed; bytes = bytes }) a b e.few e.marks_long e.lengths_long

pub laws : Laws
laws =
    record {
      sound = sound;
      serving = λ version ws. (sweep.laws).serving;
      forward = (sweep.laws).forward;
      slot54 = λ ws weights p. ap (λ (i : ℕ). get_or weights i 0) (low_seven (get_or ws p 0));
      slot53 = λ ws weights p. ap (λ (i : ℕ). get_or weights i 0) (low_six (get_or ws p 0));
      lawful = lawful;
      enough = enough;
      demand = demand;
      slices = slices;
      earlier_run = earlier_run;
      ones_accepted = ones_accepted;
      ones_weigh = ones_weigh;
      weights = weight_laws;
      order = order;
      weights_refused = weights_refused;
      never_given = never_given;
      within_words = within_words;
      counted = counted;
      lawful_of = λ version ws. lawful (script_of version ws) (sound version ws);
      demand_of = λ version ws. demand (script_of version ws) (sound version ws);
      slices_of = λ version ws. slices (script_of version ws) (sound version ws);
      earlier_run_of = λ version ws. earlier_run (script_of version ws) (sound version ws);
      ones_weigh_of = λ version ws. ones_weigh (script_of version ws) (sound version ws);
      weights_of = λ version ws weights e. (weight_laws weights e).some (script_of version ws) (sound version ws);
      entry_laws = entry_laws;
    }
