-- Demand 3 whole, from the run's half and the meter's.
-- Assumes nothing.
use Prim.Native.Nat.{ℕ, ◌≤◌}
use mathlib.Core.Path.{◌≡◌, refl}
use mathlib.Core.List.{List, ◌∷◌}
use native.Mathlib.Omega.{arith}
use Rattle.common.specs.Limits.{most_words, most_services}
use Rattle.graph.specs.Graph.{weigh}
use Rattle.runs.specs.Script.{Script, weight_of}
use Rattle.runs.specs.Script as script
use Rattle.runs.specs.Weights.{Weighs}
use Rattle.runs.specs.Demand.{Demand, Passes}
use Rattle.runs.specs.Run.{Run, run_of, number_of, longest_of, first_of}
use Rattle.runs.specs.Laws.{Enough}
use Rattle.runs.proofs.Laws.{laws}
use Rattle.meter.specs.declared.step.Meter.{Meter}
use Rattle.meter.specs.Feed.{scale_of}
use Rattle.meter.specs.Bound.{Bound, Worst}
use Rattle.meter.specs.Demand3.{Demand3}
use Rattle.meter.proofs.Calls.{Sound, follows_model}
use Rattle.meter.proofs.Highest.{highest_after}
use Rattle.meter.proofs.Bound.{AtMost, bound, worst}

module _ (ws : Script) (steps : script.Sound ws) (weights : List ℕ) (weighs : Weighs weights) where
  pub sound : ws.size ≤ most_words → Sound (scale_of ws weights)
  sound few =
      record {
        law = laws.lawful ws steps;
        few = few;
        weighed = weighs.accepted;
        some = (laws.weights weights weighs.accepted).some ws steps;
        light = λ q. weighs.bytes (ws.slot q);
      }

  module _ (marks lengths : ℕ) (accepted : number_of (run_of ws weights marks lengths) ≡ 0) where
    abbrev r : Run
    r = run_of ws weights marks lengths

    enough : Enough ws.size weights marks lengths
    enough = laws.enough ws weights marks lengths accepted

    demand : Demand ws weights r
    demand = laws.demand ws steps weights marks lengths enough weighs.bytes

    most : AtMost (scale_of ws weights) (sound enough.few) (longest_of r)
    most p ps t = demand.bounded accepted p (weigh (weight_of ws weights) (p ∷ ps)) (record { rest = ps; segment = t; weight = refl })

    pub bounded_by_run : (m : Meter) → m.services ≤ most_services → Bound (scale_of ws weights) m (longest_of r)
    bounded_by_run m fits =
        let s : Passes ws weights (first_of r) (longest_of r) = demand.reached accepted in
        bound (scale_of ws weights) (sound enough.few) m fits (longest_of r) most (first_of r) s.rest s.segment s.weight

    pub worst_by_run : (m : Meter) → m.services ≤ most_services → Worst (scale_of ws weights) m (longest_of r)
    worst_by_run m fits = worst (scale_of ws weights) (sound enough.few) m fits (longest_of r) most

  pub demand3 : ws.size ≤ most_words → Demand3 ws weights
  demand3 few =
      record {
        run =
            λ marks lengths a b.
            laws.demand ws steps weights marks lengths
            (record { few = few; marks_long = a; lengths_long = b; weighed = weighs.accepted })
            weighs.bytes;
        meter = λ m fits calls. follows_model (scale_of ws weights) (sound few) m calls (omega (arith, fits));
        bound = λ marks lengths accepted m fits. bounded_by_run marks lengths accepted m (omega (arith, fits));
        worst = λ marks lengths accepted m fits. worst_by_run marks lengths accepted m (omega (arith, fits));
        highest = highest_after (scale_of ws weights);
      }
