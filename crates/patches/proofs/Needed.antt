-- Words next to reachable ones may not change, by computing; and of fewer than three words those that are not reachable may, since none of them stands
-- before a reachable one. Assumes nothing.
use mathlib.Core.Path.{◌≡◌, refl}
use mathlib.Core.List.{List}
use Prim.Native.Nat.{ℕ, ◌+◌, ◌<◌}
use native.Mathlib.Omega.{arith}
use lib.ListN.{length}
use Rattle.common.specs.Lowest.{lowest_from}
use Rattle.common.specs.Numbers.{«ACCEPTED»}
use Rattle.fields.specs.declared.version.Version.{Version}
use Rattle.fields.specs.lua54.Table.{class_of, companion_of}
use Rattle.fields.specs.lua53.Table as table53
use Rattle.graph.specs.Graph.{Reachable}
use Rattle.graph.specs.Marks.{leads, mark_of}
use Rattle.graph.specs.Longest.{within, heaviest, length_of, most, longest, first}
use Rattle.graph.proofs.Laws as graph
use Rattle.runs.specs.Script.{script_of, graph_of}
use Rattle.sweep.specs.Steps.{unless, one, ordered, two, serves_of}
use Rattle.steps.specs.lua54.Successors.{opcode_at, is_between, companion_present, successors_of}
use Rattle.steps.specs.lua53.Successors as steps53
use Rattle.runs.specs.Weights.{lowest_zero, refuses_weights}
use Rattle.runs.specs.Run.{number_of, lowest_invalid, run_of}
use Rattle.runs.proofs.Laws.{laws}
use Rattle.patches.specs.Needed.{smallest, DifferBeforeNone, DifferUnreachable, Needed}
use Rattle.patches.proofs.Patches.{answer_before_none}

-- word 0 is reachable if any is, and so the lists differ in word 1 at most: the word after it is past the end
few_before_none : (v : Version) (ws vs : List ℕ) → length ws < smallest → DifferUnreachable v ws vs → DifferBeforeNone v ws vs
few_before_none v ws vs few differ p h d = (differ p h d, next_out)
  where
    next_out : Reachable (graph_of (script_of v ws)) (p + 1) → ⊥
    next_out r =
        let inside : p + 1 < length ws = ((graph.laws).reaching (graph_of (script_of v ws)) (laws.lawful (script_of v ws) (laws.sound v ws))).below (p + 1) r in
        let first_word : p ≡ 0 = omega (arith, inside, few) in
        differ p h d (rw first_word (((graph.laws).reaching (graph_of (script_of v ws))
        (laws.lawful (script_of v ws) (laws.sound v ws))).start (omega (arith, inside))))

none_smaller :
    (v : Version) (ws vs weights : List ℕ) (m l : ℕ) → length ws < smallest → length ws ≡ length vs → number_of (run_of (script_of v ws) weights m l) ≡ «ACCEPTED»
    → DifferUnreachable v ws vs → run_of (script_of v ws) weights m l ≡ run_of (script_of v vs) weights m l
none_smaller v ws vs weights m l few count accepted differ = answer_before_none v ws vs weights m l count accepted (few_before_none v ws vs few differ)

pub needed : Needed
unfolding steps53.opcode_at steps53.companion_present steps53.successors_of table53.class_of table53.companion_of
    unless one ordered two opcode_at is_between companion_present successors_of serves_of class_of companion_of
    leads mark_of within heaviest length_of most lowest_from longest first lowest_zero refuses_weights
    lowest_invalid run_of
needed =
    record {
      smallest_unreachable = refl;
      smallest_accepted = refl;
      smallest_refused = refl;
      smallest53_unreachable = refl;
      smallest53_accepted = refl;
      smallest53_refused = refl;
      none_smaller = none_smaller;
      before_unreachable = (refl, refl);
      before_accepted = refl;
      before_refused = refl;
      after_alone = answer_before_none;
      second_unreachable = (refl, refl, refl);
      second_accepted = refl;
      second_refused = refl;
    }
