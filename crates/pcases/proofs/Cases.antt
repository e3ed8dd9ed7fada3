-- The P cases hold of the definitions.
-- Assumes nothing.
use mathlib.Core.Path.{refl}
use Rattle.fields.specs.lua54.Table.{class_of, companion_of, fallback_of}
use Rattle.fields.specs.lua53.Table.{class_of as class_of_53, companion_of as companion_of_53}
use Rattle.sweep.specs.Steps.{unless, one, ordered, two, serves_of}
use Rattle.steps.specs.lua54.Successors.{opcode_at, is_between, companion_present, successors_of}
use Rattle.steps.specs.lua53.Successors.{opcode_at as opcode_at_53, companion_present as companion_present_53, successors_of as successors_of_53}
use Rattle.graph.specs.Marks.{leads, mark_of}
use Rattle.common.specs.Lowest.{lowest_from}
use Rattle.graph.specs.Longest.{within, heaviest, length_of, most, longest, first}
use Rattle.runs.specs.Weights.{lowest_zero, refuses_weights, weights_place}
use Rattle.runs.specs.Run.{lowest_invalid, run_of}
use Rattle.values.specs.Values.{choose, constant_of}
use Rattle.values.specs.Few.{few}
use Rattle.builders.specs.Parts.{event_of, constant, rk, rk_target, arguments, results}
use Rattle.dispatch.specs.Dispatch.{extended_index, wrap, loads, tables, arithmetic, control, calls, record_body}
use Rattle.records.specs.Lift.{before, companion_pc, confidence_of, lift_of}
use Rattle.pcases.specs.Cases.{Hold, p_cases, record_places, record_corners, record_disagreements, record_tests, cases53}

pub cases_hold : Hold p_cases
unfolding unless one ordered two opcode_at is_between companion_present successors_of serves_of class_of companion_of
    fallback_of leads mark_of within heaviest length_of most lowest_from longest first lowest_zero
    refuses_weights lowest_invalid run_of few choose constant_of event_of constant arguments results
    extended_index wrap loads arithmetic control calls record_body before companion_pc confidence_of lift_of
cases_hold = (
  (refl, refl, refl),
  (
    refl,
    (
      refl,
      (
        refl,
        (
          refl,
          (
            (refl, refl),
            (
              (refl, refl),
              (
                (refl, refl),
                (
                  (refl, refl),
                  (
                    refl,
                    (
                      refl,
                      (
                        refl,
                        (
                          refl,
                          (
                            refl,
                            (refl, (refl, (refl, (refl, (refl, (refl, (refl, (refl, (refl, (refl, tt)))))))))),
                          ),
                        ),
                      ),
                    ),
                  ),
                ),
              ),
            ),
          ),
        ),
      ),
    ),
  ),
)

pub record_places_hold : Hold record_places
unfolding few choose constant_of event_of constant rk rk_target extended_index wrap loads tables arithmetic control calls
    record_body before companion_pc confidence_of fallback_of lift_of
record_places_hold =
    ((refl, refl, refl), ((refl, refl, refl), ((refl, refl), (refl, (refl, tt)))))

pub record_corners_hold : Hold record_corners
unfolding few choose constant_of event_of constant rk rk_target extended_index wrap loads tables arithmetic control calls
    record_body before companion_pc confidence_of fallback_of lift_of
record_corners_hold =
    ((refl, refl), ((refl, refl), ((refl, refl), ((refl, refl), ((refl, refl), ((refl, refl), ((refl, refl), ((refl, refl), ((refl, refl), ((refl, refl), (refl, tt)))))))))))

pub record_disagreements_hold : Hold record_disagreements
unfolding few choose constant_of event_of constant rk rk_target extended_index wrap loads tables arithmetic control calls
    record_body before companion_pc confidence_of fallback_of lift_of
record_disagreements_hold =
    (refl, (refl, (refl, (refl, ((refl, refl), ((refl, refl), tt))))))

pub record_tests_hold : Hold record_tests
unfolding few choose constant_of event_of constant rk rk_target extended_index wrap loads tables arithmetic control calls
    record_body before companion_pc confidence_of fallback_of lift_of
record_tests_hold =
    ((refl, refl), ((refl, refl), ((refl, refl), ((refl, refl), ((refl, refl), ((refl, refl), ((refl, refl), ((refl, refl), ((refl, refl), ((refl, refl), ((refl, refl), ((refl, refl), tt))))))))))))

pub cases53_hold : Hold cases53
unfolding unless one ordered two opcode_at_53 companion_present_53 successors_of_53 serves_of class_of_53 companion_of_53
    leads mark_of within heaviest length_of most lowest_from longest first lowest_zero refuses_weights
    weights_place lowest_invalid run_of
cases53_hold =
    (refl, (refl, (refl, (refl, (refl, (refl, (refl, (refl, (refl, (refl, (refl, (refl, (refl, (refl, (refl, (refl, (refl, ((refl, refl), tt))))))))))))))))))
