use Rattle.std.proofs.Common.{arith, rules}
use Rattle.assignment.proofs.Found.{marks_are, none_bad, rest_of}
use Rattle.assignment.proofs.definite.assign_within.Goals as goal

pub find_invalid-requires-clause-marked : goal.find_invalid-requires-clause-marked
find_invalid-requires-clause-marked g c =
    marks_are c.args.words.now c.search-seen.ensures c.requires.marks c.mark_words.ensures

pub find_invalid-requires-clause-none : goal.find_invalid-requires-clause-none
find_invalid-requires-clause-none g c = none_bad c.args.words.now c.search-seen.ensures

pub returns-in-Some-clause-marks_after : goal.returns-in-Some-clause-marks_after
returns-in-Some-clause-marks_after g c =
    marks_are c.args.words.now c.search-seen.ensures c.requires.marks c.mark_words.ensures

pub search_rest-requires : goal.search_rest-requires
search_rest-requires g c =
    let s = c.search-seen.ensures in (
      search rules,
      (
        record {
          some = c.requires.some;
          few = omega arith;
          unset_long = s.under.unset_long;
          waiting_long = s.under.waiting_long;
          pages_same = s.under.pages_same;
        },
        rest_of c.args.words.now c.args.parameters (omega arith) s,
      ),
    )

pub returns-in-Some-search_rest-clause-marks_after : goal.returns-in-Some-search_rest-clause-marks_after
returns-in-Some-search_rest-clause-marks_after g c =
    marks_are c.args.words.now c.search-seen.ensures c.requires.marks c.mark_words.ensures

pub returns-in-None-clause-marks_after : goal.returns-in-None-clause-marks_after
returns-in-None-clause-marks_after g c =
    marks_are c.args.words.now c.search-seen.ensures c.requires.marks c.mark_words.ensures
