use Rattle.std.proofs.Common.{ap, ◌∙◌, length, arith, rules}
use Rattle.assignment.specs.Rest.{found}
use Rattle.assignment.proofs.Found.{least_few, least_on, rest_is, room_on}
use Rattle.assignment.proofs.Outcome.{found_is, found_not}
use Rattle.assignment.proofs.definite.search_rest.Goals as goal

pub search-seen-requires : goal.search-seen-requires
search-seen-requires g c =
    let v = c.loop-r.invariant in
    (search rules, (v.room, least_few c.args.words.now c.args.parameters c.loop-r.r v.least, omega arith))

pub loop-r-preserved : goal.loop-r-preserved
loop-r-preserved g c =
    let v = c.loop-r.invariant in
    let s = c.search-seen.ensures in
    record {
      least = least_on c.args.words.now c.args.parameters s v.from v.least;
      from = omega (arith, v.from, s.under.next_from);
      room = room_on c.args.words.now v.room s;
    }

pub returns-then-least-words : goal.returns-then-least-words
returns-then-least-words g c =
    let n = length c.args.words.now in
    found_is n c.loop-r.least c.if-least-words.true
    ∙ ap (found n) (rest_is c.args.words.now c.args.parameters c.requires.rest.ends c.loop-r-test.false c.loop-r.invariant.least)

pub returns-else-least-words : goal.returns-else-least-words
returns-else-least-words g c =
    let n = length c.args.words.now in
    found_not n c.loop-r.least c.if-least-words.false
    ∙ ap (found n) (rest_is c.args.words.now c.args.parameters c.requires.rest.ends c.loop-r-test.false c.loop-r.invariant.least)
