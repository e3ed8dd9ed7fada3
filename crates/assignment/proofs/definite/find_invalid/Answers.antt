use Rattle.std.proofs.Common.{◌≡◌, ◌<◌, ◌∙◌, ap, true, length, arith}
use borrow.Author.Tests.{eq-eqb}
use Rattle.common.proofs.Lowest.{lowest_laws}
use Rattle.common.proofs.Over.{over_laws}
use Rattle.graph.specs.Marks.{mark_of}
use Rattle.runs.specs.Script.{lua54, graph_of}
use Rattle.assignment.specs.Rest.{found}
use Rattle.assignment.proofs.Found.{bad_by, bad_is}
use Rattle.assignment.proofs.Outcome.{found_is, found_not}
use Rattle.assignment.proofs.definite.find_invalid.Goals as goal

pub returns-then-is_invalid : goal.returns-then-is_invalid
returns-then-is_invalid c =
    let ws = c.args.words.now in
    let n = length ws in
    let p = c.loop-p.p in
    let long = ap length c.requires.marked ∙ over_laws.length_tabulate (mark_of (graph_of (lua54 ws))) 0 n in
    let inside : p < n = omega arith in
    let bad : bad_by ws c.args.marks.now p ≡ true =
    rw (eq-eqb _ 1 c.if-mark-eq1.true, ← c.successors.ensures, ← c.is_invalid.ensures) c.if-is_invalid.true in
    found_is n p inside
    ∙ ap (found n) (lowest_laws.is (bad_by ws c.args.marks.now) n p inside bad c.loop-p.invariant ∙ bad_is ws c.requires.marked)

pub returns-after-loop-p : goal.returns-after-loop-p
returns-after-loop-p c =
    let ws = c.args.words.now in
    let n = length ws in
    let long = ap length c.requires.marked ∙ over_laws.length_tabulate (mark_of (graph_of (lua54 ws))) 0 n in
    let none = lowest_laws.nowhere (bad_by ws c.args.marks.now) n (λ p h. c.loop-p.invariant p (omega arith)) ∙ bad_is ws c.requires.marked in
    found_not n _ (omega arith)
