use Rattle.std.proofs.Common.{arith}
use Rattle.lines.proofs.Infos.{shown_low, storing_line, storing_zero, storing_done}
use Rattle.lines.proofs.lines.store_lines.Goals.{in-Some, in-None}
use Rattle.lines.proofs.lines.store_lines.Goals as goal

pub overflow_cast-shown : goal.overflow_cast-shown
overflow_cast-shown c =
    let a = c.in-Some.ensures.lookup.3 in
    let k = shown_low _ _ _ _ _ c.loop-i.invariant c.loop-i-test.true c.in-Some.b.now a.0 (a.1 0) _ c.next_line-turn.ensures in
    omega (arith, k)

pub loop-i-preserved : goal.loop-i-preserved
loop-i-preserved c = elim c.match-get.branch [
  | in-Some w ↦
      let a = w.in-Some.ensures.lookup.3 in
      rw (w.shown-is, w.line-is, w.abs-is)
      (storing_line _ _ _ _ _ c.loop-i.invariant c.loop-i-test.true w.in-Some.b.now a.0 (a.1 0) _ w.next_line-turn.ensures)
  | in-None w ↦
      rw (w.shown-is, w.line-is, w.abs-is)
      (storing_zero _ _ _ _ _ c.loop-i.invariant c.loop-i-test.true w.in-None.ensures.lookup.3)
]

pub returns : goal.returns
returns c = storing_done _ _ _ _ _ c.loop-i.invariant c.loop-i-test.false
