use Rattle.std.proofs.Common.{rules, arith, ◌≡◌, length, replicate}
use Rattle.sweep.proofs.Moves.{tail_le}
use Rattle.sweep.proofs.Held.{begun, follow_asks, searching_in, marks_of}
use Rattle.sweep.proofs.search.mark_reachable.Goals as goal

pub loop-head-init : goal.loop-head-init
loop-head-init c =
    let clear : c.fill.new.self ≡ replicate (length c.args.marks.now) 0 = search rules in
    begun c.requires clear c.push-tail.ensures c.push-tail.auto.marks

pub follow-tail-requires : goal.follow-tail-requires
follow-tail-requires c = follow_asks _ _ c.requires c.loop-head.invariant c.loop-head-test.true

pub loop-head-smaller : goal.loop-head-smaller
loop-head-smaller c = omega (arith, tail_le _ _ _ _ c.loop-head.invariant.searching.under.room)

pub loop-head-preserved : goal.loop-head-preserved
loop-head-preserved c = searching_in _ _ c.requires c.loop-head.invariant c.follow-tail.ensures c.follow-tail.auto.marks

pub returns : goal.returns
returns c = marks_of c.requires c.loop-head.invariant c.loop-head-test.false
