use Rattle.std.proofs.Common.{◌∙◌, sym, rules, arith, min, take}
use Rattle.std.proofs.Common.{ap₂}
use Rattle.blocks.specs.Uses.{end_of}
use Rattle.blocks.specs.Blocks.{next_in}
use Rattle.blocks.proofs.Within.{take_more, append_next, append_end}
use Rattle.blocks.proofs.ranges.next_in.Goals as goal

pub loop-x-init : goal.loop-x-init
unfolding next_in end_of
loop-x-init c = search rules

pub loop-x-preserved : goal.loop-x-preserved
loop-x-preserved c =
    let a = c.next_of.ensures in
    let i = c.loop-x.invariant in
    let e = append_next c.args.r (take c.loop-x.x-index c.args.ranges.now) _ a.1 in
    rw (take_more c.loop-x.x-index c.args.ranges.now c.loop-x-test.true, append_end)
    (record { next = c.min-next.ensures ∙ ap₂ min i.next a.0 ∙ sym e; end = omega (arith, a.1, i.end) })
