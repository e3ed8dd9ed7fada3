use Rattle.std.proofs.Common.{◌<◌, arith}
use Rattle.witness.proofs.Onwards.{midway_none, midway_more, midway_ends, midway_done}
use Rattle.witness.proofs.walking.write_path.Goals as goal

pub loop-count-init : goal.loop-count-init
loop-count-init g c = let w = c.requires.1.1.1 in midway_none g.script w.sound _ _ _ w

pub returns-in_default : goal.returns-in_default
returns-in_default g c =
    let w = c.requires.1.1.1 in
    let inside : c.loop-count.count < g.script.size = omega (arith, w.size) in
    let own = c.requires.1.1.0 _ _ (omega (arith, w.size, c.loop-count.invariant.inside)) c.steps.ensures in
    midway_ends g.script w.sound _ _ _ c.loop-count.invariant inside w.serving c.go_on.ensures own c.in_default.is

pub loop-count-preserved : goal.loop-count-preserved
loop-count-preserved g c =
    let w = c.requires.1.1.1 in
    let inside : c.loop-count.count < g.script.size = omega (arith, w.size) in
    let own = c.requires.1.1.0 _ _ (omega (arith, w.size, c.loop-count.invariant.inside)) c.steps.ensures in
    midway_more g.script w.sound _ _ _ c.loop-count.invariant inside w.serving c.go_on.ensures own c.in-Some.is

pub returns : goal.returns
returns g c =
    let w = c.requires.1.1.1 in
    midway_done g.script w.sound _ _ _ c.loop-count.invariant w.size c.loop-count-test.false
