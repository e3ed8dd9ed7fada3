use Rattle.std.proofs.Common.{arith}
use Rattle.service.proofs.Near.{noting_turn, noting_asks, noting_low, noting_more}
use Rattle.service.proofs.pass.note_distances.Goals as goal

pub distance_at-above-requires : goal.distance_at-above-requires
distance_at-above-requires c = noting_asks _ _ (noting_turn _ c.loop-i.invariant (omega arith))

pub overflow_mul-lengths : goal.overflow_mul-lengths
overflow_mul-lengths c =
    omega (arith, noting_low _ _ (noting_turn _ c.loop-i.invariant (omega arith)) _ c.distance_at-above.ensures)

pub overflow_add-lengths : goal.overflow_add-lengths
overflow_add-lengths c =
    omega (arith, noting_low _ _ (noting_turn _ c.loop-i.invariant (omega arith)) _ c.distance_at-above.ensures)

pub loop-i-preserved : goal.loop-i-preserved
loop-i-preserved c =
    noting_more _ _ (noting_turn _ c.loop-i.invariant (omega arith)) _ c.distance_at-above.ensures
