use Rattle.blocks.proofs.Sets.{holds_edge}
use Rattle.blocks.proofs.ranges.set_by.Goals as goal

pub returns-then-q-t : goal.returns-then-q-t
returns-then-q-t c =
    holds_edge c.args.r c.args.t.now c.args.q c.if-q-t.true
    (rw c.as_slice.ensures at c.in_ranges-always.ensures) (rw c.as_slice-then-q-t.ensures at c.in_ranges.ensures)
