use Rattle.blocks.proofs.Sets.{hits_are}
use Rattle.blocks.proofs.search.hits.Goals as goal

pub returns : goal.returns
returns c = hits_are c.args.r c.args.t.now c.args.at (rw c.as_slice.ensures at c.in_ranges.ensures)
