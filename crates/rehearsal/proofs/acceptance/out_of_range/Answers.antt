use borrow.Author.Tests.{le-ltb}
use Rattle.rehearsal.specs.Rehearse.{out_of_range}
use Rattle.rehearsal.proofs.acceptance.out_of_range.Goals as goal

pub returns : goal.returns
unfolding out_of_range
returns c = rw (
  le-ltb _ 1 c.if-count-lt1.false,
  le-ltb 4 _ c.if-count-gt-MOST_SCRIPTS.false,
  le-ltb _ 1 c.if-quantum-lt1.false,
  le-ltb 1000 _ c.if-quantum-gt-MOST_QUANTUM.false,
) c.any_above_1.ensures
