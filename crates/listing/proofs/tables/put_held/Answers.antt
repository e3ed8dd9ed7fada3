use Rattle.std.proofs.Common.{sym, arith}
use lib.Seq.{length-take-le, take_all}
use Rattle.listing.proofs.tables.put_held.Goals as goal

pub slice_bounds-put_answer-end : goal.slice_bounds-put_answer-end
slice_bounds-put_answer-end c = sym (length-take-le c.args.n c.args.buffer.now (omega arith))

pub returns : goal.returns
returns c = rw (take_all c.args.n c.args.buffer.now (omega arith)) c.put_answer-2.ensures
