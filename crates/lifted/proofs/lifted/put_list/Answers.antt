-- `lifted::lifted::put_list`: a turn puts one place more.
-- Assumes nothing.
use Rattle.std.proofs.Common.{◌≡◌, ◌∙◌, ap, get_or}
use Rattle.lifted.proofs.Counted.{place_more}
use Rattle.lifted.proofs.lifted.put_list.Goals as goal

pub loop-k-preserved : goal.loop-k-preserved
loop-k-preserved g c =
    let l = c.loop-k in
    let flat = g.T.Flat.flat in
    let filler = g.T.Filler.filler in
    let e : c.flat-slot.result ≡ flat (get_or c.args.list.slots l.k filler) = c.flat-slot.ensures ∙ ap flat {y = get_or c.args.list.slots l.k filler} c.place.ensures in
    place_more flat filler c.args.list.slots c.args.list.count c.args.numbers.now l.numbers c.put-in-loop-k.new.numbers c.args.at g.row.N
    l.k c.loop-k-test.true c.requires l.invariant (rw e at c.put-in-loop-k.ensures)
