-- `lifted::lifted::put_records`: a turn puts one record more.
-- Assumes nothing.
use Rattle.std.proofs.Common.{arith}
use Rattle.lifted.proofs.Counted.{record_none, record_more}
use Rattle.lifted.proofs.lifted.put_records.Goals as goal

pub loop-pc-init : goal.loop-pc-init
loop-pc-init c =
    let p = c.args.proto.now in
    record_none p.words.now p.tags.now p.payloads.now p.names.now c.args.numbers.now

pub loop-pc-preserved : goal.loop-pc-preserved
loop-pc-preserved c =
    let l = c.loop-pc in
    let p = c.args.proto.now in
    record_more p.words.now p.tags.now p.payloads.now p.names.now c.args.numbers.now
    l.numbers c.put_record.new.numbers l.pc l.invariant (omega (arith, c.requires.room))
    (rw c.lift_at.ensures at c.put_record.ensures)
