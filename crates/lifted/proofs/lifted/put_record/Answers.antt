-- `lifted::lifted::put_record`: its four parts, one after another.
-- Assumes nothing.
use Rattle.std.proofs.Common.{arith}
use Rattle.common.proofs.Put.{put_laws}
use Rattle.lifted.specs.Record.{head_numbers, operands_numbers, reads_numbers, writes_numbers, numbers_of}
use Rattle.lifted.proofs.Counted.{length_head, length_operands, length_reads, length_writes, length_head_operands, length_before_writes}
use Rattle.lifted.proofs.lifted.put_record.Goals as goal

pub returns : goal.returns
unfolding numbers_of operands_numbers reads_numbers writes_numbers
returns c =
    let l = c.args.numbers.now in
    let at = c.args.at in
    let i = c.args.i in
    let e₁ = rw c.head.ensures at c.put.ensures in
    let e₂ = put_laws.and_then l _ _ at 14 (head_numbers i) (operands_numbers i.operands)
    e₁ (length_head i) (omega (arith, c.requires, length_operands i.operands))
    c.put_list.ensures in
    let e₃ = put_laws.and_then l _ _ at 31 _ (reads_numbers i.reads) e₂ (length_head_operands i)
    (omega (arith, c.requires, length_reads i.reads)) c.put_list-2.ensures in
    put_laws.and_then l _ _ at 44 _ (writes_numbers i.writes) e₃ (length_before_writes i)
    (omega (arith, c.requires, length_writes i.writes)) c.put_list-3.ensures
