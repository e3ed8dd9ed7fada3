-- `lifted::lifted::put_records`: the records of the first words are put.
-- Assumes nothing.
use Rattle.std.proofs.Common.{◌≡◌}
use Rattle.common.specs.Lists.{put}
use Rattle.lifted.specs.Record.{records_numbers}
use Rattle.lifted.proofs.lifted.put_records.Given as goal

abbrev pub invariant-loop-pc : goal.invariant-loop-pc
invariant-loop-pc l =
    let p = l.proto in
    l.numbers ≡ put l.initial.numbers 0 (records_numbers p.words.now p.tags.now p.payloads.now p.names.now l.pc)
