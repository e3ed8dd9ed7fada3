use Rattle.std.proofs.Common.{length}
use Rattle.sweep.proofs.Entries.{entries_length}
use Rattle.twice.proofs.Keeping.{twice}
use Rattle.twice.proofs.passes.fill_twice.Goals as goal

pub returns : goal.returns
returns c =
    twice c.args.lengths.now c.keep_lengths-invalid.new.marks
    c.keep_lengths-invalid.new.lengths _ _ (length c.args.lengths.now)
    (entries_length _) c.keep_lengths-invalid.ensures c.raise_lengths.ensures
    c.restore_marks.ensures c.find_low-longest.ensures
    c.find_kept-first.ensures
