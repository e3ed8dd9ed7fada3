-- The columns that are left, filled by the mirror, give what filling all of them gives.
use Rattle.std.proofs.Common.{◌≡◌}
use Rattle.sheet.proofs.Columns.{put_leading}
use Rattle.sheet.proofs.writing.put_ending.Given as goal

abbrev pub invariant-loop-i : goal.invariant-loop-i
invariant-loop-i l = put_leading l.out l.at l.i l.rest ≡ put_leading l.initial.out l.at l.end l.tens
