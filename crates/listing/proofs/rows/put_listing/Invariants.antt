-- The lines of the words passed are put.
use Rattle.std.proofs.Common.{◌≡◌}
use Rattle.common.specs.Lists.{put}
use Rattle.listing.specs.Answer.{listing_lines}
use Rattle.listing.proofs.rows.put_listing.Given as goal

abbrev pub invariant-loop-p : goal.invariant-loop-p
invariant-loop-p l = l.page ≡ put l.fn.page 0 (listing_lines l.words l.lengths l.p)
