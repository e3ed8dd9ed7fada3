use Rattle.std.proofs.Common.{ap, ◌∙◌}
use Rattle.index.specs.Listing.{functions_of}
use Rattle.index.specs.Noting.{told}
use Rattle.index.proofs.Counting.{told_is}
use Rattle.index.proofs.listing.count_functions.Goals as goal

pub returns : goal.returns
returns c = c.from.ensures ∙ (ap told c.take_tally.ensures ∙ told_is (functions_of c.args.chunk.now))
