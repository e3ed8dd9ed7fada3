use Rattle.std.proofs.Common.{ap, ◌∙◌, length}
use Rattle.index.specs.Listing.{listed_in}
use Rattle.index.specs.Noting.{told}
use Rattle.index.proofs.Counting.{told_is}
use Rattle.index.proofs.listing.list_functions.Goals as goal

pub returns : goal.returns
returns c =
    let e = c.list_all.ensures in
    record {
      value = c.from.ensures ∙ (ap told e.value ∙ told_is (listed_in c.args.chunk.now (length c.args.places.now) (length c.args.parents.now)));
      places_after = e.places_after;
      parents_after = e.parents_after;
    }
