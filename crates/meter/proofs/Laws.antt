-- The laws that callers go by: those over any sound script, each from its own file, and so those of both versions, whose scripts are sound. Assumes nothing.
use Rattle.runs.specs.Script.{script_of}
use Rattle.runs.proofs.Laws as runs
use Rattle.meter.specs.Feed.{scale_of}
use Rattle.meter.specs.Laws.{Laws}
use Rattle.meter.proofs.Highest.{highest_after, begins, resets}
use Rattle.meter.proofs.Demand3.{demand3}
use Rattle.meter.proofs.Earlier.{earlier_feed}
use Rattle.meter.proofs.Changing.{follows_book}
use Rattle.meter.proofs.Order.{order}
use Rattle.meter.proofs.Paths.{last_more, weight_more}

pub laws : Laws
laws =
    record {
      demand3 = demand3;
      demand3_of = λ version ws. demand3 (script_of version ws) ((runs.laws).sound version ws);
      earlier_feed = earlier_feed;
      earlier_feed_of = λ version ws. earlier_feed (script_of version ws) ((runs.laws).sound version ws);
      highest = highest_after;
      highest_of = λ version ws weights. highest_after (scale_of (script_of version ws) weights);
      begins = begins;
      resets = resets;
      order = order;
      follows_book = follows_book;
      follows_book_of = λ version ws. follows_book (script_of version ws) ((runs.laws).sound version ws);
      last_more = last_more;
      weight_more = weight_more;
    }
