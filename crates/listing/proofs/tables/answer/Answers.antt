use Rattle.std.proofs.Common.{arith}
use Rattle.listing.proofs.Claims.{large_enough, counted}
use Rattle.listing.proofs.tables.answer.Goals as goal

pub returns : goal.returns
returns c =
    let k = c.put_held.ensures in
    record {
      value = k.value;
      page_after = k.page_after;
      enough_read = large_enough c.args.buffer.now c.args.n (omega arith);
      counted = counted _ c.args.page.now _ c.put_held.result (omega arith) k.value k.page_after;
    }
