use Rattle.std.proofs.Common.{◌≡◌, length, refl, arith}
use Rattle.common.proofs.Put.{put_laws}
use Rattle.listing.specs.Answer.{listing_lines}
use Rattle.listing.proofs.Lines.{one_line_more, last_line}
use Rattle.listing.proofs.rows.put_listing.Goals as goal

pub loop-p-init : goal.loop-p-init
unfolding listing_lines
loop-p-init c = put_laws.none c.args.page.now 0

pub loop-p-preserved : goal.loop-p-preserved
loop-p-preserved c =
    let l = c.loop-p in
    one_line_more c.args.words.now c.args.lengths.now c.args.page.now l.page c.put_text.new.page l.p l.invariant (omega arith)
    (rw c.line.ensures at c.put_text.ensures)

pub returns : goal.returns
returns c =
    let l = c.loop-p in
    let e : l.p ≡ length c.args.words.now = omega arith in
    record {
      value = refl;
      page_after = last_line c.args.words.now c.args.lengths.now c.args.page.now l.page c.put_text-2.new.page
          c.args.longest c.args.first (rw e at l.invariant) (omega arith)
          (rw c.last_line.ensures at c.put_text-2.ensures);
    }
