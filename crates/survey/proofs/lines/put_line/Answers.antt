use Rattle.std.proofs.Common.{◌∙◌, ap, arith, length}
use Rattle.common.specs.Lists.{put}
use Rattle.survey.proofs.Columns.{within, line_refused, words_part, line_accepted}
use Rattle.survey.proofs.lines.put_line.Goals as goal

pub put_only-requires : goal.put_only-requires
put_only-requires c = (
  omega (arith, c.requires),
  (within c.args.k c.args.bytes.now c.room-words.result c.words_of-counts.new.words c.words_of-counts.result c.room-words.ensures
      c.words_of-counts.ensures.value c.words_of-counts.ensures.words_after).number,
)

pub returns-then-counts-ne0 : goal.returns-then-counts-ne0
returns-then-counts-ne0 c =
    let e = line_refused c.args.k c.args.bytes.now c.room-words.result c.words_of-counts.new.words c.words_of-counts.result c.room-words.ensures
    c.words_of-counts.ensures.value c.words_of-counts.ensures.words_after
    c.if-counts-ne0.true in
    record {
      value = c.put_only.ensures.value ∙ ap length e;
      page_after = c.put_only.ensures.page_after ∙ ap (put c.args.page.now 0) e;
    }

pub slice_bounds-words-end : goal.slice_bounds-words-end
slice_bounds-words-end c =
    let w = (within c.args.k c.args.bytes.now c.room-words.result c.words_of-counts.new.words c.words_of-counts.result c.room-words.ensures
    c.words_of-counts.ensures.value c.words_of-counts.ensures.words_after).words in
    omega (arith, w, c.room-words.ensures)

pub slice_bounds-run_of-end : goal.slice_bounds-run_of-end
slice_bounds-run_of-end c =
    words_part c.args.k c.args.bytes.now c.room-words.result c.words_of-counts.new.words c.words_of-counts.result c.room-words.ensures
    c.words_of-counts.ensures.value c.words_of-counts.ensures.words_after
    c.if-counts-ne0.false

pub returns : goal.returns
returns c =
    let p = line_accepted c.args.k c.args.bytes.now c.room-words.result c.words_of-counts.new.words c.words_of-counts.result c.room-words.ensures
    c.words_of-counts.ensures.value c.words_of-counts.ensures.words_after
    c.if-counts-ne0.false _ c.args.page.now _ _ _ c.run_of-run.ensures c.requires c.put_head.ensures c.put_tail.ensures.value
    c.put_tail.ensures.page_after in
    record { value = p.0; page_after = p.1 }
