use Rattle.std.proofs.Common.{sym, ap, ◌∙◌, length}
use Rattle.common.specs.Lists.{put}
use Rattle.common.proofs.Put.{put_laws}
use Rattle.sheet.proofs.Laws.{laws as sheet-laws}
use Rattle.survey.proofs.Columns.{only_first, only_later}
use Rattle.survey.proofs.lines.put_only.Goals as goal

pub returns-then-k-ne0 : goal.returns-then-k-ne0
returns-then-k-ne0 c =
    let e = only_later c.args.k c.args.c.number c.args.c.place c.if-k-ne0.true in
    record {
      value = sym (ap length e);
      page_after = put_laws.none c.args.page.now 0 ∙ ap (put c.args.page.now 0) (sym e);
    }

pub returns : goal.returns
returns c =
    let e = only_first c.args.k c.args.c.number c.args.c.place c.if-k-ne0.false in
    record {
      value = sym (ap length e ∙ sheet-laws.pair c.args.c.number c.args.c.place);
      page_after = rw (c.refusal_line.ensures, ← e) at c.put_text.ensures;
    }
