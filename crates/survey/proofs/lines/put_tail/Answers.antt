use Rattle.std.proofs.Common.{sym, ap, ◌+◌, ℕ}
use Rattle.survey.proofs.Columns.{length_accepted, length_refused, tail_accepted, tail_refused}
use Rattle.survey.proofs.lines.put_tail.Goals as goal

pub returns-in-Ok : goal.returns-in-Ok
returns-in-Ok c =
    rw c.in-Ok.is (
    record {
      value = sym (ap (λ (n : ℕ). 24 + n) (length_accepted c.in-Ok.field-0.longest c.in-Ok.field-0.first));
      page_after = tail_accepted c.args.page.now _ c.in-Ok.field-0.longest c.in-Ok.field-0.first (rw c.last_line.ensures at c.put_text.ensures);
    })

pub returns-in-Err : goal.returns-in-Err
returns-in-Err c =
    rw c.in-Err.is (
    record {
      value = sym (ap (λ (n : ℕ). 24 + n) (length_refused c.in-Err.refusal));
      page_after =
          tail_refused c.args.page.now _ _ _ c.in-Err.refusal c.requires
          c.put_cell.ensures c.put_cell-in-Err.ensures
          (rw (c.refusal_line.ensures, c.number.ensures, c.place.ensures) at c.put_text-in-Err.ensures);
    })
