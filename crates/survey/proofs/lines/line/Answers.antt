use Rattle.std.proofs.Common.{arith}
use Rattle.survey.proofs.Claims.{counted}
use Rattle.survey.proofs.lines.line.Goals as goal

pub returns-clause-counted : goal.returns-clause-counted
returns-clause-counted c =
    counted c.args.k c.args.bytes.now c.args.page.now _ c.put_line.result (omega arith) c.put_line.ensures.value
    c.put_line.ensures.page_after
