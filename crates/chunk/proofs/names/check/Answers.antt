-- The first name past the bytes is the definition's. Assumes nothing.
use Rattle.std.proofs.Common.{◌∙◌, sym, length}
use borrow.Author.Tests.{lt-ltb, le-ltb}
use Rattle.common.specs.Limits.{most_names}
use Rattle.common.proofs.Position.{where_found, nowhere_found}
use Rattle.values.specs.Spans.{first_name_past}
use Rattle.values.proofs.NamesPast.{name_found}
use Rattle.chunk.proofs.names.check.Goals as goal

pub returns-then-names-gt-MOST_NAMES : goal.returns-then-names-gt-MOST_NAMES
returns-then-names-gt-MOST_NAMES c = rw (lt-ltb most_names (length c.args.names.now) c.if-names-gt-MOST_NAMES.true)

pub returns-in-Some : goal.returns-in-Some
returns-in-Some c =
    let names = c.args.names.now in
    let size = c.args.size in
    let w = where_found (first_name_past names size) (length names) c.in-Some.past
    (sym (name_found names size) ∙ sym c.first_name_past.ensures ∙ c.in-Some.is) in
    rw (le-ltb most_names (length names) c.if-names-gt-MOST_NAMES.false, w.0, w.1)

pub returns-in-None : goal.returns-in-None
returns-in-None c =
    let names = c.args.names.now in
    let size = c.args.size in
    let n = nowhere_found (first_name_past names size) (length names)
    (sym (name_found names size) ∙ sym c.first_name_past.ensures ∙ c.in-None.is) in
    rw (le-ltb most_names (length names) c.if-names-gt-MOST_NAMES.false, n)
