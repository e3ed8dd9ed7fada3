-- `records::walk::lift_proto_lua54`: what is accepted is of few enough words, with a place for each.
-- Assumes nothing.
use Rattle.std.proofs.Common.{◌∙◌, sym, length, arith}
use Rattle.tables.proofs.Laws.{all_passed}
use Rattle.records.proofs.walk.lift_proto_lua54.Goals as goal

pub lift_at-requires-clause-few : goal.lift_at-requires-clause-few
lift_at-requires-clause-few c =
    let a = c.args in
    (all_passed (length a.words.now) a.tags.now a.payloads.now a.names.now (length a.bytes.now)
    (length a.records.now) _ (sym c.check.ensures ∙ c.in_ok-check.was)).0

pub offset_bounds-records-pc : goal.offset_bounds-records-pc
offset_bounds-records-pc c =
    let a = c.args in
    let w = all_passed (length a.words.now) a.tags.now a.payloads.now a.names.now (length a.bytes.now)
    (length a.records.now) _ (sym c.check.ensures ∙ c.in_ok-check.was) in
    omega (arith, w.0)

pub bounds-records-pc : goal.bounds-records-pc
bounds-records-pc c =
    let a = c.args in
    let w = all_passed (length a.words.now) a.tags.now a.payloads.now a.names.now (length a.bytes.now)
    (length a.records.now) _ (sym c.check.ensures ∙ c.in_ok-check.was) in
    omega (arith, w.1)
