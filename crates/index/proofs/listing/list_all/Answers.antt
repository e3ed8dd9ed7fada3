use Rattle.std.proofs.Common.{sym, arith}
use Rattle.std.proofs.lemmas.Result.{err_from_is_err_and}
use Rattle.index.proofs.Counting.{nothing_read, nothing_counted, no_room, all_stored}
use Rattle.index.proofs.listing.list_all.Goals as goal

pub returns-in_err-at : goal.returns-in_err-at
returns-in_err-at c =
    let n = nothing_read c.args.chunk.now c.args.places.now c.args.parents.now _ (sym c.in_err-at.ensures.value) in
    let p = err_from_is_err_and c.from_residual.result c.from_residual.ensures.1 in
    record { value = rw (p.1, p.2) (sym n.value); places_after = sym n.places; parents_after = sym n.parents }

pub returns-in_err-n : goal.returns-in_err-n
returns-in_err-n c =
    let n = nothing_counted c.args.chunk.now c.args.places.now c.args.parents.now _ (sym c.in_ok-at.ensures.value) _ (sym c.in_err-n.ensures) in
    let p = err_from_is_err_and c.from_residual-in_err-n.result c.from_residual-in_err-n.ensures.1 in
    record { value = rw (p.1, p.2) (sym n.value); places_after = sym n.places; parents_after = sym n.parents }

pub returns-then-min-n : goal.returns-then-min-n
returns-then-min-n c =
    let n = no_room c.args.chunk.now c.args.places.now c.args.parents.now _ (sym c.in_ok-at.ensures.value) _ (sym c.in_ok-n.ensures) (omega (arith, c.if-min-n.true, c.min.ensures)) in
    record { value = sym n.value; places_after = sym n.places; parents_after = sym n.parents }

pub returns : goal.returns
returns c =
    let s = all_stored c.args.chunk.now c.args.places.now c.args.parents.now _ (sym c.in_ok-at.ensures.value) _ (sym c.in_ok-n.ensures)
    (omega (arith, c.if-min-n.false, c.min.ensures)) (omega (arith, c.if-min-n.false, c.min.ensures)) _ _ c.list_function.ensures.wrote_at in
    record { value = sym s.value; places_after = sym s.places; parents_after = sym s.parents }
