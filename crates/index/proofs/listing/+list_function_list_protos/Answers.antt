use Rattle.std.proofs.Common.{sym, ◌∙◌, refl, arith}
use Rattle.std.proofs.lemmas.Result.{err_from_is_err_and}
use Rattle.lundump.specs.Lundump.{load_protos, load_function}
use Rattle.index.proofs.Notes.{gave_refused, gave, no_head, no_code, no_constants, no_upvalues, no_protos, no_lines, no_names, function_read, function_gave}
use Rattle.index.proofs.Notes.{count_few, midway_more, midway_refused, midway_done, no_count, gave_none, too_deep, deeper}
use Rattle.index.proofs.listing.+list_function_list_protos.Goals as goal

pub list_function-returns-in_err-code_at : goal.list_function-returns-in_err-code_at
list_function-returns-in_err-code_at t c =
    let g = gave_refused (load_function c.args.level) c.args.chunk.now c.args.at c.args.parent c.args.i c.args.places.now c.args.parents.now _ _ refl refl _ (no_head c.args.chunk.now (load_protos c.args.level) c.args.at _ (sym c.in_err-code_at.ensures)) in
    let p = err_from_is_err_and c.from_residual.result c.from_residual.ensures.1 in
    record { value = rw (p.1, p.2) g.value; wrote_at = g.wrote_at }

pub list_function-returns-in_err-constants_at : goal.list_function-returns-in_err-constants_at
list_function-returns-in_err-constants_at t c =
    let g = gave_refused (load_function c.args.level) c.args.chunk.now c.args.at c.args.parent c.args.i c.args.places.now c.args.parents.now _ _ refl refl _ (no_code c.args.chunk.now (load_protos c.args.level) c.args.at _ _ (sym c.in_ok-code_at.ensures) _ (sym c.in_err-constants_at.ensures)) in
    let p = err_from_is_err_and c.from_residual-in_err-constants_at.result c.from_residual-in_err-constants_at.ensures.1 in
    record { value = rw (p.1, p.2) g.value; wrote_at = g.wrote_at }

pub list_function-returns-in_err-upvalues_at : goal.list_function-returns-in_err-upvalues_at
list_function-returns-in_err-upvalues_at t c =
    let g = gave_refused (load_function c.args.level) c.args.chunk.now c.args.at c.args.parent c.args.i c.args.places.now c.args.parents.now _ _ refl refl _ (no_constants c.args.chunk.now (load_protos c.args.level) c.args.at _ _ (sym c.in_ok-code_at.ensures) _ _ (sym c.in_ok-constants_at.ensures) _ (sym c.in_err-upvalues_at.ensures)) in
    let p = err_from_is_err_and c.from_residual-in_err-upvalues_at.result c.from_residual-in_err-upvalues_at.ensures.1 in
    record { value = rw (p.1, p.2) g.value; wrote_at = g.wrote_at }

pub list_function-returns-in_err-upvalues : goal.list_function-returns-in_err-upvalues
list_function-returns-in_err-upvalues t c =
    let g = gave_refused (load_function c.args.level) c.args.chunk.now c.args.at c.args.parent c.args.i c.args.places.now c.args.parents.now _ _ refl refl _ (no_upvalues c.args.chunk.now (load_protos c.args.level) c.args.at _ _ (sym c.in_ok-code_at.ensures) _ _ (sym c.in_ok-constants_at.ensures) _ _ (sym c.in_ok-upvalues_at.ensures) _ (sym c.in_err-upvalues.ensures)) in
    let p = err_from_is_err_and c.from_residual-in_err-upvalues.result c.from_residual-in_err-upvalues.ensures.1 in
    record { value = rw (p.1, p.2) g.value; wrote_at = g.wrote_at }

pub list_function-returns-in_err-inner : goal.list_function-returns-in_err-inner
list_function-returns-in_err-inner t c =
    let g = gave_refused (load_function c.args.level) c.args.chunk.now c.args.at c.args.parent c.args.i c.args.places.now c.args.parents.now _ _ (c.in_err-inner.ensures.wrote_at.places_same ∙ c.note.ensures.places_same) (c.in_err-inner.ensures.wrote_at.parents_same ∙ c.note.ensures.parents_same) _ (no_protos c.args.chunk.now (load_protos c.args.level) c.args.at _ _ (sym c.in_ok-code_at.ensures) _ _ (sym c.in_ok-constants_at.ensures) _ _ (sym c.in_ok-upvalues_at.ensures) _ _ (sym c.in_ok-upvalues.ensures) _ (sym c.in_err-inner.ensures.value)) in
    let p = err_from_is_err_and c.from_residual-in_err-inner.result c.from_residual-in_err-inner.ensures.1 in
    record { value = rw (p.1, p.2) g.value; wrote_at = g.wrote_at }

pub list_function-returns-in_err-names_at : goal.list_function-returns-in_err-names_at
list_function-returns-in_err-names_at t c =
    let g = gave_refused (load_function c.args.level) c.args.chunk.now c.args.at c.args.parent c.args.i c.args.places.now c.args.parents.now _ _ (c.in_ok-inner.ensures.wrote_at.places_same ∙ c.note.ensures.places_same) (c.in_ok-inner.ensures.wrote_at.parents_same ∙ c.note.ensures.parents_same) _ (no_lines c.args.chunk.now (load_protos c.args.level) c.args.at _ _ (sym c.in_ok-code_at.ensures) _ _ (sym c.in_ok-constants_at.ensures) _ _ (sym c.in_ok-upvalues_at.ensures) _ _ (sym c.in_ok-upvalues.ensures) _ _ (sym c.in_ok-inner.ensures.value) _ (sym c.in_err-names_at.ensures)) in
    let p = err_from_is_err_and c.from_residual-in_err-names_at.result c.from_residual-in_err-names_at.ensures.1 in
    record { value = rw (p.1, p.2) g.value; wrote_at = g.wrote_at }

pub list_function-returns-in_err-end : goal.list_function-returns-in_err-end
list_function-returns-in_err-end t c =
    let g = gave_refused (load_function c.args.level) c.args.chunk.now c.args.at c.args.parent c.args.i c.args.places.now c.args.parents.now _ _ (c.in_ok-inner.ensures.wrote_at.places_same ∙ c.note.ensures.places_same) (c.in_ok-inner.ensures.wrote_at.parents_same ∙ c.note.ensures.parents_same) _ (no_names c.args.chunk.now (load_protos c.args.level) c.args.at _ _ (sym c.in_ok-code_at.ensures) _ _ (sym c.in_ok-constants_at.ensures) _ _ (sym c.in_ok-upvalues_at.ensures) _ _ (sym c.in_ok-upvalues.ensures) _ _ (sym c.in_ok-inner.ensures.value) _ (sym c.in_ok-names_at.ensures) _ (sym c.in_err-end.ensures)) in
    let p = err_from_is_err_and c.from_residual-in_err-end.result c.from_residual-in_err-end.ensures.1 in
    record { value = rw (p.1, p.2) g.value; wrote_at = g.wrote_at }

pub list_function-overflow_add-result : goal.list_function-overflow_add-result
list_function-overflow_add-result t c =
    let k = count_few c.args.level c.args.chunk.now _ _ _ (sym c.in_ok-inner.ensures.value) in
    omega (arith, k, c.well_formed.0.1)

pub list_function-returns : goal.list_function-returns
list_function-returns t c =
    let f = function_read c.args.chunk.now (load_protos c.args.level) c.args.at _ _ (sym c.in_ok-code_at.ensures) _ _ (sym c.in_ok-constants_at.ensures) _ _ (sym c.in_ok-upvalues_at.ensures) _ _ (sym c.in_ok-upvalues.ensures) _ _ (sym c.in_ok-inner.ensures.value) _ (sym c.in_ok-names_at.ensures) _ (sym c.in_ok-end.ensures) in
    let g = function_gave c.args.level c.args.chunk.now c.args.parent c.args.i c.args.places.now c.args.parents.now _ _ _ _ c.args.at _ _ _ _ _
    f c.note.ensures c.past-next.ensures c.in_ok-inner.ensures.wrote_at in
    record { value = g.value; wrote_at = g.wrote_at }

pub list_protos-returns-in_err-n : goal.list_protos-returns-in_err-n
list_protos-returns-in_err-n t c =
    let g = gave_refused (load_protos c.args.level) c.args.chunk.now c.args.at c.args.parent c.args.first c.args.places.now c.args.parents.now _ _ refl refl _ (no_count c.args.chunk.now c.args.level c.args.at _ (sym c.in_err-n.ensures)) in
    let p = err_from_is_err_and c.from_residual.result c.from_residual.ensures.1 in
    record { value = rw (p.1, p.2) g.value; wrote_at = g.wrote_at }

pub list_protos-returns-then-n-ne0 : goal.list_protos-returns-then-n-ne0
list_protos-returns-then-n-ne0 t c =
    let g = gave_refused (load_protos c.args.level) c.args.chunk.now c.args.at c.args.parent c.args.first c.args.places.now c.args.parents.now _ _ refl refl _ (too_deep c.args.chunk.now c.args.level c.args.at _ _ (sym c.in_ok-n.ensures) c.if-level-eq0.true c.if-n-ne0.true) in
    record { value = g.value; wrote_at = g.wrote_at }

pub list_protos-returns-then-level-eq0 : goal.list_protos-returns-then-level-eq0
list_protos-returns-then-level-eq0 t c =
    let g = gave_none c.args.chunk.now c.args.level c.args.at _ _ (sym c.in_ok-n.ensures) c.args.parent c.args.first c.args.places.now c.args.parents.now c.if-level-eq0.true c.if-n-ne0.false in
    record { value = g.value; wrote_at = g.wrote_at }

pub list_protos-returns-in_err-more : goal.list_protos-returns-in_err-more
list_protos-returns-in_err-more t c =
    let m = c.loop-i.invariant in
    let w = c.in_err-more.ensures.wrote_at in
    let d = deeper c.args.chunk.now c.args.level c.args.at _ _ (sym c.in_ok-n.ensures) c.if-level-eq0.false in
    let g = gave_refused (load_protos c.args.level) c.args.chunk.now c.args.at c.args.parent c.args.first c.args.places.now c.args.parents.now _ _ (w.places_same ∙ m.places_same) (w.parents_same ∙ m.parents_same) _
    (d ∙ midway_refused _ _ _ _ _ _ _ _ m c.loop-i-test.true _ (sym c.in_err-more.ensures.value)) in
    let p = err_from_is_err_and c.from_residual-in_err-more.result c.from_residual-in_err-more.ensures.1 in
    record { value = rw (p.1, p.2) g.value; wrote_at = g.wrote_at }

pub list_protos-overflow_add-total : goal.list_protos-overflow_add-total
list_protos-overflow_add-total t c =
    let w = c.in_ok-more.ensures.wrote_at in
    let m = midway_more _ _ _ _ _ _ _ _ c.loop-i.invariant c.loop-i-test.true _ c.past-next.ensures _ _ w _ _ (sym c.in_ok-more.ensures.value) in
    omega (arith, m.0)

pub list_protos-loop-i-preserved : goal.list_protos-loop-i-preserved
list_protos-loop-i-preserved t c =
    let w = c.in_ok-more.ensures.wrote_at in
    (midway_more _ _ _ _ _ _ _ _ c.loop-i.invariant c.loop-i-test.true _ c.past-next.ensures _ _ w _ _ (sym c.in_ok-more.ensures.value)).1

pub list_protos-returns : goal.list_protos-returns
list_protos-returns t c =
    let m = c.loop-i.invariant in
    let d = deeper c.args.chunk.now c.args.level c.args.at _ _ (sym c.in_ok-n.ensures) c.if-level-eq0.false in
    let v = midway_done _ _ _ _ _ _ _ _ m c.loop-i-test.false in
    let g = gave (load_protos c.args.level) c.args.chunk.now c.args.at c.args.parent c.args.first c.args.places.now c.args.parents.now _ _ m.places_same m.parents_same _ d _ v.0 v.1 in
    record { value = g.value; wrote_at = g.wrote_at }
