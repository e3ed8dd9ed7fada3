use Rattle.std.proofs.Common.{◌∙◌, length, arith}
use native.Mathlib.Nat.{add-sub_cancel_left}
use Rattle.chunk.proofs.Shows.{inside_chunk, inside_list, part_of_chunk, part_of_list, part_refused, same_offset}
use Rattle.chunk.proofs.names.lent_name.Goals as goal

pub slice_bounds-result-end-then-part : goal.slice_bounds-result-end-then-part
slice_bounds-result-end-then-part c =
    omega (arith, inside_chunk _ _ _ _ _ c.in-Ok.part c.in-Ok.ensures c.if-part.true)

pub slice_bounds-result-end-else-part : goal.slice_bounds-result-end-else-part
slice_bounds-result-end-else-part c =
    omega (arith, inside_list _ _ _ _ _ c.in-Ok.part c.in-Ok.ensures c.if-part.false)

pub returns-then-part : goal.returns-then-part
returns-then-part c =
    rw add-sub_cancel_left (same_offset _ _ _ _ (omega arith) ∙ part_of_chunk _ _ _ c.in-Ok.part c.in-Ok.ensures c.if-part.true)

pub returns-else-part : goal.returns-else-part
returns-else-part c =
    rw add-sub_cancel_left (same_offset _ _ _ _ (omega arith) ∙ part_of_list _ _ _ c.in-Ok.part c.in-Ok.ensures c.if-part.false)

pub returns-in_default : goal.returns-in_default
returns-in_default c =
    same_offset _ _ _ _ (omega arith) ∙ part_refused _ _ _ c.in_default.field-0 c.in_default.ensures
