use Rattle.std.proofs.Common.{◌≡◌, ℕ, ◌+◌, ◌%◌, ◌<◌, arith, get_or, drop, sym, ◌∙◌}
use Rattle.sheet.proofs.Compare.{value_turn, value_start, value_end, bound_more, bound_fits}
use Rattle.sheet.proofs.lines.value.Goals as goal

low : (b : ℕ) → b % 16 < 16
low b = omega arith

pub loop-column-init : goal.loop-column-init
loop-column-init c = (omega arith, value_start (drop c.args.at c.args.text.now))

pub overflow_mul-v : goal.overflow_mul-v
overflow_mul-v c = omega (arith, bound_fits c.loop-column.v c.loop-column.column-index (omega arith) c.loop-column.invariant.0)

pub overflow_add-v : goal.overflow_add-v
overflow_add-v c =
    omega (
      arith,
      low (get_or c.args.text.now (c.args.at + c.loop-column.column-index) 0),
      bound_fits c.loop-column.v c.loop-column.column-index (omega arith) c.loop-column.invariant.0,
    )

pub loop-column-preserved : goal.loop-column-preserved
loop-column-preserved c =
    let l = c.loop-column in (
      bound_more l.v _ l.column-index l.invariant.0 (low _),
      value_turn c.args.text.now c.args.at l.column-index l.v (omega arith) c.requires ∙ l.invariant.1,
    )

pub returns : goal.returns
returns c =
    let l = c.loop-column in
    let e : l.column-index ≡ 10 = omega arith in
    sym (value_end (drop c.args.at c.args.text.now) l.v) ∙ (rw e at l.invariant.1)
