use Rattle.std.proofs.Common.{sym, ap, ◌∙◌, true≢false, arith}
use Rattle.rehearsal.specs.Running.{ran_of}
use Rattle.rehearsal.proofs.Stages.{first_known, fits, next_starved, next_returned, next_over, left_none, left_some}
use Rattle.rehearsal.proofs.rotation.next_turn.Goals as goal
use Rattle.rehearsal.proofs.rotation.next_turn.Goals.{then-is_empty, else-is_empty}

pub note-requires : goal.note-requires
note-requires c = (
  c.requires.0.ends c.pop-task.result.script (first_known c.args.scripts.now c.args.quantum c.args.choices.now c.args.st.now c.pop-task.result c.pop-task.new.self
      c.pop-task.ensures.first c.requires.0),
  rw c.ran.ensures (fits c.args.scripts.now c.args.quantum c.args.choices.now c.args.st.now c.pop-task.result c.pop-task.new.self
      c.pop-task.ensures.first c.requires.0 c.min.result c.min.ensures c.turn-t.result c.turn-t.ensures),
)

pub overflow_sub-st : goal.overflow_sub-st
overflow_sub-st c = omega (
  arith,
  ap ran_of c.in-Returned.is,
  fits c.args.scripts.now c.args.quantum c.args.choices.now c.args.st.now c.pop-task.result c.pop-task.new.self
      c.pop-task.ensures.first c.requires.0 c.min.result c.min.ensures c.turn-t.result c.turn-t.ensures,
)

pub overflow_sub-st-in-Over : goal.overflow_sub-st-in-Over
overflow_sub-st-in-Over c = omega (
  arith,
  ap ran_of c.in-Over.is,
  fits c.args.scripts.now c.args.quantum c.args.choices.now c.args.st.now c.pop-task.result c.pop-task.new.self
      c.pop-task.ensures.first c.requires.0 c.min.result c.min.ensures c.turn-t.result c.turn-t.ensures,
)

pub returns-in-Starved : goal.returns-in-Starved
returns-in-Starved c =
    next_starved c.args.scripts.now c.args.quantum c.args.choices.now c.args.st.now c.pop-task.result c.pop-task.new.self
    c.pop-task.ensures.first c.requires.0 c.min.result c.min.ensures c.turn-t.result c.turn-t.ensures
    c.ran.result c.ran.ensures c.note.result c.note.ensures
    c.in-Starved.field-0 c.in-Starved.is

pub returns-after-is_empty : goal.returns-after-is_empty
returns-after-is_empty c =
    next_returned c.args.scripts.now c.args.quantum c.args.choices.now c.args.st.now c.pop-task.result c.pop-task.new.self
    c.pop-task.ensures.first c.requires.0 c.min.result c.min.ensures c.turn-t.result c.turn-t.ensures
    c.ran.result c.ran.ensures c.note.result c.note.ensures
    c.in-Returned.ran c.in-Returned.taken _ c.in-Returned.is
    (elim c.if-is_empty.branch [
      | then-is_empty w ↦ w.st-is ∙ left_none _ _ (c.is_empty.ensures.0 w.if-is_empty.true)
      | else-is_empty w ↦
          w.st-is ∙ left_some _ _ (λ e. true≢false (sym (c.is_empty.ensures.1 e) ∙ w.if-is_empty.false))
    ])

pub returns-in-Over : goal.returns-in-Over
returns-in-Over c =
    next_over c.args.scripts.now c.args.quantum c.args.choices.now c.args.st.now c.pop-task.result c.pop-task.new.self
    c.pop-task.ensures.first c.requires.0 c.min.result c.min.ensures c.turn-t.result c.turn-t.ensures
    c.ran.result c.ran.ensures c.note.result c.note.ensures
    c.push.new.self c.in-Over.ran c.in-Over.word c.in-Over.taken c.in-Over.is c.push.ensures
