use Rattle.std.proofs.Common.{◌≡◌, ◌<◌, sym, subst, ap, ◌∙◌, arith}
use Rattle.rehearsal.specs.declared.machine.Stage.{Stage}
use Rattle.rehearsal.specs.Rehearse.{graphs_in, trace_in}
use Rattle.rehearsal.specs.Running.{Fine, new_tally}
use Rattle.rehearsal.proofs.Stages.{going_on, goes_on, ended, start_fine, start_going, all_waits}
use Rattle.rehearsal.proofs.rotation.play.Goals as goal

pub loop-st-init : goal.loop-st-init
loop-st-init c =
    rw c.start-st.ensures (record {
      fine = start_fine c.args.count c.args.limit c.requires.0 c.requires.1;
      same = λ i h. start_going (graphs_in c.args.scripts.now) c.args.quantum c.args.choices.now c.args.count c.args.limit i;
    })

pub loop-st-smaller : goal.loop-st-smaller
loop-st-smaller c =
    subst (λ (t : Stage). t.left < c.loop-st.st.left) (sym c.next_turn.ensures)
    (goes_on (graphs_in c.args.scripts.now) c.args.quantum c.args.choices.now c.loop-st.st c.loop-st.invariant.fine
    c.loop-st-test.true c.requires.2).less

pub loop-st-preserved : goal.loop-st-preserved
loop-st-preserved c =
    let g = goes_on (graphs_in c.args.scripts.now) c.args.quantum c.args.choices.now c.loop-st.st
    c.loop-st.invariant.fine c.loop-st-test.true c.requires.2 in
    record {
      fine = subst Fine (sym c.next_turn.ensures) g.fine_next;
      same = λ i h. ap (going_on (graphs_in c.args.scripts.now) c.args.quantum c.args.choices.now i) c.next_turn.ensures
          ∙ g.same i h ∙ c.loop-st.invariant.same i h;
    }

pub returns : goal.returns
returns c =
    let z : c.loop-st.st.left ≡ 0 = omega (arith, c.loop-st-test.false) in
    let m = c.map.ensures.items in
    all_waits c.loop-st.st.tallies c.map.result
    (trace_in c.args.scripts.now c.args.count c.args.quantum c.args.choices.now c.args.limit)
    c.loop-st.invariant.fine.four m.long
    (λ i h. let w = m.at i new_tally 0 h in grind (arith, w.2))
    (λ i h. sym (ended (graphs_in c.args.scripts.now) c.args.quantum c.args.choices.now i c.loop-st.st z)
    ∙ c.loop-st.invariant.same i h)
