use Rattle.std.proofs.Common.{◌≡◌, sym, ◌∙◌, arith, ap}
use Rattle.runs.specs.Script.{lua54, graph_of}
use Rattle.rehearsal.specs.declared.machine.Turn.TheVariants.{Over}
use Rattle.rehearsal.proofs.Turns.{turn_returns, turn_starves, turn_serves, turn_goes, turn_done}
use Rattle.rehearsal.proofs.turn.turn.Goals as goal

pub returns-in-Return : goal.returns-in-Return
returns-in-Return c =
    sym (turn_returns (graph_of (lua54 c.args.words.now)) c.args.choices.now c.args.room c.loop-ran.p c.loop-ran.taken
    c.loop-ran.ran c.loop-ran-test.true c.in-Return.ensures) ∙ c.loop-ran.invariant

pub returns-in-Starve : goal.returns-in-Starve
returns-in-Starve c =
    sym (turn_starves (graph_of (lua54 c.args.words.now)) c.args.choices.now c.args.room c.loop-ran.p c.loop-ran.taken
    c.loop-ran.ran c.loop-ran-test.true c.in-Starve.ensures) ∙ c.loop-ran.invariant

pub returns-then-serves : goal.returns-then-serves
returns-then-serves c =
    sym (turn_serves (graph_of (lua54 c.args.words.now)) c.args.choices.now c.args.room c.loop-ran.p c.loop-ran.taken
    c.loop-ran.ran c.loop-ran-test.true c.in-Go.to c.in-Go.next c.in-Go.ensures (sym c.if-serves.ensures))
    ∙ c.loop-ran.invariant

pub loop-ran-preserved : goal.loop-ran-preserved
loop-ran-preserved c =
    sym (turn_goes (graph_of (lua54 c.args.words.now)) c.args.choices.now c.args.room c.loop-ran.p c.loop-ran.taken
    c.loop-ran.ran c.loop-ran-test.true c.in-Go.to c.in-Go.next c.in-Go.ensures (sym c.if-serves.ensures))
    ∙ c.loop-ran.invariant

pub returns : goal.returns
returns c =
    let a = c.loop-ran.auto.ran-end in
    let e : c.args.room ≡ c.loop-ran.ran = omega (arith, c.loop-ran-test.false) in
    ap (λ n. Over n c.loop-ran.p c.loop-ran.taken) e
    ∙ (sym (turn_done (graph_of (lua54 c.args.words.now)) c.args.choices.now c.args.room c.loop-ran.p c.loop-ran.taken
    c.loop-ran.ran c.loop-ran-test.false) ∙ c.loop-ran.invariant)
