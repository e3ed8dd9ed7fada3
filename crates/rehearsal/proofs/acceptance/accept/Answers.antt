use Rattle.std.proofs.Common.{◌≡◌, ◌<◌, ap, take, arith, length, length-take-le, get_or-take}
use Rattle.std.proofs.lemmas.Result.{err_from_is_err_and}
use Rattle.rehearsal.proofs.Accepting.{tries_on, refused_at, all_tried}
use Rattle.rehearsal.proofs.acceptance.accept.Goals as goal

pub returns-in_err-try_script : goal.returns-in_err-try_script
returns-in_err-try_script c =
    let h : c.loop-words.words-index < c.args.count = omega (arith, c.loop-words-test.true) in
    let p = err_from_is_err_and c.from_residual.result c.from_residual.ensures.1 in
    rw (p.1, p.2) (refused_at c.args.scripts.now c.args.count c.requires c.args.marks.now c.args.lengths.now c.loop-words.words-index _ _ _ h
    (tries_on c.args.scripts.now c.args.count c.requires c.args.marks.now c.args.lengths.now c.loop-words.words-index _ _ _ _ h c.loop-words.invariant
    (ap (λ b. b.now) (get_or-take c.args.count c.args.scripts.now c.loop-words.words-index _ h)) c.in_err-try_script.ensures))

pub loop-words-preserved : goal.loop-words-preserved
loop-words-preserved c =
    let h : c.loop-words.words-index < c.args.count = omega (arith, c.loop-words-test.true) in
    tries_on c.args.scripts.now c.args.count c.requires c.args.marks.now c.args.lengths.now c.loop-words.words-index _ _ _ _ h c.loop-words.invariant
    (ap (λ b. b.now) (get_or-take c.args.count c.args.scripts.now c.loop-words.words-index _ h)) c.in_ok-try_script.ensures

pub returns : goal.returns
returns c =
    let t : length (take c.args.count c.args.scripts.now) ≡ c.args.count =
    length-take-le c.args.count c.args.scripts.now (omega (arith, c.told-scripts)) in
    all_tried c.args.scripts.now c.args.count c.requires c.args.marks.now c.args.lengths.now c.loop-words.words-index _ _
    (omega (arith, c.loop-words-test.false)) (omega (arith, c.loop-words.auto.words-index-end)) c.loop-words.invariant
