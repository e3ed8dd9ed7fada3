use Rattle.std.proofs.Common.{sym, arith, ◌∙◌, lt-ltb, le-ltb}
use Rattle.std.proofs.lemmas.Result.{err_from_is_err_and}
use Rattle.runs.specs.Script.{script_of, graph_of}
use Rattle.meter.specs.Feed.{feed_of}
use Rattle.meter.proofs.Checks.{count_small, fed_inside, weighed, unweighed}
use Rattle.meter.proofs.step.feed_step.Goals as goal

pub returns-then-words-gt-MOST_WORDS : goal.returns-then-words-gt-MOST_WORDS
unfolding feed_of
returns-then-words-gt-MOST_WORDS c = rw (lt-ltb _ _ c.if-words-gt-MOST_WORDS.true)

pub returns-in_err-check_weights : goal.returns-in_err-check_weights
unfolding feed_of
returns-in_err-check_weights c =
    let p = err_from_is_err_and c.from_residual.result c.from_residual.ensures.1 in
    let w = unweighed _ c.in_err-check_weights.ensures in
    rw (p.1, p.2, le-ltb _ _ c.if-words-gt-MOST_WORDS.false, w.0, w.1)

pub returns-then-is_foreign : goal.returns-then-is_foreign
unfolding feed_of
returns-then-is_foreign c =
    rw (
      le-ltb _ _ c.if-words-gt-MOST_WORDS.false,
      weighed _ c.in_ok-check_weights.ensures,
      ← c.is_foreign.ensures,
      c.if-is_foreign.true,
    )

pub returns-then-is_stray : goal.returns-then-is_stray
unfolding feed_of
returns-then-is_stray c =
    rw (
      le-ltb _ _ c.if-words-gt-MOST_WORDS.false,
      weighed _ c.in_ok-check_weights.ensures,
      ← c.is_foreign.ensures,
      c.if-is_foreign.false,
      ← c.is_stray.ensures,
      c.if-is_stray.true,
    )

pub moved-requires : goal.moved-requires
moved-requires c =
    let inside =
    fed_inside (graph_of (script_of c.args.version c.args.words.now)) _ _
    (sym c.is_stray.ensures ∙ c.if-is_stray.false)
    in (
      omega arith,
      count_small _ c.args.m (sym c.is_foreign.ensures ∙ c.if-is_foreign.false) c.if-words-gt-MOST_WORDS.false,
    )

pub returns : goal.returns
unfolding feed_of
returns c =
    rw (
      le-ltb _ _ c.if-words-gt-MOST_WORDS.false,
      weighed _ c.in_ok-check_weights.ensures,
      ← c.is_foreign.ensures,
      c.if-is_foreign.false,
      ← c.is_stray.ensures,
      c.if-is_stray.false,
      c.moved.ensures,
    )
