use Rattle.std.proofs.Common.{arith, ◌%◌, get_or}
use lib.ListN.{length-set}
use lib.Seq.{get_or-set_same, set-set}
use Rattle.sweep.specs.Entries.{«TARGETS»}
use Rattle.sweep.specs.PassInvariants.{most_weight, at}
use Rattle.twice.specs.TwiceInvariants.{kept_entry}
use Rattle.twice.proofs.Keeping.{beyond_raised, beyond_under, raised_under, raised_target_in}
use Rattle.twice.proofs.Keeping.{rises_next, rises_skip, rises_target, rises_both}
use Rattle.twice.proofs.passes.raise.Goals as goal

pub returns-then-byte-eq-KEPT_NEXT-clause-value : goal.returns-then-byte-eq-KEPT_NEXT-clause-value
returns-then-byte-eq-KEPT_NEXT-clause-value c = rises_next _ _ _ _ _ _ c.requires.0 c.if-byte-eq-KEPT_NEXT.true

pub returns-then-byte-ge-KEPT_SKIP-clause-value : goal.returns-then-byte-ge-KEPT_SKIP-clause-value
returns-then-byte-ge-KEPT_SKIP-clause-value c =
    rises_skip _ _ _ _ _ _ c.requires.0 c.if-byte-ge-KEPT_SKIP.true c.if-byte-lt-KEPT_TARGET.true c.max.ensures

pub beyond-x-requires : goal.beyond-x-requires
beyond-x-requires c =
    let k = c.requires.0 in
    let l = c.args.lengths.now in
    let t = raised_target_in _ l c.args.p _ _ c.args.weight k c.if-byte-lt-KEPT_TARGET.false in
    (omega (arith, length-set l c.args.p 0, k.in_l), omega (arith, length-set l c.args.p 0, t), get_or-set_same l c.args.p 0 0 k.in_l)

pub overflow_add-result-then-byte-lt-KEPT_BOTH : goal.overflow_add-result-then-byte-lt-KEPT_BOTH
overflow_add-result-then-byte-lt-KEPT_BOTH c =
    let l = c.args.lengths.now in
    let q = kept_entry (get_or c.args.marks.now c.args.p 0) (get_or l c.args.p 0) % «TARGETS» in
    omega (arith, c.requires.1, beyond_raised l c.args.p q c.beyond-x.ensures, beyond_under l c.args.p (at l) most_weight c.requires.0.low q)

pub returns-then-byte-lt-KEPT_BOTH-clause-value : goal.returns-then-byte-lt-KEPT_BOTH-clause-value
returns-then-byte-lt-KEPT_BOTH-clause-value c =
    rises_target _ _ _ _ _ _ c.requires.0 c.if-byte-lt-KEPT_TARGET.false (beyond_raised _ _ _ c.beyond-x.ensures) c.if-byte-lt-KEPT_BOTH.true

pub returns-then-byte-lt-KEPT_BOTH-clause-same_but : goal.returns-then-byte-lt-KEPT_BOTH-clause-same_but
returns-then-byte-lt-KEPT_BOTH-clause-same_but c v = set-set c.args.lengths.now c.args.p 0 v

pub overflow_add-result-2 : goal.overflow_add-result-2
overflow_add-result-2 c =
    let l = c.args.lengths.now in
    let q = kept_entry (get_or c.args.marks.now c.args.p 0) (get_or l c.args.p 0) % «TARGETS» in
    omega (
      arith,
      c.requires.1,
      beyond_raised l c.args.p q c.beyond-x.ensures,
      beyond_under l c.args.p (at l) most_weight c.requires.0.low q,
      raised_under _ l c.args.p c.args.above _ c.args.weight c.requires.0,
    )

pub returns-clause-value : goal.returns-clause-value
returns-clause-value c =
    rises_both _ _ _ _ _ _ c.requires.0 c.if-byte-lt-KEPT_TARGET.false (beyond_raised _ _ _ c.beyond-x.ensures) c.if-byte-lt-KEPT_BOTH.false c.max-2.ensures

pub returns-clause-same_but : goal.returns-clause-same_but
returns-clause-same_but c v = set-set c.args.lengths.now c.args.p 0 v
