use Rattle.std.proofs.Common.{arith, ◌≡◌, ◌≤◌, ◌%◌, ℕ, get_or}
use lib.ListN.{length-set}
use lib.Seq.{get_or-set_same}
use Rattle.sweep.specs.Entries.{«TARGETS», «ENTRIES», KIND_TARGET}
use Rattle.sweep.specs.PassInvariants.{most_weight}
use Rattle.twice.specs.TwiceInvariants.{low_at}
use Rattle.twice.proofs.Keeping.{beyond_kept, beyond_under, above_under, keeps_cleared}
use Rattle.twice.proofs.Keeping.{keeps_ended, keeps_target, keeps_both, target-in}
use Rattle.twice.proofs.passes.keep_apart.Goals as goal

pub returns-then-kind-eq-KIND_NONE : goal.returns-then-kind-eq-KIND_NONE
returns-then-kind-eq-KIND_NONE c = keeps_ended _ _ _ _ _ _ c.requires.0.asks c.requires.1 c.requires.0.reached c.if-kind-eq-KIND_NONE.true

-- a word that has a step, and more than the next, has a target
far : (kind : ℕ) → (kind ≡ 0 → ⊥) → (kind ≡ 1 → ⊥) → KIND_TARGET ≤ kind
far kind a b = omega arith

pub beyond-x-requires : goal.beyond-x-requires
beyond-x-requires c =
    let k = c.requires.0.asks in
    let l = c.args.lengths.now in
    let t = target-in _ l c.args.p c.args.above _ c.args.weight k c.requires.1 (far _ c.if-kind-eq-KIND_NONE.false c.requires.0.apart) in
    (omega (arith, length-set l c.args.p 0, k.in_l), omega (arith, length-set l c.args.p 0, t), get_or-set_same l c.args.p 0 0 k.in_l)

pub overflow_add-lengths-then-kind-eq-KIND_TARGET : goal.overflow_add-lengths-then-kind-eq-KIND_TARGET
overflow_add-lengths-then-kind-eq-KIND_TARGET c =
    let l = c.args.lengths.now in
    let q = get_or l c.args.p 0 % «ENTRIES» % «TARGETS» in
    omega (arith, c.requires.1, beyond_kept l c.args.p q c.beyond-x.ensures, beyond_under l c.args.p (low_at l) most_weight c.requires.0.asks.low q)

pub returns-then-kind-eq-KIND_TARGET : goal.returns-then-kind-eq-KIND_TARGET
returns-then-kind-eq-KIND_TARGET c =
    keeps_cleared _ _ _ _ _
    (keeps_target _ _ _ _ _ _ c.requires.0.asks c.requires.1 c.requires.0.reached
    (far _ c.if-kind-eq-KIND_NONE.false c.requires.0.apart) _ (beyond_kept _ _ _ c.beyond-x.ensures) c.if-kind-eq-KIND_TARGET.true)

pub overflow_add-lengths-2 : goal.overflow_add-lengths-2
overflow_add-lengths-2 c =
    let l = c.args.lengths.now in
    let q = get_or l c.args.p 0 % «ENTRIES» % «TARGETS» in
    omega (
      arith,
      c.requires.1,
      beyond_kept l c.args.p q c.beyond-x.ensures,
      beyond_under l c.args.p (low_at l) most_weight c.requires.0.asks.low q,
      above_under _ l c.args.p c.args.above _ c.args.weight c.requires.0.asks c.requires.1,
    )

pub returns : goal.returns
returns c =
    keeps_cleared _ _ _ _ _
    (keeps_both _ _ _ _ _ _ c.requires.0.asks c.requires.1 c.requires.0.reached
    (far _ c.if-kind-eq-KIND_NONE.false c.requires.0.apart) _ (beyond_kept _ _ _ c.beyond-x.ensures) c.if-kind-eq-KIND_TARGET.false c.max.ensures)
