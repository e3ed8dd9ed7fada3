use Rattle.std.proofs.Common.{arith, ◌≡◌, refl, sym, ap, ◌∙◌, ◌/◌, ◌%◌, ℕ, List, get_or}
use lib.ListN.{set, length-set}
use lib.Seq.{get_or-set_same, set-set}
use borrow.Author.Tests.{eq-eqb, ne_eqb}
use mathlib.Core.Logic.{⊎_elim}
use mathlib.Core.Bool.{not}
use lib.Dec.{eqb}
use Rattle.common.proofs.Order.{same_or_not}
use Rattle.graph.specs.Longest.{best}
use Rattle.sweep.specs.Steps.{is_invalid}
use Rattle.sweep.specs.Entries.{«TARGETS», «ENTRIES», «RETURNS», entry_at, graph_in}
use Rattle.sweep.specs.PassInvariants.{most_weight, at}
use Rattle.sweep.proofs.Entries.{entry_next, entry_target, entry_stop, entry_invalid, entry_none, entry_both}
use Rattle.sweep.proofs.Measures.{beyond_of, beyond_cleared, measures_by, above_low, beyond_low, next_best, both_best, both_valid, target-in}
use Rattle.sweep.proofs.lengths.measure.Goals as goal

pub returns-then-kind-eq-KIND_NEXT-clause-measures : goal.returns-then-kind-eq-KIND_NEXT-clause-measures
returns-then-kind-eq-KIND_NEXT-clause-measures c =
    measures_by _ _ _ c.if-marks-p-eq0.false (entry_next _ _ c.if-kind-eq-KIND_NEXT.true) _ (omega (arith, next_best _ _ _ most_weight _ c.requires.0)) refl

-- a word with no step is invalid if it does not return
unstepped : (e p : ℕ) → e / «TARGETS» ≡ 0 → not (eqb (e % «TARGETS») «RETURNS») ≡ is_invalid (entry_at e p)
unstepped e p k =
    ⊎_elim
    (λ r. ap not (eq-eqb _ _ r) ∙ sym (ap is_invalid (entry_stop e p k r)))
    (λ n. ap not (ne_eqb _ _ n) ∙ sym (ap is_invalid (entry_invalid e p k n)))
    (same_or_not (e % «TARGETS») «RETURNS»)

pub returns-then-kind-eq-KIND_NONE-clause-measures : goal.returns-then-kind-eq-KIND_NONE-clause-measures
returns-then-kind-eq-KIND_NONE-clause-measures c =
    let l = c.args.lengths.now in
    let p = c.args.p in
    let none = ap (best (graph_in l) p (at l)) (entry_none (get_or l p 0 % «ENTRIES») p c.if-kind-eq-KIND_NONE.true) in
    measures_by _ _ _ c.if-marks-p-eq0.false refl _ (omega (arith, none)) (unstepped (get_or l p 0 % «ENTRIES») p c.if-kind-eq-KIND_NONE.true)

pub beyond-x-requires : goal.beyond-x-requires
beyond-x-requires c =
    let k = c.requires.0 in
    let l = c.args.lengths.now in
    let t = target-in _ _ _ most_weight c.args.above k c.if-kind-eq-KIND_NONE.false c.if-kind-eq-KIND_NEXT.false in
    (omega (arith, length-set l c.args.p 0, k.in_l), omega (arith, length-set l c.args.p 0, t), get_or-set_same l c.args.p 0 0 k.in_l)

-- what the edge to the target adds, where the word's own place is cleared
added : (l : List ℕ) (p q : ℕ) {x : ℕ} → x ≡ beyond_of (set l p 0) p q → x ≡ beyond_of l p q
added l p q e = e ∙ beyond_cleared l p q 0

pub overflow_add-result-then-kind-eq-KIND_TARGET : goal.overflow_add-result-then-kind-eq-KIND_TARGET
overflow_add-result-then-kind-eq-KIND_TARGET c =
    let x = added c.args.lengths.now c.args.p (get_or c.args.lengths.now c.args.p 0 % «ENTRIES» % «TARGETS») c.beyond-x.ensures in
    omega (arith, x, beyond_low _ c.args.lengths.now c.args.p most_weight c.args.above c.requires.0 (get_or c.args.lengths.now c.args.p 0 % «ENTRIES» % «TARGETS»))

pub returns-then-kind-eq-KIND_TARGET-clause-measures : goal.returns-then-kind-eq-KIND_TARGET-clause-measures
returns-then-kind-eq-KIND_TARGET-clause-measures c =
    let x = added c.args.lengths.now c.args.p (get_or c.args.lengths.now c.args.p 0 % «ENTRIES» % «TARGETS») c.beyond-x.ensures in
    measures_by _ _ _ c.if-marks-p-eq0.false (entry_target _ _ c.if-kind-eq-KIND_TARGET.true) _ (omega (arith, x)) refl

pub returns-then-kind-eq-KIND_TARGET-clause-same_but : goal.returns-then-kind-eq-KIND_TARGET-clause-same_but
returns-then-kind-eq-KIND_TARGET-clause-same_but c v = set-set c.args.lengths.now c.args.p 0 v

pub overflow_add-result-2 : goal.overflow_add-result-2
overflow_add-result-2 c =
    let x = added c.args.lengths.now c.args.p (get_or c.args.lengths.now c.args.p 0 % «ENTRIES» % «TARGETS») c.beyond-x.ensures in
    omega (
      arith,
      x,
      above_low _ c.args.lengths.now c.args.p most_weight c.args.above c.requires.0,
      beyond_low _ c.args.lengths.now c.args.p most_weight c.args.above c.requires.0
          (get_or c.args.lengths.now c.args.p 0 % «ENTRIES» % «TARGETS»),
    )

pub returns-clause-measures : goal.returns-clause-measures
returns-clause-measures c =
    let x = added c.args.lengths.now c.args.p (get_or c.args.lengths.now c.args.p 0 % «ENTRIES» % «TARGETS») c.beyond-x.ensures in
    measures_by _ _ _ c.if-marks-p-eq0.false
    (entry_both _ _ c.if-kind-eq-KIND_NONE.false c.if-kind-eq-KIND_NEXT.false c.if-kind-eq-KIND_TARGET.false) _
    (omega (arith, both_best _ _ _ most_weight _ c.requires.0 _ _ x)) (both_valid _ _)

pub returns-clause-same_but : goal.returns-clause-same_but
returns-clause-same_but c v = set-set c.args.lengths.now c.args.p 0 v
