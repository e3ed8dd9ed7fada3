use Rattle.std.proofs.Common.{arith, ap, sym, subst, ◌∙◌, ◌+◌, ◌-◌, ◌<◌, ℕ, List, get_or}
use Rattle.sweep.specs.PassInvariants.{weight_by, at}
use Rattle.sweep.proofs.Measures.{light_by}
use Rattle.twice.specs.TwiceInvariants.{length_by, kept_in}
use Rattle.twice.proofs.Keeping.{Raising, raising_none, raising_asks, raising_more, raising_done}
use Rattle.twice.proofs.passes.raise_lengths.Goals as goal

-- where words are left, the word before is the next
one_left : {w : ℕ → ℕ} {es m l : List ℕ} {i a f : ℕ} → 0 < i → Raising w es m l i a f → Raising w es m l (i - 1 + 1) a f
one_left {w} {es} {m} {l} {i} {a} {f} h k = subst (λ (x : ℕ). Raising w es m l x a f) (omega arith) k

pub loop-i-init : goal.loop-i-init
loop-i-init c es kept = raising_none _ es _ _ kept

pub raise-v-requires : goal.raise-v-requires
raise-v-requires c =
    let k = one_left c.loop-i-test.true (c.loop-i.invariant c.requires.0.es c.requires.0.words) in
    (raising_asks _ (light_by c.args.mask c.args.words.now _ c.type_inv.weights) _ _ _ _ _ _ k, c.weigh-weight.ensures.1)

pub loop-i-preserved : goal.loop-i-preserved
loop-i-preserved c es kept =
    let w = weight_by c.args.mask c.args.words.now c.args.weights.now in
    let m = c.args.marks.now in
    let l = c.loop-i.lengths in
    let p = c.loop-i.i - 1 in
    let k = one_left c.loop-i-test.true (c.loop-i.invariant es kept) in
    subst (λ (x : List ℕ). Raising w es m x p c.raise-v.result c.loop-i.above) (sym (c.raise-v.ensures.same_but c.raise-v.result))
    (raising_more w (light_by c.args.mask c.args.words.now _ c.type_inv.weights) _ _ _ _ _ _ k
    (c.raise-v.ensures.value ∙ ap (λ (x : ℕ). length_by (at l) x (get_or m p 0) (kept_in m l p) p) c.weigh-weight.ensures.0))

pub returns : goal.returns
returns c es kept = raising_done (c.loop-i.invariant es kept) c.loop-i-test.false
