use Rattle.std.proofs.Common.{arith, ◌≡◌, sym, subst, ◌+◌, ◌-◌, ◌<◌, ℕ, List, Bool, true, false, cond}
use lib.ListN.{set}
use Rattle.std.specs.Prelude.{Option, Some}
use Rattle.common.specs.Limits.{heaviest_weight}
use Rattle.sweep.specs.PassInvariants.{weight_by, SameBut}
use Rattle.sweep.proofs.Measures.{Filling, filling_none, filling_asks, filling_more, filling_done, measures_at, light_by}
use Rattle.sweep.proofs.lengths.fill_lengths.Goals as goal

-- where words are left, the word before is the next
one_left : {w : ℕ → ℕ} {l₀ m l : List ℕ} {i a : ℕ} {v : Option ℕ} → 0 < i → Filling w l₀ m l i a v → Filling w l₀ m l (i - 1 + 1) a v
one_left {w} {l₀} {m} {l} {i} {a} {v} h f = subst (λ (x : ℕ). Filling w l₀ m l x a v) (omega arith) f

pub loop-i-init : goal.loop-i-init
loop-i-init c = filling_none _ _ _ c.requires.0

pub measure-m-requires : goal.measure-m-requires
measure-m-requires c =
    let f = one_left c.loop-i-test.true c.loop-i.invariant in
    (filling_asks _ heaviest_weight (light_by c.args.mask c.args.words.now _ c.type_inv.weights) _ _ _ _ _ _ f, c.weigh-weight.ensures.1)

-- after a turn: the word's length is stored, and the word is the lowest invalid one if it is invalid
turned : {w : ℕ → ℕ} {l₀ m : List ℕ} (l l' : List ℕ) {p x : ℕ} (v : Option ℕ) (bad b : Bool) → SameBut p l l' → bad ≡ b
    → Filling w l₀ m (set l p x) p x (cond bad (Some p) v) → Filling w l₀ m (set l' p x) p x (cond b (Some p) v)
turned {w} {l₀} {m} l l' {p} {x} v bad b s e f =
    subst (λ (y : List ℕ). Filling w l₀ m y p x (cond b (Some p) v)) (sym (s x)) (subst (λ (t : Bool). Filling w l₀ m (set l p x) p x (cond t (Some p) v)) e f)

pub loop-i-preserved-then-m : goal.loop-i-preserved-then-m
loop-i-preserved-then-m c =
    let w = weight_by c.args.mask c.args.words.now c.args.weights.now in
    let f = one_left c.loop-i-test.true c.loop-i.invariant in
    let n = measures_at w _ _ _ c.weigh-weight.ensures.0 c.measure-m.ensures.measures in
    turned _ _ _ _ true c.measure-m.ensures.same_but c.if-m.true
    (filling_more w heaviest_weight (light_by c.args.mask c.args.words.now _ c.type_inv.weights) _ _ _ _ _ _ f n)

pub loop-i-preserved : goal.loop-i-preserved
loop-i-preserved c =
    let w = weight_by c.args.mask c.args.words.now c.args.weights.now in
    let f = one_left c.loop-i-test.true c.loop-i.invariant in
    let n = measures_at w _ _ _ c.weigh-weight.ensures.0 c.measure-m.ensures.measures in
    turned _ _ _ _ false c.measure-m.ensures.same_but c.if-m.false
    (filling_more w heaviest_weight (light_by c.args.mask c.args.words.now _ c.type_inv.weights) _ _ _ _ _ _ f n)

pub returns : goal.returns
returns c = filling_done c.loop-i.invariant c.loop-i-test.false
