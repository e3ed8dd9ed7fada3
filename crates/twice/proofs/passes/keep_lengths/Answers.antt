use Rattle.std.proofs.Common.{arith, ◌≡◌, subst, ◌+◌, ◌-◌, ◌<◌, ℕ, List, Bool, true, false, cond}
use Rattle.std.specs.Prelude.{Option, Some}
use Rattle.sweep.proofs.Measures.{light_by}
use Rattle.twice.proofs.Keeping.{Keeping, keeping_none, keeping_asks, keeping_more, keeping_done, keeps_at}
use Rattle.twice.proofs.passes.keep_lengths.Goals as goal

-- where words are left, the word before is the next
one_left : {w : ℕ → ℕ} {es m l : List ℕ} {i a f : ℕ} {v : Option ℕ} → 0 < i → Keeping w es m l i a f v → Keeping w es m l (i - 1 + 1) a f v
one_left {w} {es} {m} {l} {i} {a} {f} {v} h k = subst (λ (x : ℕ). Keeping w es m l x a f v) (omega arith) k

pub loop-i-init : goal.loop-i-init
loop-i-init c = keeping_none _ _ _ c.requires.0

pub keep-k-requires : goal.keep-k-requires
keep-k-requires c =
    let k = one_left c.loop-i-test.true c.loop-i.invariant in
    (keeping_asks _ (light_by c.args.mask c.args.words.now _ c.type_inv.weights) _ _ _ _ _ _ _ k, c.weigh-weight.ensures.1)

-- after a turn: the word is the lowest invalid one if it is invalid
turned : {w : ℕ → ℕ} {es m l : List ℕ} {p a f : ℕ} (v : Option ℕ) (bad b : Bool) → bad ≡ b
    → Keeping w es m l p a f (cond bad (Some p) v) → Keeping w es m l p a f (cond b (Some p) v)
turned {w} {es} {m} {l} {p} {a} {f} v bad b e k = subst (λ (t : Bool). Keeping w es m l p a f (cond t (Some p) v)) e k

pub loop-i-preserved-then-k : goal.loop-i-preserved-then-k
loop-i-preserved-then-k c =
    let k = one_left c.loop-i-test.true c.loop-i.invariant in
    turned _ _ true c.if-k.true
    (keeping_more _ (light_by c.args.mask c.args.words.now _ c.type_inv.weights) _ _ _ _ _ _ _ k
    (keeps_at _ _ _ _ c.weigh-weight.ensures.0 c.keep-k.ensures))

pub loop-i-preserved : goal.loop-i-preserved
loop-i-preserved c =
    let k = one_left c.loop-i-test.true c.loop-i.invariant in
    turned _ _ false c.if-k.false
    (keeping_more _ (light_by c.args.mask c.args.words.now _ c.type_inv.weights) _ _ _ _ _ _ _ k
    (keeps_at _ _ _ _ c.weigh-weight.ensures.0 c.keep-k.ensures))

pub returns : goal.returns
returns c = keeping_done _ c.loop-i.invariant c.loop-i-test.false
