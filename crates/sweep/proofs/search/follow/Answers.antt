use Rattle.std.proofs.Common.{arith, ◌≡◌, sym, subst, ◌<◌, ℕ, List, length}
use Rattle.std.specs.Prelude.{Option, Some}
use Rattle.sweep.specs.Entries.{entries, queue_of, graph_in}
use Rattle.sweep.specs.SearchInvariants.{FollowAsks}
use Rattle.sweep.proofs.Entries.{queue_length}
use Rattle.sweep.proofs.Turn.{head_in}
use Rattle.sweep.proofs.Held.{FollowingIn, left_to_follow, visit_asks, following_in, fewer_in, following_first}
use Rattle.sweep.proofs.search.follow.Goals as goal

-- the queue's head has an element
in_queue : {m l : List ℕ} {h t : ℕ} → FollowAsks m l h t → h < length l
in_queue {m} {l} {h} {t} f = omega (arith, head_in (graph_in (entries l)) m (queue_of l) h t f.visiting, queue_length l)

-- a word is in hand
hand_is : {m₀ l₀ m l : List ℕ} {h p t : ℕ} {hand : Option ℕ} → hand ≡ Some p → FollowingIn m₀ l₀ h m l hand t → FollowingIn m₀ l₀ h m l (Some p) t
hand_is {m₀} {l₀} {m} {l} {h} {t = t} e f = subst (λ (x : Option ℕ). FollowingIn m₀ l₀ h m l x t) e f

pub offset_bounds-lengths-head : goal.offset_bounds-lengths-head
offset_bounds-lengths-head c = omega (arith, in_queue c.requires)

pub bounds-lengths-head : goal.bounds-lengths-head
bounds-lengths-head c = in_queue c.requires

pub loop-t-init : goal.loop-t-init
loop-t-init c = following_first _ _ _ _ c.requires.visiting

pub visit-t-requires : goal.visit-t-requires
visit-t-requires c = visit_asks _ _ _ c.requires.held (hand_is c.in-Some.is c.loop-t.invariant)

pub loop-t-preserved : goal.loop-t-preserved
loop-t-preserved c = following_in _ _ _ c.requires.held (hand_is c.in-Some.is c.loop-t.invariant) c.visit-t.ensures c.visit-t.auto.marks

pub loop-t-smaller : goal.loop-t-smaller
loop-t-smaller c =
    subst (λ (x : Option ℕ). left_to_follow c.args.lengths.now c.visit-t.new.marks c.visit-t.result.hand < left_to_follow c.args.lengths.now c.loop-t.marks x) (sym c.in-Some.is)
    (fewer_in _ _ _ c.requires.held (hand_is c.in-Some.is c.loop-t.invariant) c.visit-t.ensures c.visit-t.auto.marks)
