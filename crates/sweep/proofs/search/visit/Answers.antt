use Rattle.std.proofs.Common.{arith, ◌≡◌, refl, ◌<◌, ℕ, List, [], ◌∷◌, length}
use Rattle.sweep.specs.Entries.{entries, queue_of, graph_in}
use Rattle.sweep.specs.SearchInvariants.{VisitAsks}
use Rattle.sweep.proofs.Entries.{in_graph, none_in_graph, both_in_graph, entry_next, entry_target, entry_both}
use Rattle.sweep.proofs.Turn.{other_way, first_in, turned_none, turned_one, second_asks, first_long, turned_two}
use Rattle.sweep.proofs.Held.{push_asks_in}
use Rattle.sweep.proofs.search.visit.Goals as goal

-- a word's one step is marked in its place
in_marks : {m l : List ℕ} {p t a : ℕ} → VisitAsks m l p t → a ∷ [] ≡ (graph_in (entries l)).successors p → a < length m
in_marks {m} {l} {p} {t} v e = omega (arith, first_in (graph_in (entries l)) v.held.law m (queue_of l) p t v.room e, v.room.m_long)

pub reach-hand-requires : goal.reach-hand-requires
reach-hand-requires c = in_marks c.requires (in_graph _ _ (entry_next _ _ c.if-kind-eq-KIND_NEXT.true))

pub returns-then-kind-eq-KIND_NEXT : goal.returns-then-kind-eq-KIND_NEXT
returns-then-kind-eq-KIND_NEXT c =
    let v = c.requires in
    let e = in_graph c.args.lengths.now c.args.p (entry_next _ _ c.if-kind-eq-KIND_NEXT.true) in
    record { turned = turned_one _ v.held.law _ _ _ _ v.room e c.reach-hand.ensures; kept = refl }

pub returns-then-kind-eq-KIND_NONE : goal.returns-then-kind-eq-KIND_NONE
returns-then-kind-eq-KIND_NONE c =
    let v = c.requires in
    let e = none_in_graph c.args.lengths.now c.args.p c.if-kind-eq-KIND_NONE.true in
    record { turned = turned_none _ v.held.law _ _ _ _ v.room e; kept = refl }

pub reach-hand-requires-then-kind-eq-KIND_TARGET : goal.reach-hand-requires-then-kind-eq-KIND_TARGET
reach-hand-requires-then-kind-eq-KIND_TARGET c = in_marks c.requires (in_graph _ _ (entry_target _ _ c.if-kind-eq-KIND_TARGET.true))

pub returns-then-kind-eq-KIND_TARGET : goal.returns-then-kind-eq-KIND_TARGET
returns-then-kind-eq-KIND_TARGET c =
    let v = c.requires in
    let e = in_graph c.args.lengths.now c.args.p (entry_target _ _ c.if-kind-eq-KIND_TARGET.true) in
    record { turned = turned_one _ v.held.law _ _ _ _ v.room e c.reach-hand-then-kind-eq-KIND_TARGET.ensures; kept = refl }

pub push-tail-requires : goal.push-tail-requires
push-tail-requires c =
    let v = c.requires in
    let l = c.args.lengths.now in
    let e = other_way (both_in_graph l c.args.p (entry_both _ _ c.if-kind-eq-KIND_NONE.false c.if-kind-eq-KIND_NEXT.false c.if-kind-eq-KIND_TARGET.false)) in
    push_asks_in (second_asks _ v.held.law _ _ _ _ v.room e v.held.lent.few)

pub reach-hand-requires-2 : goal.reach-hand-requires-2
reach-hand-requires-2 c =
    let v = c.requires in
    let l = c.args.lengths.now in
    let e = other_way (both_in_graph l c.args.p (entry_both _ _ c.if-kind-eq-KIND_NONE.false c.if-kind-eq-KIND_NEXT.false c.if-kind-eq-KIND_TARGET.false)) in
    first_long _ v.held.law _ _ _ _ v.room e c.push-tail.ensures.queued

pub returns : goal.returns
returns c =
    let v = c.requires in
    let l = c.args.lengths.now in
    let e = other_way (both_in_graph l c.args.p (entry_both _ _ c.if-kind-eq-KIND_NONE.false c.if-kind-eq-KIND_NEXT.false c.if-kind-eq-KIND_TARGET.false)) in
    record { turned = turned_two _ v.held.law _ _ _ _ v.room e c.push-tail.ensures.queued c.reach-hand-2.ensures; kept = c.push-tail.ensures.kept }
