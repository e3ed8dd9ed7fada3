use Rattle.std.proofs.Common.{ℕ, Option, subst}
use Rattle.blocks.proofs.Visiting.{Going, going_first, going_visited, going_less, going_more}
use Rattle.blocks.proofs.search.search.Goals as goal

pub loop-next-init : goal.loop-next-init
loop-next-init c = going_first c.args.words.now c.args.r c.requires.0.some c.requires.1 c.start.ensures

pub next_waiting-next-requires : goal.next_waiting-next-requires
next_waiting-next-requires c =
    let l = c.loop-next in
    let o = subst (λ (x : Option ℕ). Going c.args.words.now c.args.r c.args.limit l.unset l.waiting l.pages l.seen x) c.in-Some.is l.invariant in
    let u = going_visited c.args.words.now c.args.r c.requires.0.few o c.visit-seen.ensures in
    (c.requires.0.few, u.waiting_long, u.pages_same, u.paged)

pub loop-next-smaller : goal.loop-next-smaller
loop-next-smaller c =
    let l = c.loop-next in
    let o = subst (λ (x : Option ℕ). Going c.args.words.now c.args.r c.args.limit l.unset l.waiting l.pages l.seen x) c.in-Some.is l.invariant in
    going_less c.args.words.now c.args.r c.requires.0.few o c.visit-seen.ensures

pub loop-next-preserved : goal.loop-next-preserved
loop-next-preserved c =
    let l = c.loop-next in
    let o = subst (λ (x : Option ℕ). Going c.args.words.now c.args.r c.args.limit l.unset l.waiting l.pages l.seen x) c.in-Some.is l.invariant in
    let e = c.next_waiting-next.ensures in
    going_more c.args.words.now c.args.r c.requires.0.few o c.visit-seen.ensures e.looks.pages_same e.looks.paged e.next
