-- With all weights 1 a feed is that of counted words. Assumes nothing.
use mathlib.Core.Path.{◌≡◌, refl, sym, ap, ◌∙◌}
use mathlib.Core.Bool.{Bool, true, false, cond, not, ◌||◌, true≢false}
use Prim.Native.Nat.{ℕ, ◌+◌, ◌*◌, ◌≤◌, ◌<◌}
use native.Mathlib.Omega.{arith}
use lib.Dec.{ltb, leb, eqb}
use borrow.Author.Tests.{leb-false, ltb-true, ltb-false, lt-ltb, le-ltb}
use Rattle.common.proofs.Tests.{neither}
use Rattle.common.specs.Limits.{most_words, heaviest_weight}
use Rattle.sweep.specs.Steps.{unit_weight}
use Rattle.runs.specs.Script.{Script, graph_of, Sound}
use Rattle.runs.specs.Counted.{ones}
use Rattle.runs.proofs.Laws.{laws}
use Rattle.meter.specs.declared.step.Meter.{Meter}
use Rattle.meter.specs.Feed.{Scale, scale_of, is_begun, showing, moved_to, is_foreign, is_stray, feed_of}
use Rattle.meter.specs.Earlier.{earlier_meter, earlier_fed, counted_foreign, counted_stray, counted_move, counted_feed, EarlierFeed}

-- 255 times as much is no less
wider : (n last count : ℕ) (t : Bool) → cond t (leb n last || (eqb count 0 || ltb (last + 1) count)) (not (eqb last 0) || not (eqb count 0)) ≡ false
    → cond t (leb n last || (eqb count 0 || ltb (heaviest_weight * (last + 1)) count)) (not (eqb last 0) || not (eqb count 0)) ≡ false
wider n last count true h =
    let a : (leb n last ≡ false) × (eqb count 0 || ltb (last + 1) count ≡ false) = neither (leb n last) (eqb count 0 || ltb (last + 1) count) h in
    let b : (eqb count 0 ≡ false) × (ltb (last + 1) count ≡ false) = neither (eqb count 0) (ltb (last + 1) count) a.1 in
    simp (a.0, b.0, le-ltb (heaviest_weight * (last + 1)) count (omega (arith, ltb-false (last + 1) count b.1)))
wider n last count false h = h

let_through : (n : ℕ) (m : Meter) → counted_foreign n (earlier_meter m) ≡ false → m.count ≤ m.highest → is_foreign n m ≡ false
unfolding counted_foreign is_foreign
let_through n m h l = rw (le-ltb m.highest m.count l) (wider n m.last m.count (is_begun m) h)

-- what is let through anew
between : (n last count : ℕ) (t : Bool)
    → cond t (leb n last || (eqb count 0 || ltb (heaviest_weight * (last + 1)) count))
    (not (eqb last 0) || not (eqb count 0))
    ≡ false
    → cond t (leb n last || (eqb count 0 || ltb (last + 1) count)) (not (eqb last 0) || not (eqb count 0)) ≡ true
    → (t ≡ true) × (last < n) × (last + 1 < count) × (count ≤ heaviest_weight * (last + 1))
between n last count true h g =
    let a : (leb n last ≡ false) × (eqb count 0 || ltb (heaviest_weight * (last + 1)) count ≡ false) =
    neither (leb n last) (eqb count 0 || ltb (heaviest_weight * (last + 1)) count) h in
    let b : (eqb count 0 ≡ false) × (ltb (heaviest_weight * (last + 1)) count ≡ false) =
    neither (eqb count 0) (ltb (heaviest_weight * (last + 1)) count) a.1 in
    (refl, leb-false n last a.0, ltb-true (last + 1) count (rw (a.0, b.0) at g), ltb-false (heaviest_weight * (last + 1)) count b.1)
between n last count false h g = absurd (true≢false (sym g ∙ h))

let_anew : (n : ℕ) (m : Meter) → is_foreign n m ≡ false → counted_foreign n (earlier_meter m) ≡ true
    → (is_begun m ≡ true) × (m.last < n) × (m.last + 1 < m.count) × (m.count ≤ heaviest_weight * (m.last + 1))
unfolding counted_foreign is_foreign
let_anew n m h g = between n m.last m.count (is_begun m) (neither (ltb m.highest m.count) _ h).1 g

module _ (ws : Script) (steps : Sound ws) (m : Meter) (q : ℕ) where
  -- by any weights
  abbrev scaled : (ℕ → ℕ) → Scale
  scaled w = record { graph = graph_of ws; table = ones; weight = w }

  counted : earlier_meter (moved_to (scaled unit_weight) m q) ≡ counted_move (graph_of ws) (earlier_meter m) q
  unfolding moved_to counted_move showing
  counted = go (is_begun m) ((graph_of ws).serves m.last q) refl refl
    where
      go : (t u : Bool) → is_begun m ≡ t → (graph_of ws).serves m.last q ≡ u
          → earlier_meter (moved_to (scaled unit_weight) m q) ≡ counted_move (graph_of ws) (earlier_meter m) q
      go true true e d = rw (e, d)
      go true false e d = rw (e, d)
      go false u e d = rw e

  moves : earlier_meter (moved_to (scale_of ws ones) m q) ≡ counted_move (graph_of ws) (earlier_meter m) q
  moves = ap (λ (w : ℕ → ℕ). earlier_meter (moved_to (scaled w) m q)) (laws.ones_weigh ws steps) ∙ counted

  strays : is_stray (graph_of ws) m q ≡ counted_stray (graph_of ws) (earlier_meter m) q
  unfolding is_stray counted_stray
  strays = refl

  same_by : (t u : Bool) → ltb most_words ws.size ≡ t → counted_stray (graph_of ws) (earlier_meter m) q ≡ u → counted_foreign ws.size (earlier_meter m) ≡ false
      → m.count ≤ m.highest → earlier_fed (feed_of (scale_of ws ones) m q) ≡ counted_feed (graph_of ws) (earlier_meter m) q
  unfolding feed_of counted_feed
  same_by true u e d h l = rw e
  same_by false true e d h l = rw (e, laws.ones_accepted, let_through ws.size m h l, h, strays, d)
  same_by false false e d h l = rw (e, laws.ones_accepted, let_through ws.size m h l, h, strays, d) (rw moves)

  many : most_words < ws.size → earlier_fed (feed_of (scale_of ws ones) m q) ≡ counted_feed (graph_of ws) (earlier_meter m) q
  unfolding feed_of counted_feed
  many l = rw (lt-ltb most_words ws.size l)

  aside : (t : Bool) → counted_foreign ws.size (earlier_meter m) ≡ t → is_foreign ws.size m ≡ true → m.count ≤ m.highest → t ≡ true
  aside true e f l = refl
  aside false e f l = absurd (true≢false (sym f ∙ let_through ws.size m e l))

  pub earlier_feed : EarlierFeed ws m q
  earlier_feed =
      record {
        many = many;
        same = same_by (ltb most_words ws.size) (counted_stray (graph_of ws) (earlier_meter m) q) refl refl;
        aside = aside (counted_foreign ws.size (earlier_meter m)) refl;
        kept = let_anew ws.size m;
      }
