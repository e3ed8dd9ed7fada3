-- Every table between two gives a run between theirs: heavier words make no run lighter. Assumes nothing.
use mathlib.Core.Path.{◌≡◌, refl, sym, ◌∙◌}
use mathlib.Core.Bool.{Bool, true, false, ◌||◌}
use mathlib.Core.List.{List}
use Prim.Native.Nat.{ℕ, ◌≤◌, ◌<◌, zero-le}
use native.Mathlib.Nat.{le_refl}
use native.Mathlib.Omega.{arith}
use borrow.Author.Tests.{eq-eqb, ne_eqb, ltb-false}
use lib.Dec.{ltb, eqb}
use lib.ListN.{length, get_or}
use Rattle.common.specs.Limits.{most_words}
use Rattle.runs.specs.Weights.{weight_count, is_zero_at, lowest_zero, refuses_weights, weights_place}
use Rattle.common.specs.Chain.{refuse_if}
use Rattle.common.specs.Lowest.{lowest_from}
use Rattle.common.proofs.Lowest.{lowest_laws}
use Rattle.graph.specs.Longest.{longest, first}
use Rattle.graph.proofs.Monotone.{monotone}
use Rattle.std.specs.Prelude.{Err}
use Rattle.common.specs.declared.refusal.Refusal.TheVariants.{TooManyWords, ShortSlice, WeightsRefused}
use Rattle.runs.specs.Script.{Script, Sound, graph_of, weight_of}
use Rattle.runs.specs.Run.{accepted_run, number_of, place_of, longest_of, lowest_invalid, run_of}
use Rattle.ranges.specs.Range.{accepted_range, low_run, high_run, is_above, lowest_above, runs_of, refuses_range}
use Rattle.ranges.specs.Between.{Between, RunBetween, RangeEnds, TableRefused}
use Rattle.runs.proofs.Weights.{weight_laws}
use Rattle.ranges.proofs.BothTables.{not_above, Ranges, ranges-of, checks, run_checked, runs_checked}

-- 128 weights, none of which is 0
passes : (table : List ℕ) → length table ≡ weight_count → ((i : ℕ) → i < weight_count → 0 < get_or table i 0) → refuses_weights table ≡ false
unfolding refuses_weights lowest_zero
passes table e some =
    let n : weight_count ≡ lowest_from (is_zero_at table) 0 weight_count =
    lowest_laws.nowhere (is_zero_at table) weight_count (λ p h. ne_eqb (get_or table p 0) 0 (λ z. omega (arith, z, some p h))) in
    rw (eq-eqb (length table) weight_count e, ← n)

-- an answer's L lies between those of two others that are given or refused alike
agree : (x : ℕ) (p q s t : Bool) (l f l' f' v a : ℕ) → l ≤ v → v ≤ l'
    → let r = checks x p q s t (accepted_range l f l' f') in
    let u = checks x p q s t (accepted_run v a) in
    ((number_of u ≡ number_of (low_run r)) × (place_of u ≡ place_of (low_run r))) × ((longest_of (low_run r) ≤ longest_of u) × (longest_of u ≤ longest_of (high_run r)))
agree x true q s t l f l' f' v a h k = ((refl, refl), (zero-le, zero-le))
agree x false true s t l f l' f' v a h k = ((refl, refl), (zero-le, zero-le))
agree x false false true t l f l' f' v a h k = ((refl, refl), (zero-le, zero-le))
agree x false false false true l f l' f' v a h k = ((refl, refl), (zero-le, zero-le))
agree x false false false false l f l' f' v a h k = ((refl, refl), (h, k))

ends_of : (x : ℕ) (p q s t : Bool) (l f l' f' : ℕ)
    → let r = checks x p q s t (accepted_range l f l' f') in
    (checks x p q s t (accepted_run l f) ≡ low_run r) × (checks x p q s t (accepted_run l' f') ≡ high_run r)
ends_of x true q s t l f l' f' = (refl, refl)
ends_of x false true s t l f l' f' = (refl, refl)
ends_of x false false true t l f l' f' = (refl, refl)
ends_of x false false false true l f l' f' = (refl, refl)
ends_of x false false false false l f l' f' = (refl, refl)

module _ (ws : Script) (sound : Sound ws) (low high : List ℕ) (a b : ℕ) (r : Ranges low high) where
  ordered : (i : ℕ) → i < weight_count → get_or low i 0 ≤ get_or high i 0
  unfolding lowest_above
  ordered i h =
      let e = ltb-false (lowest_from (is_above low high) 0 weight_count) weight_count r.ordered in
      not_above (get_or low i 0) (get_or high i 0) ((lowest_laws.first (is_above low high) 0 weight_count).not_before i (omega arith) (omega (arith, e, h)))

  abbrev L : List ℕ → ℕ
  L table = longest (graph_of ws) (weight_of ws table)

  abbrev F : List ℕ → ℕ
  F table = first (graph_of ws) (weight_of ws table)

  -- heavier tables
  heavier : (t u : List ℕ) → ((i : ℕ) → i < weight_count → get_or t i 0 ≤ get_or u i 0) → L t ≤ L u
  heavier t u h = monotone.longest-run (graph_of ws) (weight_of ws t) (weight_of ws u) (λ p. h (ws.slot p) (sound.slots p))

  module _ (table : List ℕ) (k : Between low high table) where
    weighed : refuses_weights table ≡ false
    weighed = passes table k.count (λ i h. omega (arith, k.above_low i h, (weight_laws low r.low_weighs).each i h))

    alike : ((number_of (run_of ws table a b) ≡ number_of (low_run (runs_of ws low high a b)))
        × (place_of (run_of ws table a b) ≡ place_of (low_run (runs_of ws low high a b))))
        × ((longest_of (low_run (runs_of ws low high a b)) ≤ longest_of (run_of ws table a b))
        × (longest_of (run_of ws table a b) ≤ longest_of (high_run (runs_of ws low high a b))))
    alike =
        rw (runs_checked ws a b low high r, run_checked ws a b table weighed)
        (agree (lowest_invalid ws) (ltb most_words ws.size) (ltb a ws.size || ltb b ws.size) (eqb ws.size 0) (ltb (lowest_invalid ws) ws.size)
        (L low) (F low) (L high) (F high) (L table) (F table)
        (heavier low table k.above_low) (heavier table high k.below_high))

    between : RunBetween ws low high a b table
    between =
        let n = alike.0.0 in
        record {
          weighed = weighed;
          accepted = (λ e. sym n ∙ e, λ e. n ∙ e);
          number = n;
          place = alike.0.1;
          above_low = alike.1.0;
          below_high = alike.1.1;
        }

  reached : (run_of ws low a b ≡ low_run (runs_of ws low high a b)) × (run_of ws high a b ≡ high_run (runs_of ws low high a b))
  reached =
      rw (runs_checked ws a b low high r, run_checked ws a b low r.low_weighs, run_checked ws a b high r.high_weighs)
      (ends_of (lowest_invalid ws) (ltb most_words ws.size) (ltb a ws.size || ltb b ws.size) (eqb ws.size 0) (ltb (lowest_invalid ws) ws.size)
      (L low) (F low) (L high) (F high))

pub ends : (ws : Script) → Sound ws → (low high : List ℕ) (marks lengths : ℕ) → refuses_range low high ≡ false → RangeEnds ws low high marks lengths
ends ws sound low high a b e =
    let r = ranges-of low high e in
    let o = ordered ws sound low high a b r in
    let f = reached ws sound low high a b r in
    record {
      between = between ws sound low high a b r;
      low_between = record { count = (weight_laws low r.low_weighs).count; above_low = λ i h. le_refl (get_or low i 0); below_high = o };
      low_reached = f.0;
      high_between = record { count = (weight_laws high r.high_weighs).count; above_low = o; below_high = λ i h. le_refl (get_or high i 0) };
      high_reached = f.1;
    }

-- a table that is refused by itself
refused_early : (p q : Bool) (x : ℕ)
    → refuse_if p (Err TooManyWords) (refuse_if q (Err ShortSlice) (Err (WeightsRefused x)))
    ≡ low_run (refuse_if p (Err TooManyWords) (refuse_if q (Err ShortSlice) (Err (WeightsRefused x))))
refused_early true q x = refl
refused_early false true x = refl
refused_early false false x = refl

pub table_refused : (ws : Script) (low high : List ℕ) (marks lengths : ℕ) → TableRefused ws low high marks lengths
unfolding run_of runs_of
table_refused ws low high a b =
    record {
      low_first = λ e. rw e (refused_early (ltb most_words ws.size) (ltb a ws.size || ltb b ws.size) (weights_place low));
      high_next = λ e d. rw (e, d) (refused_early (ltb most_words ws.size) (ltb a ws.size || ltb b ws.size) (weights_place high));
    }
