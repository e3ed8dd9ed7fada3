-- Which check of two tables answers where, and what the slices then hold. Assumes nothing.
use mathlib.Core.Path.{◌≡◌, refl, sym, ap, ap₂, subst, ◌∙◌}
use mathlib.Core.Logic.{⊎_elim}
use mathlib.Core.Bool.{Bool, true, false, cond, ◌||◌, or-true, true≢false, false≢true}
use mathlib.Core.List.{List, ◌++◌}
use Prim.Native.Nat.{ℕ, ◌+◌, ◌≤◌, ◌<◌, min}
use native.Mathlib.Omega.{arith}
use borrow.Author.Tests.{lt-ltb, le-ltb, eqb-true, eqb-false}
use lib.Dec.{ltb, eqb}
use lib.ListN.{length, get_or, drop}
use Rattle.common.specs.Limits.{most_words}
use Rattle.runs.specs.Weights.{weight_count, refuses_weights, weights_place, weights_answer}
use Rattle.std.proofs.Math.Bool.{or-false}
use Rattle.std.proofs.lemmas.Bool.Decides.{nat_tests}
use Rattle.std.specs.Prelude.{Result, Ok, Err, ⊤, Option, Some, None}
use Rattle.std.specs.List.{position, position_or_len, zip}
use Rattle.std.proofs.lemmas.Slice.Zip.{length-zip, get_or-zip}
use Rattle.common.specs.Chain.{refuse_if, room_answer}
use Rattle.common.specs.Refusals.{refusal_number}
use Rattle.common.specs.Lowest.{lowest_from}
use Rattle.common.specs.declared.refusal.Refusal.{Refusal}
use Rattle.common.specs.declared.refusal.Refusal.TheVariants.{TooManyWords, ShortSlice, NoWords, ReachesInvalid, WeightsRefused, LowAboveHigh}
use Rattle.common.proofs.Lowest.{lowest_laws, first_item}
use Rattle.common.proofs.Order.{split, same_or_not}
use Rattle.common.proofs.Refusing.{either_short, room_err}
use Rattle.graph.specs.Longest.{longest, first}
use Rattle.runs.specs.Script.{Script, graph_of, weight_of}
use Rattle.runs.specs.Run.{Run, accepted_run, lowest_invalid, run_of, untouched}
use Rattle.ranges.specs.Range.{RunRange, accepted_range, both_of, exceeds, is_above, lowest_above, range_answer, runs_of, refuses_range, marks_after_both, lengths_after_both}
use Rattle.runs.specs.Outcome.{decided, Decided}
use Rattle.ranges.specs.Outcome.{DecidedBoth}
use Rattle.runs.proofs.Weights.{Zeros, zeros_none, zeros_here, zeros_on, zeros_done, refuses_count, refuses_zero, weight_laws}
use Rattle.runs.proofs.Outcome.{run_many, run_short, run_none, run_words, weighed_err, weighed_ok, outcome_kept, outcome_words}

-- a weight that is not above its high one
pub not_above : (low high : ℕ) → exceeds (low, high) ≡ false → low ≤ high
not_above low high e = grind (arith, nat_tests)

-- tables that 18 and 19 let through
pub record Ranges (low high : List ℕ) : Type 0 where
  pub low_weighs : refuses_weights low ≡ false
  pub high_weighs : refuses_weights high ≡ false
  pub ordered : ltb (lowest_above low high) weight_count ≡ false

pub ranges-of : (low high : List ℕ) → refuses_range low high ≡ false → Ranges low high
ranges-of low high e =
    let g = go (refuses_weights low) (refuses_weights high) (ltb (lowest_above low high) weight_count) e in
    record { low_weighs = g.0; high_weighs = g.1.0; ordered = g.1.1 }
  where
    go : (t u v : Bool) → t || (u || v) ≡ false → (t ≡ false) × ((u ≡ false) × (v ≡ false))
    go true u v e = absurd (true≢false e)
    go false true v e = absurd (true≢false e)
    go false false v e = (refl, (refl, e))

-- one of the first i low weights is above its high one
pub record Aboves (low high : List ℕ) (i : ℕ) (above : Bool) : Type 0 where
  pub upto : i ≤ weight_count
  pub found : above ≡ true → (p : ℕ) × (p < i) × (is_above low high p ≡ true)
  pub none : above ≡ false → (p : ℕ) → p < i → is_above low high p ≡ false

module _ (low high : List ℕ) where
  pub aboves_none : Aboves low high 0 false
  aboves_none = record { upto = omega arith; found = λ e. absurd (false≢true e); none = λ e p h. absurd (omega arith) }

  module _ {i : ℕ} {above : Bool} (a : Aboves low high i above) (h : i < weight_count) where
    pub aboves_here : is_above low high i ≡ true → Aboves low high (i + 1) true
    aboves_here d = record { upto = omega arith; found = λ t. (i, omega arith, d); none = λ t. absurd (true≢false t) }

    pub aboves_on : is_above low high i ≡ false → Aboves low high (i + 1) above
    aboves_on d =
        record {
          upto = omega arith;
          found = λ t. let f = a.found t in (f.0, omega (arith, f.1), f.2);
          none = λ t p l. ⊎_elim (λ e. ap (is_above low high) e ∙ d) (λ e. a.none t p (omega (arith, l, e))) (same_or_not p i);
        }

  pub aboves_done : {i : ℕ} {above : Bool} → Aboves low high i above → weight_count ≤ i → above ≡ ltb (lowest_above low high) weight_count
  unfolding lowest_above
  aboves_done {i} {above} a h = go above refl
    where
      go : (b : Bool) → above ≡ b → b ≡ ltb (lowest_from (is_above low high) 0 weight_count) weight_count
      go true e =
          let f = a.found e in
          ⊎_elim
          (λ d. absurd (true≢false (sym f.2 ∙ (lowest_laws.first (is_above low high) 0
          weight_count).not_before f.0 (omega arith) (omega (arith, d, f.1, a.upto)))))
          (λ d. sym (lt-ltb _ _ d))
          (split weight_count (lowest_from (is_above low high) 0 weight_count))
      go false e =
          ⊎_elim
          (λ d. sym (le-ltb _ _ d))
          (λ d. absurd (true≢false
          (sym ((lowest_laws.first (is_above low high) 0 weight_count).holds (omega (arith, d)))
          ∙ a.none e (lowest_from (is_above low high) 0 weight_count) (omega (arith, d, h)))))
          (split weight_count (lowest_from (is_above low high) 0 weight_count))

-- one of the first i low weights is 0, or above its high one
pub record Refusing (low high : List ℕ) (i : ℕ) (refused : Bool) : Type 0 where
  pub zero : Bool
  pub above : Bool
  pub zeros : Zeros low i zero
  pub aboves : Aboves low high i above
  pub either : refused ≡ zero || above

module _ (low high : List ℕ) where
  pub refusing_none : Refusing low high 0 false
  refusing_none = record { zero = false; above = false; zeros = zeros_none low; aboves = aboves_none low high; either = refl }

  module _ {i : ℕ} {refused : Bool} (r : Refusing low high i refused) (h : i < weight_count) where
    zeros_next : (z : Bool) → eqb (get_or low i 0) 0 ≡ z → Zeros low (i + 1) (r.zero || z)
    zeros_next true e = rw (or-true r.zero) (zeros_here low r.zeros h (eqb-true _ _ e))
    zeros_next false e = rw (or-false r.zero) (zeros_on low r.zeros h (eqb-false _ _ e))

    aboves_next : (a : Bool) → is_above low high i ≡ a → Aboves low high (i + 1) (r.above || a)
    aboves_next true e = rw (or-true r.above) (aboves_here low high r.aboves h e)
    aboves_next false e = rw (or-false r.above) (aboves_on low high r.aboves h e)

    pub refusing_next : Refusing low high (i + 1) (refused || (eqb (get_or low i 0) 0 || is_above low high i))
    refusing_next =
        record {
          zero = r.zero || eqb (get_or low i 0) 0;
          above = r.above || is_above low high i;
          zeros = zeros_next (eqb (get_or low i 0) 0) refl;
          aboves = aboves_next (is_above low high i) refl;
          either = rw r.either (four r.zero r.above (eqb (get_or low i 0) 0) (is_above low high i));
        }
      where
        four : (a b c d : Bool) → (a || b) || (c || d) ≡ (a || c) || (b || d)
        four true b c d = refl
        four false true true d = refl
        four false true false d = refl
        four false false c d = refl

  -- no low weight is 0, and none above its high one: no high weight is 0
  zeros_high : {i : ℕ} → Zeros low i false → Aboves low high i false → Zeros high i false
  zeros_high z a =
      record {
        upto = z.upto;
        found = λ e. absurd (false≢true e);
        none = λ e p h q. z.none refl p h (omega (arith, q, not_above (get_or low p 0) (get_or high p 0) (a.none refl p h)));
      }

  pub refusing_done : {i : ℕ} {refused : Bool} → Refusing low high i refused → weight_count ≤ i → length low ≡ weight_count → length high ≡ weight_count → refused ≡ refuses_range low high
  refusing_done {i} {refused} r h m n = r.either ∙ go r.zero r.above r.zeros r.aboves
    where
      go : (z a : Bool) → Zeros low i z → Aboves low high i a → z || a ≡ refuses_range low high
      go true a zs as' = rw (← refuses_zero low m (zeros_done low zs h)) refl
      go false true zs as' = rw (← refuses_zero low m (zeros_done low zs h), ← aboves_done low high as' h) (sym (or-true (refuses_weights high)))
      go false false zs as' =
          rw (← refuses_zero low m (zeros_done low zs h), ← refuses_zero high n (zeros_done high (zeros_high zs as') h), ← aboves_done low high as' h) refl

-- a table of another count
module _ (low high : List ℕ) where
  pub refusing_low : (length low ≡ weight_count → ⊥) → true ≡ refuses_range low high
  refusing_low n = rw (← refuses_count low n) refl

  pub refusing_high : (length high ≡ weight_count → ⊥) → true ≡ refuses_range low high
  refusing_high n = rw (← refuses_count high n) (sym (or-true (refuses_weights low)))

-- the check of the tables by those of each, and what is left of it after them
module _ (low high : List ℕ) where
  pub range_none : refuses_range low high ≡ false → Ok tt ≡ range_answer low high
  range_none e = let r = ranges-of low high e in simp (r.low_weighs, r.high_weighs, r.ordered)

  pub range_low : {e : Refusal} → weights_answer low ≡ Err e → Err e ≡ range_answer low high
  range_low h = let q = weighed_err low h in simp (q.0, q.1)

  pub range_high : {o : ⊤} {e : Refusal} → weights_answer low ≡ Ok o → weights_answer high ≡ Err e → Err e ≡ range_answer low high
  range_high g h = let q = weighed_err high h in simp (weighed_ok low g, q.0, q.1)

  -- a pair whose first is above its second is a low weight above its high one
  module _ (m : length low ≡ weight_count) (n : length high ≡ weight_count) where
    count : length (zip low high) ≡ weight_count
    count = simp (length-zip, m, n)

    pub first_above : position_or_len exceeds (zip low high) ≡ lowest_above low high
    unfolding lowest_above
    first_above =
        first_item exceeds (zip low high) (0, 0)
        ∙ ap (lowest_from (λ i. exceeds (get_or (zip low high) i (0, 0))) 0) count
        ∙ lowest_laws.same (λ i. exceeds (get_or (zip low high) i (0, 0))) (is_above low high) 0 weight_count
        (λ p h. ap exceeds (get_or-zip low high p (0, 0) (omega (arith, h, m)) (omega (arith, h, n))))

    pub above_is : position exceeds (zip low high) ≡ cond (ltb (lowest_above low high) weight_count) (Some (lowest_above low high)) None
    above_is = rw (first_above, count)

  module _ {o p : ⊤} (g : weights_answer low ≡ Ok o) (h : weights_answer high ≡ Ok p) where
    abbrev found : Option ℕ
    found = position exceeds (zip low high)

    is : found ≡ cond (ltb (lowest_above low high) weight_count) (Some (lowest_above low high)) None
    is = above_is (weight_laws low (weighed_ok low g)).count (weight_laws high (weighed_ok high h)).count

    pub range_some : {x : ℕ} → found ≡ Some x → Err (LowAboveHigh x) ≡ range_answer low high
    range_some {x} e = go (ltb (lowest_above low high) weight_count) refl
      where
        go : (b : Bool) → ltb (lowest_above low high) weight_count ≡ b → Err (LowAboveHigh x) ≡ range_answer low high
        go true q =
            let s : Some (lowest_above low high) ≡ Some x = sym (rw q at is) ∙ e in
            let k : lowest_above low high ≡ x = cc in
            rw (weighed_ok low g, weighed_ok high h, q) (ap (λ y. Err (LowAboveHigh y)) (sym k))
        go false q = absurd (let s : None ≡ Some x = sym (rw q at is) ∙ e in cc)

    pub range_above_none : found ≡ None → Ok tt ≡ range_answer low high
    range_above_none e = go (ltb (lowest_above low high) weight_count) refl
      where
        go : (b : Bool) → ltb (lowest_above low high) weight_count ≡ b → Ok tt ≡ range_answer low high
        go true q = absurd (let s : Some (lowest_above low high) ≡ None = sym (rw q at is) ∙ e in cc)
        go false q = simp (weighed_ok low g, weighed_ok high h, q)

-- the checks that are not of the tables, whatever they answer
abbrev pub checks : {X : Type 0} → ℕ → Bool → Bool → Bool → Bool → Result X Refusal → Result X Refusal
checks place many short none invalid x =
    refuse_if many (Err TooManyWords)
    (refuse_if short (Err ShortSlice)
    (refuse_if none (Err NoWords)
    (refuse_if invalid (Err (ReachesInvalid place)) x)))

both_checked : (x : ℕ) (p q s t : Bool) (l f l' f' : ℕ)
    → checks x p q s t (accepted_range l f l' f') ≡ both_of (checks x p q s t (accepted_run l f))
    (checks x p q s t (accepted_run l' f'))
both_checked x true q s t l f l' f' = refl
both_checked x false true s t l f l' f' = refl
both_checked x false false true t l f l' f' = refl
both_checked x false false false true l f l' f' = refl
both_checked x false false false false l f l' f' = refl

-- and those of the tables: 18 of the low one at x, of the high one at y, and 19 at z
abbrev tables : {X : Type 0} → Bool → Bool → Bool → ℕ → ℕ → ℕ → Result X Refusal → Result X Refusal
tables t u v x y z r = refuse_if t (Err (WeightsRefused x)) (refuse_if u (Err (WeightsRefused y)) (refuse_if v (Err (LowAboveHigh z)) r))

abbrev passed : Result ⊤ Refusal
passed = Ok tt

-- what refuses by itself refuses whatever is asked later, keeps the slices and is a check of the tables
tables_refuse : (t u v : Bool) (x y z : ℕ) (r : RunRange) {e : Refusal} → tables t u v x y z passed ≡ Err e
    → (tables t u v x y z r ≡ Err e) × (t || (u || v) ≡ true)
tables_refuse true u v x y z r {e} h = let k : WeightsRefused x ≡ e = cc in (ap Err k, refl)
tables_refuse false true v x y z r {e} h = let k : WeightsRefused y ≡ e = cc in (ap Err k, refl)
tables_refuse false false true x y z r {e} h = let k : LowAboveHigh z ≡ e = cc in (ap Err k, refl)
tables_refuse false false false x y z r h = absurd cc

tables_passed : (t u v : Bool) (x y z : ℕ) {o : ⊤} → tables t u v x y z passed ≡ Ok o → (t ≡ false) × ((u ≡ false) × (v ≡ false))
tables_passed true u v x y z e = absurd cc
tables_passed false true v x y z e = absurd cc
tables_passed false false true x y z e = absurd cc
tables_passed false false false x y z e = (refl, (refl, refl))

module _ (ws : Script) (a b : ℕ) where
  abbrev pub checked : {X : Type 0} → Result X Refusal → Result X Refusal
  checked x =
      checks (lowest_invalid ws) (ltb most_words ws.size) (ltb a ws.size || ltb b ws.size)
      (eqb ws.size 0) (ltb (lowest_invalid ws) ws.size) x

  pub run_checked : (weights : List ℕ) → refuses_weights weights ≡ false
      → run_of ws weights a b ≡ checked (accepted_run (longest (graph_of ws) (weight_of ws weights)) (first (graph_of ws) (weight_of ws weights)))
  unfolding run_of
  run_checked weights e = rw e

  module _ (low high : List ℕ) where
    pub runs_checked : Ranges low high
        → runs_of ws low high a b
        ≡ checked
        (accepted_range (longest (graph_of ws) (weight_of ws low)) (first (graph_of ws) (weight_of ws low))
        (longest (graph_of ws) (weight_of ws high)) (first (graph_of ws) (weight_of ws high)))
    unfolding runs_of
    runs_checked r = rw (r.low_weighs, r.high_weighs, r.ordered)

    -- the answer is that of both runs
    pub runs_both : Ranges low high → runs_of ws low high a b ≡ both_of (run_of ws low a b) (run_of ws high a b)
    runs_both r =
        runs_checked r
        ∙ both_checked (lowest_invalid ws) (ltb most_words ws.size) (ltb a ws.size || ltb b ws.size)
        (eqb ws.size 0) (ltb (lowest_invalid ws) ws.size) _ _ _ _
        ∙ sym (ap₂ both_of (run_checked low r.low_weighs) (run_checked high r.high_weighs))

    -- the checks before the tables are looked at
    pub runs_many : most_words < ws.size → runs_of ws low high a b ≡ Err TooManyWords
    unfolding runs_of
    runs_many h = simp (lt-ltb most_words ws.size h)

    module _ (few : ws.size ≤ most_words) where
      pub runs_short : min a b < ws.size → runs_of ws low high a b ≡ Err ShortSlice
      unfolding runs_of
      runs_short h = rw (le-ltb most_words ws.size few, ← either_short a b ws.size, lt-ltb (min a b) ws.size h)

      module _ (h : ws.size ≤ a) (k : ws.size ≤ b) where
        -- those of the tables
        pub runs_refused : {e : Refusal} → range_answer low high ≡ Err e → runs_of ws low high a b ≡ Err e
        unfolding runs_of
        runs_refused r =
            rw (le-ltb most_words ws.size few, le-ltb a ws.size h, le-ltb b ws.size k)
            (tables_refuse (refuses_weights low) (refuses_weights high) (ltb (lowest_above low high) weight_count)
            (weights_place low) (weights_place high) (lowest_above low high) _ r).0

        -- and those after them
        pub runs_none : Ranges low high → ws.size ≡ 0 → runs_of ws low high a b ≡ Err NoWords
        runs_none r z = runs_both r ∙ ap₂ both_of (run_none ws low a b few h k r.low_weighs z) (run_none ws high a b few h k r.high_weighs z)

        pub runs_words : Ranges low high → 0 < ws.size → runs_of ws low high a b ≡ both_of (decided ws low) (decided ws high)
        runs_words r some = runs_both r ∙ ap₂ both_of (run_words ws low a b few h k r.low_weighs some) (run_words ws high a b few h k r.high_weighs some)

-- tables that pass, and tables that do not
module _ (low high : List ℕ) where
  pub ranges_passed : {o : ⊤} → range_answer low high ≡ Ok o → Ranges low high
  ranges_passed n =
      let g =
      tables_passed (refuses_weights low) (refuses_weights high) (ltb (lowest_above low high) weight_count)
      (weights_place low) (weights_place high) (lowest_above low high) n in
      record { low_weighs = g.0; high_weighs = g.1.0; ordered = g.1.1 }

  ranges_refused : {e : Refusal} → range_answer low high ≡ Err e → refuses_range low high ≡ true
  ranges_refused {e} r =
      (tables_refuse (refuses_weights low) (refuses_weights high) (ltb (lowest_above low high) weight_count)
      (weights_place low) (weights_place high) (lowest_above low high) (Err e) r).1

  ranges_false : Ranges low high → refuses_range low high ≡ false
  ranges_false r = rw (r.low_weighs, r.high_weighs, r.ordered)

pub decided_both : {ws : Script} {low high : List ℕ} {r s : Run} {t : RunRange} {m k l : List ℕ}
    → Decided ws low r m k → Decided ws high s m l → t ≡ both_of r s → DecidedBoth ws low high t m l
decided_both {ws} {low} {high} {r} {s} {t} {m} {k} {l} d e b =
    record { answer = b ∙ ap₂ both_of d.answer e.answer; high-run = subst (λ (x : Run). Decided ws high x m l) e.answer e }

module _ (ws : Script) (low high m l : List ℕ) where
  -- what `longest_runs` promises
  abbrev pub Outcomes : RunRange → List ℕ → List ℕ → Type 0
  Outcomes r m' l' = (r ≡ runs_of ws low high (length m) (length l)) × ((m' ≡ marks_after_both ws low high m l) × (l' ≡ lengths_after_both ws low high m l))

  -- refused as the high table's run is, which keeps the slices
  pub outcomes_kept : (e : Refusal) → runs_of ws low high (length m) (length l) ≡ Err e
      → run_of ws high (length m) (length l) ≡ Err e → untouched (refusal_number e) ≡ true → Outcomes (Err e) m l
  unfolding marks_after_both lengths_after_both
  outcomes_kept e r d u =
      let k = outcome_kept ws high m l e d u in
      (sym r, (kept (refuses_range low high) k.1.0, kept (refuses_range low high) k.1.1))
    where
      kept : (t : Bool) {x y : List ℕ} → x ≡ y → x ≡ cond t x y
      kept true e = refl
      kept false e = e

  -- refused for the sizes
  pub outcomes_sizes : {e : Refusal} → room_answer ws.size (min (length m) (length l)) ≡ Err e → Outcomes (Err e) m l
  outcomes_sizes r =
      room_err ws.size (min (length m) (length l)) (λ (e : Refusal). Outcomes (Err e) m l)
      (λ h. outcomes_kept TooManyWords (runs_many ws (length m) (length l) low high h) (run_many ws high (length m) (length l) h) refl)
      (λ f h. outcomes_kept ShortSlice (runs_short ws (length m) (length l) low high f h) (run_short ws high (length m) (length l) f h) refl)
      r

  module _ (few : ws.size ≤ most_words) (h : ws.size ≤ length m) (k : ws.size ≤ length l) where
    -- refused for the tables
    pub outcomes_refused : {e : Refusal} → range_answer low high ≡ Err e → Outcomes (Err e) m l
    unfolding marks_after_both lengths_after_both
    outcomes_refused r =
        let u = ranges_refused low high r in
        (sym (runs_refused ws (length m) (length l) low high few h k r), (rw u, rw u))

    module _ (r : Ranges low high) where
      -- there are no words
      pub outcomes_none : ws.size ≡ 0 → Outcomes (Err NoWords) m l
      outcomes_none z =
          outcomes_kept NoWords (runs_none ws (length m) (length l) low high few h k r z)
          (run_none ws high (length m) (length l) few h k r.high_weighs z) refl

      pub outcomes_words : 0 < ws.size → {a : RunRange} {m' l' : List ℕ} → DecidedBoth ws low high a m' l' → Outcomes a (m' ++ drop ws.size m) (l' ++ drop ws.size l)
      unfolding marks_after_both lengths_after_both
      outcomes_words some d =
          let o = outcome_words ws high m l few h k r.high_weighs some d.high-run in
          let u = ranges_false low high r in
          (d.answer ∙ sym (runs_words ws (length m) (length l) low high few h k r some), (rw u o.1.0, rw u o.1.1))
