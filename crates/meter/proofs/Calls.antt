-- Demand 3, its second half: a meter just begun shows what the reference model holds, whatever calls follow.
-- Assumes nothing.
use Prim.Native.Nat.{ℕ, ◌+◌, ◌*◌, ◌<◌, ◌≤◌, min, max}
use mathlib.Core.Bool.{Bool, true, false, cond, not, ◌&&◌, or-true, false≢true}
use mathlib.Core.Path.{◌≡◌, refl, ap, ◌∙◌}
use mathlib.Core.List.{List, [], ◌∷◌, ◌++◌}
use native.Mathlib.Omega.{arith}
use lib.Dec.{ltb, eqb}
use borrow.Author.Tests.{ltb-true, ltb-false, eqb-true, le-ltb, lt-leb, le-leb, ne_eqb}
use Rattle.common.specs.Limits.{most_words, most_services, heaviest_weight}
use Rattle.graph.specs.Graph.{Graph, Lawful}
use Rattle.graph.proofs.Laws.{laws}
use Rattle.meter.specs.declared.step.Meter.{Meter}
use Rattle.meter.specs.Feed.{Fed}
use Rattle.runs.specs.Weights.{refuses_weights}
use Rattle.meter.specs.Feed.{Scale, follows, one_service, showing, moved_to, is_foreign, is_stray, begin_of, reset_of, feed_of}
use Rattle.meter.specs.Model.{Call, begin, feed, reset, Model, empty_model, last_from, writes, fed}
use Rattle.meter.specs.Model.{called, answer_to, model_after, model_answers, has_word, last_or0, weight_since}
use Rattle.meter.specs.Calls.{meter_after, meter_answers, FollowsModel}
use Rattle.meter.proofs.Paths.{last_more, weight_more}

-- The ceiling.

pub more_services : (s k : ℕ) → one_service (min (s + k) most_services) ≡ min (s + (k + 1)) most_services
unfolding one_service
more_services s k = go (ltb (min (s + k) most_services) most_services) refl
  where
    go : (t : Bool) → ltb (min (s + k) most_services) most_services ≡ t → cond t (min (s + k) most_services + 1) most_services ≡ min (s + (k + 1)) most_services
    go true e = omega (arith, ltb-true (min (s + k) most_services) most_services e)
    go false e = omega (arith, ltb-false (min (s + k) most_services) most_services e)

-- the meter that shows a model, from these services on, and with this highest
abbrev shows : Scale → ℕ → Model → ℕ → Meter
shows s start b highest =
    record {
      begun = cond (has_word b.path) 1 0;
      last = last_or0 b.path;
      count = weight_since s.graph s.weight b.path;
      services = min (start + b.tally) most_services;
      highest = highest;
    }

-- a scale that a meter can go by: the graph is lawful and not too large, and the table's weights are 1 to 255
pub record Sound (s : Scale) : Type 0 where
  pub law : Lawful s.graph
  pub few : s.graph.size ≤ most_words
  pub weighed : refuses_weights s.table ≡ false
  pub some : (q : ℕ) → 0 < s.weight q
  pub light : (q : ℕ) → s.weight q ≤ heaviest_weight

module _ (s : Scale) (sound : Sound s) where
  abbrev g : Graph
  g = s.graph

  abbrev w : ℕ → ℕ
  w = s.weight

  step_inside : (p q : ℕ) → follows g p q ≡ true → q < g.size
  step_inside p q h = sound.law.inside p q ((laws.member_in q (g.successors p)).0 h)

  -- The invariant: the path's last word is a word, and the count is from 1 to 255 for each word up to that one.

  abbrev Fits : ℕ → ℕ → Type 0
  Fits last count = (last < g.size) × ((0 < count) × (count ≤ heaviest_weight * (last + 1)))

  abbrev Counted : List ℕ → Type 0
  Counted [] = Unit {0}
  Counted (p ∷ ps) = Fits (last_from p ps) (weight_since g w (p ∷ ps))

  fits_next : (p q k : ℕ) (t : Bool) → g.serves p q ≡ t → follows g p q ≡ true → k ≤ heaviest_weight * (p + 1) → Fits q (cond t (w q) (k + w q))
  fits_next p q k true e h l = (step_inside p q h, (sound.some q, omega (arith, sound.light q)))
  fits_next p q k false e h l =
      (step_inside p q h, (omega (arith, sound.some q), omega (arith, sound.light q, sound.law.forward p q ((laws.member_in q (g.successors p)).0 h) e)))

  pub first_word : (q : ℕ) → writes g [] q ≡ true → (q ≡ 0) × (0 < g.size)
  first_word q h = go (eqb q 0) refl h
    where
      go : (t : Bool) → eqb q 0 ≡ t → t && ltb 0 g.size ≡ true → (q ≡ 0) × (0 < g.size)
      go true e d = (eqb-true q 0 e, ltb-true 0 g.size d)
      go false e d = absurd (false≢true d)

  counted_more : (ps : List ℕ) (q : ℕ) → Counted ps → writes g ps q ≡ true → Counted (ps ++ (q ∷ []))
  counted_more [] q c h =
      let f : (q ≡ 0) × (0 < g.size) = first_word q h in (omega arith, (omega (arith, sound.some q), omega (arith, sound.light q)))
  counted_more (p ∷ ps) q c h =
      rw (last_more p ps q, weight_more g w p ps q)
      (fits_next (last_from p ps) q (weight_since g w (p ∷ ps)) (g.serves (last_from p ps) q) refl h c.1.1)

  counted_fed : (b : Model) (q : ℕ) (t : Bool) → writes g b.path q ≡ t → Counted b.path → Counted (fed g b q).path
  counted_fed b q true e c = rw e (counted_more b.path q c e)
  counted_fed b q false e c = rw e c

  -- Number 11 never refuses a meter that shows such a model, and whose highest covers its count.

  abbrev Covered : List ℕ → ℕ → Type 0
  Covered ps h = weight_since g w ps ≤ h

  not_foreign : (start k h : ℕ) (ps : List ℕ) → Counted ps → Covered ps h → is_foreign g.size (shows s start (record { path = ps; tally = k }) h) ≡ false
  unfolding is_foreign
  not_foreign start k h [] c l = rw (le-ltb h 0 l)
  not_foreign start k h (p ∷ ps) c l =
      rw (
        le-ltb h (weight_since g w (p ∷ ps)) l,
        lt-leb g.size (last_from p ps) c.0,
        ne_eqb (weight_since g w (p ∷ ps)) 0 (λ e. omega arith),
        le-ltb (heaviest_weight * (last_from p ps + 1)) (weight_since g w (p ∷ ps)) c.1.1,
      )

  -- One feed: the meter and the answer are the model's.

  -- the highest after a feed: of a word that is written down, at least the count that it makes
  abbrev rises : List ℕ → ℕ → ℕ → ℕ
  rises ps h q = cond (writes g ps q) (max h (weight_since g w (ps ++ (q ∷ [])))) h

  abbrev Told : ℕ → Model → ℕ → ℕ → Fed
  Told start b h q = record { meter = shows s start (fed g b q) (rises b.path h q); answer = record { number = answer_to g b q; place = 0 } }

  covered_fed : (b : Model) (h q : ℕ) (t : Bool) → writes g b.path q ≡ t → Covered b.path h → Covered (fed g b q).path (rises b.path h q)
  covered_fed b h q true e l = rw e (omega arith)
  covered_fed b h q false e l = rw e l

  -- the first word weighs its own weight
  alone : (q : ℕ) → w q ≡ w q + 0
  alone q = omega arith

  first_fed : (start k h q : ℕ) (t u : Bool) → eqb q 0 ≡ t → ltb 0 g.size ≡ u
      → feed_of s (shows s start (record { path = []; tally = k }) h) q ≡ Told start (record { path = []; tally = k }) h q
  unfolding feed_of is_foreign is_stray moved_to showing
  first_fed start k h q true true e d =
      rw (
        le-ltb most_words g.size sound.few,
        sound.weighed,
        le-ltb h 0 (omega arith),
        eqb-true q 0 e,
        lt-leb g.size 0 (ltb-true 0 g.size d),
        d,
        ← alone 0,
      )
  first_fed start k h q true false e d =
      rw (
        le-ltb most_words g.size sound.few,
        sound.weighed,
        le-ltb h 0 (omega arith),
        eqb-true q 0 e,
        le-leb g.size 0 (ltb-false 0 g.size d),
        d,
      )
  first_fed start k h q false u e d = rw (le-ltb most_words g.size sound.few, sound.weighed, le-ltb h 0 (omega arith), e, or-true)

  next_fed : (start k h p : ℕ) (ps : List ℕ) (q : ℕ) (t u : Bool) → follows g (last_from p ps) q ≡ t → g.serves (last_from p ps) q ≡ u → Counted (p ∷ ps)
      → Covered (p ∷ ps) h → feed_of s (shows s start (record { path = p ∷ ps; tally = k }) h) q ≡ Told start (record { path = p ∷ ps; tally = k }) h q
  unfolding feed_of is_stray moved_to showing
  next_fed start k h p ps q true true e d c l =
      rw (
        le-ltb most_words g.size sound.few,
        sound.weighed,
        not_foreign start k h (p ∷ ps) c l,
        lt-leb g.size q (step_inside (last_from p ps) q e),
        e,
        d,
        last_more p ps q,
        weight_more g w p ps q,
        d,
        more_services start k,
      )
  next_fed start k h p ps q true false e d c l =
      rw (
        le-ltb most_words g.size sound.few,
        sound.weighed,
        not_foreign start k h (p ∷ ps) c l,
        lt-leb g.size q (step_inside (last_from p ps) q e),
        e,
        d,
        last_more p ps q,
        weight_more g w p ps q,
        d,
      )
  next_fed start k h p ps q false u e d c l = rw (le-ltb most_words g.size sound.few, sound.weighed, not_foreign start k h (p ∷ ps) c l, e, or-true)

  fed_as : (start k h : ℕ) (ps : List ℕ) (q : ℕ) → Counted ps → Covered ps h
      → feed_of s (shows s start (record { path = ps; tally = k }) h) q ≡ Told start (record { path = ps; tally = k }) h q
  fed_as start k h [] q c l = first_fed start k h q (eqb q 0) (ltb 0 g.size) refl refl
  fed_as start k h (p ∷ ps) q c l = next_fed start k h p ps q (follows g (last_from p ps) q) (g.serves (last_from p ps) q) refl refl c l

  -- Every list of calls, by induction.

  -- the answers are the model's, and the meter shows it, with some highest
  record Same (start : ℕ) (b : Model) (h : ℕ) (calls : List Call) : Type 0 where
    highest : ℕ
    answers : meter_answers s (shows s start b h) calls ≡ model_answers g b calls
    after : meter_after s (shows s start b h) calls ≡ shows s start (model_after g b calls) highest

  same : (start : ℕ) (b : Model) (h : ℕ) → Counted b.path → Covered b.path h → (calls : List Call) → Same start b h calls
  unfolding begin_of reset_of
  same start b h c l [] = record { highest = h; answers = refl; after = refl }
  same start b h c l (begin ∷ cs) =
      let rest : Same start (called g b begin) h cs = same start (called g b begin) h tt (omega arith) cs in
      record { highest = rest.highest; answers = rest.answers; after = rest.after }
  same start b h c l (feed q ∷ cs) =
      let t = writes g b.path q in
      let rest : Same start (fed g b q) (rises b.path h q) cs =
      same start (fed g b q) (rises b.path h q) (counted_fed b q t refl c) (covered_fed b h q t refl l) cs in
      record {
        highest = rest.highest;
        answers = rw (fed_as start b.tally h b.path q c l) (ap (λ (l : List ℕ). answer_to g b q ∷ l) rest.answers);
        after = ap (λ (f : Fed). meter_after s f.meter cs) (fed_as start b.tally h b.path q c l) ∙ rest.after;
      }
  same start b h c l (reset ∷ cs) =
      let rest : Same start b (weight_since g w b.path) cs = same start b (weight_since g w b.path) c (omega arith) cs in
      record { highest = rest.highest; answers = rest.answers; after = rest.after }

  begun_empty : (m : Meter) → m.services ≤ most_services → begin_of m ≡ shows s m.services empty_model m.highest
  unfolding begin_of
  begun_empty m h = ap (λ (n : ℕ). record { begun = 0; last = 0; count = 0; services = n; highest = m.highest }) (omega arith)

  begun_if : (ps : List ℕ) (n : ℕ) → n ≡ cond (has_word ps) 1 0 → not (eqb n 0) ≡ has_word ps
  begun_if [] n e = rw e
  begun_if (p ∷ ps) n e = rw e

  pub follows_model : (m : Meter) (calls : List Call) → m.services ≤ most_services → FollowsModel s m calls
  follows_model m calls fits =
      let all : Same m.services empty_model m.highest calls = same m.services empty_model m.highest tt (omega arith) calls in
      let start : begin_of m ≡ shows s m.services empty_model m.highest = begun_empty m fits in
      let after : meter_after s (begin_of m) calls ≡ shows s m.services (model_after g empty_model calls) all.highest = rw start all.after in
      record {
        answers = rw start all.answers;
        begun = begun_if (model_after g empty_model calls).path (meter_after s (begin_of m) calls).begun (ap (λ (z : Meter). z.begun) after);
        last = ap (λ (z : Meter). z.last) after;
        count = ap (λ (z : Meter). z.count) after;
        services = ap (λ (z : Meter). z.services) after;
      }
