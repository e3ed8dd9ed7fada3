-- A meter and the longest run, over any lawful graph: what the model holds is a path, and the words since service are its last segment.
-- Assumes nothing.
use Prim.Native.Nat.{ℕ, ◌+◌, ◌<◌, ◌≤◌}
use mathlib.Core.Bool.{Bool, true, false, cond, ◌||◌, true≢false}
use mathlib.Core.Path.{◌≡◌, refl, sym, ap, subst, ◌∙◌}
use mathlib.Core.List.{List, [], ◌∷◌, ◌++◌, append_assoc, append-nil}
use native.Mathlib.Omega.{arith}
use lib.Dec.{eqb}
use lib.ListN.{length, replicate}
use borrow.Author.Tests.{eq-eqb, lt-ltb}
use Rattle.common.specs.Numbers.{«ACCEPTED»}
use Rattle.common.specs.Limits.{most_services}
use Rattle.graph.specs.Graph.{In, Graph, Along, Path, Unserved, Segment, weigh}
use Rattle.graph.proofs.Laws.{laws}
use Rattle.meter.specs.declared.step.Meter.{Meter}
use Rattle.meter.specs.Feed.{Scale, follows, begin_of, reset_of, feed_of}
use Rattle.meter.specs.Model.{Call, begin, feed, reset, Model, empty_model, last_from, writes, serves_to}
use Rattle.meter.specs.Model.{fed, called, answer_to, model_after, model_answers, any_serves, since_service}
use Rattle.meter.specs.Model.{weight_since}
use Rattle.meter.specs.Calls.{meter_after}
use Rattle.meter.specs.Highest.{counts_shown, largest, has_reset}
use Rattle.meter.specs.Bound.{feeds, ShownOn, Bound, fresh, Worst}
use Rattle.meter.proofs.Paths.{last_more}
use Rattle.meter.proofs.Calls.{Sound, first_word, follows_model}
use Rattle.meter.proofs.Highest.{risen}

module _ (scale : Scale) (sound : Sound scale) where
  abbrev g : Graph
  g = scale.graph

  abbrev w : ℕ → ℕ
  w = scale.weight

  -- What the model writes down is a path, or nothing.

  along_more : (p : ℕ) (ps : List ℕ) (q : ℕ) → Along g p ps → follows g (last_from p ps) q ≡ true → Along g p (ps ++ (q ∷ []))
  along_more p [] q a h = let i : In q (g.successors p) = (laws.member_in q (g.successors p)).0 h in (a, i, sound.law.inside p q i)
  along_more p (x ∷ ps) q a h = (a.0, a.1, along_more x ps q a.2 h)

  abbrev PathOrNone : List ℕ → Type 0
  PathOrNone [] = Unit {0}
  PathOrNone (p ∷ ps) = Path g (p ∷ ps)

  path_more : (ps : List ℕ) (q : ℕ) → PathOrNone ps → writes g ps q ≡ true → PathOrNone (ps ++ (q ∷ []))
  path_more [] q k h = let f : (q ≡ 0) × (0 < g.size) = first_word scale sound q h in (f.0, omega arith)
  path_more (p ∷ ps) q k h = (k.0, along_more p ps q k.1 h)

  path_fed : (b : Model) (q : ℕ) (t : Bool) → writes g b.path q ≡ t → PathOrNone b.path → PathOrNone (fed g b q).path
  path_fed b q true e k = rw e (path_more b.path q k e)
  path_fed b q false e k = rw e k

  path_after : (b : Model) → PathOrNone b.path → (calls : List Call) → PathOrNone (model_after g b calls).path
  path_after b k [] = k
  path_after b k (begin ∷ cs) = path_after (called g b begin) tt cs
  path_after b k (feed q ∷ cs) = path_after (fed g b q) (path_fed b q (writes g b.path q) refl k) cs
  path_after b k (reset ∷ cs) = path_after b k cs

  -- The words since service are a segment, the last of the path.

  none_serves : (p : ℕ) (ps : List ℕ) → any_serves g p ps ≡ false → Unserved g p ps
  none_serves p [] h = tt
  none_serves p (q ∷ qs) h = go (g.serves p q) refl (none_serves q qs) h
    where
      go : (t : Bool) → g.serves p q ≡ t → (any_serves g q qs ≡ false → Unserved g q qs) → t || any_serves g q qs ≡ false → Unserved g p (q ∷ qs)
      go true e later d = absurd (true≢false d)
      go false e later d = (e, later d)

  -- the path as the words before, and those since service
  record Split (p : ℕ) (ps : List ℕ) : Type 0 where
    before : List ℕ
    first : ℕ
    rest : List ℕ
    whole : p ∷ ps ≡ before ++ (first ∷ rest)
    since : since_service g p ps ≡ first ∷ rest
    unserved : Unserved g first rest

  split : (p : ℕ) (ps : List ℕ) → Split p ps
  split p [] = record { before = []; first = p; rest = []; whole = refl; since = refl; unserved = tt }
  split p (q ∷ qs) = go (any_serves g p (q ∷ qs)) refl (split q qs)
    where
      go : (t : Bool) → any_serves g p (q ∷ qs) ≡ t → Split q qs → Split p (q ∷ qs)
      go true e s = record { before = p ∷ s.before; first = s.first; rest = s.rest; whole = rw s.whole; since = rw e s.since; unserved = s.unserved }
      go false e s = record { before = []; first = p; rest = q ∷ qs; whole = refl; since = rw e; unserved = none_serves p (q ∷ qs) e }

  since_segment : (p : ℕ) (ps : List ℕ) → Path g (p ∷ ps) → (s : Split p ps) → Segment g s.first s.rest
  since_segment p ps path s =
      record { before = s.before; after = []; path = rw (append-nil s.rest) (subst (λ (l : List ℕ). Path g l) s.whole path); unserved = s.unserved }

  abbrev pub AtMost : ℕ → Type 0
  AtMost longest = (p : ℕ) (ps : List ℕ) → Segment g p ps → weigh w (p ∷ ps) ≤ longest

  since_most : (longest : ℕ) → AtMost longest → (ps : List ℕ) → PathOrNone ps → weight_since g w ps ≤ longest
  since_most longest most [] k = omega arith
  since_most longest most (p ∷ ps) k =
      let s : Split p ps = split p ps in
      rw s.since (most s.first s.rest (since_segment p ps k s))

  -- A path fed word by word is written down whole, and no word of it is refused.

  abbrev model_of : ℕ → List ℕ → ℕ → Model
  model_of x xs k = record { path = x ∷ xs; tally = k }

  abbrev Written : ℕ → List ℕ → ℕ → List ℕ → Type 0
  Written x xs k qs =
      ((model_after g (model_of x xs k) (feeds qs)).path ≡ x ∷ (xs ++ qs))
      × (model_answers g (model_of x xs k) (feeds qs) ≡ replicate (length qs) 0)

  after_word : (b : Model) (q : ℕ) → writes g b.path q ≡ true
      → (fed g b q ≡ record { path = b.path ++ (q ∷ []); tally = cond (serves_to g b.path q) (b.tally + 1) b.tally }) × (answer_to g b q ≡ 0)
  after_word b q h = (rw h, rw h)

  written : (x : ℕ) (xs : List ℕ) (k : ℕ) (qs : List ℕ) → Along g (last_from x xs) qs → Written x xs k qs
  written x xs k [] a = (ap (λ (l : List ℕ). x ∷ l) (sym (append-nil xs)), refl)
  written x xs k (q ∷ qs) a =
      let now : (fed g (model_of x xs k) q ≡ record { path = x ∷ (xs ++ (q ∷ [])); tally = cond (g.serves (last_from x xs) q) (k + 1) k })
      × (answer_to g (model_of x xs k) q ≡ 0) =
      after_word (model_of x xs k) q ((laws.member_in q (g.successors (last_from x xs))).1 a.1) in
      let rest : Written x (xs ++ (q ∷ [])) (cond (g.serves (last_from x xs) q) (k + 1) k) qs =
      written x (xs ++ (q ∷ [])) (cond (g.serves (last_from x xs) q) (k + 1) k) qs (rw (last_more x xs q) a.2) in (
        ap (λ (b : Model). (model_after g b (feeds qs)).path) now.0 ∙ rest.0 ∙ ap (λ (l : List ℕ). x ∷ l) (append_assoc xs (q ∷ []) qs),
        rw (now.1, now.0) (ap (λ (l : List ℕ). 0 ∷ l) rest.1),
      )

  written_path : (words : List ℕ) → Path g words
      → ((model_after g empty_model (feeds words)).path ≡ words) × (model_answers g empty_model (feeds words) ≡ replicate (length words) 0)
  written_path [] path = absurd path
  written_path (p ∷ ps) path =
      let rest : Written p [] 0 ps = written p [] 0 ps path.1 in
      let first : writes g [] p ≡ true = rw (eq-eqb p 0 path.0, lt-ltb 0 g.size (omega (arith, laws.along_inside g p ps path.1))) in
      let now : (fed g empty_model p ≡ record { path = p ∷ []; tally = 0 }) × (answer_to g empty_model p ≡ 0) = after_word empty_model p first in (
        ap (λ (b : Model). (model_after g b (feeds ps)).path) now.0 ∙ rest.0,
        rw (now.1, now.0) (ap (λ (l : List ℕ). 0 ∷ l) rest.1),
      )

  -- On a path that ends with a segment, at least the segment's words are since service.

  since_whole : (p : ℕ) (ps : List ℕ) → Unserved g p ps → (any_serves g p ps ≡ false) × (since_service g p ps ≡ p ∷ ps)
  since_whole p [] u = (refl, refl)
  since_whole p (q ∷ qs) u =
      let later : any_serves g q qs ≡ false = (since_whole q qs u.1).0 in
      (rw (u.0, later), rw (u.0, later))

  -- words before others add to what they weigh
  weigh_after : (bs cs : List ℕ) → weigh w cs ≤ weigh w (bs ++ cs)
  weigh_after [] cs = omega arith
  weigh_after (b ∷ bs) cs = let h = weigh_after bs cs in omega arith

  module _ (p : ℕ) (ps : List ℕ) (u : Unserved g p ps) where
    since_least : (b : ℕ) (bs : List ℕ) → weigh w (p ∷ ps) ≤ weigh w (since_service g b (bs ++ (p ∷ ps)))
    since_least b [] = go (any_serves g b (p ∷ ps))
      where
        go : (t : Bool) → weigh w (p ∷ ps) ≤ weigh w (cond t (since_service g p ps) (b ∷ p ∷ ps))
        go true = rw (since_whole p ps u).1 (omega arith)
        go false = omega arith
    since_least b (x ∷ xs) = go (any_serves g b (x ∷ (xs ++ (p ∷ ps)))) (since_least x xs)
      where
        go : (t : Bool) → weigh w (p ∷ ps) ≤ weigh w (since_service g x (xs ++ (p ∷ ps)))
            → weigh w (p ∷ ps) ≤ weigh w (cond t (since_service g x (xs ++ (p ∷ ps))) (b ∷ x ∷ (xs ++ (p ∷ ps))))
        go true later = later
        go false later = omega (arith, weigh_after xs (p ∷ ps))

    ends_least : (bs : List ℕ) → weigh w (p ∷ ps) ≤ weight_since g w (bs ++ (p ∷ ps))
    ends_least [] = rw (since_whole p ps u).1 (omega arith)
    ends_least (b ∷ bs) = since_least b bs

  along_start : (p : ℕ) (ps qs : List ℕ) → Along g p (ps ++ qs) → Along g p ps
  along_start p [] qs a = laws.along_inside g p qs a
  along_start p (x ∷ ps) qs a = (a.0, a.1, along_start x ps qs a.2)

  path_start : (bs : List ℕ) (p : ℕ) (ps qs : List ℕ) → Path g (bs ++ ((p ∷ ps) ++ qs)) → Path g (bs ++ (p ∷ ps))
  path_start [] p ps qs path = (path.0, along_start p ps qs path.1)
  path_start (b ∷ bs) p ps qs path = (path.0, along_start b (bs ++ (p ∷ ps)) qs (rw (append_assoc bs (p ∷ ps) qs) path.1))

  -- The bound.

  module _ (m : Meter) (fits : m.services ≤ most_services) (longest : ℕ) (most : AtMost longest) where
    never : (calls : List Call) → (meter_after scale (begin_of m) calls).count ≤ longest
    never calls =
        rw (follows_model scale sound m calls fits).count
        (since_most longest most (model_after g empty_model calls).path (path_after empty_model tt calls))

    fed_count : (words : List ℕ) → Path g words → (meter_after scale (begin_of m) (feeds words)).count ≡ weight_since g w words
    fed_count words path = (follows_model scale sound m (feeds words) fits).count ∙ ap (weight_since g w) (written_path words path).0

    reached : (p : ℕ) (ps : List ℕ) → Segment g p ps → weigh w (p ∷ ps) ≡ longest → ShownOn scale m longest
    reached p ps s e =
        let words : List ℕ = s.before ++ (p ∷ ps) in
        let path : Path g words = path_start s.before p ps s.after s.path in
        let count : ℕ = (meter_after scale (begin_of m) (feeds words)).count in
        let most-shown : count ≤ longest = never (feeds words) in
        let is-since : count ≡ weight_since g w words = fed_count words path in
        let least-shown : weigh w (p ∷ ps) ≤ weight_since g w words = ends_least p ps s.unserved s.before in
        record { words = words; path = path; shows = omega arith }

    pub bound : (p : ℕ) (ps : List ℕ) → Segment g p ps → weigh w (p ∷ ps) ≡ longest → Bound scale m longest
    bound p ps s e =
        record {
          taken = λ words path. (follows_model scale sound m (feeds words) fits).answers ∙ (written_path words path).1;
          never = never;
          reached = reached p ps s e;
        }

    -- The highest.

    shown_most : (h : Meter) → ((calls : List Call) → (meter_after scale h calls).count ≤ longest) → (calls : List Call)
        → largest (counts_shown scale h calls) ≤ longest
    shown_most h below [] = omega arith
    shown_most h below (begin ∷ cs) =
        let first : (begin_of h).count ≤ longest = below (begin ∷ []) in
        let later : largest (counts_shown scale (begin_of h) cs) ≤ longest = shown_most (begin_of h) (λ calls. below (begin ∷ calls)) cs in
        omega arith
    shown_most h below (feed q ∷ cs) =
        go (eqb (feed_of scale h q).answer.number «ACCEPTED») (below (feed q ∷ [])) (shown_most (feed_of scale h q).meter (λ calls. below (feed q ∷ calls)) cs)
      where
        go : (t : Bool) → (feed_of scale h q).meter.count ≤ longest → largest (counts_shown scale (feed_of scale h q).meter cs) ≤ longest
            → largest
            (cond t ((feed_of scale h q).meter.count ∷ counts_shown scale (feed_of scale h q).meter cs)
            (counts_shown scale (feed_of scale h q).meter cs))
            ≤ longest
        go true first later = omega arith
        go false first later = later
    shown_most h below (reset ∷ cs) = shown_most (reset_of h) (λ calls. below (reset ∷ calls)) cs

    only_feeds : (words : List ℕ) → has_reset (feeds words) ≡ false
    only_feeds [] = refl
    only_feeds (q ∷ qs) = only_feeds qs

    fresh_at_0 : ((fresh m).count ≡ 0) × ((fresh m).highest ≡ 0)
    unfolding begin_of reset_of
    fresh_at_0 = (refl, refl)

    fresh_highest : (words : List ℕ) → (meter_after scale (fresh m) (feeds words)).highest ≡ largest (counts_shown scale (fresh m) (feeds words))
    fresh_highest words =
        let at_0 = fresh_at_0 in
        let shown = risen scale (fresh m) (feeds words) (only_feeds words) in
        omega arith

    pub worst : Worst scale m longest
    worst =
        record {
          taken = λ words path. (follows_model scale sound m (reset ∷ feeds words) fits).answers ∙ (written_path words path).1;
          highest = λ words path. fresh_highest words;
          never = λ words path. rw (fresh_highest words) (shown_most (fresh m) (λ calls. never (reset ∷ calls)) (feeds words));
        }
