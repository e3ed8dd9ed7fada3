-- A meter whose feeds are each lent weights of their own, held against the book. Assumes nothing.
use mathlib.Core.Path.{◌≡◌, refl, sym, ap, ◌∙◌}
use mathlib.Core.Bool.{Bool, true, false, cond, not, ◌&&◌, ◌||◌, or-false, or_assoc, or-true, false≢true}
use mathlib.Core.List.{List, [], ◌∷◌, ◌++◌}
use Prim.Native.Nat.{ℕ, ◌+◌, ◌*◌, ◌≤◌, ◌<◌, min, max}
use native.Mathlib.Omega.{arith}
use lib.Dec.{ltb, eqb}
use lib.ListN.{get_or}
use borrow.Author.Tests.{ltb-true, ltb-false, le-ltb, lt-leb, le-leb, eqb-true, ne_eqb}
use Rattle.common.specs.Limits.{most_words, most_services, heaviest_weight}
use Rattle.graph.specs.Graph.{Graph, Lawful}
use Rattle.graph.proofs.Laws.{laws}
use Rattle.runs.specs.Script.{Script, graph_of, weight_of}
use Rattle.runs.specs.Script as script
use Rattle.runs.specs.Weights.{refuses_weights, weights_place}
use Rattle.runs.proofs.Laws as runs
use Rattle.meter.specs.declared.step.Meter.{Meter}
use Rattle.meter.specs.Feed.{Fed}
use Rattle.meter.specs.Feed.{scale_of, follows, showing, moved_to, is_foreign, is_stray, begin_of, reset_of, feed_of}
use Rattle.meter.specs.Model.{last_from, writes, has_word, last_or0, any_serves}
use Rattle.meter.specs.Changing.{ChangingCall, begin, feed, reset, Entry, Book, empty, entry_words}
use Rattle.meter.specs.Changing.{entries_sum, entries_since_service, weighed_since, written}
use Rattle.meter.specs.Changing.{book_called, book_after, book_answers, changing_after}
use Rattle.meter.specs.Changing.{changing_answers, Bytes, FollowsBook}
use Rattle.meter.proofs.Calls.{more_services}

-- the last word of a path that is not empty
abbrev last_in : Entry → List Entry → ℕ
last_in e es = last_from e.word (entry_words es)

-- One word more at a path's end.

last_on : (e : Entry) (es : List Entry) (f : Entry) → last_in e (es ++ (f ∷ [])) ≡ f.word
last_on e [] f = refl
last_on e (x ∷ es) f = last_on x es f

module _ (g : Graph) where
  any_on : (p : ℕ) (es : List Entry) (f : Entry)
      → any_serves g p (entry_words (es ++ (f ∷ []))) ≡ any_serves g p (entry_words es)
      || g.serves (last_from p (entry_words es)) f.word
  any_on p [] f = or-false (g.serves p f.word)
  any_on p (x ∷ es) f =
      rw (any_on x.word es f) (sym (or_assoc (g.serves p x.word)
      (any_serves g x.word (entry_words es)) (g.serves (last_in x es) f.word)))

  since_served : (e : Entry) (es : List Entry) (f : Entry)
      → g.serves (last_in e es) f.word ≡ true
      → entries_since_service g e (es ++ (f ∷ [])) ≡ f ∷ []
  since_served e [] f h = rw h
  since_served e (x ∷ es) f h = rw (any_on x.word es f, h, or-true, or-true) (since_served x es f h)

  since_more : (e : Entry) (es : List Entry) (f : Entry)
      → g.serves (last_in e es) f.word ≡ false
      → entries_since_service g e (es ++ (f ∷ [])) ≡ entries_since_service g e es ++ (f ∷ [])
  since_more e [] f h = rw h
  since_more e (x ∷ es) f h =
      rw (any_on x.word es f, h, or-false)
      (go (g.serves e.word x.word || any_serves g x.word (entry_words es)) (since_more x es f h))
    where
      go : (t : Bool) → entries_since_service g x (es ++ (f ∷ [])) ≡ entries_since_service g x es ++ (f ∷ [])
          → cond t (entries_since_service g x (es ++ (f ∷ []))) (e ∷ x ∷ (es ++ (f ∷ []))) ≡ cond t (entries_since_service g x es) (e ∷ x ∷ es) ++ (f ∷ [])
      go true later = later
      go false later = refl

  sum_more : (es : List Entry) (f : Entry) → entries_sum (es ++ (f ∷ [])) ≡ entries_sum es + f.weight
  sum_more [] f = omega arith
  sum_more (x ∷ es) f = omega (arith, sum_more es f)

  weighed_on : (e : Entry) (es : List Entry) (f : Entry)
      → weighed_since g (e ∷ (es ++ (f ∷ [])))
      ≡ cond (g.serves (last_in e es) f.word) f.weight
      (weighed_since g (e ∷ es) + f.weight)
  weighed_on e es f = go (g.serves (last_in e es) f.word) refl
    where
      go : (t : Bool) → g.serves (last_in e es) f.word ≡ t
          → weighed_since g (e ∷ (es ++ (f ∷ [])))
          ≡ cond t f.weight (weighed_since g (e ∷ es) + f.weight)
      go true h = ap entries_sum (since_served e es f h) ∙ omega arith
      go false h = ap entries_sum (since_more e es f h) ∙ sum_more (entries_since_service g e es) f

module _ (ws : Script) (sound : script.Sound ws) (few : ws.size ≤ most_words) where
  abbrev g : Graph
  g = graph_of ws

  law : Lawful g
  law = (runs.laws).lawful ws sound

  abbrev shows : ℕ → Book → ℕ → Meter
  shows start b highest =
      record {
        begun = cond (has_word (entry_words b.path)) 1 0;
        last = last_or0 (entry_words b.path);
        count = weighed_since g b.path;
        services = min (start + b.tally) most_services;
        highest = highest;
      }

  step_inside : (p q : ℕ) → follows g p q ≡ true → q < g.size
  step_inside p q h = law.inside p q ((laws.member_in q (g.successors p)).0 h)

  abbrev Fits : ℕ → ℕ → Type 0
  Fits last count = (last < g.size) × (0 < count) × (count ≤ heaviest_weight * (last + 1))

  abbrev Counted : List Entry → Type 0
  Counted [] = Unit {0}
  Counted (e ∷ es) = Fits (last_in e es) (weighed_since g (e ∷ es))

  -- a table that 18 lets through
  module _ (weights : List ℕ) (accepted : refuses_weights weights ≡ false) (bytes : (i : ℕ) → get_or weights i 0 ≤ heaviest_weight) where
    abbrev w : ℕ → ℕ
    w = weight_of ws weights

    some : (q : ℕ) → 0 < w q
    some q = ((runs.laws).weights weights accepted).some ws sound q

    light : (q : ℕ) → w q ≤ heaviest_weight
    light q = bytes (ws.slot q)

    abbrev entry : ℕ → Entry
    entry q = record { word = q; weight = w q }

    fits_next : (p q k : ℕ) (t : Bool) → g.serves p q ≡ t → follows g p q ≡ true → k ≤ heaviest_weight * (p + 1) → Fits q (cond t (w q) (k + w q))
    fits_next p q k true e h l = (step_inside p q h, some q, omega (arith, light q))
    fits_next p q k false e h l =
        (step_inside p q h, omega (arith, some q), omega (arith, light q, law.forward p q ((laws.member_in q (g.successors p)).0 h) e))

    first_word : (q : ℕ) → writes g [] q ≡ true → (q ≡ 0) × (0 < g.size)
    first_word q h = go (eqb q 0) refl h
      where
        go : (t : Bool) → eqb q 0 ≡ t → t && ltb 0 g.size ≡ true → (q ≡ 0) × (0 < g.size)
        go true e d = (eqb-true q 0 e, ltb-true 0 g.size d)
        go false e d = absurd (false≢true d)

    counted_more : (es : List Entry) (q : ℕ) → Counted es → writes g (entry_words es) q ≡ true → Counted (es ++ (entry q ∷ []))
    counted_more [] q c h = let f = first_word q h in (omega (arith, f.0, f.1), omega (arith, some q), omega (arith, light q))
    counted_more (e ∷ es) q c h =
        rw (last_on e es (entry q), weighed_on g e es (entry q))
        (fits_next (last_in e es) q (weighed_since g (e ∷ es)) (g.serves (last_in e es) q) refl h c.2)

    counted_written : (b : Book) (q : ℕ) (t : Bool) → writes g (entry_words b.path) q ≡ t → Counted b.path → Counted (written ws b weights q t).path
    counted_written b q true e c = counted_more b.path q c e
    counted_written b q false e c = c

    abbrev Covered : List Entry → ℕ → Type 0
    Covered es h = weighed_since g es ≤ h

    not_foreign : (start k h : ℕ) (es : List Entry) → Counted es → Covered es h → is_foreign g.size (shows start (record { path = es; tally = k }) h) ≡ false
    unfolding is_foreign
    not_foreign start k h [] c l = rw (le-ltb h 0 l)
    not_foreign start k h (e ∷ es) c l =
        rw (
          le-ltb h (weighed_since g (e ∷ es)) l,
          lt-leb g.size (last_in e es) c.0,
          ne_eqb (weighed_since g (e ∷ es)) 0 (λ z. omega (arith, c.1, z)),
          le-ltb
              (heaviest_weight * (last_in e es + 1)) (weighed_since g (e ∷ es)) c.2,
        )

    abbrev rises : List Entry → ℕ → ℕ → ℕ
    rises es h q = cond (writes g (entry_words es) q) (max h (weighed_since g (es ++ (entry q ∷ [])))) h

    abbrev Told : ℕ → Book → ℕ → ℕ → Fed
    Told start b h q =
        record {
          meter = shows start (written ws b weights q (writes g (entry_words b.path) q)) (rises b.path h q);
          answer = record { number = cond (writes g (entry_words b.path) q) 0 10; place = 0 };
        }

    covered_written : (b : Book) (h q : ℕ) (t : Bool) → writes g (entry_words b.path) q ≡ t → Covered b.path h
        → Covered (written ws b weights q t).path (cond t (max h (weighed_since g (b.path ++ (entry q ∷ [])))) h)
    covered_written b h q true e l = omega arith
    covered_written b h q false e l = l

    alone : (q : ℕ) → w q ≡ w q + 0
    alone q = omega arith

    first_fed : (start k h q : ℕ) (t u : Bool) → eqb q 0 ≡ t → ltb 0 g.size ≡ u
        → feed_of (scale_of ws weights) (shows start (record { path = []; tally = k }) h) q ≡ Told start (record { path = []; tally = k }) h q
    unfolding feed_of is_foreign is_stray moved_to showing
    first_fed start k h q true true e d =
        rw (
          le-ltb most_words g.size few,
          accepted,
          le-ltb h 0 (omega arith),
          eqb-true q 0 e,
          lt-leb g.size 0 (ltb-true 0 g.size d),
          d,
          ← alone 0,
        )
    first_fed start k h q true false e d =
        rw (
          le-ltb most_words g.size few,
          accepted,
          le-ltb h 0 (omega arith),
          eqb-true q 0 e,
          le-leb g.size 0 (ltb-false 0 g.size d),
          d,
        )
    first_fed start k h q false u e d = rw (le-ltb most_words g.size few, accepted, le-ltb h 0 (omega arith), e, or-true)

    next_fed : (start k h : ℕ) (e : Entry) (es : List Entry) (q : ℕ) (t u : Bool)
        → follows g (last_in e es) q ≡ t
        → g.serves (last_in e es) q ≡ u
        → Counted (e ∷ es) → Covered (e ∷ es) h
        → feed_of (scale_of ws weights) (shows start (record { path = e ∷ es; tally = k }) h) q ≡ Told start (record { path = e ∷ es; tally = k }) h q
    unfolding feed_of is_stray moved_to showing
    next_fed start k h x es q true true e d c l =
        rw (
          le-ltb most_words g.size few,
          accepted,
          not_foreign start k h (x ∷ es) c l,
          lt-leb g.size q (step_inside (last_in x es) q e),
          e,
          d,
          last_on x es (entry q),
          weighed_on g x es (entry q),
          d,
          more_services start k,
        )
    next_fed start k h x es q true false e d c l =
        rw (
          le-ltb most_words g.size few,
          accepted,
          not_foreign start k h (x ∷ es) c l,
          lt-leb g.size q (step_inside (last_in x es) q e),
          e,
          d,
          last_on x es (entry q),
          weighed_on g x es (entry q),
          d,
        )
    next_fed start k h x es q false u e d c l = rw (le-ltb most_words g.size few, accepted, not_foreign start k h (x ∷ es) c l, e, or-true)

    fed_as : (start k h : ℕ) (es : List Entry) (q : ℕ) → Counted es → Covered es h
        → feed_of (scale_of ws weights) (shows start (record { path = es; tally = k }) h) q ≡ Told start (record { path = es; tally = k }) h q
    fed_as start k h [] q c l = first_fed start k h q (eqb q 0) (ltb 0 g.size) refl refl
    fed_as start k h (e ∷ es) q c l =
        next_fed start k h e es q (follows g (last_in e es) q)
        (g.serves (last_in e es) q) refl refl c l

  -- a table that 18 refuses
  refused_as : (weights : List ℕ) → refuses_weights weights ≡ true → (m : Meter) (q : ℕ)
      → feed_of (scale_of ws weights) m q ≡ record { meter = m; answer = record { number = 18; place = weights_place weights } }
  unfolding feed_of
  refused_as weights e m q = rw (le-ltb most_words g.size few, e)

  -- Every list of calls, by induction.

  record Same (start : ℕ) (b : Book) (h : ℕ) (calls : List ChangingCall) : Type 0 where
    highest : ℕ
    answers : changing_answers ws (shows start b h) calls ≡ book_answers ws b calls
    after : changing_after ws (shows start b h) calls ≡ shows start (book_after ws b calls) highest

  same : (start : ℕ) (b : Book) (h : ℕ) → Counted b.path → weighed_since g b.path ≤ h → (calls : List ChangingCall) → Bytes calls → Same start b h calls
  unfolding begin_of reset_of
  same start b h c l [] y = record { highest = h; answers = refl; after = refl }
  same start b h c l (begin ∷ cs) y =
      let rest : Same start (book_called ws b begin) h cs = same start (book_called ws b begin) h tt (omega arith) cs y in
      record { highest = rest.highest; answers = rest.answers; after = rest.after }
  same start b h c l (reset ∷ cs) y =
      let rest : Same start b (weighed_since g b.path) cs = same start b (weighed_since g b.path) c (omega arith) cs y in
      record { highest = rest.highest; answers = rest.answers; after = rest.after }
  same start b h c l (feed weights q ∷ cs) y = go (refuses_weights weights) refl (λ b' h' c' l'. same start b' h' c' l' cs y.1)
    where
      go : (t : Bool) → refuses_weights weights ≡ t
          → ((b' : Book) (h' : ℕ) → Counted b'.path → weighed_since g b'.path ≤ h' → Same start b' h' cs) → Same start b h (feed weights q ∷ cs)
      go true e later =
          let rest : Same start b h cs = later b h c l in
          let told = refused_as weights e (shows start b h) q in
          record {
            highest = rest.highest;
            answers = rw (told, e) (ap (λ (xs : List ℕ). 18 ∷ xs) rest.answers);
            after =
                ap (λ (f : Fed). changing_after ws f.meter cs) told
                ∙ (rest.after ∙ ap
                (λ (u : Bool). shows start
                (book_after ws (cond u b (written ws b weights q (writes g (entry_words b.path) q)))
                cs)
                rest.highest)
                (sym e));
          }
      go false e later =
          let t = writes g (entry_words b.path) q in
          let r : ℕ = rises weights e y.0 b.path h q in
          let rest : Same start (written ws b weights q t) r cs =
          later (written ws b weights q t) r (counted_written weights e y.0 b q t refl c) (covered_written weights e y.0 b h q t refl l) in
          let told = fed_as weights e y.0 start b.tally h b.path q c l in
          record {
            highest = rest.highest;
            answers = rw (told, e) (ap (λ (xs : List ℕ). cond t 0 10 ∷ xs) rest.answers);
            after =
                ap (λ (f : Fed). changing_after ws f.meter cs) told
                ∙ (rest.after ∙ ap (λ (u : Bool). shows start (book_after ws (cond u b (written ws b weights q t)) cs) rest.highest) (sym e));
          }

  begun_empty : (m : Meter) → m.services ≤ most_services → begin_of m ≡ shows m.services empty m.highest
  unfolding begin_of
  begun_empty m h = ap (λ (n : ℕ). record { begun = 0; last = 0; count = 0; services = n; highest = m.highest }) (omega arith)

  begun_if : (es : List Entry) (n : ℕ) → n ≡ cond (has_word (entry_words es)) 1 0 → not (eqb n 0) ≡ has_word (entry_words es)
  begun_if [] n e = rw e
  begun_if (e ∷ es) n d = rw d

  pub follows_book : (m : Meter) → m.services < 4294967296 → (calls : List ChangingCall) → Bytes calls → FollowsBook ws m calls
  follows_book m fits calls y =
      let all : Same m.services empty m.highest calls = same m.services empty m.highest tt (omega arith) calls y in
      let start : begin_of m ≡ shows m.services empty m.highest = begun_empty m (omega (arith, fits)) in
      let after : changing_after ws (begin_of m) calls ≡ shows m.services (book_after ws empty calls) all.highest = rw start all.after in
      record {
        answers = rw start all.answers;
        begun = begun_if (book_after ws empty calls).path (changing_after ws (begin_of m) calls).begun (ap (λ (z : Meter). z.begun) after);
        last = ap (λ (z : Meter). z.last) after;
        count = ap (λ (z : Meter). z.count) after;
        services = ap (λ (z : Meter). z.services) after;
      }
