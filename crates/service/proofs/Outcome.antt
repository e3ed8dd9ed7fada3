-- The whole outcome of each question from that of the run. Assumes nothing.
use mathlib.Core.Path.{◌≡◌, refl, sym, ap, ◌∙◌}
use mathlib.Core.Bool.{Bool, true, false, cond}
use mathlib.Core.List.{List, [], ◌++◌, append-nil}
use mathlib.Core.Logic.{⊎_elim}
use Prim.Native.Nat.{ℕ, ◌/◌, ◌%◌, ◌≤◌, ◌<◌, min}
use native.Mathlib.Omega.{arith}
use Rattle.std.specs.Prelude.{Option, None, Some, Result, Ok, Err, ⊤}
use lib.Dec.{ltb, eqb}
use lib.ListN.{length, get_or, drop, replicate}
use lib.Seq.{drop-length}
use borrow.Author.Tests.{lt-ltb, le-ltb, eq-eqb, ne_eqb}
use Rattle.common.specs.Limits.{most_words}
use Rattle.common.specs.Numbers.{«ACCEPTED»}
use Rattle.common.specs.declared.refusal.Refusal.{Refusal}
use Rattle.common.specs.declared.refusal.Refusal.TheVariants.{TooManyWords, ShortSlice, ReachesInvalid}
use Rattle.common.specs.Refusals.{refusal_number}
use Rattle.common.specs.Chain.{refuse_if, sizes_answer}
use Rattle.common.specs.Lists.{tabulate, over}
use Rattle.common.proofs.Order.{split}
use Rattle.common.proofs.Lowest.{is_found, not_found}
use Rattle.common.proofs.Over.{over_laws}
use Rattle.common.proofs.Refusing.{sizes_err}
use Rattle.graph.specs.Graph.{Graph}
use Rattle.graph.specs.Marks.{mark_of}
use Rattle.graph.specs.Longest.{length_of, longest, first}
use Rattle.graph.specs.Distance.{distance_of}
use Rattle.fields.specs.declared.version.Version.{Version}
use Rattle.runs.specs.Script.{Script, script_of, graph_of, weight_of}
use Rattle.runs.specs.declared.longest.Longest.{Longest}
use Rattle.sweep.specs.Steps.{unit_weight}
use Rattle.sweep.specs.Entries.{entries, entry_steps, graph_in, lowest_by}
use Rattle.sweep.specs.PassInvariants.{FillAsks}
use Rattle.runs.specs.Outcome.{Searched, decided, Decided}
use Rattle.runs.specs.Run.{Run, accepted_run, run_of, number_of, lowest_invalid, untouched, marks_after, lengths_after}
use Rattle.runs.specs.Counted.{ones}
use Rattle.runs.proofs.Laws.{laws}
use Rattle.service.specs.Questions.{Nearest, Crossed, fewest_of, nearest_by, nearest_of, crossed_by, crossed_of, answer_by, listed_at}
use Rattle.service.specs.Questions.{within_of, marks_within, lengths_within, list_by, list_within}
use Rattle.service.specs.Pass.{Fits, fewest_in}
use Rattle.service.specs.Pairs.{«LENGTHS», distance_in, paired_length, pair_at, Pairs, listed_by, by_lowest, answer_in, lengths_in, list_in}
use Rattle.service.proofs.Sizes.{run_many, run_short, run_none, run_sizes}
use Rattle.service.proofs.Near.{entering}
use Rattle.service.proofs.PairedWords.{pair_length, pair_listed}

-- the fewest words from a word
module _ (ws : Script) (w : ℕ) where
  pub fewest_past : ws.size ≤ w → None ≡ fewest_of ws w
  unfolding fewest_of
  fewest_past h = rw (le-ltb w ws.size h)

  pub fewest_not : w < ws.size → (mark_of (graph_of ws) w ≡ 1 → ⊥) → None ≡ fewest_of ws w
  unfolding fewest_of
  fewest_not h n = rw (lt-ltb w ws.size h, ne_eqb (mark_of (graph_of ws) w) 1 n)

  pub fewest_found : w < ws.size → mark_of (graph_of ws) w ≡ 1 → {d : ℕ} → d ≡ distance_of (graph_of ws) w → Some d ≡ fewest_of ws w
  unfolding fewest_of
  fewest_found h m {d} e = rw (lt-ltb w ws.size h, eq-eqb (mark_of (graph_of ws) w) 1 m) (ap Some e)

-- the list, the lengths and the answer by pairs l' of the entries in l, of which r is the lowest that is invalid
module _ (m l : List ℕ) (a : FillAsks m l) (d : ℕ) (list : List ℕ) (long : length l ≤ length list)
    {l' : List ℕ} {r : Option ℕ} (k : Pairs l l' r) (same : length l' ≡ length l) where
  abbrev es : List ℕ
  es = entries l

  abbrev Listing : Result ⊤ Refusal → List ℕ → List ℕ → Type 0
  Listing x l'' list' = (x ≡ answer_in es) × ((l'' ≡ lengths_in es) × (list' ≡ list_in d es list))

  n : length es ≡ length l
  n = entering.as_long l

  -- a reachable word is bad
  module _ {p : ℕ} (h : r ≡ Some p) where
    lowest : (p ≡ lowest_by (length es) (entry_steps es)) × (p < length es)
    lowest = is_found (sym h ∙ k.lowest-invalid)

    refused : {A : Type 0} (x y : A) → x ≡ by_lowest es x y
    refused x y =
        let z : lowest_by (length es) (entry_steps es) < length es = omega (arith, lowest.0, lowest.1) in
        rw (lt-ltb (lowest_by (length es) (entry_steps es)) (length es) z)

    pub listing_refused : {l'' : List ℕ} → l'' ≡ replicate (length l) 0 ++ drop (length l) l' → Listing (Err (ReachesInvalid p)) l'' list
    listing_refused {l''} e = (
      ap (λ (q : ℕ). Err (ReachesInvalid q)) lowest.0 ∙ refused _ _,
      (cleared ∙ refused _ _, refused _ _),
    )
      where
        none : drop (length l) l' ≡ []
        none = ap (λ (x : ℕ). drop x l') (sym same) ∙ drop-length l'

        cleared : l'' ≡ tabulate (λ p. 0) 0 (length es)
        cleared =
            e ∙ ap (λ (x : List ℕ). replicate (length l) 0 ++ x) none ∙ append-nil (replicate (length l) 0) ∙ over_laws.zeros 0 (length l)
            ∙ ap (tabulate (λ p. 0) 0) (sym n)

  -- none is
  module _ (h : r ≡ None) where
    accepted : {A : Type 0} (x y : A) → y ≡ by_lowest es x y
    accepted x y =
        let z : length es ≤ lowest_by (length es) (entry_steps es) = not_found (sym h ∙ k.lowest-invalid) in
        rw (le-ltb (lowest_by (length es) (entry_steps es)) (length es) z)

    pub listing_accepted : {e : ℕ} {l'' list' : List ℕ} → e ≡ min d 65535 → l'' ≡ tabulate (paired_length l') 0 (length l')
        → list' ≡ over (λ p. listed_by e (distance_in l' p)) (length l') list → Listing (Ok tt) l'' list'
    listing_accepted {e} {l''} {list'} s x y = (accepted _ _, (lengths ∙ accepted _ _, listed ∙ accepted _ _))
      where
        pair : (p : ℕ) → p < length es → get_or l' p 0 ≡ pair_at (graph_in es) p
        pair p h = k.each p (omega (arith, n))

        length_at : (p : ℕ) → p < length es → get_or l'' p 0 ≡ length_of (graph_in es) unit_weight p
        length_at p h =
            ap (λ (z : List ℕ). get_or z p 0) x ∙ over_laws.get_d_tabulate (paired_length l') 0 (length l') p (omega (arith, n, same))
            ∙ ap (paired_length l') (omega arith) ∙ ap (λ (z : ℕ). z % «LENGTHS») (pair p h) ∙ pair_length (graph_in es) a.held.law a.held.lent.few p

        lengths : l'' ≡ tabulate (length_of (graph_in es) unit_weight) 0 (length es)
        lengths =
            over_laws.whole (length_of (graph_in es) unit_weight) (length es) l''
            (ap length x ∙ over_laws.length_tabulate (paired_length l') 0 (length l') ∙ same ∙ sym n)
            length_at

        by : ℕ → ℕ
        by p = listed_by e (distance_in l' p)

        listed : list' ≡ over (listed_at (graph_in es) d) (length es) list
        listed =
            over_laws.is (listed_at (graph_in es) d) (length es) list list'
            (let z = ap length y in omega (arith, n, same, long, over_laws.length_over by (length l') list (omega (arith, same, long))))
            (λ p h. ap (λ (z : List ℕ). get_or z p 0) y ∙ over_laws.at by (length l') list p (omega (arith, n, same))
            ∙ ap (λ (z : ℕ). listed_by e (z / «LENGTHS»)) (pair p h) ∙ pair_listed (graph_in es) a.held.law a.held.lent.few d e s p h)
            (ap (drop (length es)) y ∙ ap (λ (z : ℕ). drop (length es) (over by z list)) (same ∙ sym n) ∙ over_laws.past by (length es) list)

-- words that are searched, and the run of them
module _ (version : Version) (words m l : List ℕ) (s : Searched (script_of version words) m l) where
  abbrev script : Script
  script = script_of version words

  graph_is : graph_in (entries l) ≡ graph_of script
  graph_is = laws.entry_laws.graph_is version words m l s

  module _ {r : Run} {m' l' : List ℕ} (d : Decided script ones r m' l') where
    pub nearest_accepted : (w : ℕ) {v : Longest} {x : Option ℕ} → r ≡ Ok v
        → x ≡ fewest_in (graph_in (entries l)) w → Ok x ≡ nearest_by (decided script ones) script w
    unfolding fewest_of
    nearest_accepted w h e = ap Ok (e ∙ ap (λ (g : Graph). fewest_in g w) graph_is) ∙ ap (λ (x : Run). nearest_by x script w) (sym h ∙ d.answer)

  size_is : length (entries l) ≡ script.size
  size_is = entering.as_long l ∙ s.lent.l_same

  abbrev low : ℕ
  low = lowest_by (length (entries l)) (entry_steps (entries l))

  lowest_is : low ≡ lowest_invalid script
  lowest_is = laws.entry_laws.lowest_is version words m l s

  pub answer_decided : {x : Result ⊤ Refusal} → x ≡ answer_in (entries l) → x ≡ answer_by (decided script ones)
  answer_decided e =
      let a = ap (λ (x : ℕ). cond (ltb x (length (entries l))) (Err (ReachesInvalid x)) (Ok tt)) lowest_is in
      let b = ap (λ (x : ℕ). cond (ltb (lowest_invalid script) x) (Err (ReachesInvalid (lowest_invalid script))) (Ok tt)) size_is in
      e ∙ a ∙ b ∙ go (ltb (lowest_invalid script) script.size)
    where
      go : (b : Bool)
          → cond b (Err (ReachesInvalid (lowest_invalid script))) (Ok tt)
          ≡ answer_by (refuse_if b (Err (ReachesInvalid (lowest_invalid script)))
          (accepted_run (longest (graph_of script) (weight_of script ones))
          (first (graph_of script) (weight_of script ones))))
      go true = refl
      go false = refl

  pub lengths_decided : {l' : List ℕ} → l' ≡ lengths_in (entries l) → Decided script ones (decided script ones) m l'
  lengths_decided {l'} e =
      record {
        answer = refl;
        marks = over_laws.whole (mark_of (graph_of script)) script.size m s.lent.m_same s.marked;
        lengths = e ∙ a ∙ b ∙ g ∙ w ∙ go (ltb (lowest_invalid script) script.size);
      }
    where
      zeros : ℕ → List ℕ
      zeros n = tabulate (λ p. 0) 0 n

      a : lengths_in (entries l)
          ≡ cond (ltb (lowest_invalid script) (length (entries l))) (zeros (length (entries l)))
          (tabulate (length_of (graph_in (entries l)) unit_weight) 0 (length (entries l)))
      a =
          ap
          (λ (x : ℕ). cond (ltb x (length (entries l))) (zeros (length (entries l)))
          (tabulate (length_of (graph_in (entries l)) unit_weight) 0 (length (entries l))))
          lowest_is

      by : Graph → (ℕ → ℕ) → ℕ → List ℕ
      by h v n = cond (ltb (lowest_invalid script) n) (zeros n) (tabulate (length_of h v) 0 n)

      b : by (graph_in (entries l)) unit_weight (length (entries l)) ≡ by (graph_in (entries l)) unit_weight script.size
      b = ap (by (graph_in (entries l)) unit_weight) size_is

      g : by (graph_in (entries l)) unit_weight script.size ≡ by (graph_of script) unit_weight script.size
      g = ap (λ (x : Graph). by x unit_weight script.size) graph_is

      w : by (graph_of script) unit_weight script.size ≡ by (graph_of script) (weight_of script ones) script.size
      w = ap (λ (x : ℕ → ℕ). by (graph_of script) x script.size) (sym (laws.ones_weigh_of version words))

      go : (b : Bool)
          → cond b (zeros script.size) (tabulate (length_of (graph_of script) (weight_of script ones)) 0 script.size)
          ≡ cond (eqb
          (number_of (refuse_if b (Err (ReachesInvalid (lowest_invalid script)))
          (accepted_run (longest (graph_of script) (weight_of script ones))
          (first (graph_of script) (weight_of script ones)))))
          «ACCEPTED»)
          (tabulate (length_of (graph_of script) (weight_of script ones)) 0 script.size) (zeros script.size)
      go true = refl
      go false = refl

  pub list_decided : (d : ℕ) (list : List ℕ) {list' : List ℕ} → list' ≡ list_in d (entries l) list → list' ≡ list_by (decided script ones) script d list
  list_decided d list e =
      let a = ap (λ (x : ℕ). cond (ltb x (length (entries l))) list (over (listed_at (graph_in (entries l)) d) (length (entries l)) list)) lowest_is in
      let b = ap (λ (x : ℕ). cond (ltb (lowest_invalid script) x) list (over (listed_at (graph_in (entries l)) d) x list)) size_is in
      let g = ap (λ (x : Graph). cond (ltb (lowest_invalid script) script.size) list (over (listed_at x d) script.size list)) graph_is in
      e ∙ a ∙ b ∙ g ∙ go (ltb (lowest_invalid script) script.size)
    where
      go : (b : Bool)
          → cond b list (over (listed_at (graph_of script) d) script.size list)
          ≡ list_by
          (refuse_if b (Err (ReachesInvalid (lowest_invalid script)))
          (accepted_run (longest (graph_of script) (weight_of script ones))
          (first (graph_of script) (weight_of script ones))))
          script d list
      go true = refl
      go false = refl

-- the list
module _ (ws : Script) (d : ℕ) (m l list : List ℕ) where
  abbrev pub Listed : Result ⊤ Refusal → List ℕ → List ℕ → List ℕ → Type 0
  Listed x m' l' list' =
      (x ≡ within_of ws (length m) (length l) (length list)) × ((m' ≡ marks_within ws m l list)
      × ((l' ≡ lengths_within ws m l list) × (list' ≡ list_within ws d m l list)))

  pub within_many : most_words < ws.size → Listed (Err TooManyWords) m l list
  unfolding within_of marks_within lengths_within list_within
  within_many h = (
    rw (lt-ltb most_words ws.size h),
    (
      kept (ltb (length list) ws.size) slices.0,
      (kept (ltb (length list) ws.size) slices.1, rw (run_many ws (length m) (length l) h) (kept (ltb (length list) ws.size) refl)),
    ),
  )
    where
      slices : (m ≡ marks_after ws ones m l) × (l ≡ lengths_after ws ones m l)
      slices = laws.entry_laws.refused ws ones m l TooManyWords (run_many ws (length m) (length l) h) refl

      kept : (t : Bool) {x y : List ℕ} → x ≡ y → x ≡ refuse_if t x y
      kept true e = refl
      kept false e = e

  pub within_short : ws.size ≤ most_words → length list < ws.size → Listed (Err ShortSlice) m l list
  unfolding within_of marks_within lengths_within list_within
  within_short few h = (
    rw (le-ltb most_words ws.size few, lt-ltb (length list) ws.size h),
    (rw (lt-ltb (length list) ws.size h), (rw (lt-ltb (length list) ws.size h), rw (lt-ltb (length list) ws.size h))),
  )

  pub listed-by : ws.size ≤ most_words → ws.size ≤ length list → {x : Result ⊤ Refusal} {m' l' list' : List ℕ} → answer_by (run_of ws ones (length m) (length l)) ≡ x
      → (m' ≡ marks_after ws ones m l) × (l' ≡ lengths_after ws ones m l) → list' ≡ list_by (run_of ws ones (length m) (length l)) ws d list → Listed x m' l' list'
  unfolding within_of marks_within lengths_within list_within
  listed-by few long e s g = (
    rw (le-ltb most_words ws.size few, le-ltb (length list) ws.size long) (sym e),
    (rw (le-ltb (length list) ws.size long) s.0, (rw (le-ltb (length list) ws.size long) s.1, rw (le-ltb (length list) ws.size long) g)),
  )

  -- refused for the sizes
  pub within_early :
      {room both : ℕ} {e : Refusal} → room ≡ min (length m) (length l) → both ≡ min (length list) room → Err e ≡ sizes_answer ws.size both
      → Listed (Err e) m l list
  within_early r b h =
      sizes_err ws.size (min (length list) (min (length m) (length l))) (λ (e : Refusal). Listed (Err e) m l list)
      within_many
      (λ few h. ⊎_elim (λ long. by_run few long refl (run_short ws (length m) (length l) few (omega arith))) (λ s. within_short few s) (split ws.size (length list)))
      (λ few h z. by_run few (omega arith) refl (run_none ws (length m) (length l) few (omega arith) z))
      (ap (sizes_answer ws.size) (ap (min (length list)) (sym r) ∙ sym b) ∙ sym h)
    where
      by_run : ws.size ≤ most_words → ws.size ≤ length list → {k : Refusal} → untouched (refusal_number k) ≡ true
          → run_of ws ones (length m) (length l) ≡ Err k → Listed (Err k) m l list
      by_run few long {k} u e =
          listed-by few long (ap answer_by e) (laws.entry_laws.refused ws ones m l k e u) (sym (ap (λ (x : Run). list_by x ws d list) e))

-- the whole slices
module _ (ws : Script) (m l : List ℕ) where
  abbrev Slices : List ℕ → List ℕ → Type 0
  Slices m' l' = (m' ≡ marks_after ws ones m l) × (l' ≡ lengths_after ws ones m l)

  -- a script that is refused before a word is read
  module _ {room : ℕ} {e : Refusal} (r : room ≡ min (length m) (length l)) (k : Err e ≡ sizes_answer ws.size room) where
    early_run : run_of ws ones (length m) (length l) ≡ Err e
    early_run = (run_sizes ws (length m) (length l) r k).1

    early_slices : Slices m l
    early_slices = laws.entry_laws.refused ws ones m l e early_run (run_sizes ws (length m) (length l) r k).0

    pub nearest_early : (w : ℕ) → (Err e ≡ nearest_of ws w (length m) (length l)) × Slices m l
    unfolding nearest_of
    nearest_early w = (ap (λ (x : Run). nearest_by x ws w) (sym early_run), early_slices)

    pub crossed_early : (w : ℕ) → (Err e ≡ crossed_of ws w (length m) (length l)) × Slices m l
    unfolding crossed_of
    crossed_early w = (ap (λ (x : Run). crossed_by x ws w) (sym early_run), early_slices)

  -- one that passes the checks of the sizes, by what its words give
  module _ (k : Fits ws.size (length m) (length l)) {m' l' : List ℕ} (d : Decided ws ones (decided ws ones) m' l') where
    late : (run_of ws ones (length m) (length l) ≡ decided ws ones) × Slices (m' ++ drop ws.size m) (l' ++ drop ws.size l)
    late =
        let o = laws.entry_laws.outcome ws ones m l k.few k.marks_long k.lengths_long laws.ones_accepted k.some m' l' d in
        (o.0, (o.1, o.2))

    pub nearest_late : (w : ℕ) {x : Nearest} → x ≡ nearest_by (decided ws ones) ws w
        → (x ≡ nearest_of ws w (length m) (length l)) × Slices (m' ++ drop ws.size m) (l' ++ drop ws.size l)
    unfolding nearest_of
    nearest_late w e = (e ∙ ap (λ (x : Run). nearest_by x ws w) (sym late.0), late.1)

    pub crossed_late : (w : ℕ) {x : Crossed} → x ≡ crossed_by (decided ws ones) ws w
        → (x ≡ crossed_of ws w (length m) (length l)) × Slices (m' ++ drop ws.size m) (l' ++ drop ws.size l)
    unfolding crossed_of
    crossed_late w e = (e ∙ ap (λ (x : Run). crossed_by x ws w) (sym late.0), late.1)

    pub within_late : (d : ℕ) (list : List ℕ) {x : Result ⊤ Refusal} {list' : List ℕ} → ws.size ≤ length list → x ≡ answer_by (decided ws ones)
        → list' ≡ list_by (decided ws ones) ws d list → Listed ws d m l list x (m' ++ drop ws.size m) (l' ++ drop ws.size l) list'
    within_late d list long e g =
        listed-by ws d m l list k.few long (ap answer_by late.0 ∙ sym e) late.1 (g ∙ ap (λ (x : Run). list_by x ws d list) (sym late.0))
