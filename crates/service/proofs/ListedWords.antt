-- What is listed, and what the slices then hold. Assumes nothing.
use mathlib.Core.Path.{◌≡◌, refl, sym, ap, ◌∙◌}
use mathlib.Core.Logic.{⊎_elim}
use mathlib.Core.Bool.{Bool, true, false, cond, ◌&&◌}
use mathlib.Core.List.{List}
use Prim.Native.Nat.{ℕ, ◌≤◌, ◌<◌}
use native.Mathlib.Omega.{arith}
use lib.Dec.{ltb, leb, eqb}
use lib.ListN.{length, get_or, drop}
use borrow.Author.Tests.{lt-ltb, le-ltb, leb-true, le-leb, eqb-true, eq-eqb}
use Rattle.common.specs.Limits.{most_words}
use Rattle.std.specs.Prelude.{Ok, Err}
use Rattle.common.specs.declared.refusal.Refusal.{Refusal}
use Rattle.common.specs.Chain.{refuse_if}
use Rattle.common.specs.Lists.{over}
use Rattle.common.proofs.Order.{split}
use Rattle.common.proofs.Over.{over_laws}
use Rattle.graph.specs.Marks.{mark_of}
use Rattle.graph.specs.Distance.{distance_of}
use Rattle.graph.proofs.Distance.{distances}
use Rattle.runs.specs.Script.{Script, Sound, graph_of}
use Rattle.runs.specs.Run.{Run, number_of, marks_after, lengths_after}
use Rattle.runs.specs.Counted.{ones}
use Rattle.runs.proofs.Laws.{laws}
use Rattle.service.specs.Questions.{unit_run, answer_by, within_mark, listed_at, within_of, marks_within, lengths_within, list_by, list_within}
use Rattle.service.specs.Nearest.{AcceptedRun}
use Rattle.service.specs.ListedWords.{IsWithin, WordsListed, ListWithin}
use Rattle.service.proofs.Sizes.{run_many}
use Rattle.service.proofs.NearestService.{fewest_words, fewest_one, reach_mark, mark_reach}
use Rattle.service.proofs.Outcome.{Listed, within_many, within_short, listed-by}

-- the number of a listed word
module _ (d mark distance : ℕ) where
  listed_one : mark ≡ 1 → distance ≤ d → within_mark d mark distance ≡ 1
  listed_one m h = rw (eq-eqb mark 1 m, le-leb distance d h)

  one_listed : within_mark d mark distance ≡ 1 → (mark ≡ 1) × (distance ≤ d)
  one_listed e = go (eqb mark 1) (leb distance d) refl refl e
    where
      go : (s t : Bool) → eqb mark 1 ≡ s → leb distance d ≡ t → ◌≡◌ {A = ℕ} (cond (s && t) 1 0) 1 → (mark ≡ 1) × (distance ≤ d)
      go true true x y h = (eqb-true mark 1 x, leb-true distance d y)
      go true false x y h = absurd (omega arith)
      go false t x y h = absurd (omega arith)

  listed_bit : (within_mark d mark distance ≡ 1 → ⊥) → within_mark d mark distance ≡ 0
  listed_bit n = go (eqb mark 1 && leb distance d) n
    where
      go : (s : Bool) → (◌≡◌ {A = ℕ} (cond s 1 0) 1 → ⊥) → ◌≡◌ {A = ℕ} (cond s 1 0) 0
      go true k = absurd (k refl)
      go false k = refl

module _ (ws : Script) (sound : Sound ws) (d : ℕ) (m l list : List ℕ) where
  -- past the checks of the words' number and of the list, all goes by the run
  by_run : ws.size ≤ most_words → ws.size ≤ length list
      → Listed ws d m l list (answer_by (unit_run ws (length m) (length l))) (marks_after ws ones m l)
      (lengths_after ws ones m l) (list_by (unit_run ws (length m) (length l)) ws d list)
  by_run few long = listed-by ws d m l list few long refl (refl, refl) refl

  module _ (r : AcceptedRun ws (length m) (length l)) (long : ws.size ≤ length list) where
    few : ws.size ≤ most_words
    few = (laws.enough ws ones (length m) (length l) (ap number_of r.run)).few

    answer_is : within_of ws (length m) (length l) (length list) ≡ Ok tt
    answer_is = sym (by_run few long).0 ∙ ap answer_by r.run

    list_is : list_within ws d m l list ≡ over (listed_at (graph_of ws) d) ws.size list
    list_is = sym (by_run few long).1.1.1 ∙ ap (λ (x : Run). list_by x ws d list) r.run

    at : (p : ℕ) → p < ws.size → get_or (list_within ws d m l list) p 0 ≡ listed_at (graph_of ws) d p
    at p h = ap (λ (x : List ℕ). get_or x p 0) list_is ∙ over_laws.at (listed_at (graph_of ws) d) ws.size list p h

    within-of : (p : ℕ) → p < ws.size → listed_at (graph_of ws) d p ≡ 1 → IsWithin ws d p
    within-of p h e =
        let o = one_listed d (mark_of (graph_of ws) p) (distance_of (graph_of ws) p) e in
        let s = mark_reach ws sound p h o.0 in
        record { reachable = s; words = distance_of (graph_of ws) p; fewest = fewest_words ws sound (length m) (length l) r p s; near = o.1 }

    of_within : (p : ℕ) → IsWithin ws d p → listed_at (graph_of ws) d p ≡ 1
    of_within p i =
        let e = fewest_one ws p (distance_of (graph_of ws) p) i.words (fewest_words ws sound (length m) (length l) r p i.reachable) i.fewest in
        listed_one d (mark_of (graph_of ws) p) (distance_of (graph_of ws) p) (reach_mark ws sound p i.reachable) (omega (arith, e, i.near))

    -- a word's distance is at least 1
    none_within : d ≡ 0 → (p : ℕ) → p < ws.size → listed_at (graph_of ws) d p ≡ 0
    none_within z p h =
        listed_bit d (mark_of (graph_of ws) p) (distance_of (graph_of ws) p)
        (λ e.
        let o = one_listed d (mark_of (graph_of ws) p) (distance_of (graph_of ws) p) e in
        let s = (distances (graph_of ws) (laws.lawful ws sound)).some p (mark_reach ws sound p h o.0) in
        omega (arith, o.1))

    listed_all : WordsListed ws d m l list
    listed_all =
        record {
          answered = answer_is;
          listed = λ p h. (λ e. within-of p h (sym (at p h) ∙ e), λ i. at p h ∙ of_within p i);
          others =
              λ p h. (
                λ e i. let z : ◌≡◌ {A = ℕ} 1 0 = sym (of_within p i) ∙ sym (at p h) ∙ e in omega arith,
                λ n. at p h ∙ listed_bit d (mark_of (graph_of ws) p) (distance_of (graph_of ws) p) (λ e. n (within-of p h e)),
              );
          nothing = λ z p h. at p h ∙ none_within z p h;
          kept =
              record {
                size = ap length list_is ∙ over_laws.length_over (listed_at (graph_of ws) d) ws.size list long;
                past = ap (drop ws.size) list_is ∙ over_laws.past (listed_at (graph_of ws) d) ws.size list;
              };
        }

  refusal : ws.size ≤ length list → (k : Refusal) → unit_run ws (length m) (length l) ≡ Err k
      → within_of ws (length m) (length l) (length list) ≡ Err k
  refusal long k e = ⊎_elim (λ few. sym (by_run few long).0 ∙ ap answer_by e) (λ h. of_many h) (split ws.size most_words)
    where
      of_many : most_words < ws.size → within_of ws (length m) (length l) (length list) ≡ Err k
      of_many h =
          sym (within_many ws d m l list h).0 ∙ ap answer_by (sym (run_many ws (length m) (length l) h) ∙ e)

  marks_run : ws.size ≤ length list → marks_within ws m l list ≡ marks_after ws ones m l
  unfolding marks_within
  marks_run h = rw (le-ltb (length list) ws.size h)

  lengths_run : ws.size ≤ length list → lengths_within ws m l list ≡ lengths_after ws ones m l
  unfolding lengths_within
  lengths_run h = rw (le-ltb (length list) ws.size h)

  untouched : (k : Refusal) → unit_run ws (length m) (length l) ≡ Err k → list_within ws d m l list ≡ list
  unfolding list_within
  untouched k e = rw e (go (ltb (length list) ws.size))
    where
      go : (t : Bool) → refuse_if t list list ≡ list
      go true = refl
      go false = refl

  short_kept : length list < ws.size → (list_within ws d m l list ≡ list) × (marks_within ws m l list ≡ m) × (lengths_within ws m l list ≡ l)
  unfolding list_within marks_within lengths_within
  short_kept h = (rw (lt-ltb (length list) ws.size h), rw (lt-ltb (length list) ws.size h), rw (lt-ltb (length list) ws.size h))

  pub list-within : ListWithin ws d m l list
  list-within =
      record {
        accepted_run = listed_all;
        refused = refusal;
        many = λ h. sym (within_many ws d m l list h).0;
        short = λ few h. sym (within_short ws d m l list few h).0;
        marks_as_run = marks_run;
        lengths_as_run = lengths_run;
        list_untouched = untouched;
        short_untouched = short_kept;
      }
