-- The whole outcome from that of the run. Assumes nothing.
use mathlib.Core.Path.{◌≡◌, refl, sym, ap, ◌∙◌}
use mathlib.Core.Bool.{Bool, true, false}
use mathlib.Core.List.{List, ◌++◌}
use Prim.Native.Nat.{ℕ, ◌≤◌, ◌<◌}
use lib.Dec.{ltb}
use lib.ListN.{length, drop}
use borrow.Author.Tests.{lt-ltb, le-ltb}
use Rattle.std.specs.Prelude.{Result, Err}
use Rattle.common.specs.declared.refusal.Refusal.{Refusal}
use Rattle.common.specs.declared.refusal.Refusal.TheVariants.{TooManyWords, ShortSlice}
use Rattle.common.specs.Limits.{most_words}
use Rattle.common.specs.Chain.{refuse_if}
use Rattle.runs.specs.Script.{Script}
use Rattle.runs.specs.Run.{Run, accepted_run, run_of, marks_after, lengths_after}
use Rattle.witness.specs.declared.longest.PathRun.{PathRun}
use Rattle.witness.specs.Witness.{accepted_path, path_of, path_run_of, marks_witnessed, lengths_witnessed, path_witnessed}

-- the run of too many words
pub run_many : (ws : Script) (weights : List ℕ) (a b : ℕ) → most_words < ws.size → run_of ws weights a b ≡ Err TooManyWords
unfolding run_of
run_many ws weights a b h = rw (lt-ltb most_words ws.size h)

kept : (t : Bool) {x y : List ℕ} → x ≡ y → x ≡ refuse_if t x y
kept true e = refl
kept false e = e

module _ (ws : Script) (weights m l path : List ℕ) where
  pub many_marks : most_words < ws.size → marks_after ws weights m l ≡ m
  unfolding marks_after
  many_marks h = rw (run_many ws weights (length m) (length l) h)

  pub many_lengths : most_words < ws.size → lengths_after ws weights m l ≡ l
  unfolding lengths_after
  many_lengths h = rw (run_many ws weights (length m) (length l) h)

  abbrev pub Whole : Result PathRun Refusal → List ℕ → List ℕ → List ℕ → Type 0
  Whole x m' l' path' =
      (x ≡ path_run_of ws weights (length m) (length l) (length path))
      × ((m' ≡ marks_witnessed ws weights m l path) × ((l' ≡ lengths_witnessed ws weights m l path) × (path' ≡ path_witnessed ws weights m l path)))

  pub path_many : most_words < ws.size → Whole (Err TooManyWords) m l path
  unfolding path_run_of marks_witnessed lengths_witnessed path_witnessed
  path_many h = (
    rw (lt-ltb most_words ws.size h),
    (
      kept (ltb (length path) ws.size) (sym (many_marks h)),
      (
        kept (ltb (length path) ws.size) (sym (many_lengths h)),
        rw (run_many ws weights (length m) (length l) h) (kept (ltb (length path) ws.size) refl),
      ),
    ),
  )

  pub path_short : ws.size ≤ most_words → length path < ws.size → Whole (Err ShortSlice) m l path
  unfolding path_run_of marks_witnessed lengths_witnessed path_witnessed
  path_short few h =
      let s = lt-ltb (length path) ws.size h in
      (rw (le-ltb most_words ws.size few, s), (rw s, (rw s, rw s)))

  module _ (few : ws.size ≤ most_words) (long : ws.size ≤ length path) {r : Run} (e : r ≡ run_of ws weights (length m) (length l)) where
    pub path_refused : {k : Refusal} {m' l' : List ℕ} → r ≡ Err k → m' ≡ marks_after ws weights m l
        → l' ≡ lengths_after ws weights m l → Whole (Err k) m' l' path
    unfolding path_run_of marks_witnessed lengths_witnessed path_witnessed
    path_refused {k} h em el =
        let z : run_of ws weights (length m) (length l) ≡ Err k = sym e ∙ h in
        let s = le-ltb (length path) ws.size long in
        (rw (le-ltb most_words ws.size few, s, z), (rw s em, (rw s el, rw (s, z))))

    pub path_accepted :
        {i j c : ℕ} {m' l' path' : List ℕ} → r ≡ accepted_run i j → m' ≡ marks_after ws weights m l → l' ≡ lengths_after ws weights m l
        → c ≡ length (path_of ws weights) → path' ≡ path_of ws weights ++ drop (length (path_of ws weights)) path → Whole (accepted_path i j c) m' l' path'
    unfolding path_run_of marks_witnessed lengths_witnessed path_witnessed
    path_accepted {i} {j} {c} h em el ec ep =
        let z : run_of ws weights (length m) (length l) ≡ accepted_run i j = sym e ∙ h in
        let s = le-ltb (length path) ws.size long in
        (rw (le-ltb most_words ws.size few, s, z) (ap (accepted_path i j) ec), (rw s em, (rw s el, rw (s, z) ep)))
