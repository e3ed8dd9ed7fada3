-- The whole outcome from the run before the walk, and from the walk: of any sound script, so that both versions' functions cite it.
-- Assumes nothing.
use mathlib.Core.Path.{◌≡◌, refl, sym, ap, ◌∙◌}
use mathlib.Core.Bool.{Bool, true, false, false≢true}
use mathlib.Core.List.{List, [], ◌++◌}
use Prim.Native.Nat.{ℕ, ◌≤◌, ◌<◌}
use lib.Dec.{ltb}
use lib.ListN.{length, drop}
use borrow.Author.Tests.{lt-ltb, ltb-true, ltb-false, le-ltb}
use Rattle.std.specs.Prelude.{Ok, Err, ⊤}
use Rattle.common.specs.declared.refusal.Refusal.{Refusal}
use Rattle.common.specs.declared.refusal.Refusal.TheVariants.{TooManyWords, ShortSlice}
use Rattle.common.specs.Limits.{most_words}
use Rattle.common.specs.Chain.{refuse_if, room_answer}
use Rattle.common.proofs.Refusing.{room_err, room_ok}
use Rattle.runs.specs.Script.{Script, Sound}
use Rattle.runs.specs.Run.{Run, accepted_run, run_of, number_of, marks_after, lengths_after}
use Rattle.runs.proofs.Laws.{laws}
use Rattle.witness.specs.Witness.{accepted_path, path_answer_by, path_by, path_of, path_run_of, marks_witnessed, lengths_witnessed, path_witnessed}
use Rattle.witness.specs.Walking.{Walked, run_within, kept}
use Rattle.witness.proofs.Accepted.{is_accepted, first_is, first_inside, walked_is}
use Rattle.witness.proofs.Outcome.{Whole, run_many, many_marks, many_lengths, path_accepted}

-- the chain of both checks, before any run
abbrev chain : Bool → Bool → Run → Run
chain many short r = refuse_if many (Err TooManyWords) (refuse_if short (Err ShortSlice) r)

through :
    (t u : Bool) (r : Run) (w : List ℕ)
    → path_answer_by (chain t u r) w
    ≡ refuse_if t (Err TooManyWords) (refuse_if u (Err ShortSlice) (path_answer_by r w))
through true u r w = refl
through false true r w = refl
through false false r w = refl

stays :
    (t u : Bool) (r : Run) {k : Refusal} (w path : List ℕ) → (t ≡ true → r ≡ Err TooManyWords)
    → chain t u r ≡ Err k → path ≡ refuse_if u path (path_by r w path)
stays t true r w path many e = refl
stays true false r w path many e = rw (many refl)
stays false false r w path many e = rw e

passes :
    (t u : Bool) (r : Run) {i j : ℕ} → chain t u r ≡ accepted_run i j
    → (t ≡ false) × (u ≡ false) × (r ≡ accepted_run i j)
passes true u r e = absurd (false≢true (ap is_accepted e))
passes false true r e = absurd (false≢true (ap is_accepted e))
passes false false r e = (refl, refl, e)

-- the run before the walk, where there is so much room for the path
module _ (ws : Script) (weights m l : List ℕ) (room : ℕ) where
  abbrev Within : Run → List ℕ → List ℕ → Type 0
  Within r m' l' =
      (r ≡ run_within ws weights (length m) (length l) room)
      × ((m' ≡ kept ws room m (marks_after ws weights m l)) × (l' ≡ kept ws room l (lengths_after ws weights m l)))

  either : (t : Bool) {x y : List ℕ} → y ≡ x → x ≡ refuse_if t x y
  either true e = refl
  either false e = sym e

  within_many : most_words < ws.size → Within (Err TooManyWords) m l
  unfolding run_within
  within_many h =
      let u = ltb room ws.size in
      (rw (lt-ltb most_words ws.size h), (either u (many_marks ws weights m l [] h), either u (many_lengths ws weights m l [] h)))

  within_short : ws.size ≤ most_words → room < ws.size → Within (Err ShortSlice) m l
  unfolding run_within
  within_short few h = let s = lt-ltb room ws.size h in (rw (le-ltb most_words ws.size few, s), (rw s, rw s))

  module _ where
    pub within_refused : {e : Refusal} → Err e ≡ room_answer ws.size room → Within (Err e) m l
    within_refused h = room_err ws.size room (λ (e : Refusal). Within (Err e) m l) within_many within_short (sym h)

    pub within_run :
        {t : ⊤} → Ok t ≡ room_answer ws.size room → {r : Run} {m' l' : List ℕ} → r ≡ run_of ws weights (length m) (length l)
        → m' ≡ marks_after ws weights m l → l' ≡ lengths_after ws weights m l → Within r m' l'
    unfolding run_within
    within_run z e em el =
        let p = room_ok ws.size room (sym z) in
        let s = le-ltb room ws.size p.1 in
        (rw (le-ltb most_words ws.size p.0, s) e, (rw s em, rw s el))

module _ (ws : Script) (weights m l path : List ℕ) {r : Run} (e : r ≡ run_within ws weights (length m) (length l) (length path)) where
  pub within_accepted :
      {i j : ℕ} → r ≡ accepted_run i j
      → (ws.size ≤ most_words) × (ws.size ≤ length path) × (run_of ws weights (length m) (length l) ≡ accepted_run i j)
  unfolding run_within
  within_accepted h =
      let p = passes (ltb most_words ws.size) (ltb (length path) ws.size) (run_of ws weights (length m) (length l)) (sym e ∙ h) in
      (ltb-false most_words ws.size p.0, ltb-false (length path) ws.size p.1, p.2)

  pub whole_refused :
      {k : Refusal} {m' l' : List ℕ} → r ≡ Err k → m' ≡ kept ws (length path) m (marks_after ws weights m l)
      → l' ≡ kept ws (length path) l (lengths_after ws weights m l) → Whole ws weights m l path (Err k) m' l' path
  unfolding run_within path_run_of marks_witnessed lengths_witnessed path_witnessed
  whole_refused {k} h em el =
      let t = ltb most_words ws.size in
      let u = ltb (length path) ws.size in
      let run = run_of ws weights (length m) (length l) in (
        ap (λ (x : Run). path_answer_by x (path_of ws weights)) (sym h ∙ e) ∙ through t u run (path_of ws weights),
        (em, (el, stays t u run (path_of ws weights) path (λ d. run_many ws weights (length m) (length l) (ltb-true most_words ws.size d)) (sym e ∙ h))),
      )

  module _ (sound : Sound ws) {i j : ℕ} (h : r ≡ accepted_run i j) where
    pub walk_inside : (ws.size ≤ length l) × (j < ws.size)
    walk_inside =
        let a = within_accepted h in
        ((laws.enough ws weights (length m) (length l) (ap number_of a.2)).lengths_long, first_inside ws sound weights (length m) (length l) i j a.2)

    pub whole_walked :
        {m' l' path' : List ℕ} {c : ℕ} → m' ≡ kept ws (length path) m (marks_after ws weights m l)
        → l' ≡ kept ws (length path) l (lengths_after ws weights m l) → Walked ws l' j path path' c
        → Whole ws weights m l path (accepted_path i j c) m' l' path'
    whole_walked {m'} {l'} {path'} {c} em el w =
        let a = within_accepted h in
        let s = le-ltb (length path) ws.size a.1 in
        let ml : m' ≡ marks_after ws weights m l = em ∙ ap (λ (t : Bool). refuse_if t m (marks_after ws weights m l)) s in
        let ll : l' ≡ lengths_after ws weights m l = el ∙ ap (λ (t : Bool). refuse_if t l (lengths_after ws weights m l)) s in
        let f = walked_is ws sound weights m l (ap number_of a.2) ll (first_is ws sound weights (length m) (length l) i j a.2) in
        path_accepted ws weights m l path a.0 a.1 refl a.2 ml ll
        (w.count ∙ ap length f)
        (w.written ∙ ap (λ (xs : List ℕ). xs ++ drop (length xs) path) f)
