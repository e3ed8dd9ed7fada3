-- The request leaves no freedom: there is one trace that is scheduled.
-- Assumes nothing.
use mathlib.Core.Path.{◌≡◌, refl, sym, ap, ap₂, subst, ◌∙◌}
use mathlib.Core.Logic.{◌⊎◌, inl, inr, ⊎_elim}
use mathlib.Core.List.{List, [], ◌∷◌}
use Prim.Native.Nat.{ℕ, ◌≤◌, ◌<◌}
use native.Mathlib.Omega.{arith}
use Rattle.common.proofs.Order.{split, same_or_not}
use Rattle.graph.specs.Graph.{Graph}
use Rattle.rehearsal.specs.Machine.{Event}
use Rattle.rehearsal.specs.Schedule as S
use Rattle.rehearsal.specs.Schedule.{needed, BetweenInTurn}
use Rattle.rehearsal.proofs.Schedule.{leads_once}

-- of two scripts one comes first after a
first_of : (a s t : ℕ) → (s ≡ t → ⊥) → BetweenInTurn a s t ⊎ BetweenInTurn a t s
first_of a s t n =
    ⊎_elim
    (λ low. ⊎_elim
    (λ low'. ⊎_elim
    (λ h. inl (inr (low', inr (omega arith))))
    (λ h. inr (inr (low, inr h)))
    (split s t))
    (λ high. inr (inl' a s t low high))
    (split t a))
    (λ high. ⊎_elim
    (λ low. inl (inl' a t s low high))
    (λ high'. ⊎_elim
    (λ h. inl (inl (high, omega arith)))
    (λ h. inr (inl (high', h)))
    (split s t))
    (split t a))
    (split s a) where
      inl' : (a low high : ℕ) → low ≤ a → a < high → BetweenInTurn a high low
      inl' a low high l h = inr (l, inl h)

same_event : (f g : Event) → f.script ≡ g.script → f.word ≡ g.word → f.nth ≡ g.nth → f ≡ g
same_event f g a b c =
    ap (λ (x : ℕ). record { script = x; word = f.word; nth = f.nth }) a
    ∙ ap₂ (λ (y z : ℕ). record { script = g.script; word = y; nth = z }) b c

module _ (graphs : ℕ → Graph) (k q : ℕ) (choices : List ℕ) (limit : ℕ) where
  abbrev Due : List Event → Event → Type 0
  Due = S.Due graphs k q choices limit

  abbrev Scheduled : List Event → List Event → Type 0
  Scheduled = S.Scheduled graphs k q choices limit

  at_once : (before : List Event) (j x y : ℕ) → S.At graphs k q choices limit before j x
      → S.At graphs k q choices limit before j y
      → x ≡ y
  at_once [] j x y a b = a ∙ sym b
  at_once (e ∷ before) j x y a b =
      ⊎_elim
      (λ u. ⊎_elim
      (λ v. leads_once graphs k q choices limit ((graphs e.script).successors e.word)
      (S.used_up graphs k q choices limit before) x y u.1 v.1)
      (λ v. absurd (v.0 u.0))
      b)
      (λ u. ⊎_elim (λ v. absurd (u.0 v.0)) (λ v. at_once before j x y u.1 v.1) b)
      a

  next_once : (before : List Event) (f g : Event) → Due before f → Due before g → (f.script ≡ g.script)
      × (f.nth ≡ g.nth)
  next_once [] f g d e = (d.next.0 ∙ sym e.next.0, d.next.1 ∙ sym e.next.1)
  next_once (l ∷ before) f g d e =
      ⊎_elim
      (λ u. ⊎_elim
      (λ v. (u.same ∙ sym v.same, u.count ∙ sym v.count))
      (λ v. absurd (u.lasts v.over))
      e.next)
      (λ u. ⊎_elim
      (λ v. absurd (v.lasts u.over))
      (λ v. (
        ⊎_elim
            (λ same. same)
            (λ n. ⊎_elim
            (λ m. absurd (d.unfinished (v.rotates f.script d.known m)))
            (λ m. absurd (e.unfinished (u.rotates g.script e.known m)))
            (first_of l.script f.script g.script n))
            (same_or_not f.script g.script),
        u.starts ∙ sym v.starts,
      ))
      e.next)
      d.next

  due_once : (before : List Event) (f g : Event) → Due before f → Due before g → f ≡ g
  due_once before f g d e =
      let n = next_once before f g d e in
      same_event f g n.0
      (at_once before g.script f.word g.word
      (subst (λ (j : ℕ). S.At graphs k q choices limit before j f.word) n.0 d.at) e.at)
      n.1

  -- where a word runs, the rehearsal does not stop
  no_stop : (before : List Event) (f : Event) → S.Ran graphs k q choices limit before f
      → S.Stops graphs k q choices limit before → ⊥
  no_stop before f r s =
      ⊎_elim
      (λ all. r.due.unfinished (all f.script r.due.known))
      (λ t. ⊎_elim
      (λ v.
      let same : needed ((graphs f.script).successors f.word) ≡ 1 =
      ap (λ (g : Event). needed ((graphs g.script).successors g.word))
      (due_once before f v.event r.due v.due)
      ∙ v.needs in
      omega (arith, r.chosen, v.none))
      (λ e. omega (arith, r.allowed))
      t)
      s

  pub only : (before es fs : List Event) → Scheduled before es → Scheduled before fs → es ≡ fs
  only before [] [] s t = refl
  only before [] (f ∷ fs) s t = absurd (no_stop before f t.0 s)
  only before (e ∷ es) [] s t = absurd (no_stop before e s.0 t)
  only before (e ∷ es) (f ∷ fs) s t =
      let same : e ≡ f = due_once before e f s.0.due t.0.due in
      let on : Scheduled (e ∷ before) fs = subst (λ (g : Event). Scheduled (g ∷ before) fs) (sym same) t.1 in
      ap₂ (λ (g : Event) (l : List Event). g ∷ l) same (only (e ∷ before) es fs s.1 on)
