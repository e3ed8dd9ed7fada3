-- The words that a script runs are a course of its graph.
-- Assumes nothing.
use mathlib.Core.Path.{◌≡◌, refl, sym, subst, ap, ◌∙◌}
use mathlib.Core.Logic.{◌⊎◌, inl, inr, ⊎_elim}
use mathlib.Core.Bool.{Bool, true, false, cond}
use mathlib.Core.List.{List, [], ◌∷◌}
use Prim.Native.Nat.{ℕ, ◌+◌, ◌<◌}
use native.Mathlib.Omega.{arith}
use borrow.Author.Tests.{eqb-true, eqb-false}
use lib.Dec.{eqb}
use lib.ListN.{length, get_or}
use Rattle.graph.specs.Graph.{Graph, In, Lawful, Along, Path}
use Rattle.rehearsal.specs.Machine.{Event}
use Rattle.rehearsal.specs.Waits.{waits_since, waits_of, turns_of}
use Rattle.rehearsal.specs.Schedule as S
use Rattle.rehearsal.specs.Paths.{event_words, OnPath}

-- an event of the trace is among its script's words
pub in_words : (e : Event) (es : List Event) → In e es → In e.word (event_words e.script es)
in_words e [] h = absurd h
in_words e (f ∷ es) h = go (eqb f.script e.script) refl h (in_words e es) where
  go : (x : Bool) → eqb f.script e.script ≡ x → In e (f ∷ es) → (In e es → In e.word (event_words e.script es))
      → In e.word (cond x (f.word ∷ event_words e.script es) (event_words e.script es))
  go true p h more = ⊎_elim (λ d. inl (ap (λ (g : Event). g.word) d)) (λ d. inr (more d)) h
  go false p h more =
      ⊎_elim (λ d. absurd (eqb-false _ _ p (ap (λ (g : Event). g.script) (sym d)))) (λ d. more d) h

module _ (graphs : ℕ → Graph) (k q : ℕ) (choices : List ℕ) (limit : ℕ) where
  abbrev LeadsTo : List ℕ → ℕ → ℕ → Type 0
  LeadsTo = S.EventLeadsTo graphs k q choices limit

  abbrev At : List Event → ℕ → ℕ → Type 0
  At = S.At graphs k q choices limit

  abbrev Scheduled : List Event → List Event → Type 0
  Scheduled = S.Scheduled graphs k q choices limit

  leads_in : (ss : List ℕ) (n to : ℕ) → LeadsTo ss n to → In to ss
  leads_in [] n to h = absurd h
  leads_in (a ∷ []) n to h = inl h
  leads_in (a ∷ b ∷ more) n to h = go (eqb (get_or choices n 0) 0) h where
    go : (x : Bool) → to ≡ cond x a b → In to (a ∷ b ∷ more)
    go true h = inl h
    go false h = inr (inl h)

  pub known : (before es : List Event) (e : Event) → Scheduled before es → In e es → e.script < k
  known before [] e s h = absurd h
  known before (f ∷ es) e s h =
      ⊎_elim
      (λ d. subst (λ (g : Event). g.script < k) (sym d) s.0.due.known)
      (λ d. known (f ∷ before) es e s.1 d)
      h

  module _ (i : ℕ) where
    -- the next word of script i follows p, where all that ran of it leads from p
    abbrev From : List Event → ℕ → Type 0
    From before p = (w : ℕ) → At before i w → In w ((graphs i).successors p)

    from_own : (before : List Event) (f : Event) → f.script ≡ i → From (f ∷ before) f.word
    from_own before f e w a =
        ⊎_elim
        (λ x. subst (λ (j : ℕ). In w ((graphs j).successors f.word)) e
        (leads_in ((graphs f.script).successors f.word) (S.used_up graphs k q choices limit before) w x.1))
        (λ x. absurd (x.0 e))
        a

    other : (before : List Event) (f : Event) (w : ℕ) → (f.script ≡ i → ⊥) → At (f ∷ before) i w → At before i w
    other before f w n a = ⊎_elim (λ x. absurd (n x.0)) (λ x. x.1) a

    at_own : (before : List Event) (f : Event) → f.script ≡ i → At before f.script f.word → At before i f.word
    at_own before f e a = subst (λ (j : ℕ). At before j f.word) e a

    module _ (law : Lawful (graphs i)) (some : 0 < (graphs i).size) where
      along : (before es : List Event) (p : ℕ) → p < (graphs i).size → From before p → Scheduled before es
          → Along (graphs i) p (event_words i es)
      along before [] p h from s = h
      along before (f ∷ es) p h from s = go (eqb f.script i) refl (λ r l g. along (f ∷ before) es r l g s.1) where
        go : (x : Bool) → eqb f.script i ≡ x
            → ((r : ℕ) → r < (graphs i).size → From (f ∷ before) r → Along (graphs i) r (event_words i es))
            → Along (graphs i) p (cond x (f.word ∷ event_words i es) (event_words i es))
        go true e more =
            let own : f.script ≡ i = eqb-true _ _ e in
            let next : In f.word ((graphs i).successors p) = from f.word (at_own before f own s.0.due.at) in
            (h, next, more f.word (law.inside p f.word next) (from_own before f own))
        go false e more = more p h (λ w a. from w (other before f w (eqb-false _ _ e) a))

      pub on_path : (before es : List Event) → ((w : ℕ) → At before i w → w ≡ 0) → Scheduled before es
          → OnPath (graphs i) i es
      on_path before [] from s = inl refl
      on_path before (f ∷ es) from s = go (eqb f.script i) refl (λ g. on_path (f ∷ before) es g s.1) where
        go : (x : Bool) → eqb f.script i ≡ x
            → (((w : ℕ) → At (f ∷ before) i w → w ≡ 0) → (event_words i es ≡ []) ⊎ Path (graphs i) (event_words i es))
            → (cond x (f.word ∷ event_words i es) (event_words i es) ≡ [])
            ⊎ Path (graphs i) (cond x (f.word ∷ event_words i es) (event_words i es))
        go true e more =
            let own : f.script ≡ i = eqb-true _ _ e in
            let zero : f.word ≡ 0 = from f.word (at_own before f own s.0.due.at) in
            inr (zero, along (f ∷ before) es f.word (omega arith) (from_own before f own) s.1)
        go false e more = more (λ w a. from w (other before f w (eqb-false _ _ e) a))

    -- script i did not run last
    abbrev Apart : List Event → Type 0
    Apart [] = Unit {0}
    Apart (e ∷ before) = e.script ≡ i → ⊥

    starts : (before : List Event) (f : Event) → Apart before → f.script ≡ i
        → S.NextEvent graphs k q choices limit before f.script f.nth
        → f.nth ≡ 0
    starts [] f a e n = n.1
    starts (g ∷ before) f a e n = ⊎_elim (λ x. absurd (a (sym x.same ∙ e))) (λ x. x.starts) n

    -- "a script with fewer than two turns": it waits once less than it has turns
    since_turns : (n : ℕ) (es : List Event) → length (waits_since i n es) ≡ turns_of i es
    since_turns n [] = refl
    since_turns n (e ∷ es) = go (eqb e.script i) (eqb e.nth 0) (λ m. since_turns m es) where
      go : (x y : Bool) → ((m : ℕ) → length (waits_since i m es) ≡ turns_of i es)
          → length (cond x (cond y (n ∷ waits_since i 0 es) (waits_since i 0 es)) (waits_since i (n + 1) es))
          ≡ cond x (cond y (turns_of i es + 1) (turns_of i es)) (turns_of i es)
      go true true more = omega (arith, more 0)
      go true false more = more 0
      go false y more = more (n + 1)

    pub turns : (before es : List Event) → Apart before → Scheduled before es
        → ((waits_of i es ≡ []) × (turns_of i es ≡ 0)) ⊎ (length (waits_of i es) + 1 ≡ turns_of i es)
    turns before [] a s = inl (refl, refl)
    turns before (f ∷ es) a s = go (eqb f.script i) refl (λ b. turns (f ∷ before) es b s.1) where
      go : (x : Bool) → eqb f.script i ≡ x
          → (Apart (f ∷ before) → ((waits_of i es ≡ []) × (turns_of i es ≡ 0))
          ⊎ (length (waits_of i es) + 1 ≡ turns_of i es))
          → ((cond x (waits_since i 0 es) (waits_of i es) ≡ [])
          × (cond x (cond (eqb f.nth 0) (turns_of i es + 1) (turns_of i es)) (turns_of i es) ≡ 0))
          ⊎ (length (cond x (waits_since i 0 es) (waits_of i es)) + 1
          ≡ cond x (cond (eqb f.nth 0) (turns_of i es + 1) (turns_of i es)) (turns_of i es))
      go true e more =
          let z : f.nth ≡ 0 = starts before f a (eqb-true _ _ e) s.0.due.next in
          inr (rw z (ap (λ (n : ℕ). n + 1) (since_turns 0 es)))
      go false e more = more (eqb-false _ _ e)
