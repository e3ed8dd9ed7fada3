-- The waits that are read off a trace are those that there are.
-- Assumes nothing.
use mathlib.Core.Path.{◌≡◌, refl, sym, subst, ap}
use mathlib.Core.Logic.{◌⊎◌, inl, inr, ⊎_elim}
use mathlib.Core.Bool.{Bool, true, false, cond}
use mathlib.Core.List.{List, [], ◌∷◌, ◌++◌}
use Prim.Native.Nat.{ℕ, ◌+◌, ◌≤◌, max}
use native.Mathlib.Omega.{arith}
use borrow.Author.Tests.{eqb-true, eqb-false, eq-eqb, ne_eqb}
use lib.Dec.{eqb}
use lib.ListN.{length}
use Rattle.common.proofs.Order.{split}
use Rattle.graph.specs.Graph.{In}
use Rattle.rehearsal.specs.Machine.{Event}
use Rattle.rehearsal.specs.Waits.{waits_since, waits_of, longest_of_waits, longest_wait, OfOthers, WaitIn, Waits}

-- the next turn of script i starts within es, after n words of others before es
record Waiting (i n : ℕ) (es : List Event) (w : ℕ) : Type 0 where
  between : List Event
  first : Event
  after : List Event
  whole : es ≡ between ++ (first ∷ after)
  others : OfOthers i between
  first_own : first.script ≡ i
  turn_starts : first.nth ≡ 0
  words : n + length between ≡ w

-- an event more in front
later : (i w : ℕ) (e : Event) (es : List Event) → WaitIn i es w → WaitIn i (e ∷ es) w
later i w e es v =
    record {
      before = e ∷ v.before;
      last = v.last;
      between = v.between;
      first = v.first;
      after = v.after;
      whole = ap (λ (l : List Event). e ∷ l) v.whole;
      last_own = v.last_own;
      others = v.others;
      first_own = v.first_own;
      turn_starts = v.turn_starts;
      words = v.words;
    }

-- an own word in front of it
own_before : (i w : ℕ) (e : Event) (es : List Event) → e.script ≡ i → Waiting i 0 es w → WaitIn i (e ∷ es) w
own_before i w e es own v =
    record {
      before = [];
      last = e;
      between = v.between;
      first = v.first;
      after = v.after;
      whole = ap (λ (l : List Event). e ∷ l) v.whole;
      last_own = own;
      others = v.others;
      first_own = v.first_own;
      turn_starts = v.turn_starts;
      words = omega (arith, v.words);
    }

either : (i w : ℕ) (e : Event) (es : List Event) → e.script ≡ i → Waiting i 0 es w ⊎ WaitIn i es w
    → WaitIn i (e ∷ es) w
either i w e es own h = ⊎_elim (λ v. own_before i w e es own v) (λ v. later i w e es v) h

-- a word of another in front of it
one_more : (i n w : ℕ) (e : Event) (es : List Event) → (e.script ≡ i → ⊥) → Waiting i (n + 1) es w
    → Waiting i n (e ∷ es) w
one_more i n w e es other v =
    record {
      between = e ∷ v.between;
      first = v.first;
      after = v.after;
      whole = ap (λ (l : List Event). e ∷ l) v.whole;
      others = (other, v.others);
      first_own = v.first_own;
      turn_starts = v.turn_starts;
      words = omega (arith, v.words);
    }

here : (i n w : ℕ) (e : Event) (es : List Event) → e.script ≡ i → e.nth ≡ 0 → w ≡ n → Waiting i n (e ∷ es) w
here i n w e es own starts p =
    record {
      between = [];
      first = e;
      after = es;
      whole = refl;
      others = tt;
      first_own = own;
      turn_starts = starts;
      words = omega arith;
    }

since : (i n w : ℕ) (es : List Event) → In w (waits_since i n es) → Waiting i n es w ⊎ WaitIn i es w
since i n w [] h = absurd h
since i n w (e ∷ es) h = go (eqb e.script i) refl (eqb e.nth 0) refl h (λ m. since i m w es) where
  go : (x : Bool) → eqb e.script i ≡ x → (y : Bool) → eqb e.nth 0 ≡ y
      → In w (cond x (cond y (n ∷ waits_since i 0 es) (waits_since i 0 es)) (waits_since i (n + 1) es))
      → ((m : ℕ) → In w (waits_since i m es) → Waiting i m es w ⊎ WaitIn i es w)
      → Waiting i n (e ∷ es) w ⊎ WaitIn i (e ∷ es) w
  go true p true r h more =
      ⊎_elim
      (λ d. inl (here i n w e es (eqb-true _ _ p) (eqb-true _ _ r) d))
      (λ d. inr (either i w e es (eqb-true _ _ p) (more 0 d)))
      h
  go true p false r h more = inr (either i w e es (eqb-true _ _ p) (more 0 h))
  go false p y r h more =
      ⊎_elim (λ v. inl (one_more i n w e es (eqb-false _ _ p) v)) (λ v. inr (later i w e es v)) (more (n + 1) h)

read : (i w : ℕ) (es : List Event) → In w (waits_of i es) → WaitIn i es w
read i w [] h = absurd h
read i w (e ∷ es) h = go (eqb e.script i) refl h (read i w es) where
  go : (x : Bool) → eqb e.script i ≡ x → In w (cond x (waits_since i 0 es) (waits_of i es))
      → (In w (waits_of i es) → WaitIn i es w)
      → WaitIn i (e ∷ es) w
  go true p h more = either i w e es (eqb-true _ _ p) (since i 0 w es h)
  go false p h more = later i w e es (more h)

-- the other way round: the wait that ends here
ends_here : (i n : ℕ) (between : List Event) (first : Event) (after : List Event) → OfOthers i between → first.script
    ≡ i
    → first.nth ≡ 0 → In (n + length between) (waits_since i n (between ++ (first ∷ after)))
ends_here i n [] first after o own starts = rw (eq-eqb first.script i own, eq-eqb first.nth 0 starts)
    (inl (omega arith))
ends_here i n (e ∷ between) first after o own starts =
    let s : n + length (e ∷ between) ≡ n + 1 + length between = omega arith in
    rw (ne_eqb e.script i o.0, s) (ends_here i (n + 1) between first after o.1 own starts)

-- what follows an own word counts, whatever stands before
after_own : (i n w : ℕ) (before : List Event) (last : Event) (es : List Event) → last.script ≡ i
    → In w (waits_since i 0 es)
    → In w (waits_since i n (before ++ (last ∷ es)))
after_own i n w [] last es own h = rw (eq-eqb last.script i own) (go (eqb last.nth 0)) where
  go : (y : Bool) → In w (cond y (n ∷ waits_since i 0 es) (waits_since i 0 es))
  go true = inr h
  go false = h
after_own i n w (e ∷ before) last es own h =
    go (eqb e.script i) (eqb e.nth 0) (λ m. after_own i m w before last es own h) where
      go : (x y : Bool) → ((m : ℕ) → In w (waits_since i m (before ++ (last ∷ es))))
          → In w (cond x (cond y (n ∷ waits_since i 0 (before ++ (last ∷ es))) (waits_since i 0 (before ++ (last ∷ es))))
          (waits_since i (n + 1) (before ++ (last ∷ es))))
      go true true more = inr (more 0)
      go true false more = more 0
      go false y more = more (n + 1)

after_first : (i w : ℕ) (before : List Event) (last : Event) (es : List Event) → last.script ≡ i
    → In w (waits_since i 0 es)
    → In w (waits_of i (before ++ (last ∷ es)))
after_first i w [] last es own h = rw (eq-eqb last.script i own) h
after_first i w (e ∷ before) last es own h = go (eqb e.script i) (after_first i w before last es own h) where
  go : (x : Bool) → In w (waits_of i (before ++ (last ∷ es)))
      → In w (cond x (waits_since i 0 (before ++ (last ∷ es))) (waits_of i (before ++ (last ∷ es))))
  go true more = after_own i 0 w before last es own h
  go false more = more

found : (i w : ℕ) (es : List Event) → WaitIn i es w → In w (waits_of i es)
found i w es v =
    let n : 0 + length v.between ≡ w = omega (arith, v.words) in
    let here : In w (waits_since i 0 (v.between ++ (v.first ∷ v.after))) =
    subst (λ (m : ℕ). In m (waits_since i 0 (v.between ++ (v.first ∷ v.after)))) n
    (ends_here i 0 v.between v.first v.after v.others v.first_own v.turn_starts) in
    subst (λ (l : List Event). In w (waits_of i l)) (sym v.whole)
    (after_first i w v.before v.last (v.between ++ (v.first ∷ v.after)) v.last_own here)

pub in_most : (w : ℕ) (ws : List ℕ) → In w ws → w ≤ longest_of_waits ws
in_most w [] h = absurd h
in_most w (v ∷ ws) h = ⊎_elim (λ e. omega arith) (λ g. let m = in_most w ws g in omega arith) h

longest_in : (w : ℕ) (ws : List ℕ) → In (longest_of_waits (w ∷ ws)) (w ∷ ws)
longest_in w [] = inl (omega arith)
longest_in w (v ∷ ws) =
    ⊎_elim
    (λ h. let e : max w (longest_of_waits (v ∷ ws)) ≡ longest_of_waits (v ∷ ws) = omega arith in
    inr (subst (λ (m : ℕ). In m (v ∷ ws)) (sym e) (longest_in v ws)))
    (λ h. inl (omega arith))
    (split w (longest_of_waits (v ∷ ws)))

pub waits : (i : ℕ) (es : List Event) → Waits i es
unfolding longest_wait
waits i es =
    record {
      each = λ w. (read i w es, found i w es);
      longest_most = λ w v. in_most w (waits_of i es) (found i w es v);
      longest_some = go (waits_of i es) (λ w. read i w es) (λ w. found i w es);
    } where
      go : (ws : List ℕ) → ((w : ℕ) → In w ws → WaitIn i es w) → ((w : ℕ) → WaitIn i es w → In w ws)
          → WaitIn i es (longest_of_waits ws) ⊎ (((w : ℕ) → WaitIn i es w → ⊥) × (longest_of_waits ws ≡ 0))
      go [] r f = inr ((λ w v. f w v), refl)
      go (w ∷ ws) r f = inl (r (longest_of_waits (w ∷ ws)) (longest_in w ws))
