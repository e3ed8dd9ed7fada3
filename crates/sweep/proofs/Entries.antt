-- Entries and the queue in the lengths, and the graph that settled entries hold. No word is read here. Assumes nothing.
use mathlib.Core.Path.{◌≡◌, refl, sym, ap, subst, ◌∙◌}
use mathlib.Core.Logic.{◌⊎◌, inl, inr, ⊎_elim}
use mathlib.Core.Bool.{Bool, true, false, cond}
use mathlib.Core.List.{List, [], ◌∷◌, map}
use Prim.Native.Nat.{ℕ, zero, suc, ◌+◌, ◌*◌, ◌/◌, ◌%◌, ◌≤◌, ◌<◌}
use native.Mathlib.Omega.{arith}
use borrow.Author.Tests.{ne_eqb, lt-ltb, le-ltb, ltb-false}
use lib.Dec.{eqb, ltb}
use lib.ListN.{length, get_or, set, length-map, get_or-map}
use lib.Seq.{map-set_same}
use Rattle.graph.specs.Graph.{In}
use Rattle.sweep.specs.declared.edges.Successors.{Successors}
use Rattle.sweep.specs.declared.edges.Successors.TheVariants.{Invalid, Stop, One, Two}
use Rattle.sweep.specs.Steps.{ordered, list_of, graph_by}
use Rattle.sweep.specs.Entries.{«TARGETS», «ENTRIES», entry_at, entries, queue_of, Settled, entry_steps, graph_in, lowest_by, Carries, Says}
use Rattle.sweep.specs.SearchInvariants.{Queued, entered, Pushes}
use Rattle.sweep.proofs.Moves.{in_one}
use Rattle.sweep.proofs.Turn.{Both}

-- a place of the queue is stored above an entry
map_set : (f : ℕ → ℕ) (l : List ℕ) (i y : ℕ) → map f (set l i y) ≡ set (map f l) i (f y)
map_set f [] i y = refl
map_set f (x ∷ xs) zero y = refl
map_set f (x ∷ xs) (suc i) y = ap (λ (zs : List ℕ). f x ∷ zs) (map_set f xs i y)

module _ (l : List ℕ) (t q : ℕ) where
  abbrev pub packed : ℕ
  packed = get_or l t 0 % «ENTRIES» + q * «ENTRIES»

  pub entries_stay : entries (set l t packed) ≡ entries l
  unfolding entries
  entries_stay = map-set_same (λ (x : ℕ). x % «ENTRIES») l t packed 0 (omega arith)

  pub queue_grows : queue_of (set l t packed) ≡ set (queue_of l) t q
  unfolding queue_of
  queue_grows = let e : packed / «ENTRIES» ≡ q = omega arith in map_set (λ (x : ℕ). x / «ENTRIES») l t packed ∙ ap (λ (x : ℕ). set (queue_of l) t x) e

-- a push
pub pushes_new : (m l : List ℕ) (t q : ℕ) → get_or m q 0 ≡ 0 → Pushes m l t q (set m q 1) (set l t (packed l t q)) (t + 1)
pushes_new m l t q h =
    record {
      queued = subst (λ (x : List ℕ). Queued m (queue_of l) t q (set m q 1) x (t + 1)) (sym (queue_grows l t q)) (entered h);
      kept = entries_stay l t q;
    }

pub entries_length : (l : List ℕ) → length (entries l) ≡ length l
unfolding entries
entries_length l = length-map l (λ (x : ℕ). x % «ENTRIES»)

pub queue_length : (l : List ℕ) → length (queue_of l) ≡ length l
unfolding queue_of
queue_length l = length-map l (λ (x : ℕ). x / «ENTRIES»)

-- slices with the same entries are as long
pub same_length : (l l' : List ℕ) → entries l ≡ entries l' → length l ≡ length l'
same_length l l' e = sym (entries_length l) ∙ ap length e ∙ entries_length l'

pub entry_is : (l : List ℕ) (p : ℕ) → get_or (entries l) p 0 ≡ get_or l p 0 % «ENTRIES»
unfolding entries
entry_is l p = get_or-map (λ (x : ℕ). x % «ENTRIES») l p 0

pub queue_is : (l : List ℕ) (p : ℕ) → get_or (queue_of l) p 0 ≡ get_or l p 0 / «ENTRIES»
unfolding queue_of
queue_is l p = get_or-map (λ (x : ℕ). x / «ENTRIES») l p 0

-- the kinds
module _ (e p : ℕ) where
  pub entry_next : e / «TARGETS» ≡ 1 → entry_at e p ≡ One (p + 1)
  unfolding entry_at
  entry_next k = simp k

  pub entry_target : e / «TARGETS» ≡ 2 → entry_at e p ≡ One (e % «TARGETS»)
  unfolding entry_at
  entry_target k = simp k

  pub entry_stop : e / «TARGETS» ≡ 0 → e % «TARGETS» ≡ 1 → entry_at e p ≡ Stop
  unfolding entry_at
  entry_stop k s = simp (k, s)

  pub entry_invalid : e / «TARGETS» ≡ 0 → (e % «TARGETS» ≡ 1 → ⊥) → entry_at e p ≡ Invalid
  unfolding entry_at
  entry_invalid k s = simp (k, ne_eqb (e % «TARGETS») 1 s)

  pub entry_both : (e / «TARGETS» ≡ 0 → ⊥) → (e / «TARGETS» ≡ 1 → ⊥) → (e / «TARGETS» ≡ 2 → ⊥) → entry_at e p ≡ ordered (p + 1) (e % «TARGETS»)
  unfolding entry_at
  entry_both a b c = simp (ne_eqb (e / «TARGETS») 0 a, ne_eqb (e / «TARGETS») 1 b, ne_eqb (e / «TARGETS») 2 c)

  -- no step either way
  pub entry_none : e / «TARGETS» ≡ 0 → [] ≡ list_of (entry_at e p)
  unfolding entry_at
  entry_none k = simp k (either (eqb (e % «TARGETS») 1))
    where
      either : (b : Bool) → ◌≡◌ {A = List ℕ} [] (list_of (cond b Stop Invalid))
      either true = refl
      either false = refl

pub no_entry : (p : ℕ) → entry_at 0 p ≡ Invalid
unfolding entry_at
no_entry p = refl

-- what is said of the entries is said of the words
module _ (n : ℕ) (steps : ℕ → Successors) (es : List ℕ) (s : Settled n steps es) where
  pub settled_graph : graph_in es ≡ graph_by n steps
  settled_graph = λ i. graph_by (s.same i) (λ p. s.each p i)

  pub settled_lowest : lowest_by (length es) (entry_steps es) ≡ lowest_by n steps
  settled_lowest = λ i. lowest_by (s.same i) (λ p. s.each p i)

pub carries : Carries
carries = record { graph = settled_graph; lowest-invalid = settled_lowest }

-- what an entry says is what the graph has
pub in_graph : (l : List ℕ) (p : ℕ) {s : Successors} → entry_at (get_or l p 0 % «ENTRIES») p ≡ s → list_of s ≡ (graph_in (entries l)).successors p
in_graph l p e = ap list_of (sym e) ∙ ap (λ (x : ℕ). list_of (entry_at x p)) (sym (entry_is l p))

pub none_in_graph : (l : List ℕ) (p : ℕ) → get_or l p 0 % «ENTRIES» / «TARGETS» ≡ 0 → [] ≡ (graph_in (entries l)).successors p
none_in_graph l p k = entry_none (get_or l p 0 % «ENTRIES») p k ∙ ap (λ (x : ℕ). list_of (entry_at x p)) (sym (entry_is l p))

-- two in order are the two
pub record Among (q r : ℕ) (l : List ℕ) : Type 0 where
  pub one : In q l
  pub other : In r l
  pub only : (x : ℕ) → In x l → (x ≡ q) ⊎ (x ≡ r)

pub ordered_among : (q r : ℕ) → Among q r (list_of (ordered q r))
unfolding ordered
ordered_among q r = go (ltb q r) refl (ltb r q) refl
  where
    go : (b : Bool) → ltb q r ≡ b → (d : Bool) → ltb r q ≡ d → Among q r (list_of (cond b (Two q r) (cond d (Two r q) (One q))))
    go true e d f = record { one = inl refl; other = inr (inl refl); only = λ x i. ⊎_elim (λ a. inl a) (λ j. inr (in_one j)) i }
    go false e true f = record { one = inr (inl refl); other = inl refl; only = λ x i. ⊎_elim (λ a. inr a) (λ j. inl (in_one j)) i }
    go false e false f =
        let a = ltb-false q r e in
        let b = ltb-false r q f in
        let z : r ≡ q = omega arith in
        record { one = inl refl; other = inl z; only = λ x i. inl (in_one i) }

pub both_in_graph : (l : List ℕ) (p : ℕ) {q r : ℕ} → entry_at (get_or l p 0 % «ENTRIES») p ≡ ordered q r → Both (graph_in (entries l)) p q r
both_in_graph l p {q} {r} e =
    let a = subst (λ (x : List ℕ). Among q r x) (in_graph l p e) (ordered_among q r) in
    record { one = a.one; other = a.other; only = a.only }

-- an entry for each kind of steps
module _ (p : ℕ) where
  pub says_invalid : Says 0 p Invalid
  says_invalid = record { small = omega arith; steps = entry_invalid 0 p (omega arith) (λ z. omega arith) }

  pub says_stop : Says 1 p Stop
  says_stop = record { small = omega arith; steps = entry_stop 1 p (omega arith) (omega arith) }

  module _ (a : ℕ) where
    pub says_next : a ≡ p + 1 → Says 32768 p (One a)
    says_next h = record { small = omega arith; steps = entry_next 32768 p (omega arith) ∙ ap One (sym h) }

    module _ (l : a < 32768) where
      pub says_target : Says (65536 + a) p (One a)
      says_target =
          let t : (65536 + a) % «TARGETS» ≡ a = omega arith in
          record { small = omega arith; steps = entry_target (65536 + a) p (omega arith) ∙ ap One t }

      both_is : entry_at (98304 + a) p ≡ ordered (p + 1) a
      both_is =
          let t : (98304 + a) % «TARGETS» ≡ a = omega arith in
          entry_both (98304 + a) p (λ z. omega arith) (λ z. omega arith) (λ z. omega arith)
          ∙ ap (ordered (p + 1)) t

      pub says_up : {q : ℕ} → q ≡ p + 1 → q < a → Says (98304 + a) p (Two q a)
      unfolding ordered
      says_up {q} e h =
          let k : p + 1 < a = omega arith in
          let o : ordered (p + 1) a ≡ Two (p + 1) a = simp (lt-ltb (p + 1) a k) in
          record { small = omega arith; steps = both_is ∙ o ∙ ap (λ (x : ℕ). Two x a) (sym e) }

      pub says_down : {q : ℕ} → q ≡ p + 1 → a < q → Says (98304 + a) p (Two a q)
      unfolding ordered
      says_down {q} e h =
          let k : a < p + 1 = omega arith in
          let j : a ≤ p + 1 = omega arith in
          let o : ordered (p + 1) a ≡ Two a (p + 1) = simp (le-ltb (p + 1) a j, lt-ltb a (p + 1) k) in
          record { small = omega arith; steps = both_is ∙ o ∙ ap (Two a) (sym e) }
