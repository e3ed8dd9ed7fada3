-- Of a loop that settles entries: which steps have one, and that all of them are settled in the end. No word is read here.
-- Assumes nothing.
use mathlib.Core.Path.{◌≡◌, sym, ap, subst, ◌∙◌}
use mathlib.Core.Logic.{⊎_elim}
use mathlib.Core.List.{List}
use Prim.Native.Nat.{ℕ, ◌+◌, ◌%◌, ◌≤◌, ◌<◌}
use native.Mathlib.Nat.{not-suc-le-zero, mod-eq_of_lt}
use native.Mathlib.Omega.{arith}
use lib.ListN.{length, get_or, set, length-set, get_or-eq_default}
use Rattle.common.specs.Limits.{most_words}
use Rattle.common.proofs.Order.{split, past}
use Rattle.common.proofs.Stores.{at_set}
use Rattle.sweep.specs.declared.edges.Successors.{Successors}
use Rattle.sweep.specs.declared.edges.Successors.TheVariants.{Invalid, Stop, One, Two}
use Rattle.sweep.specs.Steps.{Below}
use Rattle.sweep.specs.Entries.{«ENTRIES», entry_at, entries, Settled, Packs, Says}
use Rattle.sweep.proofs.Steps.{Nexts}
use Rattle.sweep.proofs.Entries.{no_entry, entries_length, entry_is}

-- of steps below 32,768, one of two the next word, there is an entry
pub packs_of : (p n : ℕ) (s : Successors) → n ≤ most_words → Below n s → Nexts p s → Packs p s
packs_of p n Invalid f b x = tt
packs_of p n Stop f b x = tt
packs_of p n (One a) f b x = omega arith
packs_of p n (Two a c) f b x = (b.0, omega arith, x)

-- the words below i are settled
pub record Settling (n : ℕ) (steps : ℕ → Successors) (l : List ℕ) (i : ℕ) : Type 0 where
  pub upto : i ≤ n
  pub same : length l ≡ n
  pub each : (p : ℕ) → p < i → Says (get_or l p 0) p (steps p)

module _ (n : ℕ) (steps : ℕ → Successors) where
  pub settling_none : (l : List ℕ) → length l ≡ n → Settling n steps l 0
  settling_none l e = record { upto = omega arith; same = e; each = λ p h. absurd (not-suc-le-zero h) }

  pub settling_more : {l : List ℕ} {i v : ℕ} → Settling n steps l i → i < n → Says v i (steps i) → Settling n steps (set l i v) (i + 1)
  settling_more {l} {i} {v} s h y =
      record {
        upto = omega arith;
        same = simp length-set s.same;
        each = λ p d. ⊎_elim
            (λ x. subst (λ (e : ℕ). Says e p (steps p)) (sym x.1) (subst (λ (q : ℕ). Says v q (steps q)) (sym x.0) y))
            (λ x. subst (λ (e : ℕ). Says e p (steps p)) (sym x.1) (s.each p (past (omega arith) (λ z. x.0 (sym z)))))
            (at_set l i v p (omega (arith, s.same)));
      }

  -- past the words there are no steps, and no entries
  pub settling_done : ((p : ℕ) → n ≤ p → steps p ≡ Invalid) → {l : List ℕ} {i : ℕ} → Settling n steps l i → n ≤ i → Settled n steps (entries l)
  settling_done none {l} s h =
      record {
        same = entries_length l ∙ s.same;
        each = λ p. ap (λ (e : ℕ). entry_at e p) (entry_is l p) ∙ ⊎_elim
            (λ o.
            let z : get_or l p 0 ≡ 0 = get_or-eq_default l 0 (omega (arith, s.same)) in
            ap (λ (e : ℕ). entry_at (e % «ENTRIES») p) z ∙ no_entry p ∙ sym (none p o))
            (λ d. let y = s.each p (omega arith) in ap (λ (e : ℕ). entry_at e p) (mod-eq_of_lt y.small) ∙ y.steps)
            (split n p);
      }
