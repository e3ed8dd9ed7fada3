-- The laws of specs/Steps.antt: which case holds where, and what holds of the steps. The proofs cite these and do not open the
-- definitions. No word is read here. Assumes nothing.
use Prim.Native.Nat.{ℕ, zero, suc, ◌+◌, ◌-◌, ◌<◌, ◌≤◌}
use mathlib.Core.Path.{◌≡◌, refl, ap, sym, ◌∙◌}
use mathlib.Core.Logic.{◌↔◌, ◌⊎◌, inl, inr, ⊎_elim}
use mathlib.Core.Bool.{Bool, true, false, cond, false≢true}
use native.Mathlib.Nat.{not-suc-le-zero}
use native.Mathlib.Omega.{arith}
use lib.Dec.{ltb}
use lib.IntN.{ℤ, pos, negsuc, neg_ℤ, ◌+ℤ◌, ◌-ℤ◌, +ℤ_assoc}
use borrow.Author.Tests.{lt-ltb, le-ltb, ltb-true, leb-true, leb-false, le-leb}
use Rattle.sweep.specs.declared.edges.Successors.{Successors}
use Rattle.sweep.specs.declared.edges.Successors.TheVariants.{Invalid, Stop, One, Two}
use Rattle.sweep.specs.Steps.{unless, one, ordered, two, serves_of, Below}

pub one_in : {n q : ℕ} → q < n → One q ≡ one n (pos q)
unfolding one unless
one_in {n} {q} h = rw (lt-ltb q n h)

pub one_out : {n q : ℕ} → n ≤ q → Invalid ≡ one n (pos q)
unfolding one unless
one_out {n} {q} h = rw (le-ltb q n h)

pub two_in : {n q r : ℕ} → q < r → r < n → Two q r ≡ two n (pos q) (pos r)
unfolding two unless ordered
two_in {n} {q} {r} h k = rw (lt-ltb q n (omega arith), lt-ltb r n k, lt-ltb q r h)

pub two_out : {n r : ℕ} (z : ℤ) → n ≤ r → Invalid ≡ two n z (pos r)
unfolding two unless
two_out {n} {r} (pos q) k = rw (le-ltb r n k) (const (ltb q n))
  where
    const : (t : Bool) → Invalid ≡ unless t Invalid
    const true = refl
    const false = refl
two_out (negsuc q) k = refl

-- nor are there two, whatever else is asked
pub none_out : {n r : ℕ} (t : Bool) (z : ℤ) → n ≤ r → Invalid ≡ unless t (two n z (pos r))
unfolding unless
none_out true z k = two_out z k
none_out false z k = refl

-- a difference of two naturals, by its sign
difference_in : (x b : ℕ) → b ≤ x → pos x -ℤ pos b ≡ pos (x - b)
difference_in x zero h = ap pos (omega arith)
difference_in x (suc b) h = rw (le-ltb x (suc b) h)

difference_below : (x b : ℕ) → x < b → pos x -ℤ pos b ≡ negsuc (b - suc x)
difference_below x zero h = absurd (not-suc-le-zero h)
difference_below x (suc b) h = rw (lt-ltb x (suc b) h)

-- a word and a signed distance: the sum in naturals, less the offset
module _ (n m a b : ℕ) where
  pub away_in : b ≤ m + a → one n (pos (m + a - b)) ≡ one n (pos m +ℤ (pos a -ℤ pos b))
  away_in h = ap (one n) (sym (difference_in (m + a) b h) ∙ +ℤ_assoc (pos m) (pos a) (neg_ℤ (pos b)))

  pub away_below : m + a < b → Invalid ≡ one n (pos m +ℤ (pos a -ℤ pos b))
  unfolding one
  away_below h = ap (one n) (sym (difference_below (m + a) b h) ∙ +ℤ_assoc (pos m) (pos a) (neg_ℤ (pos b)))

-- and of two words, the other any
module _ (n m a b : ℕ) (y : ℤ) where
  pub both_in : b ≤ m + a → two n (pos (m + a - b)) y ≡ two n (pos m +ℤ (pos a -ℤ pos b)) y
  both_in h = ap (λ (z : ℤ). two n z y) (sym (difference_in (m + a) b h) ∙ +ℤ_assoc (pos m) (pos a) (neg_ℤ (pos b)))

  pub both_below : m + a < b → Invalid ≡ two n (pos m +ℤ (pos a -ℤ pos b)) y
  unfolding two
  both_below h = ap (λ (z : ℤ). two n z y) (sym (difference_below (m + a) b h) ∙ +ℤ_assoc (pos m) (pos a) (neg_ℤ (pos b)))

-- two equal next words are one
twice : (t : Bool) (s : Successors) → unless t s ≡ unless t (unless t s)
unfolding unless
twice true s = refl
twice false s = refl

pub two_equal : (n x : ℕ) → one n (pos x) ≡ two n (pos x) (pos x)
unfolding one two ordered
two_equal n x = rw (le-ltb x x (omega arith)) (twice (ltb x n) (One x))

-- the order in which two next words are named does not matter
unless_swap : (t u : Bool) (s : Successors) → unless t (unless u s) ≡ unless u (unless t s)
unfolding unless
unless_swap true u s = refl
unless_swap false true s = refl
unless_swap false false s = refl

pub two_swap : (n q r : ℕ) → q < r → two n (pos q) (pos r) ≡ two n (pos r) (pos q)
unfolding two ordered
two_swap n q r h = rw (lt-ltb q r h, le-ltb r q (omega arith)) (unless_swap (ltb q n) (ltb r n) (Two q r))

-- a word and a distance back
module _ (n x b : ℕ) where
  pub back_in : b ≤ x → two n (pos (x - b)) (pos x) ≡ two n (pos x -ℤ pos b) (pos x)
  back_in h = ap (λ (z : ℤ). two n z (pos x)) (sym (difference_in x b h))

  pub back_below : x < b → Invalid ≡ two n (pos x -ℤ pos b) (pos x)
  unfolding two
  back_below h = ap (λ (z : ℤ). two n z (pos x)) (sym (difference_below x b h))

  pub back_none : b ≡ 0 → one n (pos x) ≡ two n (pos x -ℤ pos b) (pos x)
  back_none e =
      two_equal n x ∙ ap (λ (z : ℤ). two n z (pos x)) (ap pos (omega arith) ∙ sym (difference_in x b (omega arith)))

-- a test that holds
pub let_through : (t : Bool) (s : Successors) → t ≡ true → s ≡ unless t s
unfolding unless
let_through true s e = refl
let_through false s e = absurd (false≢true e)

-- Steps are below the number of words, the lower first.

-- a test, and what it says where it holds
pub by_test : (n : ℕ) (t : Bool) (s : Successors) → (t ≡ true → Below n s) → Below n (unless t s)
unfolding unless
by_test n true s f = f refl
by_test n false s f = tt

pub picked : (n : ℕ) (t : Bool) (a b : Successors) → (t ≡ true → Below n a) → Below n b → Below n (cond t a b)
picked n true a b f g = f refl
picked n false a b f g = g

pub one_below : (n : ℕ) (z : ℤ) → Below n (one n z)
unfolding one
one_below n (pos q) = by_test n (ltb q n) (One q) (ltb-true q n)
one_below n (negsuc q) = tt

pub two_below : (n : ℕ) (z y : ℤ) → Below n (two n z y)
unfolding two ordered
two_below n (pos q) (pos r) =
    by_test n (ltb q n) _ λ p. by_test n (ltb r n) _ λ k.
    picked n (ltb q r) (Two q r) _ (λ e. (ltb-true q r e, ltb-true r n k))
    (picked n (ltb r q) (Two r q) (One q) (λ e. (ltb-true r q e, ltb-true q n p)) (ltb-true q n p))
two_below n (pos q) (negsuc r) = tt
two_below n (negsuc q) y = tt

-- a step that does not serve goes forward
pub forward : (p q : ℕ) → serves_of p q ≡ false → p < q
unfolding serves_of
forward p q e = omega (arith, leb-false q _ e)

-- and one that does not go forward serves
pub serving : (p q : ℕ) → (serves_of p q ≡ true) ↔ (q ≤ p)
unfolding serves_of
serving p q = (leb-true q p, le-leb q p)

-- of two successors one is the next word
abbrev pub Nexts : ℕ → Successors → Type 0
Nexts p Invalid = Unit {0}
Nexts p Stop = Unit {0}
Nexts p (One a) = Unit {0}
Nexts p (Two a b) = (a ≡ p + 1) ⊎ (b ≡ p + 1)

module _ (p : ℕ) where
  pub nexts_picked : (t : Bool) (a b : Successors) → Nexts p a → Nexts p b → Nexts p (cond t a b)
  nexts_picked true a b x y = x
  nexts_picked false a b x y = y

  pub nexts_unless : (t : Bool) (s : Successors) → Nexts p s → Nexts p (unless t s)
  unfolding unless
  nexts_unless t s x = nexts_picked t s Invalid x tt

  pub nexts_one : (n : ℕ) (z : ℤ) → Nexts p (one n z)
  unfolding one
  nexts_one n (pos q) = nexts_unless (ltb q n) (One q) tt
  nexts_one n (negsuc q) = tt

  nexts_ordered : (n q r : ℕ) → (q ≡ p + 1) ⊎ (r ≡ p + 1) → Nexts p (unless (ltb q n) (unless (ltb r n) (ordered q r)))
  unfolding ordered
  nexts_ordered n q r e =
      nexts_unless (ltb q n) _ (nexts_unless (ltb r n) _
      (nexts_picked (ltb q r) (Two q r) _ e (nexts_picked (ltb r q) (Two r q) (One q) (⊎_elim (λ x. inr x) (λ x. inl x) e) tt)))

  pub nexts_up : (n : ℕ) (z : ℤ) → Nexts p (two n (pos (p + 1)) z)
  unfolding two
  nexts_up n (pos r) = nexts_ordered n (p + 1) r (inl refl)
  nexts_up n (negsuc r) = tt

  pub nexts_down : (n : ℕ) (z : ℤ) → Nexts p (two n z (pos (p + 1)))
  unfolding two
  nexts_down n (pos q) = nexts_ordered n q (p + 1) (inr refl)
  nexts_down n (negsuc q) = tt
