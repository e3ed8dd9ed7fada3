-- The laws of `tabulate` and `over`.
-- Assumes nothing.
use mathlib.Core.Path.{◌≡◌, refl, sym, ap, ap₂, ◌∙◌}
use mathlib.Core.List.{List, ◌∷◌, ◌++◌}
use Prim.Native.Nat.{ℕ, zero, suc, ◌+◌, ◌≤◌, ◌<◌}
use native.Mathlib.Nat.{not-suc-le-zero, le_of_suc-le-suc, add-zero}
use native.Mathlib.Omega.{arith}
use lib.ListN.{length, get_or, take, drop, replicate, take-append-drop, length-append, length-drop, get_or-append}
use lib.Seq.{ext_get_or, get_or-take, length-take-le, drop_at}
use Rattle.common.specs.Lists.{tabulate, over, OverLaws}

length_tabulate : (f : ℕ → ℕ) (i k : ℕ) → length (tabulate f i k) ≡ k
length_tabulate f i zero = refl
length_tabulate f i (suc k) = ap suc (length_tabulate f (suc i) k)

get_d_tabulate : (f : ℕ → ℕ) (i k p : ℕ) → p < k → get_or (tabulate f i k) p 0 ≡ f (i + p)
get_d_tabulate f i zero p l = absurd (not-suc-le-zero l)
get_d_tabulate f i (suc k) zero l = ap f (sym (add-zero i))
get_d_tabulate f i (suc k) (suc p) l = get_d_tabulate f (suc i) k p (le_of_suc-le-suc l) ∙ ap f (omega arith)

is : (f : ℕ → ℕ) (k : ℕ) (l₀ l : List ℕ) → k ≤ length l → ((p : ℕ) → p < k → get_or l p 0 ≡ f p) → drop k l ≡ drop k l₀ → l ≡ over f k l₀
is f k l₀ l h e d = sym (take-append-drop k l) ∙ ap₂ (λ (a b : List ℕ). a ++ b) front d
  where
    front : take k l ≡ tabulate f 0 k
    front =
        ext_get_or 0 (take k l) (tabulate f 0 k) (length-take-le k l h ∙ sym (length_tabulate f 0 k))
        (λ p j. let q : p < k = omega (arith, j, length-take-le k l h) in get_or-take k l p 0 q ∙ e p q ∙ sym (get_d_tabulate f 0 k p q ∙ ap f (omega arith)))

whole : (f : ℕ → ℕ) (k : ℕ) (l : List ℕ) → length l ≡ k → ((p : ℕ) → p < k → get_or l p 0 ≡ f p) → l ≡ tabulate f 0 k
whole f k l h e =
    ext_get_or 0 l (tabulate f 0 k) (h ∙ sym (length_tabulate f 0 k))
    (λ p j. let q : p < k = omega (arith, j, h) in e p q ∙ sym (get_d_tabulate f 0 k p q ∙ ap f (omega arith)))

-- what such a list holds
module _ (f : ℕ → ℕ) (k : ℕ) (l : List ℕ) where
  at : (p : ℕ) → p < k → get_or (over f k l) p 0 ≡ f p
  at p h =
      get_or-append (tabulate f 0 k) (drop k l) 0 p (omega (arith, length_tabulate f 0 k)) ∙ (get_d_tabulate f 0 k p h ∙ ap f (omega arith))

  past : drop k (over f k l) ≡ drop k l
  past = drop_at (tabulate f 0 k) (drop k l) k (length_tabulate f 0 k)

  length_over : k ≤ length l → length (over f k l) ≡ length l
  length_over h = omega (arith, length-append (tabulate f 0 k) (drop k l), length_tabulate f 0 k, length-drop k l)

zeros : (i k : ℕ) → replicate k 0 ≡ tabulate (λ p. 0) i k
zeros i zero = refl
zeros i (suc k) = ap (λ (l : List ℕ). 0 ∷ l) (zeros (suc i) k)

-- a slice whose first n elements are filled with 0, as `fill` of them leaves it
pub over_zeros : (n : ℕ) (l : List ℕ) → replicate n 0 ++ drop n l ≡ over (λ p. 0) n l
over_zeros n l = ap (λ (x : List ℕ). x ++ drop n l) (zeros 0 n)

pub over_laws : OverLaws
over_laws =
    record {
      length_tabulate = length_tabulate;
      get_d_tabulate = get_d_tabulate;
      zeros = zeros;
      is = is;
      whole = whole;
      at = at;
      past = past;
      length_over = length_over;
    }
