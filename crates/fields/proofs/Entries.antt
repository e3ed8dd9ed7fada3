-- The rule of the opcode table at each of its entries: column j of an opcode stands at 4 * opcode + j.
-- Assumes nothing.
use mathlib.Core.Path.{◌≡◌, refl, ◌∙◌, ap}
use mathlib.Core.Bool.{Bool, true, false}
use mathlib.Core.List.{List, [], ◌∷◌}
use Prim.Native.Nat.{ℕ, zero, suc, ◌+◌, ◌*◌, ◌<◌}
use native.Mathlib.Omega.{arith}
use lib.Dec.{T, eqb, eqb→eq}
use lib.ListN.{get_or}
use Rattle.fields.specs.lua54.Table.{mode_number, mode_of, class_number, class_of, companion_number, companion_of, fallback_number, fallback_of, rows_of, opcode_table}

abbrev columns_of : ℕ → List ℕ
columns_of o =
    mode_number (mode_of o) ∷ class_number (class_of o) ∷ companion_number (companion_of o) ∷ fallback_number (fallback_of o) ∷ []

rows_at : (o n i j : ℕ) → i < n → j < 4 → get_or (rows_of o n) (i * 4 + j) 0 ≡ get_or (columns_of (o + i)) j 0
rows_at o zero i j h low = absurd (omega arith)
rows_at o (suc n) zero zero h low = ap (λ (m : ℕ). mode_number (mode_of m)) (omega arith)
rows_at o (suc n) zero (suc zero) h low = ap (λ (m : ℕ). class_number (class_of m)) (omega arith)
rows_at o (suc n) zero (suc (suc zero)) h low = ap (λ (m : ℕ). companion_number (companion_of m)) (omega arith)
rows_at o (suc n) zero (suc (suc (suc zero))) h low = ap (λ (m : ℕ). fallback_number (fallback_of m)) (omega arith)
rows_at o (suc n) zero (suc (suc (suc (suc j)))) h low = absurd (omega arith)
rows_at o (suc n) (suc i) j h low =
    ap (λ (m : ℕ). get_or (rows_of o (suc n)) m 0) (forward i j)
    ∙ (rows_at (suc o) n i j (omega arith) low ∙ ap (λ (m : ℕ). get_or (columns_of m) j 0) (across o i))
  where
    forward : (i j : ℕ) → suc i * 4 + j ≡ suc (suc (suc (suc (i * 4 + j))))
    forward i j = omega arith

    across : (o i : ℕ) → suc o + i ≡ o + suc i
    across o i = omega arith

pub entry : (o j : ℕ) → o < 128 → j < 4 → get_or opcode_table (o * 4 + j) 0 ≡ get_or (columns_of o) j 0
unfolding opcode_table
entry o j h low = rows_at 0 128 o j h low ∙ ap (λ (m : ℕ). get_or (columns_of m) j 0) (start o)
  where
    start : (o : ℕ) → 0 + o ≡ o
    start o = omega arith

abbrev both : Bool → Bool → Bool
both true b = b
both false b = false

both_left : (a b : Bool) → T (both a b) → T a
both_left true b t = tt
both_left false b t = t

both_right : (a b : Bool) → T (both a b) → T b
both_right true b t = t
both_right false b t = absurd t

-- two lists of numbers are the same: a test that antt computes
abbrev pub same : List ℕ → List ℕ → Bool
same [] [] = true
same [] (y ∷ ys) = false
same (x ∷ xs) [] = false
same (x ∷ xs) (y ∷ ys) = both (eqb x y) (same xs ys)

pub by_test : (xs ys : List ℕ) → T (same xs ys) → xs ≡ ys
by_test [] [] t = refl
by_test [] (y ∷ ys) t = absurd t
by_test (x ∷ xs) [] t = absurd t
by_test (x ∷ xs) (y ∷ ys) t =
    rw (eqb→eq x y (both_left (eqb x y) (same xs ys) t), by_test xs ys (both_right (eqb x y) (same xs ys) t))
