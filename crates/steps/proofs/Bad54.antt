-- Document 01's own numbers: for each of the 128 opcodes the two columns of the table compute to them. Assumes nothing.
use Prim.Native.Nat.{ℕ, ◌+◌, ◌-◌, ◌<◌}
use mathlib.Core.Path.{◌≡◌, refl, ap, sym, subst, ◌∙◌}
use mathlib.Core.Bool.{Bool, true, false, cond, not, ◌&&◌, ◌||◌, beq, true≢false}
use mathlib.Core.List.{List, [], ◌∷◌}
use native.Mathlib.Omega.{arith}
use lib.Dec.{T, ltb, leb, eqb, eqb→eq}
use lib.IntN.{ℤ, pos, ◌+ℤ◌, ◌-ℤ◌}
use lib.ListN.{length, get_or, get_or-eq_default}
use borrow.Author.Tests.{lt-ltb, ltb-false, eqb-true}
use Rattle.fields.specs.lua54.Word.{opcode_of, k_of, bx_of, sj_of}
use Rattle.fields.specs.lua54.Table.{StepClass, following, returning, branching, skipping, skipping_if_k, jumping}
use Rattle.fields.specs.lua54.Table.{looping, preparing, entering, invalid, class_number, class_of, Companion, alone}
use Rattle.fields.specs.lua54.Table.{metamethod_after, arithmetic_before, jump_after, extra_after, extra_after_if_k}
use Rattle.fields.specs.lua54.Table.{call_at_target, loop_after, companion_number, companion_of}
use Rattle.fields.specs.Laws.{all}
use Rattle.fields.proofs.Laws.{laws}
use Rattle.sweep.specs.declared.edges.Successors.{Successors}
use Rattle.steps.specs.lua54.Columns.{class_from, companion_from}
use Rattle.sweep.specs.Steps.{unless, is_invalid, list_of}
use Rattle.steps.specs.lua54.Successors.{opcode_at, is_between, next_of, stands_at, companion_present, successors_of}
use Rattle.steps.specs.Ways.{integers}
use Rattle.steps.specs.lua53.Bad.{between, any_outside}
use Rattle.steps.specs.lua54.Bad.{opcode, k_is_one, bx, next_words, is_at, is, lacks, is_bad, ByNumber}
use Rattle.steps.proofs.Columns.{class_back, companion_back}
use Rattle.sweep.proofs.Steps.{let_through}
use Rattle.steps.proofs.NextWords.{Same, itself, one_by, two_same}
use Rattle.steps.proofs.ByNumber.{both, either, agreed, steps_to, nothing, one_outside, two_outside, refused, let_on}

-- the first of seven that is so, or the eighth
module _ {A : Type 0} where
  abbrev first_of : Bool → Bool → Bool → Bool → Bool → Bool → Bool → A → A → A → A → A → A → A → A → A
  first_of s t u v w x y a b c d e f g h = cond s a (cond t b (cond u c (cond v d (cond w e (cond x f (cond y g h))))))

  first_holds : (P : A → Type 0) (s t u v w x y : Bool) {a b c d e f g h : A} → P a → P b → P c → P d → P e
      → P f → P g → P h → P (first_of s t u v w x y a b c d e f g h)
  first_holds P true t u v w x y pa pb pc pd pe pf pg ph = pa
  first_holds P false true u v w x y pa pb pc pd pe pf pg ph = pb
  first_holds P false false true v w x y pa pb pc pd pe pf pg ph = pc
  first_holds P false false false true w x y pa pb pc pd pe pf pg ph = pd
  first_holds P false false false false true x y pa pb pc pd pe pf pg ph = pe
  first_holds P false false false false false true y pa pb pc pd pe pf pg ph = pf
  first_holds P false false false false false false true pa pb pc pd pe pf pg ph = pg
  first_holds P false false false false false false false pa pb pc pd pe pf pg ph = ph

-- where none is so
none_first : {A : Type 0} (s t u v w x y : Bool) (a b c d e f g h : A)
    → first_of {A = ℕ} s t u v w x y 1 1 1 1 1 1 1 0 ≡ 0 → first_of s t u v w x y a b c d e f g h ≡ h
none_first true t u v w x y a b c d e f g h z = absurd (omega arith)
none_first false true u v w x y a b c d e f g h z = absurd (omega arith)
none_first false false true v w x y a b c d e f g h z = absurd (omega arith)
none_first false false false true w x y a b c d e f g h z = absurd (omega arith)
none_first false false false false true x y a b c d e f g h z = absurd (omega arith)
none_first false false false false false true y a b c d e f g h z = absurd (omega arith)
none_first false false false false false false true a b c d e f g h z = absurd (omega arith)
none_first false false false false false false false a b c d e f g h z = refl

abbrev is_none : StepClass → Bool
is_none x = eqb (class_number x) (class_number invalid)

-- The companion column.

-- a number for each of the rows of "Bad unless"
abbrev wanting : ℕ → ℕ → ℕ → ℕ → ℕ → ℕ → ℕ → ℕ → ℕ → ℕ
wanting o =
    first_of (between 21 45 o) (between 46 48 o) (between 57 67 o) (eqb o 4 || eqb o 19) (eqb o 78) (eqb o 75) (eqb o 76)

-- an opcode's row, by whether it is none of the 82: then it has no row
abbrev row_is : ℕ → Bool → Bool
row_is o t = cond t (eqb (wanting o 1 1 1 1 1 1 1 0) 0) (eqb (companion_number (companion_of o)) (wanting o 1 2 3 4 5 6 7 0))

companion_right : ℕ → Bool
companion_right o =
    beq (is_none (class_of o)) (leb 82 o) && row_is o (leb 82 o)

companions_right : T (all companion_right 128)
unfolding companion_right class_of companion_of
companions_right = tt

two_parts : (a b : Bool) → T (a && b) → T a × T b
two_parts true b h = (tt, h)
two_parts false b h = absurd h

module _ (o : ℕ) (below : o < 128) where
  parts : T (beq (is_none (class_of o)) (leb 82 o)) × T (row_is o (leb 82 o))
  unfolding companion_right
  parts =
      two_parts (beq (is_none (class_of o)) (leb 82 o))
      (row_is o (leb 82 o)) (laws.each_below companion_right 128 companions_right o below)

  none_is : is_none (class_of o) ≡ leb 82 o
  none_is = agreed _ _ parts.0

  unwanted : leb 82 o ≡ true → wanting o 1 1 1 1 1 1 1 0 ≡ 0
  unwanted e =
      eqb→eq _ _ (subst (λ (t : Bool). T (row_is o t)) e parts.1)

  wanted : leb 82 o ≡ false → companion_of o ≡ companion_from (wanting o 1 2 3 4 5 6 7 0)
  wanted e =
      sym (companion_back (companion_of o))
      ∙ ap companion_from (eqb→eq _ _ (subst (λ (t : Bool). T (row_is o t)) e parts.1))

twice : (t : Bool) → t ≡ not (not t)
twice true = refl
twice false = refl

unless_both : (k x : Bool) → cond k x true ≡ not (k && not x)
unless_both true x = twice x
unless_both false x = refl

-- The column of step classes.

-- a number for each of the rows of "Next word", by whether k is 1
abbrev place_by : StepClass → Bool → ℕ
place_by returning k = 0
place_by branching k = 1
place_by skipping k = 2
place_by skipping_if_k k = cond k 2 7
place_by jumping k = 3
place_by looping k = 4
place_by preparing k = 5
place_by entering k = 6
place_by following k = 7
place_by invalid k = 7

abbrev place : ℕ → Bool → ℕ
place o k =
    first_of (between 69 72 o) (between 21 45 o || between 57 67 o) (eqb o 6 || (eqb o 4 || eqb o 19) || eqb o 78 && k) (eqb o 56) (eqb o 73 || eqb o 77)
    (eqb o 74) (eqb o 75) 0 1 2 3 4 5 6 7

class_right : ℕ → Bool
class_right o = both λ k. cond (is_none (class_of o)) true (eqb (place_by (class_of o) k) (place o k))

classes_right : T (all class_right 128)
unfolding class_right class_of
classes_right = tt

place_is : (o : ℕ) → o < 128 → is_none (class_of o) ≡ false → (k : Bool) → place_by (class_of o) k ≡ place o k
unfolding class_right
place_is o h e k =
    eqb→eq _ _ (subst (λ (t : Bool). T (cond t true (eqb (place_by (class_of o) k) (place o k)))) e
    (either (λ k. cond (is_none (class_of o)) true (eqb (place_by (class_of o) k) (place o k))) (laws.each_below class_right 128 classes_right o h) k))

module _ (n w p : ℕ) where
  abbrev lists : List (List ℤ)
  lists =
      []
      ∷ (pos (p + 1) ∷ pos (p + 2) ∷ [])
      ∷ (pos (p + 2) ∷ [])
      ∷ ((pos (p + 1) +ℤ sj_of w) ∷ [])
      ∷ ((pos (p + 1) -ℤ pos (bx_of w)) ∷ pos (p + 1) ∷ [])
      ∷ (pos (p + 1) ∷ pos (p + 2 + bx_of w) ∷ [])
      ∷ (pos (p + 1 + bx_of w) ∷ [])
      ∷ (pos (p + 1) ∷ [])
      ∷ []

  abbrev list_at : ℕ → List ℤ
  list_at i = get_or lists i []

  list_is : (s t u v x y z : Bool)
      → list_at (first_of s t u v x y z 0 1 2 3 4 5 6 7)
      ≡ first_of s t u v x y z (list_at 0) (list_at 1) (list_at 2) (list_at 3) (list_at 4) (list_at 5) (list_at 6) (list_at 7)
  list_is true t u v x y z = refl
  list_is false true u v x y z = refl
  list_is false false true v x y z = refl
  list_is false false false true x y z = refl
  list_is false false false false true y z = refl
  list_is false false false false false true z = refl
  list_is false false false false false false true = refl
  list_is false false false false false false false = refl

  either_list : (t : Bool) (i j : ℕ) (r s : Successors) → r ≡ steps_to n (list_at i) → s ≡ steps_to n (list_at j) → cond t r s ≡ steps_to n (list_at (cond t i j))
  either_list true i j r s d e = d
  either_list false i j r s d e = e

  class_steps : (x : StepClass) → is_none x ≡ false → next_of x n w p ≡ steps_to n (list_at (place_by x (eqb (k_of w) 1)))
  class_steps returning e = refl
  class_steps branching e = refl
  class_steps skipping e = refl
  class_steps skipping_if_k e = either_list (eqb (k_of w) 1) 2 7 _ _ refl refl
  class_steps jumping e = refl
  class_steps looping e = refl
  class_steps preparing e = refl
  class_steps entering e = refl
  class_steps following e = refl
  class_steps invalid e = absurd (true≢false e)

-- A word, by its bits.

opcode_is : (w : ℕ) → opcode_of w ≡ opcode w
opcode_is w = omega arith

module _ (ws : List ℕ) where
  -- past the end stands no companion
  at_is : (i : ℕ) (test : ℕ → Bool) → test 0 ≡ false → test (opcode_at ws i) ≡ is_at ws i test
  unfolding opcode_at
  at_is i test far = go (ltb i (length ws)) refl
    where
      go : (t : Bool) → ltb i (length ws) ≡ t → test (opcode_of (get_or ws i 0)) ≡ t && test (opcode (get_or ws i 0))
      go true e = ap test (opcode_is (get_or ws i 0))
      go false e = ap (λ (w : ℕ). test (opcode_of w)) (get_or-eq_default ws 0 (ltb-false i (length ws) e)) ∙ far

module _ (ws : List ℕ) (p : ℕ) where
  abbrev n : ℕ
  n = length ws

  abbrev w : ℕ
  w = get_or ws p 0

  abbrev o : ℕ
  o = opcode w

  -- whether what a companion asks for is there
  abbrev stands_by : Companion → Bool
  stands_by metamethod_after = is_at ws (p + 1) (between 46 48)
  stands_by arithmetic_before = ltb 0 p && is_at ws (p - 1) (between 21 45)
  stands_by jump_after = is_at ws (p + 1) (is 56)
  stands_by extra_after = is_at ws (p + 1) (is 82)
  stands_by extra_after_if_k = cond (k_is_one w) (is_at ws (p + 1) (is 82)) true
  stands_by call_at_target = is_at ws (p + 1 + bx w) (is 76)
  stands_by loop_after = is_at ws (p + 1) (is 77)
  stands_by alone = true

  stands-by : (k : Companion) → stands_at k ws p ≡ stands_by k
  unfolding is_between
  stands-by metamethod_after = at_is ws (p + 1) (between 46 48) refl
  stands-by arithmetic_before = ap (λ (t : Bool). ltb 0 p && t) (at_is ws (p - 1) (between 21 45) refl)
  stands-by jump_after = at_is ws (p + 1) (is 56) refl
  stands-by extra_after = at_is ws (p + 1) (is 82) refl
  stands-by extra_after_if_k = ap (λ (t : Bool). cond (k_is_one w) t true) (at_is ws (p + 1) (is 82) refl)
  stands-by call_at_target = at_is ws (p + 1 + bx w) (is 76) refl
  stands-by loop_after = at_is ws (p + 1) (is 77) refl
  stands-by alone = refl

  fits : o < 128
  fits = omega arith

  -- by the row's number, where the opcode is known
  by_row : (s t u v x y z : Bool)
      → stands_by (companion_from (first_of s t u v x y z 1 2 3 4 5 6 7 0))
      ≡ not (first_of s t u v x y z (not (is_at ws (p + 1) (between 46 48))) (not (ltb 0 p && is_at ws (p - 1) (between 21 45)))
      (not (is_at ws (p + 1) (is 56))) (not (is_at ws (p + 1) (is 82))) (k_is_one w && not (is_at ws (p + 1) (is 82)))
      (not (is_at ws (p + 1 + bx w) (is 76))) (not (is_at ws (p + 1) (is 77))) false)
  unfolding companion_from
  by_row true t u v x y z = twice _
  by_row false true u v x y z = twice _
  by_row false false true v x y z = twice _
  by_row false false false true x y z = twice _
  by_row false false false false true y z = unless_both (k_is_one w) _
  by_row false false false false false true z = twice _
  by_row false false false false false false true = twice _
  by_row false false false false false false false = refl

  abbrev lacking : Bool → Bool
  lacking last =
      first_of (between 21 45 o) (between 46 48 o) (between 57 67 o) (eqb o 4 || eqb o 19) (eqb o 78) (eqb o 75) (eqb o 76)
      (not (is_at ws (p + 1) (between 46 48))) (not (ltb 0 p && is_at ws (p - 1) (between 21 45)))
      (not (is_at ws (p + 1) (is 56))) (not (is_at ws (p + 1) (is 82))) (k_is_one w && not (is_at ws (p + 1) (is 82)))
      (not (is_at ws (p + 1 + bx w) (is 76))) (not (is_at ws (p + 1) (is 77))) last

  stands : leb 82 o ≡ false → stands_at (companion_of o) ws p ≡ not (lacks ws p)
  stands e =
      stands-by (companion_of o) ∙ ap stands_by (wanted o fits e)
      ∙ (by_row (between 21 45 o) (between 46 48 o) (between 57 67 o) (eqb o 4 || eqb o 19) (eqb o 78) (eqb o 75) (eqb o 76)
      ∙ ap (λ (t : Bool). not (lacking t)) (sym e))

  lacks_all : leb 82 o ≡ true → lacks ws p ≡ true
  lacks_all e =
      none_first (between 21 45 o) (between 46 48 o) (between 57 67 o) (eqb o 4 || eqb o 19) (eqb o 78) (eqb o 75) (eqb o 76) _ _ _ _ _ _ _ _
      (unwanted o fits e)
      ∙ e

  nexts : is_none (class_of o) ≡ false → next_of (class_of o) n w p ≡ steps_to n (next_words w p)
  nexts e =
      class_steps n w p (class_of o) e
      ∙ ap (steps_to n) (ap (list_at n w p) (place_is o fits e (k_is_one w))
      ∙ list_is n w p (between 69 72 o) (between 21 45 o || between 57 67 o) (eqb o 6 || (eqb o 4 || eqb o 19) || eqb o 78 && k_is_one w) (eqb o 56)
      (eqb o 73 || eqb o 77) (eqb o 74) (eqb o 75))

  by_class : (t : Bool) → is_none (class_of o) ≡ t
      → unless (stands_at (companion_of o) ws p) (next_of (class_of o) n w p) ≡ unless (not (lacks ws p)) (steps_to n (next_words w p))
  unfolding unless
  by_class true e =
      let none : class_of o ≡ invalid = sym (class_back (class_of o)) ∙ (ap class_from (eqb-true _ _ e) ∙ class_back invalid) in
      ap (λ (x : StepClass). unless (stands_at (companion_of o) ws p) (next_of x n w p)) none
      ∙ (nothing (stands_at (companion_of o) ws p)
      ∙ ap (λ (t : Bool). unless (not t) (steps_to n (next_words w p))) (sym (lacks_all (sym (none_is o fits) ∙ e))))
  by_class false e =
      ap (λ (t : Bool). unless t (next_of (class_of o) n w p)) (stands (sym (none_is o fits) ∙ e))
      ∙ ap (unless (not (lacks ws p))) (nexts e)

  by_number : p < n → successors_of ws p ≡ unless (not (lacks ws p)) (steps_to n (next_words w p))
  unfolding successors_of companion_present opcode_at
  by_number h =
      sym (let_through (ltb p n) _ (lt-ltb p n h))
      ∙ (ap (λ (x : ℕ). unless (stands_at (companion_of x) ws p) (next_of (class_of x) n w p)) (opcode_is w) ∙ by_class (is_none (class_of o)) refl)

-- Bad words.

module _ (n w p : ℕ) where
  abbrev over : (List ℤ → Type 0) → Type 0
  over P = P (next_words w p)

  every : (P : List ℤ → Type 0) → P [] → ((z : ℤ) → P (z ∷ [])) → ((z y : ℤ) → P (z ∷ y ∷ [])) → over P
  every P none one two =
      first_holds P (between 69 72 (opcode w)) (between 21 45 (opcode w) || between 57 67 (opcode w))
      (eqb (opcode w) 6 || (eqb (opcode w) 4 || eqb (opcode w) 19) || eqb (opcode w) 78 && k_is_one w) (eqb (opcode w) 56)
      (eqb (opcode w) 73 || eqb (opcode w) 77) (eqb (opcode w) 74) (eqb (opcode w) 75)
      none (two _ _) (one _) (one _) (two _ _) (two _ _) (one _) (one _)

  some_outside : is_invalid (steps_to n (next_words w p)) ≡ any_outside n (next_words w p)
  some_outside = every (λ zs. is_invalid (steps_to n zs) ≡ any_outside n zs) refl (one_outside n) (two_outside n)

  same_words : is_invalid (steps_to n (next_words w p)) ≡ false → Same (next_words w p) (integers (list_of (steps_to n (next_words w p))))
  same_words =
      every (λ zs. is_invalid (steps_to n zs) ≡ false → Same zs (integers (list_of (steps_to n zs))))
      (λ e. itself []) (λ z. one_by n z z refl) (λ z y. two_same n z y)

bad : (ws : List ℕ) (p : ℕ) → p < length ws → is_invalid (successors_of ws p) ≡ is_bad ws p
bad ws p h =
    ap is_invalid (by_number ws p h)
    ∙ (refused (steps_to (length ws) (next_words (get_or ws p 0) p)) (lacks ws p)
    ∙ ap (λ (t : Bool). lacks ws p || t) (some_outside (length ws) (get_or ws p 0) p))

steps :
    (ws : List ℕ) (p : ℕ) → p < length ws → is_bad ws p ≡ false → Same (next_words (get_or ws p 0) p) (integers (list_of (successors_of ws p)))
steps ws p h e =
    let on = let_on (steps_to (length ws) (next_words (get_or ws p 0) p)) (lacks ws p) _ e (some_outside (length ws) (get_or ws p 0) p) in
    subst (λ (s : Successors). Same (next_words (get_or ws p 0) p) (integers (list_of s)))
    (sym (by_number ws p h ∙ on.0)) (same_words (length ws) (get_or ws p 0) p on.1)

pub by_numbers : ByNumber
by_numbers = record { bad = bad; steps = steps }
