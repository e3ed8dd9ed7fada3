-- Request C-24's own numbers: for each of the 64 opcodes the two columns of the table compute to them, whatever C, A and the next word are.
-- Assumes nothing.
use Prim.Native.Nat.{ℕ, ◌+◌, ◌<◌}
use mathlib.Core.Path.{◌≡◌, refl, ap, sym, subst, ◌∙◌}
use mathlib.Core.Bool.{Bool, true, false, cond, not, ◌&&◌, ◌||◌, beq, true≢false}
use mathlib.Core.List.{List, [], ◌∷◌}
use native.Mathlib.Omega.{arith}
use lib.Dec.{T, ltb, eqb, eqb→eq}
use lib.IntN.{ℤ, pos, ◌+ℤ◌}
use lib.ListN.{length, get_or, get_or-eq_default}
use borrow.Author.Tests.{lt-ltb, ltb-false, eqb-true}
use Rattle.fields.specs.lua53.Word.{opcode_of, a_of, c_of, sbx_of}
use Rattle.fields.specs.lua53.Table.{StepClass, following, returning, branching, comparing, skipping, skipping_if_c}
use Rattle.fields.specs.lua53.Table.{skipping_unless_c, jumping, looping, invalid, class_number, class_of, Companion}
use Rattle.fields.specs.lua53.Table.{alone, jump_after, extra_after, extra_after_unless_c, loop_after, companion_of}
use Rattle.fields.specs.Laws.{all}
use Rattle.fields.proofs.Laws.{laws}
use Rattle.sweep.specs.declared.edges.Successors.{Successors}
use Rattle.steps.specs.lua53.Columns.{class_from}
use Rattle.sweep.specs.Steps.{unless, is_invalid, list_of}
use Rattle.steps.specs.lua53.Successors.{opcode_at, next_of, stands_at, companion_present, successors_of}
use Rattle.steps.specs.Ways.{integers}
use Rattle.steps.specs.lua53.Bad.{opcode, above_one, zero_c, between, next_is, returns, skips, jumps}
use Rattle.steps.specs.lua53.Bad.{loops, tests, next_words, any_outside, unknown, lacks_jump, lacks_extra}
use Rattle.steps.specs.lua53.Bad.{lacks_loop, is_bad, ByNumber}
use Rattle.steps.proofs.Columns53.{class_back}
use Rattle.sweep.proofs.Steps.{let_through}
use Rattle.steps.proofs.NextWords.{Same, itself, one_by, two_same}
use Rattle.steps.proofs.ByNumber.{both, either, agreed, steps_to, nothing, one_outside, two_outside, refused, let_on}

-- The companion column.

-- by whether C is 0, and the next word is JMP, EXTRAARG, TFORLOOP
abbrev stands_by : Companion → Bool → Bool → Bool → Bool → Bool
stands_by jump_after c j x l = j
stands_by extra_after c j x l = x
stands_by extra_after_unless_c c j x l = cond c x true
stands_by loop_after c j x l = l
stands_by alone c j x l = true

abbrev wrong_by : ℕ → Bool → Bool → Bool → Bool → Bool
wrong_by o c j x l =
    (eqb o 46 || between 47 63 o) || between 31 35 o && not j || (eqb o 2 || eqb o 43 && c) && not x || eqb o 41 && not l

abbrev is_none : StepClass → Bool
is_none x = eqb (class_number x) (class_number invalid)

abbrev stands_for : ℕ → Bool → Bool → Bool → Bool → Bool
stands_for o c j x l = cond (is_none (class_of o)) false (stands_by (companion_of o) c j x l)

abbrev agrees : ℕ → Bool → Bool → Bool → Bool → Bool
agrees o c j x l = beq (stands_for o c j x l) (not (wrong_by o c j x l))

companion_right : ℕ → Bool
companion_right o = both λ c. both λ j. both λ x. both (agrees o c j x)

companions_right : T (all companion_right 64)
unfolding companion_right class_of companion_of
companions_right = tt

companion_is : (o : ℕ) → o < 64 → (c j x l : Bool) → stands_for o c j x l ≡ not (wrong_by o c j x l)
unfolding companion_right
companion_is o h c j x l =
    agreed _ _ (either (agrees o c j x)
    (either (λ x. both (agrees o c j x))
    (either (λ j. both λ x. both (agrees o c j x))
    (either (λ c. both λ j. both λ x. both (agrees o c j x))
    (laws.each_below companion_right 64 companions_right o h) c) j) x) l)

-- The column of step classes.

-- the first of five that is so, or the sixth
module _ {A : Type 0} where
  abbrev first_of : Bool → Bool → Bool → Bool → Bool → A → A → A → A → A → A → A
  first_of s t u v w a b c d e f = cond s a (cond t b (cond u c (cond v d (cond w e f))))

  first_holds : (P : A → Type 0) (s t u v w : Bool) {a b c d e f : A} → P a → P b → P c → P d → P e → P f → P (first_of s t u v w a b c d e f)
  first_holds P true t u v w pa pb pc pd pe pf = pa
  first_holds P false true u v w pa pb pc pd pe pf = pb
  first_holds P false false true v w pa pb pc pd pe pf = pc
  first_holds P false false false true w pa pb pc pd pe pf = pd
  first_holds P false false false false true pa pb pc pd pe pf = pe
  first_holds P false false false false false pa pb pc pd pe pf = pf

-- a number for each of the six, by whether C is 0 and A is above 1
abbrev place_by : StepClass → Bool → Bool → ℕ
place_by returning c a = 0
place_by skipping c a = 1
place_by jumping c a = 2
place_by looping c a = 3
place_by branching c a = 4
place_by comparing c a = cond a 1 4
place_by skipping_if_c c a = cond c 5 1
place_by skipping_unless_c c a = cond c 1 5
place_by following c a = 5
place_by invalid c a = 5

abbrev place : ℕ → Bool → Bool → ℕ
place o c a =
    first_of (eqb o 38) (eqb o 2 || eqb o 3 && not c || eqb o 43 && c || between 31 33 o && a) (eqb o 30 || eqb o 40) (eqb o 39 || eqb o 42) (between 31 35 o)
    0 1 2 3 4 5

class_right : ℕ → Bool
class_right o = both λ c. both λ a. cond (is_none (class_of o)) true (eqb (place_by (class_of o) c a) (place o c a))

classes_right : T (all class_right 64)
unfolding class_right class_of
classes_right = tt

place_is : (o : ℕ) → o < 64 → is_none (class_of o) ≡ false → (c a : Bool) → place_by (class_of o) c a ≡ place o c a
unfolding class_right
place_is o h e c a =
    eqb→eq _ _ (subst (λ (t : Bool). T (cond t true (eqb (place_by (class_of o) c a) (place o c a)))) e
    (either (λ a. cond (is_none (class_of o)) true (eqb (place_by (class_of o) c a) (place o c a)))
    (either (λ c. both λ a. cond (is_none (class_of o)) true (eqb (place_by (class_of o) c a) (place o c a)))
    (laws.each_below class_right 64 classes_right o h) c) a))

module _ (n w p : ℕ) where
  abbrev away : ℤ
  away = pos (p + 1) +ℤ sbx_of w

  abbrev lists : List (List ℤ)
  lists =
      []
      ∷ (pos (p + 2) ∷ [])
      ∷ (away ∷ [])
      ∷ (away ∷ pos (p + 1) ∷ [])
      ∷ (pos (p + 1) ∷ pos (p + 2) ∷ [])
      ∷ (pos (p + 1) ∷ [])
      ∷ []

  abbrev list_at : ℕ → List ℤ
  list_at i = get_or lists i []

  list_is : (s t u v x : Bool)
      → list_at (first_of s t u v x 0 1 2 3 4 5)
      ≡ first_of s t u v x [] (pos (p + 2) ∷ []) (away ∷ []) (away ∷ pos (p + 1) ∷ []) (pos (p + 1) ∷ pos (p + 2) ∷ []) (pos (p + 1) ∷ [])
  list_is true t u v x = refl
  list_is false true u v x = refl
  list_is false false true v x = refl
  list_is false false false true x = refl
  list_is false false false false true = refl
  list_is false false false false false = refl

  either_list : (t : Bool) (i j : ℕ) (r s : Successors) → r ≡ steps_to n (list_at i) → s ≡ steps_to n (list_at j) → cond t r s ≡ steps_to n (list_at (cond t i j))
  either_list true i j r s d e = d
  either_list false i j r s d e = e

  class_steps : (x : StepClass) → is_none x ≡ false → next_of x n w p ≡ steps_to n (list_at (place_by x (eqb (c_of w) 0) (ltb 1 (a_of w))))
  class_steps returning e = refl
  class_steps branching e = refl
  class_steps comparing e = either_list (ltb 1 (a_of w)) 1 4 _ _ refl refl
  class_steps skipping e = refl
  class_steps skipping_if_c e = either_list (eqb (c_of w) 0) 5 1 _ _ refl refl
  class_steps skipping_unless_c e = either_list (eqb (c_of w) 0) 1 5 _ _ refl refl
  class_steps jumping e = refl
  class_steps looping e = refl
  class_steps following e = refl
  class_steps invalid e = absurd (true≢false e)

-- A word, by its bits.

opcode_is : (w : ℕ) → opcode_of w ≡ opcode w
opcode_is w = omega arith

module _ (ws : List ℕ) (p : ℕ) where
  -- past the end stands no companion
  next-is : (k : ℕ) → eqb 0 k ≡ false → eqb (opcode_at ws (p + 1)) k ≡ next_is ws p k
  unfolding opcode_at
  next-is k far = go (ltb (p + 1) (length ws)) refl
    where
      go : (t : Bool) → ltb (p + 1) (length ws) ≡ t → eqb (opcode_of (get_or ws (p + 1) 0)) k ≡ t && eqb (opcode (get_or ws (p + 1) 0)) k
      go true e = ap (λ (o : ℕ). eqb o k) (opcode_is (get_or ws (p + 1) 0))
      go false e = ap (λ (w : ℕ). eqb (opcode_of w) k) (get_or-eq_default ws 0 (ltb-false (p + 1) (length ws) e)) ∙ far

  abbrev n : ℕ
  n = length ws

  abbrev w : ℕ
  w = get_or ws p 0

  abbrev wrong : Bool
  wrong = unknown ws p || lacks_jump ws p || lacks_extra ws p || lacks_loop ws p

  stands-by : (k : Companion) → stands_at k ws p ≡ stands_by k (zero_c w) (next_is ws p 30) (next_is ws p 46) (next_is ws p 42)
  stands-by jump_after = next-is 30 refl
  stands-by extra_after = next-is 46 refl
  stands-by extra_after_unless_c = ap (λ (t : Bool). cond (zero_c w) t true) (next-is 46 refl)
  stands-by loop_after = next-is 42 refl
  stands-by alone = refl

  fits : opcode w < 64
  fits = omega arith

  -- what is asked beside the next words
  stands : (t : Bool) → is_none (class_of (opcode w)) ≡ t
      → cond t false (stands_by (companion_of (opcode w)) (zero_c w) (next_is ws p 30) (next_is ws p 46) (next_is ws p 42)) ≡ not wrong
  stands t e =
      sym (ap (λ (t : Bool). cond t false (stands_by (companion_of (opcode w)) (zero_c w) (next_is ws p 30) (next_is ws p 46) (next_is ws p 42))) e)
      ∙ companion_is (opcode w) fits (zero_c w) (next_is ws p 30) (next_is ws p 46) (next_is ws p 42)

  nexts : is_none (class_of (opcode w)) ≡ false → next_of (class_of (opcode w)) n w p ≡ steps_to n (next_words w p)
  nexts e =
      class_steps n w p (class_of (opcode w)) e
      ∙ ap (steps_to n) (ap (list_at n w p) (place_is (opcode w) fits e (zero_c w) (above_one w))
      ∙ list_is n w p (returns w) (skips w) (jumps w) (loops w) (tests w))

  by_class : (t : Bool) → is_none (class_of (opcode w)) ≡ t
      → unless (stands_at (companion_of (opcode w)) ws p) (next_of (class_of (opcode w)) n w p) ≡ unless (not wrong) (steps_to n (next_words w p))
  unfolding unless
  by_class true e =
      let none : class_of (opcode w) ≡ invalid = sym (class_back (class_of (opcode w))) ∙ (ap class_from (eqb-true _ _ e) ∙ class_back invalid) in
      ap (λ (x : StepClass). unless (stands_at (companion_of (opcode w)) ws p) (next_of x n w p)) none
      ∙ (nothing (stands_at (companion_of (opcode w)) ws p) ∙ ap (λ (t : Bool). unless t (steps_to n (next_words w p))) (stands true e))
  by_class false e =
      ap (λ (t : Bool). unless t (next_of (class_of (opcode w)) n w p)) (stands-by (companion_of (opcode w)) ∙ stands false e)
      ∙ ap (unless (not wrong)) (nexts e)

  by_number : p < n → successors_of ws p ≡ unless (not wrong) (steps_to n (next_words w p))
  unfolding successors_of companion_present opcode_at
  by_number h =
      sym (let_through (ltb p n) _ (lt-ltb p n h))
      ∙ (ap (λ (o : ℕ). unless (stands_at (companion_of o) ws p) (next_of (class_of o) n w p)) (opcode_is w) ∙ by_class (is_none (class_of (opcode w))) refl)

-- Bad words.

module _ (n : ℕ) where
  some_outside : (w p : ℕ) → is_invalid (steps_to n (next_words w p)) ≡ any_outside n (next_words w p)
  some_outside w p =
      first_holds (λ zs. is_invalid (steps_to n zs) ≡ any_outside n zs) (returns w) (skips w) (jumps w) (loops w) (tests w)
      refl (one_outside n _) (one_outside n _) (two_outside n _ _) (two_outside n _ _) (one_outside n _)

  same_words : (w p : ℕ) → is_invalid (steps_to n (next_words w p)) ≡ false → Same (next_words w p) (integers (list_of (steps_to n (next_words w p))))
  same_words w p =
      first_holds (λ zs. is_invalid (steps_to n zs) ≡ false → Same zs (integers (list_of (steps_to n zs)))) (returns w) (skips w) (jumps w) (loops w) (tests w)
      (λ e. itself []) (one_by n _ _ refl) (one_by n _ _ refl) (two_same n _ _) (two_same n _ _) (one_by n _ _ refl)

bad : (ws : List ℕ) (p : ℕ) → p < length ws → is_invalid (successors_of ws p) ≡ is_bad ws p
bad ws p h =
    ap is_invalid (by_number ws p h)
    ∙ (refused (steps_to (length ws) (next_words (get_or ws p 0) p)) (wrong ws p)
    ∙ ap (λ (t : Bool). wrong ws p || t) (some_outside (length ws) (get_or ws p 0) p))

steps :
    (ws : List ℕ) (p : ℕ) → p < length ws → is_bad ws p ≡ false → Same (next_words (get_or ws p 0) p) (integers (list_of (successors_of ws p)))
steps ws p h e =
    let on = let_on (steps_to (length ws) (next_words (get_or ws p 0) p)) (wrong ws p) _ e (some_outside (length ws) (get_or ws p 0) p) in
    subst (λ (s : Successors). Same (next_words (get_or ws p 0) p) (integers (list_of s)))
    (sym (by_number ws p h ∙ on.0)) (same_words (length ws) (get_or ws p 0) p on.1)

pub by_numbers : ByNumber
by_numbers = record { bad = bad; steps = steps }
