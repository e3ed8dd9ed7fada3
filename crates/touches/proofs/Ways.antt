-- The ways on of lvm.c lead to a word's steps, and over them an edge. All that is used of where they lead is here.
-- Assumes nothing.
use Prim.Native.Nat.{ℕ, zero, suc, ◌+◌, ◌-◌, ◌≤◌, ◌<◌}
use mathlib.Core.Path.{◌≡◌, refl, ap, sym, subst, ◌∙◌}
use mathlib.Core.Logic.{◌⊎◌, inl, inr, ⊎_elim, ◌↔◌}
use mathlib.Core.Bool.{Bool, true, false, cond}
use mathlib.Core.List.{List, [], ◌∷◌, ◌++◌}
use native.Mathlib.Omega.{arith}
use lib.Dec.{T, eqb, eqb→eq}
use lib.IntN.{ℤ, pos, negsuc, neg_ℤ, ◌+ℤ◌, ◌-ℤ◌, +ℤ_assoc}
use lib.ListN.{get_or}
use borrow.Author.Tests.{lt-ltb, le-ltb}
use Rattle.common.proofs.Tests.{left_of, right_of}
use Rattle.fields.specs.declared.lua54.word.RawInstruction54.{RawInstruction54}
use Rattle.fields.specs.declared.lua53.word.RawInstruction53.{RawInstruction53}
use Rattle.fields.proofs.Laws.{laws}
use Rattle.graph.specs.Graph.{In}
use Rattle.graph.proofs.Laws as graph
use Rattle.sweep.specs.Steps.{is_invalid, list_of}
use Rattle.steps.specs.Ways as lvm
use Rattle.steps.specs.Ways.{targets_of, integers}
use Rattle.steps.specs.Executions.{Arm, go_of, gos_of, leading_to}
use Rattle.steps.specs.lua54.Lvm as lvm54
use Rattle.steps.specs.lua53.Lvm as lvm53
use Rattle.runs.specs.Script.{steps_of}
use Rattle.steps.proofs.Laws as stepping
use Rattle.fields.specs.declared.version.Version.{Version}
use Rattle.fields.specs.declared.version.Version.TheVariants.{Lua54, Lua53}
use Rattle.touches.specs.Words.{opcode_by, GET_OPCODE-of, taken}
use Rattle.touches.specs.Versions.{is_step, Go, ways_of, next}
use Rattle.touches.specs.Touched.{ways_at, Any, LeadsTo}
use Rattle.touches.specs.Accesses.{OwnEdge, no_edge, «p+1», «p+2», «p+1-Bx», «p+1+sBx», edge_of}
use Rattle.touches.specs.Table.{edge_from, edge_number, opcodes_of}
use Rattle.locations.proofs.Order.{split}
use Rattle.touches.proofs.Rows.{edge_back}

pub opcode_is : (v : Version) (w : ℕ) → GET_OPCODE-of v w ≡ opcode_by v w
opcode_is Lua54 w = ap (λ (i : RawInstruction54). i.opcode_num) (laws.lopcodes w)
opcode_is Lua53 w = ap (λ (i : RawInstruction53). i.opcode_num) (laws.lua53.lopcodes w)

pub opcode_fits : (v : Version) (w : ℕ) → GET_OPCODE-of v w < opcodes_of v
opcode_fits Lua54 w = rw (opcode_is Lua54 w) (omega arith)
opcode_fits Lua53 w = rw (opcode_is Lua53 w) (omega arith)

-- A word to which one of a case's ways leads is one to which the case leads

targets_append : {Body : Type 0} (xs ys : List (lvm.Way Body)) (z : ℤ) → In z (targets_of (xs ++ ys)) ↔ (In z (targets_of xs) ⊎ In z (targets_of ys))
targets_append [] ys z = (λ m. inr m, ⊎_elim (λ m. absurd m) (λ m. m))
targets_append (x ∷ xs) ys z =
    let rest = targets_append xs ys z in (
      ⊎_elim (λ m. inl (inl m)) (λ m. ⊎_elim (λ l. inl (inr l)) (λ r. inr r) (rest.0 m)),
      ⊎_elim (⊎_elim (λ m. inl m) (λ m. inr (rest.1 (inl m)))) (λ m. inr (rest.1 (inr m))),
    )

module _ {Go Body : Type 0} (onward : Go → List (lvm.Way Body)) (z : ℤ) where
  led : (ways : List (Arm Go)) → Any (λ (w : Arm Go). In z (targets_of (onward (go_of w)))) ways ↔ In z (targets_of (leading_to onward (gos_of ways)))
  led [] = (λ m. m, λ m. m)
  led (w ∷ ways) =
      let parts = targets_append (onward (go_of w)) (leading_to onward (gos_of ways)) z in (
        ⊎_elim (λ m. parts.1 (inl m)) (λ m. parts.1 (inr ((led ways).0 m))),
        λ m. ⊎_elim (λ l. inl l) (λ r. inr ((led ways).1 r)) (parts.0 m),
      )

-- the ways of either version are the word's steps
pub ways_are :
    (v : Version) (ws : List ℕ) (p : ℕ) → is_invalid (steps_of v ws p) ≡ false → (z : ℤ) →
    Any (LeadsTo v ws p z) (ways_at v ws p) ↔ In z (integers (list_of (steps_of v ws p)))
unfolding ways_of lvm54.ways_at lvm54.body_at lvm53.ways_at lvm53.body_at
ways_are Lua54 ws p valid z =
    let ways = led (lvm54.onward ws (pos (p + 1)) (get_or ws p 0)) z (ways_at Lua54 ws p) in
    let steps = (stepping.laws).agreement.same ws p valid z in
    (λ m. steps.0 (ways.0 m), λ m. ways.1 (steps.1 m))
ways_are Lua53 ws p valid z =
    let ways = led (lvm53.onward ws (pos (p + 1)) (get_or ws p 0)) z (ways_at Lua53 ws p) in
    let steps = (stepping.laws).agreement53.same ws p valid z in
    (λ m. steps.0 (ways.0 m), λ m. ways.1 (steps.1 m))

-- A way of a word that is not bad leads to a successor

same_number : (q r : ℕ) → pos q ≡ pos r → q ≡ r
same_number q r e = ap magnitude e
  where
    magnitude : ℤ → ℕ
    magnitude (pos n) = n
    magnitude (negsuc n) = n

in_numbers : (q : ℕ) (xs : List ℕ) → In (pos q) (integers xs) → In q xs
in_numbers q [] a = a
in_numbers q (x ∷ xs) a = ⊎_elim (λ e. inl (same_number q x e)) (λ b. inr (in_numbers q xs b)) a

none_below : (n : ℕ) (xs : List ℕ) → In (negsuc n) (integers xs) → ⊥
none_below n [] a = absurd a
none_below n (x ∷ xs) a = ⊎_elim (λ e. signs e) (λ b. none_below n xs b) a
  where
    sign : ℤ → ℕ
    sign (pos m) = 0
    sign (negsuc m) = 1

    signs : negsuc n ≡ pos x → ⊥
    signs e = omega (arith, ap sign e)

module _ (v : Version) (ws : List ℕ) (p : ℕ) (valid : is_invalid (steps_of v ws p) ≡ false) where
  abbrev pub Reached : ℤ → Type 0
  Reached z = Any (LeadsTo v ws p z) (ways_at v ws p)

  reached : (z : ℤ) → Reached z → In z (integers (list_of (steps_of v ws p)))
  reached z a = (ways_are v ws p valid z).0 a

  pub to_successor : (q : ℕ) → Reached (pos q) → is_step v ws p q ≡ true
  unfolding is_step
  to_successor q a =
      ((graph.laws).member_in q (list_of (steps_of v ws p))).1 (in_numbers q (list_of (steps_of v ws p)) (reached (pos q) a))

  -- a way does not go below 0
  under : (x b : ℕ) → x < b → Reached (pos x -ℤ pos b) → ⊥
  under x zero h r = absurd (omega arith)
  under x (suc b) h r =
      none_below (suc b - suc x) (list_of (steps_of v ws p)) (reached (negsuc (suc b - suc x)) (subst Reached below r))
    where
      below : pos x -ℤ pos (suc b) ≡ negsuc (suc b - suc x)
      below = rw (lt-ltb x (suc b) h)

  not_below : (x b : ℕ) → Reached (pos x -ℤ pos b) → b ≤ x
  not_below x b a = ⊎_elim (λ h. absurd (under x b h a)) (λ h. h) (split x b)

difference : (x b : ℕ) → b ≤ x → pos x -ℤ pos b ≡ pos (x - b)
difference x zero h = ap pos (omega arith)
difference x (suc b) h = rw (le-ltb x (suc b) h)

-- a signed distance: the sum in naturals, less the offset
away : (m a b : ℕ) → pos m +ℤ (pos a -ℤ pos b) ≡ pos (m + a) -ℤ pos b
away m a b = sym (+ℤ_assoc (pos m) (pos a) (neg_ℤ (pos b)))

-- The edge of a case, and the way on that leads over it

-- where lvm.c leaves pc then
abbrev pub landing : Version → OwnEdge → ℕ → ℕ → ℤ
landing v no_edge p w = pos 0
landing v «p+1» p w = pos (p + 1)
landing v «p+2» p w = pos (p + 1) +ℤ pos 1
landing v «p+1-Bx» p w = pos (p + 1) -ℤ pos (taken v w).bx
landing v «p+1+sBx» p w = pos (p + 1) +ℤ (pos (taken v w).bx -ℤ pos 131071)

abbrev is_edge : OwnEdge → Bool
is_edge no_edge = false
is_edge «p+1» = true
is_edge «p+2» = true
is_edge «p+1-Bx» = true
is_edge «p+1+sBx» = true

-- the edge over which a way leads, of those that a case can have
abbrev crossing :
    (v : Version) (go : Go v) →
    (edge : OwnEdge) × ((ws : List ℕ) (p w : ℕ) → T (is_edge edge) → next v ws (pos (p + 1)) w go ≡ landing v edge p w ∷ [])
crossing Lua54 lvm54.vmbreak = («p+1», λ ws p w t. refl)
crossing Lua54 lvm54.«pc++» = («p+2», λ ws p w t. refl)
crossing Lua54 lvm54.«pc++-if-k» = (no_edge, λ ws p w t. absurd t)
crossing Lua54 lvm54.jump = (no_edge, λ ws p w t. absurd t)
crossing Lua54 lvm54.donextjump = («p+1», λ ws p w t. refl)
crossing Lua54 lvm54.«pc-=Bx» = («p+1-Bx», λ ws p w t. refl)
crossing Lua54 lvm54.«pc+=Bx+1» = (no_edge, λ ws p w t. absurd t)
crossing Lua54 lvm54.goto_l_tforcall = (no_edge, λ ws p w t. absurd t)
crossing Lua54 lvm54.goto_l_tforloop = (no_edge, λ ws p w t. absurd t)
crossing Lua54 lvm54.leave = (no_edge, λ ws p w t. absurd t)
crossing Lua53 lvm53.vmbreak = («p+1», λ ws p w t. refl)
crossing Lua53 lvm53.«pc++» = («p+2», λ ws p w t. refl)
crossing Lua53 lvm53.«pc++-if-C» = (no_edge, λ ws p w t. absurd t)
crossing Lua53 lvm53.«pc++-if-not-C» = (no_edge, λ ws p w t. absurd t)
crossing Lua53 lvm53.jump = (no_edge, λ ws p w t. absurd t)
crossing Lua53 lvm53.donextjump = («p+1», λ ws p w t. refl)
crossing Lua53 lvm53.compared_0 = (no_edge, λ ws p w t. absurd t)
crossing Lua53 lvm53.compared_1 = (no_edge, λ ws p w t. absurd t)
crossing Lua53 lvm53.«pc+=sBx» = («p+1+sBx», λ ws p w t. refl)
crossing Lua53 lvm53.goto_l_tforloop = (no_edge, λ ws p w t. absurd t)
crossing Lua53 lvm53.leave = (no_edge, λ ws p w t. absurd t)

abbrev pub leads : (v : Version) → OwnEdge → Go v → Bool
leads v edge go = cond (is_edge edge) (eqb (edge_number (crossing v go).0) (edge_number edge)) false

pub next_landing :
    (v : Version) (ws : List ℕ) (p w : ℕ) (edge : OwnEdge) (go : Go v) → T (leads v edge go) →
    next v ws (pos (p + 1)) w go ≡ landing v edge p w ∷ []
next_landing v ws p w edge go t =
    let own : OwnEdge = (crossing v go).0 in
    let n : edge_number own ≡ edge_number edge = eqb→eq (edge_number own) (edge_number edge) (right_of (is_edge edge) _ t) in
    let e : own ≡ edge = sym (edge_back own) ∙ (ap edge_from n ∙ edge_back edge) in
    subst (λ (x : OwnEdge). next v ws (pos (p + 1)) w go ≡ landing v x p w ∷ []) e
    ((crossing v go).1 ws p w (subst (λ (x : OwnEdge). T (is_edge x)) (sym e) (left_of (is_edge edge) _ t)))

pub landing_is :
    (v : Version) (ws : List ℕ) (p : ℕ) → is_invalid (steps_of v ws p) ≡ false → (edge : OwnEdge) →
    Any (LeadsTo v ws p (landing v edge p (get_or ws p 0))) (ways_at v ws p) → landing v edge p (get_or ws p 0) ≡ pos (edge_of edge p (taken v (get_or ws p 0)).bx)
landing_is v ws p valid no_edge a = refl
landing_is v ws p valid «p+1» a = refl
landing_is v ws p valid «p+2» a = ap pos (omega arith)
landing_is v ws p valid «p+1-Bx» a =
    let bx : ℕ = (taken v (get_or ws p 0)).bx in
    difference (p + 1) bx (not_below v ws p valid (p + 1) bx a)
landing_is v ws p valid «p+1+sBx» a =
    let bx : ℕ = (taken v (get_or ws p 0)).bx in
    let e = away (p + 1) bx 131071 in
    e ∙ difference (p + 1 + bx) 131071 (not_below v ws p valid (p + 1 + bx) 131071 (subst (Reached v ws p valid) e a))
