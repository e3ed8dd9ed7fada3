-- Scripts in cyclic order: a queue whose first goes to the end, or leaves, stays in that order, and nobody in it
-- stands between two neighbours.
-- Assumes nothing.
use mathlib.Core.Path.{◌≡◌}
use mathlib.Core.Logic.{◌⊎◌, inl, inr, ⊎_elim}
use mathlib.Core.List.{List, [], ◌∷◌, ◌++◌}
use Prim.Native.Nat.{ℕ, zero, suc, ◌≤◌, ◌<◌}
use native.Mathlib.Omega.{arith}
use Rattle.rehearsal.specs.declared.machine.Task.{Task}
use Rattle.rehearsal.specs.Machine.{task_at, tasks_from}
use Rattle.rehearsal.specs.Schedule.{BetweenInTurn}

-- script j is in the queue
abbrev pub Has : ℕ → List Task → Type 0
Has j [] = ⊥
Has j (t ∷ ts) = (t.script ≡ j) ⊎ Has j ts

pub has_append : (j : ℕ) (ts : List Task) (s : Task) → Has j ts → Has j (ts ++ (s ∷ []))
has_append j [] s h = absurd h
has_append j (t ∷ ts) s h = ⊎_elim (λ e. inl e) (λ g. inr (has_append j ts s g)) h

pub has_last : (j : ℕ) (ts : List Task) (s : Task) → s.script ≡ j → Has j (ts ++ (s ∷ []))
has_last j [] s e = inl e
has_last j (t ∷ ts) s e = inr (has_last j ts s e)

pub has_split : (j : ℕ) (ts : List Task) (s : Task) → Has j (ts ++ (s ∷ [])) → Has j ts ⊎ (s.script ≡ j)
has_split j [] s h = ⊎_elim (λ e. inr e) (λ g. absurd g) h
has_split j (t ∷ ts) s h =
    ⊎_elim (λ e. inl (inl e)) (λ g. ⊎_elim (λ x. inl (inr x)) (λ x. inr x) (has_split j ts s g)) h

-- after script last, once the scripts have gone round: they rise, below the first
abbrev Wrapped : ℕ → ℕ → List Task → Type 0
Wrapped first last [] = Unit {0}
Wrapped first last (t ∷ ts) = (last < t.script) × (t.script < first) × Wrapped first t.script ts

-- after script last: they rise, or go round
abbrev Ring : ℕ → ℕ → List Task → Type 0
Ring first last [] = Unit {0}
Ring first last (t ∷ ts) =
    ((last < t.script) × Ring first t.script ts) ⊎ ((t.script < first) × Wrapped first t.script ts)

abbrev pub Order : List Task → Type 0
Order [] = Unit {0}
Order (t ∷ ts) = Ring t.script t.script ts

wrapped_range : (first last j : ℕ) (ts : List Task) → Wrapped first last ts → Has j ts → (last < j) × (j < first)
wrapped_range first last j [] w h = absurd h
wrapped_range first last j (t ∷ ts) w h =
    ⊎_elim
    (λ e. (omega (arith, w.0), omega (arith, w.1)))
    (λ g. let r = wrapped_range first t.script j ts w.2 g in (omega (arith, w.0), r.1))
    h

ring_range : (first last j : ℕ) (ts : List Task) → Ring first last ts → Has j ts → (last < j) ⊎ (j < first)
ring_range first last j [] r h = absurd h
ring_range first last j (t ∷ ts) r h =
    ⊎_elim
    (λ x. ⊎_elim
    (λ e. inl (omega (arith, x.0)))
    (λ g. ⊎_elim (λ l. inl (omega (arith, x.0))) (λ l. inr l) (ring_range first t.script j ts x.1 g))
    h)
    (λ x. ⊎_elim (λ e. inr (omega (arith, x.0))) (λ g. inr (wrapped_range first t.script j ts x.1 g).1) h)
    r

-- what has gone round rises from its own first
rise : (a b last : ℕ) (ts : List Task) → Wrapped a last ts → Ring b last ts
rise a b last [] w = tt
rise a b last (t ∷ ts) w = inl (w.0, rise a b t.script ts w.2)

rise_end : (a b last to : ℕ) (ts : List Task) → Wrapped a last ts → last < a → Ring b last (ts ++ (task_at a to ∷ []))
rise_end a b last to [] w h = inl (h, tt)
rise_end a b last to (t ∷ ts) w h = inl (w.0, rise_end a b t.script to ts w.2 w.1)

-- a first that is higher
widen_wrapped : (a b last : ℕ) (ts : List Task) → a ≤ b → Wrapped a last ts → Wrapped b last ts
widen_wrapped a b last [] h w = tt
widen_wrapped a b last (t ∷ ts) h w = (w.0, omega (arith, w.1), widen_wrapped a b t.script ts h w.2)

widen : (a b last : ℕ) (ts : List Task) → a ≤ b → Ring a last ts → Ring b last ts
widen a b last [] h r = tt
widen a b last (t ∷ ts) h r =
    ⊎_elim
    (λ x. inl (x.0, widen a b t.script ts h x.1))
    (λ x. inr (omega (arith, x.0), widen_wrapped a b t.script ts h x.1))
    r

wrapped_end : (a b last to : ℕ) (ts : List Task) → a < b → last < a → Wrapped a last ts
    → Wrapped b last (ts ++ (task_at a to ∷ []))
wrapped_end a b last to [] h l w = (l, h, tt)
wrapped_end a b last to (t ∷ ts) h l w = (w.0, omega (arith, w.1), wrapped_end a b t.script to ts h w.1 w.2)

widen_end : (a b last to : ℕ) (ts : List Task) → a < b → Ring a last ts → Ring b last (ts ++ (task_at a to ∷ []))
widen_end a b last to [] h r = inr (h, tt)
widen_end a b last to (t ∷ ts) h r =
    ⊎_elim
    (λ x. inl (x.0, widen_end a b t.script to ts h x.1))
    (λ x. inr (omega (arith, x.0), wrapped_end a b t.script to ts h x.0 x.1))
    r

-- the first leaves
pub order_leaves : (t : Task) (ts : List Task) → Order (t ∷ ts) → Order ts
order_leaves t [] o = tt
order_leaves t (u ∷ us) o =
    ⊎_elim
    (λ x. widen t.script u.script u.script us (omega (arith, x.0)) x.1)
    (λ x. rise t.script u.script u.script us x.1)
    o

-- the first goes to the end
pub order_rotates : (t : Task) (to : ℕ) (ts : List Task) → Order (t ∷ ts) → Order (ts ++ (task_at t.script to ∷ []))
order_rotates t to [] o = tt
order_rotates t to (u ∷ us) o =
    ⊎_elim
    (λ x. widen_end t.script u.script u.script to us x.0 x.1)
    (λ x. rise_end t.script u.script u.script to us x.1 x.0)
    o

-- no other in the queue is the first's script
pub first_once : (t : Task) (ts : List Task) (j : ℕ) → Order (t ∷ ts) → Has j ts → t.script ≡ j → ⊥
first_once t ts j o h e = ⊎_elim (λ l. omega arith) (λ l. omega arith) (ring_range t.script t.script j ts o h)

not_rising : (a b j : ℕ) → a < b → BetweenInTurn a j b → (b ≤ j) ⊎ (j ≤ a) → ⊥
not_rising a b j h m n =
    ⊎_elim
    (λ x. ⊎_elim (λ l. omega (arith, x.0, x.1)) (λ l. omega (arith, x.0, x.1)) n)
    (λ x. omega (arith, x.0))
    m

not_wrapped : (a b j : ℕ) → b ≤ a → BetweenInTurn a j b → b ≤ j → j ≤ a → ⊥
not_wrapped a b j h m l u =
    ⊎_elim (λ x. omega (arith, x.0, x.1)) (λ x. ⊎_elim (λ y. omega arith) (λ y. omega arith) x.1) m

-- nobody stands between the first and the second, the first itself neither
pub passed : (t u : Task) (us : List Task) (j : ℕ) → Order (t ∷ u ∷ us) → BetweenInTurn t.script j u.script
    → Has j (u ∷ us) ⊎ (t.script ≡ j) → ⊥
passed t u us j o m h =
    ⊎_elim
    (λ x. not_rising t.script u.script j x.0 m (rising x h))
    (λ x. not_wrapped t.script u.script j (omega (arith, x.0)) m (wrapped x h).0 (wrapped x h).1)
    o where
      rising : (t.script < u.script) × Ring t.script u.script us → Has j (u ∷ us) ⊎ (t.script ≡ j)
          → (u.script ≤ j) ⊎ (j ≤ t.script)
      rising x h =
          ⊎_elim
          (λ g. ⊎_elim
          (λ e. inl (omega arith))
          (λ i. ⊎_elim (λ l. inl (omega arith)) (λ l. inr (omega arith))
          (ring_range t.script u.script j us x.1 i))
          g)
          (λ e. inr (omega arith))
          h

      wrapped : (u.script < t.script) × Wrapped t.script u.script us → Has j (u ∷ us) ⊎ (t.script ≡ j)
          → (u.script ≤ j) × (j ≤ t.script)
      wrapped x h =
          ⊎_elim
          (λ g. ⊎_elim
          (λ e. (omega arith, omega (arith, x.0)))
          (λ i. let r = wrapped_range t.script u.script j us x.1 i in
          (omega (arith, r.0), omega (arith, r.1)))
          g)
          (λ e. (omega (arith, x.0), omega arith))
          h

pub alone : (a j : ℕ) → BetweenInTurn a j a → a ≡ j → ⊥
alone a j m e = not_wrapped a a j (omega arith) m (omega arith) (omega arith)

ring_start : (first i n : ℕ) → Ring first i (tasks_from (suc i) n)
ring_start first i zero = tt
ring_start first i (suc n) = inl (omega arith, ring_start first (suc i) n)

-- scripts from i on
pub order_start : (i n : ℕ) → Order (tasks_from i n)
order_start i zero = tt
order_start i (suc n) = ring_start i i n
