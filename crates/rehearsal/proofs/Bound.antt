-- The bound of C-21. Each script that waits is as many turns from its own as it stands behind the first of the queue,
-- and each of those turns has at most q words.
-- Assumes nothing.
use mathlib.Core.Path.{◌≡◌, refl, ap}
use mathlib.Core.Bool.{Bool, true, false, cond, ◌||◌}
use mathlib.Core.List.{List, [], ◌∷◌, ◌++◌}
use Prim.Native.Nat.{ℕ, zero, suc, ◌+◌, ◌*◌, ◌-◌, ◌≤◌, ◌<◌}
use native.Mathlib.Omega.{arith}
use native.Mathlib.Nat.{suc-mul, max-le}
use borrow.Author.Tests.{eqb-true, eqb-false}
use lib.Dec.{eqb}
use lib.ListN.{length, length-append}
use Rattle.graph.specs.Graph.{Graph}
use Rattle.rehearsal.specs.declared.machine.Task.{Task}
use Rattle.rehearsal.specs.declared.machine.Move.{Move}
use Rattle.rehearsal.specs.declared.machine.Move.TheVariants.{Return, Starve, Go}
use Rattle.rehearsal.specs.Machine.{Event, State, Step, halt, ran, task_at, move_of, moved, step_from, followed, trace, tasks_from, start_of}
use Rattle.rehearsal.specs.Waits.{waits_since, waits_of, longest_of_waits, longest_wait}
use Rattle.rehearsal.specs.Bound.{AllAtMost, WaitsBounded}

-- script i, after n words of others, waits at most b in all if each task before its own takes q
abbrev Fits : ℕ → ℕ → ℕ → ℕ → List Task → Type 0
Fits q b i n [] = Unit {0}
Fits q b i n (s ∷ ss) = ((s.script ≡ i → n ≤ b) × Fits q b i (n + q) ss)

fits_less : (q b i n m : ℕ) (ss : List Task) → m ≤ n → Fits q b i n ss → Fits q b i m ss
fits_less q b i n m [] h f = tt
fits_less q b i n m (s ∷ ss) h f =
    ((λ e. let x = f.0 e in omega arith), fits_less q b i (n + q) (m + q) ss (omega arith) f.1)

-- another script goes to the end
fits_other : (q b i n : ℕ) (ss : List Task) (s : Task) → (s.script ≡ i → ⊥) → Fits q b i n ss
    → Fits q b i n (ss ++ (s ∷ []))
fits_other q b i n [] s h f = ((λ e. absurd (h e)), tt)
fits_other q b i n (x ∷ ss) s h f = (f.0, fits_other q b i (n + q) ss s h f.1)

-- few enough tasks
fits_few : (q b i n k : ℕ) (ss : List Task) → length ss ≤ k → n + k * q ≤ b + q → Fits q b i n ss
fits_few q b i n k [] h g = tt
fits_few q b i n zero (s ∷ ss) h g = absurd (omega arith)
fits_few q b i n (suc k) (s ∷ ss) h g =
    let e = suc-mul k q in
    ((λ e. omega arith), fits_few q b i (n + q) k ss (omega arith) (omega arith))

all_times : (k q : ℕ) → k * q ≤ (k - 1) * q + q
all_times zero q = omega arith
all_times (suc k) q = let e : suc k - 1 ≡ k = omega arith in rw e (omega (arith, suc-mul k q))

-- one event more
one_event : (b i n : ℕ) (e : Event) (es : List Event) → (e.script ≡ i → e.nth ≡ 0 → n ≤ b)
    → (e.script ≡ i → AllAtMost b (waits_since i 0 es))
    → ((e.script ≡ i → ⊥) → AllAtMost b (waits_since i (n + 1) es)) → AllAtMost b (waits_since i n (e ∷ es))
one_event b i n e es h same other = go (eqb e.script i) refl (eqb e.nth 0) refl where
  go : (x : Bool) → eqb e.script i ≡ x → (y : Bool) → eqb e.nth 0 ≡ y
      → AllAtMost b (cond x (cond y (n ∷ waits_since i 0 es) (waits_since i 0 es)) (waits_since i (n + 1) es))
  go false p y r = other (eqb-false _ _ p)
  go true p true r = (h (eqb-true _ _ p) (eqb-true _ _ r), same (eqb-true _ _ p))
  go true p false r = same (eqb-true _ _ p)

module _ (graphs : ℕ → Graph) (q k : ℕ) (choices : List ℕ) (i : ℕ) (some : 0 < q) where
  abbrev most : ℕ
  most = (k - 1) * q

  -- script i has waited n words so far, used of them in the turn of the queue's first
  abbrev Waiting : ℕ → ℕ → List Task → Type 0
  Waiting n used [] = Unit {0}
  Waiting n used (s ∷ rest) = (length rest < k) × (used < q) × (s.script ≡ i → used ≡ 0 → n ≤ most)
      × Fits q most i (n + (q - used)) rest

  -- a turn starts
  starts : (n : ℕ) (queue : List Task) → length queue ≤ k → Fits q most i n queue → Waiting n 0 queue
  starts n [] h f = tt
  starts n (s ∷ rest) h f = (
    omega arith,
    some,
    (λ e z. f.0 e),
    fits_less q most i (n + q) (n + (q - 0)) rest (omega arith) f.1,
  )

  -- the first's word has run and script i has now waited n words
  abbrev Ran : ℕ → ℕ → Task → List Task → Type 0
  Ran n used s rest = (length rest < k) × (used < q) × Fits q most i n rest
      × ((to : ℕ) → Fits q most i n (rest ++ (task_at s.script to ∷ []))) × Fits q most i (n + (q - (used + 1))) rest

  ran_other : (n used : ℕ) (s : Task) (rest : List Task) → (s.script ≡ i → ⊥) → Waiting n used (s ∷ rest)
      → Ran (n + 1) used s rest
  ran_other n used s rest h w =
      let f : Fits q most i (n + 1) rest = fits_less q most i (n + (q - used)) (n + 1) rest (omega arith) w.3 in (
        w.0,
        w.1,
        f,
        (λ to. fits_other q most i (n + 1) rest (task_at s.script to) h f),
        fits_less q most i (n + (q - used)) (n + 1 + (q - (used + 1))) rest (omega arith) w.3,
      )

  ran_self : (n used : ℕ) (s : Task) (rest : List Task) → Waiting n used (s ∷ rest) → Ran 0 used s rest
  ran_self n used s rest w =
      let t = all_times k q in (
        w.0,
        w.1,
        fits_few q most i 0 k rest (omega arith) (omega arith),
        (λ to. fits_few q most i 0 k (rest ++ (task_at s.script to ∷ [])) (simp length-append (omega arith))
            (omega arith)),
        fits_few q most i (0 + (q - (used + 1))) (k - 1) rest (omega arith) (omega arith),
      )

  -- the three ways in which the state goes on
  leaves : (n used : ℕ) (s : Task) (rest : List Task) → Ran n used s rest → Waiting n 0 rest
  leaves n used s rest r = starts n rest (omega arith) r.2

  rotates : (n used to : ℕ) (s : Task) (rest : List Task) → Ran n used s rest
      → Waiting n 0 (rest ++ (task_at s.script to ∷ []))
  rotates n used to s rest r = starts n (rest ++ (task_at s.script to ∷ [])) (simp length-append (omega arith))
      (r.3 to)

  stays : (n used to : ℕ) (s : Task) (rest : List Task) → (used + 1 ≡ q → ⊥) → Ran n used s rest
      → Waiting n (used + 1) (task_at s.script to ∷ rest)
  stays n used to s rest h r = (r.0, omega arith, (λ e z. absurd (omega arith)), r.4)

  -- what a step adds to the wait of script i
  abbrev Steps : ℕ → Step → Type 0
  Steps n halt = Unit {0}
  Steps n (ran e t) = (e.script ≡ i → e.nth ≡ 0 → n ≤ most) × (e.script ≡ i → Waiting 0 t.used t.queue)
      × ((e.script ≡ i → ⊥) → Waiting (n + 1) t.used t.queue)

  stepped : (n used taken : ℕ) (s : Task) (rest : List Task) (m : Move) → Waiting n used (s ∷ rest)
      → Steps n (moved graphs q choices s rest used taken m)
  stepped n used taken s rest Return w = (
    w.2,
    (λ e. leaves 0 used s rest (ran_self n used s rest w)),
    (λ h. leaves (n + 1) used s rest (ran_other n used s rest h w)),
  )
  stepped n used taken s rest Starve w = tt
  stepped n used taken s rest (Go to at) w = go ((graphs s.script).serves s.word to) (eqb (used + 1) q) refl where
    go : (x y : Bool) → eqb (used + 1) q ≡ y
        → Steps n
        (ran (record { script = s.script; word = s.word; nth = used })
        (cond (x || y) (record { queue = rest ++ (task_at s.script to ∷ []); used = 0; taken = at })
        (record { queue = task_at s.script to ∷ rest; used = used + 1; taken = at })))
    go true y p = (
      w.2,
      (λ e. rotates 0 used to s rest (ran_self n used s rest w)),
      (λ h. rotates (n + 1) used to s rest (ran_other n used s rest h w)),
    )
    go false true p = (
      w.2,
      (λ e. rotates 0 used to s rest (ran_self n used s rest w)),
      (λ h. rotates (n + 1) used to s rest (ran_other n used s rest h w)),
    )
    go false false p = (
      w.2,
      (λ e. stays 0 used to s rest (eqb-false _ _ p) (ran_self n used s rest w)),
      (λ h. stays (n + 1) used to s rest (eqb-false _ _ p) (ran_other n used s rest h w)),
    )

  steps : (n used taken : ℕ) (queue : List Task) → Waiting n used queue
      → Steps n (step_from graphs q choices queue used taken)
  steps n used taken [] w = tt
  steps n used taken (s ∷ rest) w = stepped n used taken s rest
      (move_of choices taken ((graphs s.script).successors s.word)) w

  waits : (left n : ℕ) (t : State) → Waiting n t.used t.queue
      → AllAtMost most (waits_since i n (trace graphs q choices left t))
  unfolding trace
  waits zero n t w = tt
  waits (suc left) n t w = go (step_from graphs q choices t.queue t.used t.taken)
      (steps n t.used t.taken t.queue w) (waits left) where
        go : (st : Step) → Steps n st →
            ((m : ℕ) (u : State) → Waiting m u.used u.queue
            → AllAtMost most (waits_since i m (trace graphs q choices left u)))
            → AllAtMost most (waits_since i n (followed graphs q choices st (trace graphs q choices left)))
        go halt a more = tt
        go (ran e u) a more = one_event most i n e (trace graphs q choices left u) a.0 (λ same. more 0 u (a.1 same))
            (λ other. more (n + 1) u (a.2 other))

-- the waits from the first turn on are among those from the start on
from_first : (b i n : ℕ) (es : List Event) → AllAtMost b (waits_since i n es) → AllAtMost b (waits_of i es)
from_first b i n [] a = tt
from_first b i n (e ∷ es) a = go (eqb e.script i) (eqb e.nth 0) a (from_first b i (n + 1) es) where
  go : (x y : Bool) → AllAtMost b
      (cond x (cond y (n ∷ waits_since i 0 es) (waits_since i 0 es)) (waits_since i (n + 1) es))
      → (AllAtMost b (waits_since i (n + 1) es) → AllAtMost b (waits_of i es))
      → AllAtMost b (cond x (waits_since i 0 es) (waits_of i es))
  go true true a more = a.1
  go true false a more = a
  go false y a more = more a

longest_most : (b : ℕ) (ws : List ℕ) → AllAtMost b ws → longest_of_waits ws ≤ b
longest_most b [] a = omega arith
longest_most b (w ∷ ws) a = max-le a.0 (longest_most b ws a.1)

length_tasks : (i k : ℕ) → length (tasks_from i k) ≡ k
length_tasks i zero = refl
length_tasks i (suc k) = ap suc (length_tasks (suc i) k)

pub bounded : (graphs : ℕ → Graph) (k q : ℕ) (choices : List ℕ) (limit : ℕ) → 0 < q → WaitsBounded graphs k q choices limit
unfolding longest_wait
bounded graphs k q choices limit some =
    let ran = trace graphs q choices limit (start_of k) in
    let few = length_tasks 0 k in
    let fit : (i : ℕ) → Fits q ((k - 1) * q) i 0 (tasks_from 0 k) =
    λ i. fits_few q ((k - 1) * q) i 0 k (tasks_from 0 k) (omega arith) (omega (arith, all_times k q)) in
    let every : (i : ℕ) → AllAtMost ((k - 1) * q) (waits_of i ran) =
    λ i. from_first ((k - 1) * q) i 0 ran
    (waits graphs q k choices i some limit 0 (start_of k)
    (starts graphs q k choices i some 0 (tasks_from 0 k) (omega arith) (fit i))) in
    record { every = every; longest = λ i. longest_most ((k - 1) * q) (waits_of i ran) (every i) }
