-- The machine's trace is what the request says of it.
-- Assumes nothing.
use mathlib.Core.Path.{◌≡◌, refl, sym, subst, ap, ◌∙◌}
use mathlib.Core.Logic.{◌⊎◌, inl, inr, ⊎_elim}
use mathlib.Core.Bool.{Bool, true, false, cond, ◌||◌, true≢false}
use mathlib.Core.List.{List, [], ◌∷◌, ◌++◌}
use Prim.Native.Nat.{ℕ, zero, suc, ◌+◌, ◌≤◌, ◌<◌}
use native.Mathlib.Omega.{arith}
use borrow.Author.Tests.{ltb-true, ltb-false, eqb-true, eqb-false}
use lib.Dec.{ltb, eqb}
use lib.ListN.{length, get_or}
use Rattle.graph.specs.Graph.{Graph}
use Rattle.rehearsal.specs.declared.machine.Task.{Task}
use Rattle.rehearsal.specs.declared.machine.Move.{Move}
use Rattle.rehearsal.specs.declared.machine.Move.TheVariants.{Return, Starve, Go}
use Rattle.rehearsal.specs.Machine.{Event, State, Step, halt, ran, task_at, move_of, moved, step_from, followed, trace, tasks_from, start_of}
use Rattle.rehearsal.specs.Schedule as S
use Rattle.rehearsal.specs.Schedule.{needed}
use Rattle.rehearsal.proofs.Ring.{Has, has_append, has_last, Order, order_leaves, order_rotates, first_once, passed, alone, order_start}

module _ (graphs : ℕ → Graph) (k q : ℕ) (choices : List ℕ) (limit : ℕ) where
  abbrev steps_of : Event → List ℕ
  steps_of = S.event_steps graphs k q choices limit

  abbrev used_up : List Event → ℕ
  used_up = S.used_up graphs k q choices limit

  abbrev Returned : ℕ → List Event → Type 0
  Returned = S.Returned graphs k q choices limit

  abbrev LeadsTo : List ℕ → ℕ → ℕ → Type 0
  LeadsTo = S.EventLeadsTo graphs k q choices limit

  abbrev At : List Event → ℕ → ℕ → Type 0
  At = S.At graphs k q choices limit

  abbrev TurnEnds : List Event → Event → Type 0
  TurnEnds = S.TurnEnds graphs k q choices limit

  abbrev Next : List Event → ℕ → ℕ → Type 0
  Next = S.NextEvent graphs k q choices limit

  abbrev Due : List Event → Event → Type 0
  Due = S.Due graphs k q choices limit

  abbrev Ran : List Event → Event → Type 0
  Ran = S.Ran graphs k q choices limit

  abbrev Stops : List Event → Type 0
  Stops = S.Stops graphs k q choices limit

  abbrev Scheduled : List Event → List Event → Type 0
  Scheduled = S.Scheduled graphs k q choices limit

  -- what a move says of the steps, where n choices are used up
  abbrev Says : List ℕ → ℕ → Move → Type 0
  Says ss n Return = ss ≡ []
  Says ss n Starve = (needed ss ≡ 1) × (length choices ≤ n)
  Says ss n (Go to at) = LeadsTo ss n to × ((at ≡ n + needed ss) × (n ≤ length choices → at ≤ length choices))

  says : (ss : List ℕ) (n : ℕ) → Says ss n (move_of choices n ss)
  says [] n = refl
  says (a ∷ []) n = (refl, (omega arith, (λ h. h)))
  says (a ∷ b ∷ more) n = go (ltb n (length choices)) refl where
    go : (x : Bool) → ltb n (length choices) ≡ x
        → Says (a ∷ b ∷ more) n (cond x (Go (cond (eqb (get_or choices n 0) 0) a b) (n + 1)) Starve)
    go true p = (refl, (refl, (λ h. omega (arith, ltb-true n (length choices) p))))
    go false p = (refl, ltb-false n (length choices) p)

  pub leads_once : (ss : List ℕ) (n x y : ℕ) → LeadsTo ss n x → LeadsTo ss n y → x ≡ y
  leads_once [] n x y a b = absurd a
  leads_once (s ∷ []) n x y a b = a ∙ sym b
  leads_once (s ∷ t ∷ more) n x y a b = a ∙ sym b

  leads_some : (ss : List ℕ) (n x : ℕ) → LeadsTo ss n x → ss ≡ [] → ⊥
  leads_some ss n x a e = subst (λ (l : List ℕ). LeadsTo l n x) e a

  -- each task of the queue is of a script that has not returned, at the word where it is
  abbrev Tasks : List Event → List Task → Type 0
  Tasks before [] = Unit {0}
  Tasks before (t ∷ ts) =
      ((t.script < k) × ((Returned t.script before → ⊥) × At before t.script t.word)) × Tasks before ts

  -- the queue's first is next
  abbrev FirstNext : List Event → ℕ → List Task → Type 0
  FirstNext before used [] = Unit {0}
  FirstNext before used (t ∷ ts) = Next before t.script used

  -- what holds between two steps
  record Ready (before : List Event) (left : ℕ) (queue : List Task) (used taken : ℕ) : Type 0 where
    counts : taken ≡ used_up before
    chosen : used_up before ≤ length choices
    words : length before + left ≡ limit
    tasks : Tasks before queue
    all : (j : ℕ) → j < k → Has j queue ⊎ Returned j before
    order : Order queue
    next : FirstNext before used queue

  abbrev Goes : List Event → ℕ → Step → Type 0
  Goes before left halt = Stops before
  Goes before left (ran e s) = Ran before e × Ready (e ∷ before) left s.queue s.used s.taken

  tasks_append : (before : List Event) (ts : List Task) (s : Task) → Tasks before ts
      → (s.script < k) × ((Returned s.script before → ⊥) × At before s.script s.word)
      → Tasks before (ts ++ (s ∷ []))
  tasks_append before [] s a h = (h, tt)
  tasks_append before (t ∷ ts) s a h = (a.0, tasks_append before ts s a.1 h)

  module _ (before : List Event) (left used taken : ℕ) (t : Task) (ts : List Task)
      (r : Ready before (suc left) (t ∷ ts) used taken) where
    abbrev event : Event
    event = record { script = t.script; word = t.word; nth = used }

    abbrev steps : List ℕ
    steps = (graphs t.script).successors t.word

    -- the others are where they were
    tasks_on : (us : List Task) → ((j : ℕ) → Has j us → t.script ≡ j → ⊥) → Tasks before us → Tasks (event ∷ before) us
    tasks_on [] n a = tt
    tasks_on (u ∷ us) n a = (
      (
        a.0.0,
        (
          (λ h. ⊎_elim (λ x. n u.script (inl refl) x.0) (λ x. a.0.1.0 x) h),
          inr ((λ e. n u.script (inl refl) e), a.0.1.1),
        ),
      ),
      tasks_on us (λ j h. n j (inr h)) a.1,
    )

    others_on : Tasks (event ∷ before) ts
    others_on = tasks_on ts (λ j h. first_once t ts j r.order h) r.tasks.1

    due : Due before event
    due = record { known = r.tasks.0.0; unfinished = r.tasks.0.1.0; next = r.next; at = r.tasks.0.1.1 }

    words_on : length (event ∷ before) + left ≡ limit
    words_on = omega (arith, r.words)

    ran_now : used_up (event ∷ before) ≤ length choices → Ran before event
    ran_now h = record { due = due; chosen = h; allowed = omega (arith, r.words) }

    -- the script returns
    returns : steps ≡ [] → Goes before left (moved graphs q choices t ts used taken Return)
    returns e = (
      ran_now few,
      record {
        counts = omega (arith, r.counts, none);
        chosen = few;
        words = words_on;
        tasks = others_on;
        all = all;
        order = order_leaves t ts r.order;
        next = next ts refl;
      },
    ) where
      none : needed steps ≡ 0
      none = ap needed e

      few : used_up (event ∷ before) ≤ length choices
      few = omega (arith, r.chosen, none)

      all : (j : ℕ) → j < k → Has j ts ⊎ Returned j (event ∷ before)
      all j l =
          ⊎_elim (λ h. ⊎_elim (λ x. inr (inl (x, e))) (λ x. inl x) h) (λ h. inr (inr h)) (r.all j l)

      next : (us : List Task) → ts ≡ us → FirstNext (event ∷ before) 0 us
      next [] p = tt
      next (u ∷ us) p =
          inr (record {
            over = inr (inr e);
            starts = refl;
            rotates = λ j l m. ⊎_elim
                (λ h. absurd (passed t u us j (subst (λ (l : List Task). Order (t ∷ l)) p r.order) m
                (inl (subst (Has j) p h))))
                (λ h. h)
                (all j l);
          })

    -- it goes on to a word
    module _ (to at : ℕ) (leads : LeadsTo steps taken to) (counts : at ≡ taken + needed steps)
        (few : taken ≤ length choices → at ≤ length choices) where
      leads_now : LeadsTo steps (used_up before) to
      leads_now = subst (λ (n : ℕ). LeadsTo steps n to) r.counts leads

      counts_now : at ≡ used_up (event ∷ before)
      counts_now = omega (arith, r.counts, counts)

      chosen_now : used_up (event ∷ before) ≤ length choices
      chosen_now = let h = few (omega (arith, r.counts, r.chosen)) in omega (arith, counts_now)

      own : (t.script < k) × ((Returned t.script (event ∷ before) → ⊥) × At (event ∷ before) t.script to)
      own = (
        r.tasks.0.0,
        (
          (λ h. ⊎_elim (λ x. leads_some steps taken to leads x.1) (λ x. r.tasks.0.1.0 x) h),
          inl (refl, leads_now),
        ),
      )

      all_on : (j : ℕ) → j < k → (t.script ≡ j) ⊎ (Has j ts ⊎ Returned j (event ∷ before))
      all_on j l = ⊎_elim (λ h. ⊎_elim (λ x. inl x) (λ x. inr (inl x)) h) (λ h. inr (inr (inr h))) (r.all j l)

      -- the turn is over
      over : TurnEnds before event → Goes before left
          (ran event (record { queue = ts ++ (task_at t.script to ∷ []); used = 0; taken = at }))
      over ends = (
        ran_now chosen_now,
        record {
          counts = counts_now;
          chosen = chosen_now;
          words = words_on;
          tasks = tasks_append (event ∷ before) ts (task_at t.script to) others_on own;
          all = all;
          order = order_rotates t to ts r.order;
          next = next ts refl;
        },
      ) where
        all : (j : ℕ) → j < k → Has j (ts ++ (task_at t.script to ∷ [])) ⊎ Returned j (event ∷ before)
        all j l =
            ⊎_elim
            (λ e. inl (has_last j ts (task_at t.script to) e))
            (λ h. ⊎_elim (λ x. inl (has_append j ts (task_at t.script to) x)) (λ x. inr x) h)
            (all_on j l)

        next : (us : List Task) → ts ≡ us → FirstNext (event ∷ before) 0 (us ++ (task_at t.script to ∷ []))
        next [] p =
            inr (record {
              over = ends;
              starts = refl;
              rotates = λ j l m. ⊎_elim
                  (λ e. absurd (alone t.script j m e))
                  (λ h. ⊎_elim (λ x. absurd (subst (Has j) p x)) (λ x. x) h)
                  (all_on j l);
            })
        next (u ∷ us) p =
            inr (record {
              over = ends;
              starts = refl;
              rotates = λ j l m. ⊎_elim
                  (λ e. absurd (passed t u us j (subst (λ (l : List Task). Order (t ∷ l)) p r.order) m (inr e)))
                  (λ h. ⊎_elim
                  (λ x. absurd (passed t u us j (subst (λ (l : List Task). Order (t ∷ l)) p r.order) m
                  (inl (subst (Has j) p x))))
                  (λ x. x)
                  h)
                  (all_on j l);
            })

      -- the turn goes on
      goes-on : (graphs t.script).serves t.word to ≡ false → (used + 1 ≡ q → ⊥)
          → Goes before left (ran event (record { queue = task_at t.script to ∷ ts; used = used + 1; taken = at }))
      goes-on unserved short = (
        ran_now chosen_now,
        record {
          counts = counts_now;
          chosen = chosen_now;
          words = words_on;
          tasks = (own, others_on);
          all = λ j l. ⊎_elim (λ e. inl (inl e)) (λ h. ⊎_elim (λ x. inl (inr x)) (λ x. inr x) h) (all_on j l);
          order = r.order;
          next = inl (record { lasts = lasts; same = refl; count = refl });
        },
      ) where
        lasts : TurnEnds before event → ⊥
        lasts h =
            ⊎_elim
            (λ e. short e)
            (λ g. ⊎_elim
            (λ v. true≢false
            (sym v.serves
            ∙ ap (λ (x : ℕ). (graphs t.script).serves t.word x)
            (leads_once steps (used_up before) v.to to v.leads leads_now)
            ∙ unserved))
            (λ e. leads_some steps taken to leads e)
            g)
            h

      goes : (x y : Bool) → (graphs t.script).serves t.word to ≡ x → eqb (used + 1) q ≡ y
          → Goes before left (ran event (cond (x || y)
          (record { queue = ts ++ (task_at t.script to ∷ []); used = 0; taken = at })
          (record { queue = task_at t.script to ∷ ts; used = used + 1; taken = at })))
      goes true y a b = over (inr (inl (record { to = to; leads = leads_now; serves = a })))
      goes false true a b = over (inl (eqb-true (used + 1) q b))
      goes false false a b = goes-on a (eqb-false (used + 1) q b)

    step : (m : Move) → Says steps taken m → Goes before left (moved graphs q choices t ts used taken m)
    step Return s = returns s
    step Starve s =
        inr (inl (record { event = event; due = due; needs = s.0; none = omega (arith, r.counts, r.chosen, s.1) }))
    step (Go to at) s =
        goes to at s.0 s.1.0 s.1.1 ((graphs t.script).serves t.word to) (eqb (used + 1) q) refl refl

  steps_on : (before : List Event) (left : ℕ) (queue : List Task) (used taken : ℕ)
      → Ready before (suc left) queue used taken
      → Goes before left (step_from graphs q choices queue used taken)
  steps_on before left [] used taken r = inl (λ j l. ⊎_elim (λ h. absurd h) (λ h. h) (r.all j l))
  steps_on before left (t ∷ ts) used taken r =
      step before left used taken t ts r (move_of choices taken ((graphs t.script).successors t.word))
      (says ((graphs t.script).successors t.word) taken)

  from_ready : (left : ℕ) (before : List Event) (s : State) → Ready before left s.queue s.used s.taken
      → Scheduled before (trace graphs q choices left s)
  unfolding trace
  from_ready zero before s r = inr (inr (omega (arith, r.words)))
  from_ready (suc left) before s r =
      go (step_from graphs q choices s.queue s.used s.taken)
      (steps_on before left s.queue s.used s.taken r)
      (from_ready left) where
        go : (st : Step) → Goes before left st
            → ((b : List Event) (u : State) → Ready b left u.queue u.used u.taken
            → Scheduled b (trace graphs q choices left u))
            → Scheduled before (followed graphs q choices st (trace graphs q choices left))
        go halt g more = g
        go (ran e u) g more = (g.0, more (e ∷ before) u g.1)

  tasks_start : (i n : ℕ) → i + n ≤ k → Tasks [] (tasks_from i n)
  tasks_start i zero h = tt
  tasks_start i (suc n) h = ((omega arith, ((λ x. x), refl)), tasks_start (suc i) n (omega arith))

  all_start : (i n j : ℕ) → i ≤ j → j < i + n → Has j (tasks_from i n)
  all_start i zero j l h = absurd (omega arith)
  all_start i (suc n) j l h = go (eqb i j) refl (λ d. all_start (suc i) n j (omega arith) (omega arith)) where
    go : (x : Bool) → eqb i j ≡ x → ((i ≡ j → ⊥) → Has j (tasks_from (suc i) n)) → (i ≡ j) ⊎ Has j (tasks_from (suc i) n)
    go true e more = inl (eqb-true i j e)
    go false e more = inr (more (eqb-false i j e))

  pub scheduled : Scheduled [] (trace graphs q choices limit (start_of k))
  scheduled =
      from_ready limit [] (start_of k)
      (record {
        counts = refl;
        chosen = omega arith;
        words = omega arith;
        tasks = tasks_start 0 k (omega arith);
        all = λ j l. inl (all_start 0 k j (omega arith) (omega arith));
        order = order_start 0 k;
        next = next_start k;
      }) where
        next_start : (n : ℕ) → FirstNext [] 0 (tasks_from 0 n)
        next_start zero = tt
        next_start (suc n) = (refl, refl)
