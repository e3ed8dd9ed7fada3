-- The stages that the code goes through: whatever is kept, the longest waits come out as the trace has them.
-- Assumes nothing.
use mathlib.Core.Path.{◌≡◌, refl, sym, ap, ◌∙◌}
use mathlib.Core.Logic.{◌⊎◌, inl, inr}
use mathlib.Core.Bool.{Bool, true, false, cond}
use mathlib.Core.List.{List, [], ◌∷◌, ◌++◌}
use Prim.Native.Nat.{ℕ, zero, suc, ◌+◌, ◌-◌, ◌≤◌, ◌<◌, max, min}
use native.Mathlib.Omega.{arith}
use borrow.Author.Tests.{ltb-true, ltb-false, eqb-true, eqb-false, ne_eqb}
use lib.Dec.{ltb, eqb}
use Rattle.std.specs.Prelude.{Option, Some, None, ◌≢◌, length, get_or, set, replicate}
use Rattle.std.specs.Borrow.{Bor}
use Rattle.std.proofs.Common.{get_or-set_same, get_or-set_other, length-set, length-append}
use Rattle.graph.specs.Graph.{Graph}
use Rattle.rehearsal.specs.declared.machine.Task.{Task}
use Rattle.rehearsal.specs.declared.machine.Move.{Move}
use Rattle.rehearsal.specs.declared.machine.Move.TheVariants.{Return, Starve, Go}
use Rattle.rehearsal.specs.declared.machine.Turn.{Turn}
use Rattle.rehearsal.specs.declared.machine.Turn.TheVariants.{Over, Returned, Starved}
use Rattle.rehearsal.specs.declared.machine.Tally.{Tally}
use Rattle.rehearsal.specs.declared.machine.Stage.{Stage}
use Rattle.rehearsal.specs.Machine.{Event, State, task_at, move_of, trace, tasks_from, start_of}
use Rattle.rehearsal.specs.Waits.{waits_since, waits_of, longest_of_waits, longest_wait}
use Rattle.rehearsal.specs.Running.{turned, turn_of, ran_of, waited, NotBefore, tally_at, noted_tally, noted_tallies}
use Rattle.rehearsal.specs.Running.{left_for, staged, first_turn, stage_after, next_stage}
use Rattle.rehearsal.specs.Running.{new_tally, start_stage, TasksListed, Fine}
use Rattle.runs.specs.Script.{lua54, graph_of}
use Rattle.rehearsal.specs.Rehearse.{lent_at, graphs_in, waits_in}
use Rattle.rehearsal.proofs.Lent.{lent_same}
use Rattle.rehearsal.proofs.Tasks.{tasks_length}
use Rattle.rehearsal.proofs.Turns.{Count, or_none, more_since, counted, scan, ran_least, ran_most, trace_after, turn_scan, scan_none}

-- the words of others since a turn that ended with so many words left, now that `left` are
abbrev pub since_of : Option ℕ → ℕ → Option ℕ
since_of None left = None
since_of (Some ended) left = Some (ended - left)

-- the numbers that a tally stands for
abbrev pub count_of : Tally → ℕ → Count
count_of t left = record { since = since_of t.ended left; longest = t.longest }

-- the same of a script at a stage
abbrev count_at : Stage → ℕ → Count
count_at st i = count_of (tally_at st.tallies i) st.left

listed_end : (ss : List Task) (s : Task) → TasksListed ss → s.script < 4 → TasksListed (ss ++ (s ∷ []))
listed_end [] s a h = (h, tt)
listed_end (x ∷ ss) s a h = (a.0, listed_end ss s a.1 h)

waited_since : (ended : Option ℕ) (left : ℕ) → waited ended left ≡ or_none (since_of ended left)
waited_since None left = refl
waited_since (Some e) left = refl

-- a tally's numbers after n words of its own script, or of another
count_own : (t : Tally) (left n i who : ℕ) → eqb who i ≡ true → count_of (noted_tally t left n) (left - n)
    ≡ counted i who 0 n (count_of t left)
unfolding noted_tally counted
count_own t left zero i who p = let e : left - 0 ≡ left = omega arith in rw e
count_own t left (suc m) i who p =
    let e : (left - suc m) - (left - suc m) ≡ 0 = omega arith in
    rw (ne_eqb (suc m) 0 (λ z. omega arith), p, e, waited_since t.ended left)

since_other : (ended : Option ℕ) (left k : ℕ) → suc k ≤ left → NotBefore left ended
    → since_of ended (left - suc k) ≡ more_since (suc k) (since_of ended left)
since_other None left k f m = refl
since_other (Some e) left k f m = let a : e - (left - suc k) ≡ e - left + suc k = omega arith in rw a

count_other : (t : Tally) (left n i who : ℕ) → eqb who i ≡ false → n ≤ left → NotBefore left t.ended
    → count_of t (left - n) ≡ counted i who 0 n (count_of t left)
unfolding counted
count_other t left zero i who p f m = let e : left - 0 ≡ left = omega arith in rw e
count_other t left (suc k) i who p f m = rw (p, since_other t.ended left k f m)

-- the time goes on
not_before : (left next : ℕ) (ended : Option ℕ) → next ≤ left → NotBefore left ended → NotBefore next ended
not_before left next None l h = tt
not_before left next (Some e) l h = omega arith

module _ (b : List Tally) (four : length b ≡ 4) (who left n i : ℕ) (w : who < 4) (h : i < 4) (fits : n ≤ left) where
  -- the tally of script i after n words of script who
  tally_noted : (x : Bool) → eqb who i ≡ x → tally_at (noted_tallies b who left n) i
      ≡ cond x (noted_tally (tally_at b i) left n) (tally_at b i)
  unfolding noted_tallies
  tally_noted true p =
      let e : who ≡ i = eqb-true who i p in
      let l : i < length b = omega arith in
      rw (e, get_or-set_same)
  tally_noted false p =
      let e : i ≢ who = λ h. eqb-false who i p (sym h) in
      rw get_or-set_other

  pub ended_noted : NotBefore left (tally_at b i).ended
      → NotBefore (left - n) (tally_at (noted_tallies b who left n) i).ended
  unfolding noted_tally
  ended_noted m = go (eqb who i) refl where
    go : (x : Bool) → eqb who i ≡ x → NotBefore (left - n) (tally_at (noted_tallies b who left n) i).ended
    go false p = rw (tally_noted false p) (not_before left (left - n) (tally_at b i).ended (omega arith) m)
    go true p = rw (tally_noted true p) (by (eqb n 0)) where
      by : (y : Bool) → NotBefore (left - n) (cond {A = Tally} y (tally_at b i)
          (record {
            ended = Some (left - n);
            longest = max (tally_at b i).longest (waited (tally_at b i).ended left);
          })).ended
      by true = not_before left (left - n) (tally_at b i).ended (omega arith) m
      by false = omega arith

  pub count_noted : NotBefore left (tally_at b i).ended → count_of (tally_at (noted_tallies b who left n) i) (left - n)
      ≡ counted i who 0 n (count_of (tally_at b i) left)
  count_noted m = go (eqb who i) refl where
    go : (x : Bool) → eqb who i ≡ x → count_of (tally_at (noted_tallies b who left n) i) (left - n)
        ≡ counted i who 0 n (count_of (tally_at b i) left)
    go true p = ap (λ (t : Tally). count_of t (left - n)) (tally_noted true p) ∙ count_own (tally_at b i) left n i who p
    go false p = ap (λ (t : Tally). count_of t (left - n)) (tally_noted false p)
        ∙ count_other (tally_at b i) left n i who p fits m

-- a turn of some room runs a word, or needs a choice
abbrev Some_ran : ℕ → Turn → Type 0
Some_ran n (Over m p at) = n < m
Some_ran n (Returned m at) = n < m
Some_ran n (Starved m) = Unit {0}

module _ (graphs : ℕ → Graph) (q : ℕ) (choices : List ℕ) where
  -- the longest wait of script i in the end, from a stage on
  abbrev pub going_on : ℕ → Stage → ℕ
  going_on i st = scan i (count_at st i)
      (trace graphs q choices st.left (record { queue = st.queue; used = 0; taken = st.taken }))

  trace_zero : (s : State) → trace graphs q choices 0 s ≡ []
  unfolding trace
  trace_zero s = refl

  trace_empty : (n taken : ℕ) → trace graphs q choices n (record { queue = []; used = 0; taken = taken }) ≡ []
  unfolding trace
  trace_empty zero taken = refl
  trace_empty (suc n) taken = refl

  why : (room left : ℕ) → suc room ≡ min q left → (0 + suc room ≡ q) ⊎ (suc room ≡ left)
  why room left e = go (ltb q left) refl where
    go : (x : Bool) → ltb q left ≡ x → (0 + suc room ≡ q) ⊎ (suc room ≡ left)
    go true p = inl (omega (arith, ltb-true q left p))
    go false p = inr (omega (arith, ltb-false q left p))

  whole_turn : (i room left taken : ℕ) (s : Task) (rest : List Task) (c : Count) → room ≡ min q left → 0 < q → 0 < left
      → scan i c (trace graphs q choices left (record { queue = s ∷ rest; used = 0; taken = taken }))
      ≡ scan i (counted i s.script 0 (ran_of (turn_of (graphs s.script) choices room s.word taken 0)) c)
      (trace_after graphs q choices left s.script rest (turn_of (graphs s.script) choices room s.word taken 0))
  whole_turn i zero left taken s rest c e h k = absurd (omega arith)
  whole_turn i (suc r) left taken s rest c e h k =
      let t = turn_of (graphs s.script) choices (suc r) s.word taken 0 in
      let z : ran_of t - 0 ≡ ran_of t = omega arith in
      turn_scan graphs q choices i r left 0 taken left s rest (omega arith) (omega arith) (why r left e) (omega arith) c
      ∙ ap (λ (m : ℕ). scan i (counted i s.script 0 m c) (trace_after graphs q choices left s.script rest t)) z

  pub fits_turn : (st : Stage) (s : Task) → ran_of (first_turn graphs q choices st s) ≤ st.left
  fits_turn st s = omega (arith, ran_most (graphs s.script) choices (min q st.left) s.word st.taken 0)

  module _ (i : ℕ) (h : i < 4) (st : Stage) (fine : Fine st) (s : Task) (rest : List Task) (w : s.script < 4) where
    -- no more words run: the longest wait is the one that is noted
    over : (n at : ℕ) (u : List Task) → n ≤ st.left
        → going_on i (record { queue = u; tallies = noted_tallies st.tallies s.script st.left n; left = 0; taken = at })
        ≡ scan i (counted i s.script 0 n (count_at st i)) []
    unfolding scan
    over n at u f =
        rw (trace_zero (record { queue = u; used = 0; taken = at }))
        (ap (λ (c : Count). c.longest)
        (count_noted st.tallies fine.four s.script st.left n i w h f (fine.ends i h)))

    staged_same : (t : Turn) → ran_of t ≤ st.left
        → going_on i (staged st s rest t) ≡ scan i (counted i s.script 0 (ran_of t) (count_at st i))
        (trace_after graphs q choices st.left s.script rest t)
    staged_same (Starved n) f = over n st.taken rest f
    staged_same (Over n p at) f = rw (count_noted st.tallies fine.four s.script st.left n i w h f (fine.ends i h))
    staged_same (Returned n at) f = go rest where
      go : (r : List Task)
          → going_on i (record {
            queue = r;
            tallies = noted_tallies st.tallies s.script st.left n;
            left = left_for r (st.left - n);
            taken = at;
          })
          ≡ scan i (counted i s.script 0 n (count_at st i))
          (trace graphs q choices (st.left - n) (record { queue = r; used = 0; taken = at }))
      go [] = over n at [] f ∙ rw (trace_empty (st.left - n) at)
      go (r ∷ more) = rw (count_noted st.tallies fine.four s.script st.left n i w h f (fine.ends i h))

    pub turn_same : st.queue ≡ s ∷ rest → 0 < st.left → 0 < q
        → going_on i (staged st s rest (first_turn graphs q choices st s)) ≡ going_on i st
    turn_same e left k =
        let c = count_at st i in
        let t = first_turn graphs q choices st s in
        staged_same t (fits_turn st s)
        ∙ sym (whole_turn i (min q st.left) st.left st.taken s rest c refl k left)
        ∙ ap (λ (l : List Task). scan i c
        (trace graphs q choices st.left (record { queue = l; used = 0; taken = st.taken })))
        (sym e)

  some_more : (n : ℕ) (t : Turn) → n + 1 ≤ ran_of t → Some_ran n t
  some_more n (Over m p at) h = omega arith
  some_more n (Returned m at) h = omega arith
  some_more n (Starved m) h = tt

  turn_some : (g : Graph) (room p taken n : ℕ) → Some_ran n (turn_of g choices (suc room) p taken n)
  unfolding turn_of
  turn_some g room p taken n = go (move_of choices taken (g.successors p)) where
    go : (m : Move) → Some_ran n (turned g p taken n m (λ to at. turn_of g choices room to at (n + 1)))
    go Return = omega arith
    go Starve = tt
    go (Go to at) = by (g.serves p to) where
      by : (x : Bool) → Some_ran n (cond x (Over (n + 1) to at) (turn_of g choices room to at (n + 1)))
      by true = omega arith
      by false = some_more n (turn_of g choices room to at (n + 1)) (ran_least g choices room to at (n + 1))

  module _ (st : Stage) (fine : Fine st) (s : Task) (rest : List Task) (e : st.queue ≡ s ∷ rest) (left : 0 < st.left)
      (k : 0 < q) where
    tasks_now : TasksListed (s ∷ rest)
    tasks_now = rw e at fine.tasks

    few_now : length (s ∷ rest) ≤ 4
    few_now = rw e at fine.few

    four_now : (n : ℕ) → length (noted_tallies st.tallies s.script st.left n) ≡ 4
    unfolding noted_tallies
    four_now n = rw length-set fine.four

    staged_fine : (t : Turn) → ran_of t ≤ st.left → Fine (staged st s rest t)
    staged_fine (Starved n) f =
        record {
          some = λ z. absurd (omega arith);
          few = omega (arith, few_now);
          tasks = tasks_now.1;
          four = four_now n;
          ends = λ i h. not_before (st.left - n) 0 (tally_at (noted_tallies st.tallies s.script st.left n) i).ended (omega arith)
              (ended_noted st.tallies fine.four s.script st.left n i tasks_now.0 h f (fine.ends i h));
        }
    staged_fine (Over n p at) f =
        record {
          some = λ z. simp length-append (omega arith);
          few = simp length-append (omega (arith, few_now));
          tasks = listed_end rest (task_at s.script p) tasks_now.1 tasks_now.0;
          four = four_now n;
          ends = λ i h. ended_noted st.tallies fine.four s.script st.left n i tasks_now.0 h f (fine.ends i h);
        }
    staged_fine (Returned n at) f =
        record {
          some = some rest;
          few = omega (arith, few_now);
          tasks = tasks_now.1;
          four = four_now n;
          ends = λ i h. ends rest i (ended_noted st.tallies fine.four s.script st.left n i tasks_now.0 h f (fine.ends i h));
        } where
          some : (r : List Task) → 0 < left_for r (st.left - n) → 0 < length r
          some [] z = absurd (omega arith)
          some (x ∷ more) z = omega arith

          ends : (r : List Task) (i : ℕ) → NotBefore (st.left - n) (tally_at (noted_tallies st.tallies s.script st.left n) i).ended
              → NotBefore (left_for r (st.left - n)) (tally_at (noted_tallies st.tallies s.script st.left n) i).ended
          ends [] i h = not_before (st.left - n) 0 (tally_at (noted_tallies st.tallies s.script st.left n) i).ended (omega arith) h
          ends (x ∷ more) i h = h

    staged_less : (t : Turn) → Some_ran 0 t → ran_of t ≤ st.left → (staged st s rest t).left < st.left
    staged_less (Starved n) h f = left
    staged_less (Over n p at) h f = omega arith
    staged_less (Returned n at) h f = go rest where
      go : (r : List Task) → left_for r (st.left - n) < st.left
      go [] = left
      go (x ∷ more) = omega arith

    some_room : (room p taken : ℕ) → room ≡ min q st.left
        → Some_ran 0 (turn_of (graphs s.script) choices room p taken 0)
    some_room zero p taken e = absurd (omega arith)
    some_room (suc r) p taken e = turn_some (graphs s.script) r p taken 0

    pub turn_fine : Fine (staged st s rest (first_turn graphs q choices st s))
    turn_fine = staged_fine (first_turn graphs q choices st s) (fits_turn st s)

    pub turn_less : (staged st s rest (first_turn graphs q choices st s)).left < st.left
    turn_less = staged_less (first_turn graphs q choices st s)
        (some_room (min q st.left) s.word st.taken refl) (fits_turn st s)

  -- a stage with words left goes on to one that is fine, with fewer words left and the same waits in the end
  module _ (st : Stage) (fine : Fine st) (left : 0 < st.left) (k : 0 < q) where
    pub record Goes_on (next : Stage) : Type 0 where
      pub fine_next : Fine next
      pub less : next.left < st.left
      pub same : (i : ℕ) → i < 4 → going_on i next ≡ going_on i st

    after : (l : List Task) → st.queue ≡ l → Goes_on (stage_after graphs q choices st l)
    after [] e = absurd (let h = fine.some left in let n : length st.queue ≡ 0 = rw e in omega arith)
    after (s ∷ rest) e =
        record {
          fine_next = turn_fine st fine s rest e left k;
          less = turn_less st fine s rest e left k;
          same = λ i h. turn_same i h st fine s rest (rw e at fine.tasks).0 e left k;
        }

    pub goes_on : Goes_on (next_stage graphs q choices st)
    unfolding next_stage
    goes_on = after st.queue refl

  -- no words are left: the longest waits are those noted
  pub ended : (i : ℕ) (st : Stage) → st.left ≡ 0 → going_on i st ≡ (tally_at st.tallies i).longest
  ended i st e =
      ap (λ (l : ℕ). scan i (count_at st i)
      (trace graphs q choices l (record { queue = st.queue; used = 0; taken = st.taken }))) e
      ∙ ap (λ (es : List Event). scan i (count_at st i) es)
      (trace_zero (record { queue = st.queue; used = 0; taken = st.taken }))
      ∙ scan_none i (count_at st i)

-- read from the first turn on, the numbers are those of the waits
scan_since : (i n best : ℕ) (es : List Event) → scan i (record { since = Some n; longest = best }) es
    ≡ max best (longest_of_waits (waits_since i n es))
unfolding scan counted
scan_since i n best [] = omega arith
scan_since i n best (e ∷ es) = go (eqb e.script i) (eqb e.nth 0) (λ n best. scan_since i n best es) where
  go : (x y : Bool) → ((n best : ℕ) → scan i (record { since = Some n; longest = best }) es
      ≡ max best (longest_of_waits (waits_since i n es)))
      → scan i (cond x (record { since = Some 0; longest = cond y (max best n) best })
      (record { since = Some (n + 1); longest = best })) es
      ≡ max best (longest_of_waits (cond x (cond y (n ∷ waits_since i 0 es) (waits_since i 0 es)) (waits_since i (n + 1) es)))
  go true true more = more 0 (max best n) ∙ omega arith
  go true false more = more 0 best
  go false y more = more (n + 1) best

pub scan_waits : (i : ℕ) (es : List Event) → scan i (record { since = None; longest = 0 }) es ≡ longest_wait i es
unfolding scan counted longest_wait
scan_waits i [] = refl
scan_waits i (e ∷ es) = go (eqb e.script i) (eqb e.nth 0) (scan_waits i es) where
  go : (x y : Bool) → (scan i (record { since = None; longest = 0 }) es ≡ longest_of_waits (waits_of i es))
      → scan i (cond x (record { since = Some 0; longest = cond y (max 0 0) 0 }) (record { since = None; longest = 0 })) es
      ≡ longest_of_waits (cond x (waits_since i 0 es) (waits_of i es))
  go true true more = scan_since i 0 0 es ∙ omega arith
  go true false more = scan_since i 0 0 es ∙ omega arith
  go false y more = more

listed_from : (i k : ℕ) → i + k ≤ 4 → TasksListed (tasks_from i k)
listed_from i zero h = tt
listed_from i (suc k) h = (omega arith, listed_from (suc i) k (omega arith))

tally_new : (n i : ℕ) → get_or (replicate n new_tally) i new_tally ≡ new_tally
tally_new zero i = refl
tally_new (suc n) zero = refl
tally_new (suc n) (suc i) = tally_new n i

pub start_fine : (k limit : ℕ) → 0 < k → k ≤ 4 → Fine (start_stage k limit)
unfolding start_stage
start_fine k limit h l =
    record {
      some = λ z. rw (tasks_length 0 k) h;
      few = rw (tasks_length 0 k) l;
      tasks = listed_from 0 k (omega arith);
      four = refl;
      ends = λ i z. rw (tally_new 4 i) tt;
    }

pub start_going : (graphs : ℕ → Graph) (q : ℕ) (choices : List ℕ) (k limit i : ℕ)
    → going_on graphs q choices i (start_stage k limit) ≡ longest_wait i (trace graphs q choices limit (start_of k))
unfolding start_stage
start_going graphs q choices k limit i =
    ap (λ (t : Tally). scan i (count_of t limit) (trace graphs q choices limit (start_of k))) (tally_new 4 i)
    ∙ scan_waits i (trace graphs q choices limit (start_of k))

-- a turn of s, its queue's first, as the code takes it
module _ (scripts : List (Bor (List ℕ))) (q : ℕ) (choices : List ℕ) (st : Stage) (s : Task) (rest : List Task)
    (e : st.queue ≡ s ∷ rest) (fine : Fine st) where
  pub first_known : s.script < 4
  first_known = (rw e at fine.tasks).0

  module _ (room : ℕ) (r : room ≡ min q st.left) (t : Turn)
      (f : t ≡ turn_of (graph_of (lua54 (lent_at scripts s.script))) choices room s.word st.taken 0) where
    came : t ≡ first_turn (graphs_in scripts) q choices st s
    came =
        f ∙ ap (λ (m : ℕ). turn_of (graph_of (lua54 (lent_at scripts s.script))) choices m s.word st.taken 0) r
        ∙ ap (λ (ws : List ℕ). turn_of (graph_of (lua54 ws)) choices (min q st.left) s.word st.taken 0)
        (sym (lent_same scripts s.script first_known))

    pub fits : ran_of t ≤ st.left
    fits = rw came (fits_turn (graphs_in scripts) q choices st s)

    module _ (m : ℕ) (k : m ≡ ran_of t) (own : Tally)
        (g : own ≡ noted_tally (tally_at st.tallies s.script) st.left m) where
      pub next_starved : (n : ℕ) → t ≡ Starved n
          → record { queue = rest; tallies = set st.tallies s.script own; left = 0; taken = st.taken }
          ≡ next_stage (graphs_in scripts) q choices st
      unfolding next_stage noted_tallies
      next_starved n i = rw (g, k, i, e) (ap (staged st s rest) (sym i ∙ came))

      pub next_returned : (n at left : ℕ) → t ≡ Returned n at → left ≡ left_for rest (st.left - n)
          → record { queue = rest; tallies = set st.tallies s.script own; left = left; taken = at }
          ≡ next_stage (graphs_in scripts) q choices st
      unfolding next_stage noted_tallies
      next_returned n at left i l = rw (g, k, i, e, l) (ap (staged st s rest) (sym i ∙ came))

      pub next_over : (u : List Task) (n p at : ℕ) → t ≡ Over n p at → u ≡ rest ++ (task_at s.script p ∷ [])
          → record { queue = u; tallies = set st.tallies s.script own; left = st.left - n; taken = at }
          ≡ next_stage (graphs_in scripts) q choices st
      unfolding next_stage noted_tallies
      next_over u n p at i l = rw (g, k, i, e, l) (ap (staged st s rest) (sym i ∙ came))

pub left_none : (rest : List Task) (n : ℕ) → rest ≡ [] → 0 ≡ left_for rest n
left_none rest n e = rw e

pub left_some : (rest : List Task) (n : ℕ) → (rest ≡ [] → ⊥) → n ≡ left_for rest n
left_some [] n h = absurd (h refl)
left_some (s ∷ rest) n h = refl

-- the longest waits, script by script
pub all_waits : (tallies : List Tally) (waits : List ℕ) (es : List Event) → length tallies ≡ 4 → length waits ≡ 4
    → ((i : ℕ) → i < 4 → get_or waits i 0 ≡ (tally_at tallies i).longest)
    → ((i : ℕ) → i < 4 → (tally_at tallies i).longest ≡ longest_wait i es) → waits ≡ waits_in es
all_waits tallies (a ∷ b ∷ c ∷ d ∷ []) es e f g h =
    let w0 : a ≡ longest_wait 0 es = g 0 (omega arith) ∙ h 0 (omega arith) in
    let w1 : b ≡ longest_wait 1 es = g 1 (omega arith) ∙ h 1 (omega arith) in
    let w2 : c ≡ longest_wait 2 es = g 2 (omega arith) ∙ h 2 (omega arith) in
    let w3 : d ≡ longest_wait 3 es = g 3 (omega arith) ∙ h 3 (omega arith) in
    cc
all_waits tallies [] es e f g h = absurd (omega arith)
all_waits tallies (a ∷ []) es e f g h = absurd (omega arith)
all_waits tallies (a ∷ b ∷ []) es e f g h = absurd (omega arith)
all_waits tallies (a ∷ b ∷ c ∷ []) es e f g h = absurd (omega arith)
all_waits tallies (a ∷ b ∷ c ∷ d ∷ x ∷ more) es e f g h = absurd (omega arith)
