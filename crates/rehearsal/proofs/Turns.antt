-- A turn in one piece is the machine's turn, and the running numbers are those of the trace.
-- Assumes nothing.
use mathlib.Core.Path.{◌≡◌, refl, sym, ap, ◌∙◌}
use mathlib.Core.Logic.{◌⊎◌, inl, inr, ⊎_elim}
use mathlib.Core.Bool.{Bool, true, false, cond, ◌||◌}
use Rattle.std.specs.Prelude.{Option, Some, None}
use mathlib.Core.List.{List, [], ◌∷◌, ◌++◌}
use Prim.Native.Nat.{ℕ, zero, suc, ◌+◌, ◌-◌, ◌≤◌, ◌<◌, max}
use native.Mathlib.Omega.{arith}
use borrow.Author.Tests.{eqb-true, eqb-false, ne_eqb}
use lib.Dec.{eqb}
use Rattle.graph.specs.Graph.{Graph}
use Rattle.rehearsal.specs.declared.machine.Task.{Task}
use Rattle.rehearsal.specs.declared.machine.Move.{Move}
use Rattle.rehearsal.specs.declared.machine.Move.TheVariants.{Return, Starve, Go}
use Rattle.rehearsal.specs.declared.machine.Turn.{Turn}
use Rattle.rehearsal.specs.declared.machine.Turn.TheVariants.{Over, Returned, Starved}
use Rattle.rehearsal.specs.Machine.{Event, State, task_at, move_of, moved, followed, trace}
use Rattle.rehearsal.specs.Running.{turned, turn_of, ran_of}

-- the running numbers of a script while a trace is read: the words of others since its last, none before its first;
-- the longest wait
pub record Count : Type 0 where
  pub since : Option ℕ
  pub longest : ℕ

abbrev pub or_none : Option ℕ → ℕ
or_none None = 0
or_none (Some n) = n

abbrev pub more_since : ℕ → Option ℕ → Option ℕ
more_since m None = None
more_since m (Some n) = Some (n + m)

abbrev pub own_word : ℕ → Count → Count
own_word nth c = record { since = Some 0; longest = cond (eqb nth 0) (max c.longest (or_none c.since)) c.longest }

abbrev pub others_words : ℕ → Count → Count
others_words m c = record { since = more_since m c.since; longest = c.longest }

-- script i's numbers after m words of a script, the first of which was the nth of its turn
unfoldable pub counted : ℕ → ℕ → ℕ → ℕ → Count → Count
counted i who nth zero c = c
counted i who nth (suc m) c = cond (eqb who i) (own_word nth c) (others_words (suc m) c)

unfoldable pub scan : ℕ → Count → List Event → ℕ
scan i c [] = c.longest
scan i c (e ∷ es) = scan i (counted i e.script e.nth 1 c) es

pub scan_none : (i : ℕ) (c : Count) → scan i c [] ≡ c.longest
unfolding scan
scan_none i c = refl

pub counted_none : (i who nth : ℕ) (c : Count) → counted i who nth 0 c ≡ c
unfolding counted
counted_none i who nth c = refl

since_more : (m : ℕ) (s : Option ℕ) → more_since (suc m) (more_since 1 s) ≡ more_since (suc (suc m)) s
since_more m None = refl
since_more m (Some n) = let a : n + 1 + suc m ≡ n + suc (suc m) = omega arith in rw a

counted_more : (i who nth m : ℕ) (c : Count) → counted i who (nth + 1) m (counted i who nth 1 c)
    ≡ counted i who nth (suc m) c
unfolding counted
counted_more i who nth zero c = refl
counted_more i who nth (suc m) c = go (eqb who i) refl where
  go : (x : Bool) → eqb who i ≡ x
      → cond (eqb who i) (own_word (nth + 1) (cond (eqb who i) (own_word nth c) (others_words 1 c)))
      (others_words (suc m) (cond (eqb who i) (own_word nth c) (others_words 1 c)))
      ≡ cond (eqb who i) (own_word nth c) (others_words (suc (suc m)) c)
  go true e = rw (e, ne_eqb (nth + 1) 0 (λ h. omega arith))
  go false e = rw (e, since_more m c.since)

-- a turn's words count on from those that ran, and there are at most as many as have room
pub ran_least : (g : Graph) (choices : List ℕ) (room p taken n : ℕ) → n ≤ ran_of (turn_of g choices room p taken n)
unfolding turn_of
ran_least g choices zero p taken n = omega arith
ran_least g choices (suc room) p taken n = go (move_of choices taken (g.successors p))
    (λ to at. ran_least g choices room to at (n + 1)) where
      go : (m : Move) → ((to at : ℕ) → n + 1 ≤ ran_of (turn_of g choices room to at (n + 1)))
          → n ≤ ran_of (turned g p taken n m (λ to at. turn_of g choices room to at (n + 1)))
      go Return h = omega arith
      go Starve h = omega arith
      go (Go to at) h = by (g.serves p to) where
        by : (x : Bool) → n ≤ ran_of (cond x (Over (n + 1) to at) (turn_of g choices room to at (n + 1)))
        by true = omega arith
        by false = let k = h to at in omega arith

pub ran_most : (g : Graph) (choices : List ℕ) (room p taken n : ℕ) → ran_of (turn_of g choices room p taken n) ≤ n + room
unfolding turn_of
ran_most g choices zero p taken n = omega arith
ran_most g choices (suc room) p taken n = go (move_of choices taken (g.successors p))
    (λ to at. ran_most g choices room to at (n + 1)) where
      go : (m : Move) → ((to at : ℕ) → ran_of (turn_of g choices room to at (n + 1)) ≤ n + 1 + room)
          → ran_of (turned g p taken n m (λ to at. turn_of g choices room to at (n + 1))) ≤ n + suc room
      go Return h = omega arith
      go Starve h = omega arith
      go (Go to at) h = by (g.serves p to) where
        by : (x : Bool) → ran_of (cond x (Over (n + 1) to at) (turn_of g choices room to at (n + 1))) ≤ n + suc room
        by true = omega arith
        by false = let k = h to at in omega arith

module _ (graphs : ℕ → Graph) (q : ℕ) (choices : List ℕ) where
  -- the trace after a turn that began with `all` words left
  abbrev pub trace_after : ℕ → ℕ → List Task → Turn → List Event
  trace_after all who rest (Over n p at) = trace graphs q choices (all - n)
      (record { queue = rest ++ (task_at who p ∷ []); used = 0; taken = at })
  trace_after all who rest (Returned n at) = trace graphs q choices (all - n)
      (record { queue = rest; used = 0; taken = at })
  trace_after all who rest (Starved n) = []

  module _ (i : ℕ) where
    abbrev Turns : ℕ → ℕ → ℕ → ℕ → Task → List Task → Turn → Type 0
    Turns left used taken all s rest t =
        (c : Count) → scan i c (trace graphs q choices left (record { queue = s ∷ rest; used = used; taken = taken }))
        ≡ scan i (counted i s.script used (ran_of t - used) c) (trace_after all s.script rest t)

    -- the turn ends with this word
    ends : (l used all : ℕ) (s : Task) (t : State) (c : Count) → all ≡ suc l + used
        → scan i (counted i s.script used 1 c) (trace graphs q choices l t)
        ≡ scan i (counted i s.script used (used + 1 - used) c) (trace graphs q choices (all - (used + 1)) t)
    ends l used all s t c e =
        let a : used + 1 - used ≡ 1 = omega arith in
        let b : all - (used + 1) ≡ l = omega arith in
        rw (a, b)

    -- a word that goes on, by whether its edge serves and whether it is the turn's last
    goes : (room l used all to at : ℕ) (s : Task) (rest : List Task) (c : Count) → used + suc room ≤ q
        → (used + suc room ≡ q) ⊎ (suc room ≡ suc l) → all ≡ suc l + used
        → (0 < room → (used + 1 ≡ q → ⊥)
        → Turns l (used + 1) at all (task_at s.script to) rest
        (turn_of (graphs s.script) choices room to at (used + 1)))
        → (x y : Bool) → eqb (used + 1) q ≡ y
        → scan i (counted i s.script used 1 c)
        (trace graphs q choices l (cond (x || y)
        (record { queue = rest ++ (task_at s.script to ∷ []); used = 0; taken = at })
        (record { queue = task_at s.script to ∷ rest; used = used + 1; taken = at })))
        ≡ scan i (counted i s.script used
        (ran_of (cond x (Over (used + 1) to at) (turn_of (graphs s.script) choices room to at (used + 1))) - used) c)
        (trace_after all s.script rest
        (cond x (Over (used + 1) to at) (turn_of (graphs s.script) choices room to at (used + 1))))
    unfolding trace turn_of scan
    goes room l used all to at s rest c fits why e more true y p = ends l used all s
        (record { queue = rest ++ (task_at s.script to ∷ []); used = 0; taken = at }) c e
    goes zero l used all to at s rest c fits why e more false true p = ends l used all s
        (record { queue = rest ++ (task_at s.script to ∷ []); used = 0; taken = at }) c e
    goes (suc r) l used all to at s rest c fits why e more false true p = absurd
        (omega (arith, eqb-true (used + 1) q p))
    goes zero zero used all to at s rest c fits why e more false false p =
        let a : used + 1 - used ≡ 1 = omega arith in
        let b : all - (used + 1) ≡ 0 = omega arith in
        rw (a, b)
    goes zero (suc l) used all to at s rest c fits why e more false false p =
        absurd (⊎_elim (λ h. eqb-false (used + 1) q p h) (λ h. omega arith) why)
    goes (suc r) l used all to at s rest c fits why e more false false p =
        let t = turn_of (graphs s.script) choices (suc r) to at (used + 1) in
        let a : ran_of t - used ≡ suc (ran_of t - (used + 1)) = omega
        (arith, ran_least (graphs s.script) choices (suc r) to at (used + 1)) in
        more (omega arith) (eqb-false (used + 1) q p) (counted i s.script used 1 c)
        ∙ ap (λ (k : Count). scan i k (trace_after all s.script rest t))
        (counted_more i s.script used (ran_of t - (used + 1)) c
        ∙ ap (λ (m : ℕ). counted i s.script used m c) (sym a))

    turn_step : (room l used taken all : ℕ) (s : Task) (rest : List Task) → used + suc room ≤ q → (used + suc room ≡ q)
        ⊎ (suc room ≡ suc l) → all ≡ suc l + used → (c : Count)
        → ((to at : ℕ) → 0 < room → (used + 1 ≡ q → ⊥)
        → Turns l (used + 1) at all (task_at s.script to) rest
        (turn_of (graphs s.script) choices room to at (used + 1)))
        → scan i c (trace graphs q choices (suc l) (record { queue = s ∷ rest; used = used; taken = taken }))
        ≡ scan i (counted i s.script used
        (ran_of (turn_of (graphs s.script) choices (suc room) s.word taken used) - used) c)
        (trace_after all s.script rest (turn_of (graphs s.script) choices (suc room) s.word taken used))
    unfolding trace turn_of scan
    turn_step room l used taken all s rest fits why e c more = go
        (move_of choices taken ((graphs s.script).successors s.word)) where
          go : (m : Move)
              → scan i c (followed graphs q choices (moved graphs q choices s rest used taken m) (trace graphs q choices l))
              ≡ scan i (counted i s.script used
              (ran_of (turned (graphs s.script) s.word taken used m
              (λ to at. turn_of (graphs s.script) choices room to at (used + 1))) - used) c)
              (trace_after all s.script rest
              (turned (graphs s.script) s.word taken used m
              (λ to at. turn_of (graphs s.script) choices room to at (used + 1))))
          go Return = ends l used all s (record { queue = rest; used = 0; taken = taken }) c e
          go Starve = let z : used - used ≡ 0 = omega arith in rw (z, counted_none i s.script used c)
          go (Go to at) = goes room l used all to at s rest c fits why e (more to at)
              ((graphs s.script).serves s.word to) (eqb (used + 1) q) refl

    pub turn_scan : (room left used taken all : ℕ) (s : Task) (rest : List Task) → suc room ≤ left
        → used + suc room ≤ q → (used + suc room ≡ q) ⊎ (suc room ≡ left)
        → all ≡ left + used → Turns left used taken all s rest
        (turn_of (graphs s.script) choices (suc room) s.word taken used)
    turn_scan room zero used taken all s rest few fits why e c = absurd (omega arith)
    turn_scan zero (suc l) used taken all s rest few fits why e c =
        turn_step zero l used taken all s rest fits why e c (λ to at h. absurd (omega arith))
    turn_scan (suc r) (suc l) used taken all s rest few fits why e c =
        turn_step (suc r) l used taken all s rest fits why e c
        (λ to at h z. turn_scan r l (used + 1) at all (task_at s.script to) rest (omega arith) (omega arith)
        (⊎_elim (λ w. inl (omega arith)) (λ w. inr (omega arith)) why) (omega arith))

-- a turn of which so many words ran, by what becomes of its next word
module _ (g : Graph) (choices : List ℕ) (room p taken n : ℕ) (h : n < room) where
  abbrev now : Turn
  now = turn_of g choices (room - n) p taken n

  turn_on : now ≡ turned g p taken n (move_of choices taken (g.successors p))
      (λ to at. turn_of g choices (room - (n + 1)) to at (n + 1))
  unfolding turn_of
  turn_on = let e : room - n ≡ suc (room - (n + 1)) = omega arith in rw e

  pub turn_returns : Return ≡ move_of choices taken (g.successors p) → now ≡ Returned (n + 1) taken
  turn_returns e = turn_on ∙ rw (← e)

  pub turn_starves : Starve ≡ move_of choices taken (g.successors p) → now ≡ Starved n
  turn_starves e = turn_on ∙ rw (← e)

  pub turn_serves : (to at : ℕ) → Go to at ≡ move_of choices taken (g.successors p) → g.serves p to ≡ true → now
      ≡ Over (n + 1) to at
  turn_serves to at e s = turn_on ∙ rw (← e, s)

  pub turn_goes : (to at : ℕ) → Go to at ≡ move_of choices taken (g.successors p) → g.serves p to ≡ false → now
      ≡ turn_of g choices (room - (n + 1)) to at (n + 1)
  turn_goes to at e s = turn_on ∙ rw (← e, s)

pub turn_done : (g : Graph) (choices : List ℕ) (room p taken n : ℕ) → room ≤ n → turn_of g choices (room - n) p taken n
    ≡ Over n p taken
unfolding turn_of
turn_done g choices room p taken n h = let e : room - n ≡ 0 = omega arith in rw e

pub turn_start : (g : Graph) (choices : List ℕ) (room p taken : ℕ) → turn_of g choices (room - 0) p taken 0
    ≡ turn_of g choices room p taken 0
turn_start g choices room p taken = let e : room - 0 ≡ room = omega arith in rw e
