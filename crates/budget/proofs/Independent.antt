-- A script's answers and meter are a function of what it sees.
-- Assumes nothing.
use Prim.Native.Nat.{ℕ, ◌≤◌}
use mathlib.Core.Bool.{Bool, true, false, cond}
use mathlib.Core.Path.{◌≡◌, refl, sym, ap, ◌∙◌}
use mathlib.Core.List.{List, [], ◌∷◌}
use lib.Dec.{eqb}
use Rattle.runs.specs.Script.{script_of}
use Rattle.meter.specs.declared.step.Meter.{Meter}
use Rattle.common.specs.declared.c.FlatAnswer.{FlatAnswer}
use Rattle.meter.specs.Feed.{Scale, scale_of, begin_of, reset_of}
use Rattle.meter.specs.Model.{Call, begin, feed, reset}
use Rattle.budget.specs.declared.step.Meters.{Meters}
use Rattle.budget.specs.Four.{meter_of, others_of}
use Rattle.budget.specs.Calls.{FourCall, Scripts, made, four_after, answered, Seen, begins, feeds, resets, shown_to, all_answers, seen_by}
use Rattle.budget.specs.Independent.{History, scripts_in, SameToScript, Independent}
use Rattle.budget.proofs.View.{viewed, other_as, own_as}

-- a list of calls, from what the script sees alone
abbrev lasting : Scale → Meter → List Seen → Meter
lasting g m [] = m
lasting g m (begins ∷ xs) = lasting g (begin_of m) xs
lasting g m (feeds q s others ∷ xs) = lasting g (viewed g m s others (feed q)).meter xs
lasting g m (resets ∷ xs) = lasting g (reset_of m) xs

abbrev answering : Scale → Meter → List Seen → List FlatAnswer
answering g m [] = []
answering g m (begins ∷ xs) = answering g (begin_of m) xs
answering g m (feeds q s others ∷ xs) = (viewed g m s others (feed q)).answer ∷ answering g (viewed g m s others (feed q)).meter xs
answering g m (resets ∷ xs) = answering g (reset_of m) xs

module _ (g : Scripts) (i : ℕ) (i-script : i ≤ 3) where
  abbrev BySeen : Meter → List Seen → List FlatAnswer → Meter → Type 0
  BySeen m seen answers after = (answers ≡ answering (g i) m seen) × (after ≡ lasting (g i) m seen)

  -- another script's call
  passed : (m n : Meter) → n ≡ m → (seen : List Seen) (answers : List FlatAnswer) (after : Meter) → BySeen n seen answers after → BySeen m seen answers after
  passed m n e seen answers after h = rw (← e) h

  -- its own
  own : (m n : Meter) (a : FlatAnswer) (s others : ℕ) (c : Call) → a ≡ (viewed (g i) m s others c).answer → n ≡ (viewed (g i) m s others c).meter
      → (seen : List Seen) (answers : List FlatAnswer) (after : Meter) → BySeen n seen answers after
      → BySeen m (shown_to s others c ∷ seen) (answered c a answers) after
  own m n a s others begin d e seen answers after h = passed (begin_of m) n e seen answers after h
  own m n a s others (feed q) d e seen answers after h = rw (← d, ← e) (ap (λ (l : List FlatAnswer). a ∷ l) h.0, h.1)
  own m n a s others reset d e seen answers after h = passed (reset_of m) n e seen answers after h

  module _ (ms : Meters) (c : FourCall) where
    step : (seen : List Seen) (answers : List FlatAnswer) (after : Meter) (t : Bool) → eqb c.script i ≡ t
        → BySeen (meter_of (made g ms c).meters i) seen answers after
        → BySeen (meter_of ms i) (cond t (shown_to c.budget (others_of ms i) c.call ∷ seen) seen)
        (cond t (answered c.call (made g ms c).answer answers) answers) after
    step seen answers after false e h = passed (meter_of ms i) (meter_of (made g ms c).meters i) (other_as g ms i i-script c e) seen answers after h
    step seen answers after true e h =
        let both = own_as g ms i i-script c e in
        own (meter_of ms i) (meter_of (made g ms c).meters i) (made g ms c).answer c.budget (others_of ms i)
        c.call both.0 both.1 seen answers after h

  by_seen : (ms : Meters) (calls : List FourCall) → BySeen (meter_of ms i) (seen_by g i ms calls) (all_answers g i ms calls) (meter_of (four_after g ms calls) i)
  by_seen ms [] = (refl, refl)
  by_seen ms (c ∷ cs) =
      step ms c (seen_by g i (made g ms c).meters cs) (all_answers g i (made g ms c).meters cs) (meter_of (four_after g (made g ms c).meters cs) i)
      (eqb c.script i) refl (by_seen (made g ms c).meters cs)

module _ (i : ℕ) (h h' : History) where
  abbrev g : Scripts
  g = scripts_in h

  abbrev g' : Scripts
  g' = scripts_in h'

  same_scale : SameToScript i h h' → g i ≡ g' i
  same_scale s = λ j. scale_of (script_of (s.version j) (s.words j)) (s.weights j)

  same_answers : SameToScript i h h' → all_answers g i h.start h.calls ≡ all_answers g' i h'.start h'.calls
  same_answers s =
      (by_seen g i s.script h.start h.calls).0
      ∙ ap (λ (x : Scale). answering x (meter_of h.start i) (seen_by g i h.start h.calls)) (same_scale s)
      ∙ ap (λ (m : Meter). answering (g' i) m (seen_by g i h.start h.calls)) s.start
      ∙ ap (λ (l : List Seen). answering (g' i) (meter_of h'.start i) l) s.seen
      ∙ sym (by_seen g' i s.script h'.start h'.calls).0

  same_meter : SameToScript i h h' → meter_of (four_after g h.start h.calls) i ≡ meter_of (four_after g' h'.start h'.calls) i
  same_meter s =
      (by_seen g i s.script h.start h.calls).1
      ∙ ap (λ (x : Scale). lasting x (meter_of h.start i) (seen_by g i h.start h.calls)) (same_scale s)
      ∙ ap (λ (m : Meter). lasting (g' i) m (seen_by g i h.start h.calls)) s.start
      ∙ ap (λ (l : List Seen). lasting (g' i) (meter_of h'.start i) l) s.seen
      ∙ sym (by_seen g' i s.script h'.start h'.calls).1

  pub independent : Independent i h h'
  independent = record { answers = same_answers; meter = same_meter }
