-- The highest of a meter, by any scale: a begin and a feed that is accepted make it the larger of itself and the count, and a reset the count.
-- Assumes nothing.
use Prim.Native.Nat.{ℕ, ◌≤◌, max}
use mathlib.Core.Bool.{Bool, true, false, cond, true≢false, false≢true}
use mathlib.Core.Path.{◌≡◌, refl, sym, ap, subst, ◌∙◌}
use mathlib.Core.List.{List, [], ◌∷◌}
use native.Mathlib.Omega.{arith}
use lib.Dec.{ltb, eqb}
use Rattle.common.specs.Limits.{most_words}
use Rattle.common.specs.Numbers.{«ACCEPTED»}
use Rattle.runs.specs.Weights.{refuses_weights}
use Rattle.meter.specs.declared.step.Meter.{Meter}
use Rattle.meter.specs.Feed.{Fed}
use Rattle.meter.specs.Feed.{Scale, is_begun, showing, moved_to, is_foreign, is_stray, begin_of, reset_of, feed_of}
use Rattle.meter.specs.Model.{Call, begin, feed, reset}
use Rattle.meter.specs.Calls.{meter_called, meter_after}
use Rattle.meter.specs.Highest.{counts_shown, largest, has_reset, at_reset, HighestAfter, Begins, Resets}

-- number 11 does not refuse the meter for its highest
abbrev pub Covers : Meter → Type 0
Covers m = m.count ≤ m.highest

-- as a reset leaves it
abbrev AtCount : Meter → Type 0
AtCount m = m.highest ≡ m.count

-- a call that shows a count led from one meter to the other
record Risen (m next : Meter) : Type 0 where
  larger : next.highest ≡ max m.highest next.count

-- a feed of m was accepted and shows a count, or was refused and left m
record RisenBy (m : Meter) (f : Fed) : Type 0 where
  risen : eqb f.answer.number «ACCEPTED» ≡ true → Risen m f.meter
  still : eqb f.answer.number «ACCEPTED» ≡ false → f.meter ≡ m

held : (count highest : ℕ) → count ≤ highest → highest ≡ max highest count
held count highest c = omega arith

covered : (before count highest : ℕ) → highest ≡ max before count → count ≤ highest
covered before count highest e = omega arith

module _ (s : Scale) where
  either : (m : Meter) (t : Bool) (x y : Meter) → Risen m x → Risen m y → Risen m (cond t x y)
  either m true x y a b = a
  either m false x y a b = b

  either_fed : (m : Meter) (t : Bool) (x y : Fed) → RisenBy m x → RisenBy m y → RisenBy m (cond t x y)
  either_fed m true x y a b = a
  either_fed m false x y a b = b

  shown : (m : Meter) (last count services : ℕ) → Risen m (showing last count services m.highest)
  unfolding showing
  shown m last count services = record { larger = refl }

  moved : (m : Meter) (q : ℕ) → Risen m (moved_to s m q)
  unfolding moved_to
  moved m q = either m (is_begun m) _ _ (either m (s.graph.serves m.last q) _ _ (shown m _ _ _) (shown m _ _ _)) (shown m _ _ _)

  fed : (m : Meter) (q : ℕ) → RisenBy m (feed_of s m q)
  unfolding feed_of
  fed m q =
      either_fed m (ltb most_words s.graph.size) _ _ (record { risen = λ e. absurd (false≢true e); still = λ e. refl })
      (either_fed m (refuses_weights s.table) _ _ (record { risen = λ e. absurd (false≢true e); still = λ e. refl })
      (either_fed m (is_foreign s.graph.size m) _ _ (record { risen = λ e. absurd (false≢true e); still = λ e. refl })
      (either_fed m (is_stray s.graph m q) _
      (record { meter = moved_to s m q; answer = record { number = «ACCEPTED»; place = 0 } })
      (record { risen = λ e. absurd (false≢true e); still = λ e. refl })
      (record { risen = λ e. moved m q; still = λ e. absurd (true≢false e) }))))

  begun : (m : Meter) → Risen m (begin_of m)
  unfolding begin_of
  begun m = record { larger = held 0 m.highest (omega arith) }

  left : (m : Meter) → AtCount (reset_of m)
  unfolding reset_of
  left m = refl

  called_covers : (m : Meter) (c : Call) → Covers m → Covers (meter_called s m c)
  called_covers m begin c = covered m.highest (begin_of m).count (begin_of m).highest (begun m).larger
  called_covers m (feed q) c = go (eqb (feed_of s m q).answer.number «ACCEPTED») refl
    where
      go : (t : Bool) → eqb (feed_of s m q).answer.number «ACCEPTED» ≡ t → Covers (feed_of s m q).meter
      go true e = covered m.highest (feed_of s m q).meter.count (feed_of s m q).meter.highest ((fed m q).risen e).larger
      go false e = subst Covers (sym ((fed m q).still e)) c
  called_covers m reset c = let e = left m in omega arith

  -- calls with no reset among them

  further : (before count highest largest last : ℕ) → highest ≡ max before count → last ≡ max highest largest → last ≡ max before (max count largest)
  further before count highest largest last e d = omega arith

  pub risen : (m : Meter) (cs : List Call) → has_reset cs ≡ false → (meter_after s m cs).highest ≡ max m.highest (largest (counts_shown s m cs))
  risen m [] e = held 0 m.highest (omega arith)
  risen m (begin ∷ cs) e =
      let next : Meter = begin_of m in
      further m.highest next.count next.highest (largest (counts_shown s next cs)) _ (begun m).larger (risen next cs e)
  risen m (feed q ∷ cs) e = go (eqb (feed_of s m q).answer.number «ACCEPTED») refl (risen (feed_of s m q).meter cs e)
    where
      go : (t : Bool) → eqb (feed_of s m q).answer.number «ACCEPTED» ≡ t
          → (meter_after s (feed_of s m q).meter cs).highest ≡ max (feed_of s m q).meter.highest (largest (counts_shown s (feed_of s m q).meter cs))
          → (meter_after s (feed_of s m q).meter cs).highest ≡ max m.highest
          (largest (cond t ((feed_of s m q).meter.count ∷ counts_shown s (feed_of s m q).meter cs)
          (counts_shown s (feed_of s m q).meter cs)))
      go true d rest =
          further m.highest (feed_of s m q).meter.count (feed_of s m q).meter.highest
          (largest (counts_shown s (feed_of s m q).meter cs)) _ ((fed m q).risen d).larger rest
      go false d rest = rest ∙ ap (λ (x : Meter). max x.highest (largest (counts_shown s (feed_of s m q).meter cs))) ((fed m q).still d)
  risen m (reset ∷ cs) e = absurd (true≢false e)

  -- any calls

  no_reset : (m : Meter) (cs : List Call) → has_reset cs ≡ false → at_reset s m cs ≡ m
  no_reset m [] e = refl
  no_reset m (c ∷ cs) e = rw e

  at-reset : (m : Meter) (cs : List Call) → has_reset cs ≡ true → AtCount (at_reset s m cs)
  at-reset m [] e = absurd (false≢true e)
  at-reset m (begin ∷ cs) e = rw e (at-reset (begin_of m) cs e)
  at-reset m (feed q ∷ cs) e = rw e (at-reset (feed_of s m q).meter cs e)
  at-reset m (reset ∷ cs) e = go (has_reset cs) refl (at-reset (reset_of m) cs)
    where
      go : (t : Bool) → has_reset cs ≡ t → (has_reset cs ≡ true → AtCount (at_reset s (reset_of m) cs)) → AtCount (at_reset s (reset_of m) cs)
      go true d later = later d
      go false d later = rw (no_reset (reset_of m) cs d) (left m)

  covers_after : (m : Meter) (cs : List Call) → Covers m → Covers (meter_after s m cs)
  covers_after m [] k = k
  covers_after m (c ∷ cs) k = covers_after (meter_called s m c) cs (called_covers m c k)

  pub highest_after : (m : Meter) (calls : List Call) → HighestAfter s m calls
  highest_after m [] = record { highest = held 0 m.highest (omega arith); at-reset = λ e. absurd (false≢true e); since = refl; covers = λ k. k }
  highest_after m (c ∷ cs) = go (has_reset (c ∷ cs)) refl (highest_after (meter_called s m c) cs)
    where
      go : (t : Bool) → has_reset (c ∷ cs) ≡ t → HighestAfter s (meter_called s m c) cs → HighestAfter s m (c ∷ cs)
      go true e rest = record { highest = rw e rest.highest; at-reset = at-reset m (c ∷ cs); since = rw e rest.since; covers = covers_after m (c ∷ cs) }
      go false e rest = record { highest = rw e (risen m (c ∷ cs) e); at-reset = at-reset m (c ∷ cs); since = rw e; covers = covers_after m (c ∷ cs) }

pub begins : (m : Meter) → Begins m
unfolding begin_of
begins m = record { begun = refl; last = refl; count = refl; services = refl; highest = refl }

pub resets : (m : Meter) → Resets m
unfolding reset_of
resets m = record { highest = refl; begun = refl; last = refl; count = refl; services = refl }
