-- Sets of registers. Assumes nothing.
use mathlib.Core.Path.{◌≡◌, refl, sym, ap, ap₂, ◌∙◌}
use mathlib.Core.Logic.{◌⊎◌, ◌↔◌, inl, inr, ⊎_elim}
use mathlib.Core.Bool.{Bool, true, false, not, ◌&&◌, ◌||◌, or-false, false≢true}
use mathlib.Core.List.{List, [], ◌∷◌, ◌++◌}
use Prim.Native.Nat.{ℕ, ◌+◌, ◌*◌, ◌-◌, ◌%◌, ◌^◌, ◌≤◌, ◌<◌, min}
use native.Mathlib.Nat.{mod-eq_of_lt}
use native.Mathlib.Omega.{arith}
use Rattle.std.specs.Bool.{IsTrue}
use borrow.Author.Tests.{eqb-true, lt-ltb, le-ltb, le-leb, lt-leb, eq-eqb, ne_eqb}
use lib.Bits.{bit_and, bit_or, and_le_l, or_lt}
use lib.Dec.{leb, ltb, eqb}
use Rattle.common.proofs.Order.{split}
use Rattle.sweep.specs.declared.edges.Successors.{Successors}
use Rattle.sweep.specs.Steps.{is_invalid}
use Rattle.locations.specs.declared.answer.Range.{Range}
use Rattle.locations.specs.declared.answer.Touches.{Touches}
use Rattle.locations.specs.Form.{ranges_in}
use Rattle.blocks.specs.declared.search.Seen.{Seen}
use Rattle.blocks.specs.Uses.{in_range, in_ranges, reads_by, sets_by, end_of}
use Rattle.common.specs.Limits.{most_registers}
use Rattle.blocks.specs.Blocks.{next_in, «ALL», has_bit, HoldsBits, HitsBy, BlockNotes}
use Rattle.blocks.proofs.Within.{next_from, append_in}
use Rattle.blocks.proofs.Bits.{and_bit, or_bit, zero_bit, full, full_power, full_all, full_every, full_few, not_bit, full_bit, small_bit, some_bit}

module _ (r : ℕ) where
  pub holds_none : HoldsBits r (λ s. false) 0
  holds_none = record { small = omega arith; bits = λ i h. zero_bit i }

  pub holds_same : {t u : ℕ → Bool} {x : ℕ} → ((s : ℕ) → t s ≡ u s) → HoldsBits r t x → HoldsBits r u x
  holds_same e a = record { small = a.small; bits = λ i h. a.bits i h ∙ e (r + i) }

  pub holds_or : {t u : ℕ → Bool} {x y : ℕ} → HoldsBits r t x → HoldsBits r u y → HoldsBits r (λ s. t s || u s) (bit_or x y)
  holds_or {t} {u} {x} {y} a b =
      record {
        small = let e = full_power 63 in let f = full_all in let z = or_lt 63 x y (omega (arith, a.small)) (omega (arith, b.small)) in omega arith;
        bits = λ i h. or_bit x y i ∙ ap₂ (λ (c d : Bool). c || d) (a.bits i h) (b.bits i h);
      }

  -- those below one
  pub below_none : (end : ℕ) → end ≤ r → HoldsBits r (λ s. ltb s end) 0
  below_none end l = record { small = omega arith; bits = λ i h. zero_bit i ∙ sym (le-ltb (r + i) end (omega arith)) }

  pub below_all : (end : ℕ) → 63 ≤ end - r → HoldsBits r (λ s. ltb s end) «ALL»
  below_all end l =
      record {
        small = omega arith;
        bits =
            λ i h.
            ap (λ (x : ℕ). has_bit x i) (sym full_all) ∙ full_bit 63 i h
            ∙ sym (lt-ltb (r + i) end (omega arith));
      }

  pub below_some : (end : ℕ) → end - r < 63 → HoldsBits r (λ s. ltb s end) (full (end - r))
  below_some end b =
      record {
        small = omega (arith, full_few 63 (end - r) (omega arith), full_all);
        bits = λ i h.
            ⊎_elim
            (λ d. small_bit (end - r) (full (end - r)) i d (omega arith) ∙ sym (le-ltb (r + i) end (omega arith)))
            (λ d. full_bit (end - r) i d ∙ sym (lt-ltb (r + i) end (omega arith)))
            (split (end - r) i);
      }

  -- a range
  ltb_leb : (s last : ℕ) → ltb s (last + 1) ≡ leb s last
  ltb_leb s last =
      ⊎_elim (λ h. lt-ltb s (last + 1) (omega arith) ∙ sym (le-leb s last h))
      (λ h. le-ltb s (last + 1) (omega arith) ∙ sym (lt-leb s last h)) (split s last)

  not_ltb : (s first : ℕ) → not (ltb s first) ≡ leb first s
  not_ltb s first = ⊎_elim (λ h. ap not (le-ltb s first h) ∙ sym (le-leb first s h)) (λ h. ap not (lt-ltb s first h) ∙ sym (lt-leb first s h)) (split first s)

  and_comm : (a b : Bool) → a && b ≡ b && a
  and_comm true true = refl
  and_comm true false = refl
  and_comm false true = refl
  and_comm false false = refl

  pub holds_range : (x : Range) {a b : ℕ} → HoldsBits r (λ s. ltb s (x.last + 1)) a
      → HoldsBits r (λ s. ltb s x.first) b → HoldsBits r (λ s. in_range s x) (bit_and a («ALL» - b))
  holds_range x {a} {b} upper lower =
      record {
        small = omega (arith, and_le_l a («ALL» - b), upper.small);
        bits = λ i h.
            and_bit a («ALL» - b) i
            ∙ ap₂ (λ (c d : Bool). c && d)
            (upper.bits i h ∙ ltb_leb (r + i) x.last)
            (ap (λ (y : ℕ). has_bit (y - b) i) (sym full_all)
            ∙ not_bit 63 b i h (omega (arith, lower.small, full_all)) ∙ ap not (lower.bits i h)
            ∙ not_ltb (r + i) x.first)
            ∙ and_comm (leb (r + i) x.last) (leb x.first (r + i));
      }

  -- several ranges
  abbrev Among : List Range → ℕ → Type 0
  Among xs y = HoldsBits r (λ s. in_ranges s xs) y

  pub among_none : Among [] 0
  unfolding in_ranges
  among_none = holds_none

  pub among_more : (xs : List Range) (x : Range) {y z : ℕ} → Among xs y → HoldsBits r (λ s. in_range s x) z → Among (xs ++ x ∷ []) (bit_or y z)
  among_more xs x a b = holds_same (λ s. sym (append_in s xs x)) (holds_or a b)

  -- what a word sets, by its lists
  pub holds_edge :
      (t : Touches) (q : ℕ) {x y : ℕ} → q ≡ t.edge → Among (ranges_in t.writes) x
      → Among (ranges_in t.edge_writes) y → HoldsBits r (sets_by t q) (bit_or x y)
  holds_edge t q e a b =
      holds_same
      (λ s. ap
      (λ (c : Bool).
      in_ranges s (ranges_in t.writes) || (c && in_ranges s (ranges_in t.edge_writes)))
      (sym (eq-eqb q t.edge e)))
      (holds_or a b)

  pub holds_always : (t : Touches) (q : ℕ) {x : ℕ} → (q ≡ t.edge → ⊥) → Among (ranges_in t.writes) x → HoldsBits r (sets_by t q) x
  holds_always t q n a =
      holds_same
      (λ s.
      sym (or-false (in_ranges s (ranges_in t.writes)))
      ∙ ap (λ (c : Bool). in_ranges s (ranges_in t.writes) || (c && in_ranges s (ranges_in t.edge_writes))) (sym (ne_eqb q t.edge n))) a

  -- who reads a register that is unset
  and_both : (a b : Bool) → a && b ≡ true → (a ≡ true) × (b ≡ true)
  and_both true b e = (refl, e)
  and_both false b e = absurd (false≢true e)

  pub no_hits : (t : Touches) (at : ℕ) {x : ℕ} → HoldsBits r (reads_by t) x → bit_and x at ≡ 0 → HitsBy r t at → ⊥
  no_hits t at {x} h e k =
      false≢true
      (sym (zero_bit k.bit) ∙ ap (λ (y : ℕ). has_bit y k.bit) (sym e) ∙ and_bit x at k.bit
      ∙ ap₂ (λ (c d : Bool). c && d) (h.bits k.bit k.few ∙ k.read) k.unset)

  pub some_hits : (t : Touches) (at : ℕ) {x : ℕ} → HoldsBits r (reads_by t) x → (bit_and x at ≡ 0 → ⊥) → HitsBy r t at
  some_hits t at {x} h n =
      let b = some_bit 63 (bit_and x at) (omega (arith, and_le_l x at, h.small, full_all)) n in
      let c = and_both (has_bit x b.0) (has_bit at b.0) (sym (and_bit x at b.0) ∙ b.2) in
      record { bit = b.0; few = b.1; read = sym (h.bits b.0 b.1) ∙ c.0; unset = c.1 }

  pub hits_are : (t : Touches) (at : ℕ) {x : ℕ} → HoldsBits r (reads_by t) x → IsTrue (not (eqb (bit_and x at) 0)) ↔ HitsBy r t at
  hits_are t at {x} h = go (eqb (bit_and x at) 0) refl
    where
      go : (b : Bool) → eqb (bit_and x at) 0 ≡ b → IsTrue (not b) ↔ HitsBy r t at
      go true e = (λ z. absurd (false≢true z), λ k. absurd (no_hits t at h (eqb-true _ 0 e) k))
      go false e = (λ z. some_hits t at h (λ k. false≢true (sym e ∙ eq-eqb _ 0 k)), λ k. refl)

-- the lowest word so far, and a word that is visited, at which H holds or not
pub record Lowest (H : Type 0) (p least least' : ℕ) : Type 0 where
  pub down : least' ≤ least
  pub noted : H → least' ≤ p
  pub new : (least' ≡ least) ⊎ ((least' ≡ p) × H)

module _ {H : Type 0} {p least least' : ℕ} where
  pub lowest_hit : H → least' ≡ min least p → Lowest H p least least'
  lowest_hit h e =
      record {
        down = omega arith;
        noted = λ k. omega arith;
        new = ⊎_elim (λ d. inl (omega arith)) (λ d. inr (omega arith, h)) (split least p);
      }

  pub lowest_none : (H → ⊥) → least' ≡ least → Lowest H p least least'
  lowest_none n e = record { down = omega arith; noted = λ h. absurd (n h); new = inl e }

-- what a visit notes
module _ (r : ℕ) where
  pub notes_of :
      (t : Touches) (s : Successors) (at p : ℕ) (seen seen' : Seen) (n : ℕ) → seen'.next ≡ min seen.next n
      → (n ≡ next_in (r + 63) (ranges_in t.reads)) × (end_of (ranges_in t.reads) ≤ most_registers) → seen'.bad ≡ seen.bad || is_invalid s
      → Lowest (HitsBy r t at) p seen.least seen'.least → BlockNotes r t s at p seen seen'
  notes_of t s at p seen seen' n e k f l =
      record {
        down = l.down;
        noted = l.noted;
        new = l.new;
        next_down = omega (arith, e);
        next_from = λ h. omega (arith, e, k.0, h, next_from (r + 63) (ranges_in t.reads));
        bad_stays = λ h. f ∙ rw h;
        sees = record { next_read = omega (arith, e, k.0); few = k.1; bad_seen = λ h. f ∙ either seen.bad (is_invalid s) h };
      }
    where
      either : (a b : Bool) → b ≡ true → a || b ≡ true
      either true b h = refl
      either false b h = h

-- a bit further left
pub shifted : (k : ℕ) → k < 63 → 1 * 2 ^ k % 2 ^ 64 ≡ full k + 1
shifted k h =
    let e = full_power k in
    let f = full_few 63 k (omega arith) in
    let a = full_all in
    let b = full_every in
    let c = full_power 64 in
    let l : 1 * 2 ^ k < 2 ^ 64 = omega arith in
    let m : 1 * 2 ^ k % 2 ^ 64 ≡ 1 * 2 ^ k = mod-eq_of_lt l in
    m ∙ omega arith

pub shifted_less : (k : ℕ) → k < 63 → full k ≡ 1 * 2 ^ k % 2 ^ 64 - 1
shifted_less k h = let e = shifted k h in omega arith
