-- The order of lifting's checks, by their tests. Assumes nothing.
use mathlib.Core.Path.{◌≡◌, refl, sym, ap, subst, ◌∙◌}
use mathlib.Core.Logic.{◌↔◌, ◌⊎◌, inl, inr, ⊎_elim}
use mathlib.Core.Bool.{Bool, true, false, cond, not, true≢false, false≢true}
use mathlib.Core.List.{List}
use Prim.Native.Nat.{ℕ, ◌+◌, ◌-◌, ◌/◌, ◌%◌, ◌^◌, ◌≤◌, ◌<◌}
use native.Mathlib.Omega.{arith}
use lib.Dec.{ltb, eqb}
use lib.ListN.{length, get_or}
use borrow.Author.Tests.{ltb-true, ltb-false, lt-ltb, le-ltb, eqb-true, eqb-false, eq-eqb, ne_eqb}
use Rattle.common.proofs.Tests.{not_so}
use Rattle.std.specs.Prelude.{Result, Ok, Err, ⊤}
use Rattle.common.specs.declared.refusal.Refusal.{Refusal}
use Rattle.common.specs.declared.refusal.Refusal.TheVariants.{TooManyWords, ConstantCount, UnknownTag, StringPastBytes, Names, ShortSlice}
use Rattle.common.specs.Refusals.{answer_number, answer_place}
use Rattle.common.specs.Limits.{most_words, most_constants, most_names}
use Rattle.common.specs.Chain.{choose}
use Rattle.common.specs.Lowest.{First, lowest}
use Rattle.common.proofs.Lowest.{lowest_laws}
use Rattle.common.proofs.Order.{split, yes, no}
use Rattle.values.specs.Spans.{past, name_past_at, first_name_past}
use Rattle.tables.specs.Refusals.{unknown_tag, unknown_tag_at, is_string, string_past_at, first_unknown_tag, first_string_past, answer_of}
use Rattle.tables.specs.Order as order
use Rattle.tables.specs.Order.{Known, EndsPast, UnknownAt, StringPastAt, NamePastAt, Order}

-- Where a test holds first below k, by what the test says.

record Sought (t : ℕ → Bool) (P : ℕ → Type 0) (k : ℕ) : Type 0 where
  there : ltb (lowest t k) k ≡ true → P (lowest t k)
  least : (i : ℕ) → P i → lowest t k ≤ i
  some : (i : ℕ) → P i → ltb (lowest t k) k ≡ true
  none : ltb (lowest t k) k ≡ false → (i : ℕ) → P i → ⊥
  nowhere : ((i : ℕ) → P i → ⊥) → ltb (lowest t k) k ≡ false

module _ (t : ℕ → Bool) (P : ℕ → Type 0) (says : (i : ℕ) → (t i ≡ true) ↔ P i) (k : ℕ) where
  abbrev Here : ℕ → Type 0
  Here i = (i < k) × P i

  found : First t 0 k (lowest t k)
  found = lowest_laws.first t 0 k

  there : ltb (lowest t k) k ≡ true → Here (lowest t k)
  there e = let h = ltb-true (lowest t k) k e in (h, (says (lowest t k)).0 (found.holds (omega (arith, h))))

  least : (i : ℕ) → Here i → lowest t k ≤ i
  least i h =
      ⊎_elim (λ d. d) (λ d. absurd (true≢false (sym ((says i).1 h.1) ∙ found.not_before i (omega arith) d))) (split (lowest t k) i)

  some : (i : ℕ) → Here i → ltb (lowest t k) k ≡ true
  some i h = lt-ltb (lowest t k) k (omega (arith, least i h, h.0))

  none : ltb (lowest t k) k ≡ false → (i : ℕ) → Here i → ⊥
  none e i h = true≢false (sym (some i h) ∙ e)

  nowhere : ((i : ℕ) → Here i → ⊥) → ltb (lowest t k) k ≡ false
  nowhere f = go (ltb (lowest t k) k) refl
    where
      go : (u : Bool) → ltb (lowest t k) k ≡ u → u ≡ false
      go true e = absurd (f (lowest t k) (there e))
      go false e = refl

  sought : Sought t Here k
  sought = record { there = there; least = least; some = some; none = none; nowhere = nowhere }

-- What the three tests say.

left_over : (t r : Bool) → choose t false r ≡ true → (t ≡ false) × (r ≡ true)
unfolding choose
left_over true r h = absurd (false≢true h)
left_over false r h = (refl, h)

both_so : (t r : Bool) → choose t r false ≡ true → (t ≡ true) × (r ≡ true)
unfolding choose
both_so true r h = (refl, h)
both_so false r h = absurd (false≢true h)

one_so : (t r : Bool) → choose t true r ≡ true → (t ≡ true) ⊎ (r ≡ true)
unfolding choose
one_so true r h = inl refl
one_so false r h = inr h

module _ (tag : ℕ) where
  differs : (k : ℕ) → eqb tag k ≡ false → tag ≡ k → ⊥
  differs k = eqb-false tag k

  unknown_of : unknown_tag tag ≡ true → Known tag → ⊥
  unfolding unknown_tag
  unknown_of h =
      let a = left_over (eqb tag 0) _ h in
      let b = left_over (eqb tag 1) _ a.1 in
      let c = left_over (eqb tag 17) _ b.1 in
      let d = left_over (eqb tag 3) _ c.1 in
      let e = left_over (eqb tag 19) _ d.1 in
      let f = left_over (eqb tag 4) _ e.1 in
      let g = left_over (eqb tag 20) _ f.1 in
      ⊎_elim (differs 0 a.0)
      (⊎_elim (differs 1 b.0) (⊎_elim (differs 17 c.0) (⊎_elim (differs 3 d.0)
      (⊎_elim (differs 19 e.0) (⊎_elim (differs 4 f.0) (differs 20 g.0))))))

  of_unknown : (Known tag → ⊥) → unknown_tag tag ≡ true
  unfolding unknown_tag choose
  of_unknown h =
      rw (
        ne_eqb tag 0 (λ e. h (inl e)),
        ne_eqb tag 1 (λ e. h (inr (inl e))),
        ne_eqb tag 17 (λ e. h (inr (inr (inl e)))),
        ne_eqb tag 3 (λ e. h (inr (inr (inr (inl e))))),
        ne_eqb tag 19 (λ e. h (inr (inr (inr (inr (inl e)))))),
        ne_eqb tag 4 (λ e. h (inr (inr (inr (inr (inr (inl e))))))),
        ne_eqb tag 20 (λ e. h (inr (inr (inr (inr (inr (inr e))))))),
      )

  string-of : is_string tag ≡ true → (tag ≡ 4) ⊎ (tag ≡ 20)
  unfolding is_string
  string-of h = ⊎_elim (λ e. inl (eqb-true tag 4 e)) (λ e. inr (eqb-true tag 20 e)) (one_so (eqb tag 4) (eqb tag 20) h)

  of_string : (tag ≡ 4) ⊎ (tag ≡ 20) → is_string tag ≡ true
  unfolding is_string choose
  of_string (inl e) = rw (eq-eqb tag 4 e)
  of_string (inr e) = rw (ne_eqb tag 4 (λ d. omega (arith, d, e)), eq-eqb tag 20 e)

past_of : (bytes place : ℕ) → past bytes place ≡ true → EndsPast bytes place
unfolding past
past_of bytes place h = ltb-true bytes (place % 2 ^ 32 + place / 2 ^ 32) h

of_past : (bytes place : ℕ) → EndsPast bytes place → past bytes place ≡ true
unfolding past
of_past bytes place h = lt-ltb bytes (place % 2 ^ 32 + place / 2 ^ 32) h

module _ (tags payloads names : List ℕ) (bytes : ℕ) where
  abbrev Unknown : ℕ → Type 0
  Unknown i = Known (get_or tags i 0) → ⊥

  abbrev StringPast : ℕ → Type 0
  StringPast i = ((get_or tags i 0 ≡ 4) ⊎ (get_or tags i 0 ≡ 20)) × EndsPast bytes (get_or payloads i 0)

  abbrev NamePast : ℕ → Type 0
  NamePast i = (get_or names i 0 ≡ 2 ^ 64 - 1 → ⊥) × EndsPast bytes (get_or names i 0)

  unknown_says : (i : ℕ) → (unknown_tag_at tags i ≡ true) ↔ Unknown i
  unfolding unknown_tag_at
  unknown_says i = (unknown_of (get_or tags i 0), of_unknown (get_or tags i 0))

  string_says : (i : ℕ) → (string_past_at tags payloads bytes i ≡ true) ↔ StringPast i
  unfolding string_past_at choose
  string_says i = (
    λ h.
        let b = both_so (is_string (get_or tags i 0)) (past bytes (get_or payloads i 0)) h in
        (string-of (get_or tags i 0) b.0, past_of bytes (get_or payloads i 0) b.1),
    λ h. rw (of_string (get_or tags i 0) h.0, of_past bytes (get_or payloads i 0) h.1),
  )

  name_says : (i : ℕ) → (name_past_at names bytes i ≡ true) ↔ NamePast i
  unfolding name_past_at choose
  name_says i = (
    λ h.
        let b = left_over (eqb (get_or names i 0) (2 ^ 64 - 1)) (past bytes (get_or names i 0)) h in
        (eqb-false (get_or names i 0) (2 ^ 64 - 1) b.0, past_of bytes (get_or names i 0) b.1),
    λ h. rw (ne_eqb (get_or names i 0) (2 ^ 64 - 1) h.0, of_past bytes (get_or names i 0) h.1),
  )

  unknown_sought : Sought (unknown_tag_at tags) (λ i. (i < length tags) × Unknown i) (length tags)
  unknown_sought = sought (unknown_tag_at tags) Unknown unknown_says (length tags)

  string_sought : Sought (string_past_at tags payloads bytes) (λ i. (i < length tags) × StringPast i) (length tags)
  string_sought = sought (string_past_at tags payloads bytes) StringPast string_says (length tags)

  name_sought : Sought (name_past_at names bytes) (λ i. (i < length names) × NamePast i) (length names)
  name_sought = sought (name_past_at names bytes) NamePast name_says (length names)

-- The chain.

neither : (false ≡ true) ⊎ (false ≡ true) → ⊥
neither = ⊎_elim false≢true false≢true

module _ (x y z : ℕ) where
  abbrev chain : Bool → Bool → Bool → Bool → Bool → Bool → Bool → Bool → Result ⊤ Refusal
  chain a b c d e f g h =
      cond a (Err TooManyWords) (cond b (Err ConstantCount) (cond c (Err ConstantCount)
      (cond d (Err (UnknownTag x)) (cond e (Err (StringPastBytes y))
      (cond f (Err (Names 0)) (cond g (Err (Names z)) (cond h (Err ShortSlice) (Ok tt))))))))

  abbrev number : Bool → Bool → Bool → Bool → Bool → Bool → Bool → Bool → ℕ
  number a b c d e f g h = answer_number (chain a b c d e f g h)

  abbrev place : Bool → Bool → Bool → Bool → Bool → Bool → Bool → Bool → ℕ
  place a b c d e f g h = answer_place (chain a b c d e f g h)

  record By (a b c d e f g h : Bool) : Type 0 where
    one : (number a b c d e f g h ≡ 1) ↔ (a ≡ true)
    two : (number a b c d e f g h ≡ 2) ↔ ((a ≡ false) × ((b ≡ true) ⊎ (c ≡ true)))
    three : (number a b c d e f g h ≡ 3) ↔ ((a ≡ false) × (b ≡ false) × (c ≡ false) × (d ≡ true))
    four : (number a b c d e f g h ≡ 4) ↔ ((a ≡ false) × (b ≡ false) × (c ≡ false) × (d ≡ false) × (e ≡ true))
    five : (number a b c d e f g h ≡ 5) ↔ ((a ≡ false) × (b ≡ false) × (c ≡ false) × (d ≡ false) × (e ≡ false) × ((f ≡ true) ⊎ (g ≡ true)))
    six : (number a b c d e f g h ≡ 6) ↔ ((a ≡ false) × (b ≡ false) × (c ≡ false) × (d ≡ false) × (e ≡ false) × (f ≡ false) × (g ≡ false) × (h ≡ true))
    accepted : (number a b c d e f g h ≡ 0) ↔ ((a ≡ false) × (b ≡ false) × (c ≡ false) × (d ≡ false) × (e ≡ false) × (f ≡ false) × (g ≡ false) × (h ≡ false))
    place_3 : number a b c d e f g h ≡ 3 → place a b c d e f g h ≡ x
    place_4 : number a b c d e f g h ≡ 4 → place a b c d e f g h ≡ y
    place_5 : number a b c d e f g h ≡ 5 → f ≡ false → place a b c d e f g h ≡ z
    many_names : number a b c d e f g h ≡ 5 → f ≡ true → place a b c d e f g h ≡ 0
    no_place : (number a b c d e f g h ≡ 3 → ⊥) → (number a b c d e f g h ≡ 4 → ⊥) → (number a b c d e f g h ≡ 5 → ⊥) → place a b c d e f g h ≡ 0

  by : (a b c d e f g h : Bool) → By a b c d e f g h
  by true b c d e f g h =
      record {
        one = yes refl refl;
        two = no (λ h. omega (arith, h)) (λ h. true≢false h.0);
        three = no (λ h. omega (arith, h)) (λ h. true≢false h.0);
        four = no (λ h. omega (arith, h)) (λ h. true≢false h.0);
        five = no (λ h. omega (arith, h)) (λ h. true≢false h.0);
        six = no (λ h. omega (arith, h)) (λ h. true≢false h.0);
        accepted = no (λ h. omega (arith, h)) (λ h. true≢false h.0);
        place_3 = λ h. absurd (omega (arith, h));
        place_4 = λ h. absurd (omega (arith, h));
        place_5 = λ h. absurd (omega (arith, h));
        many_names = λ h. absurd (omega (arith, h));
        no_place = λ h k l. refl;
      }
  by false true c d e f g h =
      record {
        one = no (λ h. omega (arith, h)) (λ h. false≢true h);
        two = yes refl (refl, inl refl);
        three = no (λ h. omega (arith, h)) (λ h. true≢false h.1);
        four = no (λ h. omega (arith, h)) (λ h. true≢false h.1);
        five = no (λ h. omega (arith, h)) (λ h. true≢false h.1);
        six = no (λ h. omega (arith, h)) (λ h. true≢false h.1);
        accepted = no (λ h. omega (arith, h)) (λ h. true≢false h.1);
        place_3 = λ h. absurd (omega (arith, h));
        place_4 = λ h. absurd (omega (arith, h));
        place_5 = λ h. absurd (omega (arith, h));
        many_names = λ h. absurd (omega (arith, h));
        no_place = λ h k l. refl;
      }
  by false false true d e f g h =
      record {
        one = no (λ h. omega (arith, h)) (λ h. false≢true h);
        two = yes refl (refl, inr refl);
        three = no (λ h. omega (arith, h)) (λ h. true≢false h.2);
        four = no (λ h. omega (arith, h)) (λ h. true≢false h.2);
        five = no (λ h. omega (arith, h)) (λ h. true≢false h.2);
        six = no (λ h. omega (arith, h)) (λ h. true≢false h.2);
        accepted = no (λ h. omega (arith, h)) (λ h. true≢false h.2);
        place_3 = λ h. absurd (omega (arith, h));
        place_4 = λ h. absurd (omega (arith, h));
        place_5 = λ h. absurd (omega (arith, h));
        many_names = λ h. absurd (omega (arith, h));
        no_place = λ h k l. refl;
      }
  by false false false true e f g h =
      record {
        one = no (λ h. omega (arith, h)) (λ h. false≢true h);
        two = no (λ h. omega (arith, h)) (λ h. neither h.1);
        three = yes refl (refl, refl, refl, refl);
        four = no (λ h. omega (arith, h)) (λ h. true≢false h.3);
        five = no (λ h. omega (arith, h)) (λ h. true≢false h.3);
        six = no (λ h. omega (arith, h)) (λ h. true≢false h.3);
        accepted = no (λ h. omega (arith, h)) (λ h. true≢false h.3);
        place_3 = λ h. refl;
        place_4 = λ h. absurd (omega (arith, h));
        place_5 = λ h. absurd (omega (arith, h));
        many_names = λ h. absurd (omega (arith, h));
        no_place = λ h k l. absurd (h refl);
      }
  by false false false false true f g h =
      record {
        one = no (λ h. omega (arith, h)) (λ h. false≢true h);
        two = no (λ h. omega (arith, h)) (λ h. neither h.1);
        three = no (λ h. omega (arith, h)) (λ h. false≢true h.3);
        four = yes refl (refl, refl, refl, refl, refl);
        five = no (λ h. omega (arith, h)) (λ h. true≢false h.4);
        six = no (λ h. omega (arith, h)) (λ h. true≢false h.4);
        accepted = no (λ h. omega (arith, h)) (λ h. true≢false h.4);
        place_3 = λ h. absurd (omega (arith, h));
        place_4 = λ h. refl;
        place_5 = λ h. absurd (omega (arith, h));
        many_names = λ h. absurd (omega (arith, h));
        no_place = λ h k l. absurd (k refl);
      }
  by false false false false false true g h =
      record {
        one = no (λ h. omega (arith, h)) (λ h. false≢true h);
        two = no (λ h. omega (arith, h)) (λ h. neither h.1);
        three = no (λ h. omega (arith, h)) (λ h. false≢true h.3);
        four = no (λ h. omega (arith, h)) (λ h. false≢true h.4);
        five = yes refl (refl, refl, refl, refl, refl, inl refl);
        six = no (λ h. omega (arith, h)) (λ h. true≢false h.5);
        accepted = no (λ h. omega (arith, h)) (λ h. true≢false h.5);
        place_3 = λ h. absurd (omega (arith, h));
        place_4 = λ h. absurd (omega (arith, h));
        place_5 = λ h e. absurd (true≢false e);
        many_names = λ h e. refl;
        no_place = λ h k l. absurd (l refl);
      }
  by false false false false false false true h =
      record {
        one = no (λ h. omega (arith, h)) (λ h. false≢true h);
        two = no (λ h. omega (arith, h)) (λ h. neither h.1);
        three = no (λ h. omega (arith, h)) (λ h. false≢true h.3);
        four = no (λ h. omega (arith, h)) (λ h. false≢true h.4);
        five = yes refl (refl, refl, refl, refl, refl, inr refl);
        six = no (λ h. omega (arith, h)) (λ h. true≢false h.6);
        accepted = no (λ h. omega (arith, h)) (λ h. true≢false h.6);
        place_3 = λ h. absurd (omega (arith, h));
        place_4 = λ h. absurd (omega (arith, h));
        place_5 = λ h e. refl;
        many_names = λ h e. absurd (false≢true e);
        no_place = λ h k l. absurd (l refl);
      }
  by false false false false false false false true =
      record {
        one = no (λ h. omega (arith, h)) (λ h. false≢true h);
        two = no (λ h. omega (arith, h)) (λ h. neither h.1);
        three = no (λ h. omega (arith, h)) (λ h. false≢true h.3);
        four = no (λ h. omega (arith, h)) (λ h. false≢true h.4);
        five = no (λ h. omega (arith, h)) (λ h. neither h.5);
        six = yes refl (refl, refl, refl, refl, refl, refl, refl, refl);
        accepted = no (λ h. omega (arith, h)) (λ h. true≢false h.7);
        place_3 = λ h. absurd (omega (arith, h));
        place_4 = λ h. absurd (omega (arith, h));
        place_5 = λ h. absurd (omega (arith, h));
        many_names = λ h. absurd (omega (arith, h));
        no_place = λ h k l. refl;
      }
  by false false false false false false false false =
      record {
        one = no (λ h. omega (arith, h)) (λ h. false≢true h);
        two = no (λ h. omega (arith, h)) (λ h. neither h.1);
        three = no (λ h. omega (arith, h)) (λ h. false≢true h.3);
        four = no (λ h. omega (arith, h)) (λ h. false≢true h.4);
        five = no (λ h. omega (arith, h)) (λ h. neither h.5);
        six = no (λ h. omega (arith, h)) (λ h. false≢true h.7);
        accepted = yes refl (refl, refl, refl, refl, refl, refl, refl, refl);
        place_3 = λ h. absurd (omega (arith, h));
        place_4 = λ h. absurd (omega (arith, h));
        place_5 = λ h. absurd (omega (arith, h));
        many_names = λ h. absurd (omega (arith, h));
        no_place = λ h k l. refl;
      }

not_not : (t : Bool) → not t ≡ false → t ≡ true
not_not true h = refl
not_not false h = absurd (true≢false h)

module _ (n : ℕ) (tags payloads names : List ℕ) (bytes room : ℕ) where
  abbrev differ : Bool
  differ = not (eqb (length tags) (length payloads))

  few : ltb most_words n ≡ false → n ≤ 32768
  few e = ltb-false most_words n e

  same : differ ≡ false → length tags ≡ length payloads
  same e = eqb-true (length tags) (length payloads) (not_not (eqb (length tags) (length payloads)) e)

  of_same : length tags ≡ length payloads → differ ≡ false
  of_same e = ap not (eq-eqb (length tags) (length payloads) e)

  unknown : Sought (unknown_tag_at tags) (UnknownAt n tags payloads names bytes room) (length tags)
  unknown = unknown_sought tags payloads names bytes

  string : Sought (string_past_at tags payloads bytes) (StringPastAt n tags payloads names bytes room) (length tags)
  string = string_sought tags payloads names bytes

  name : Sought (name_past_at names bytes) (NamePastAt n tags payloads names bytes room) (length names)
  name = name_sought tags payloads names bytes

  counted : ltb most_words n ≡ false → differ ≡ false → ltb most_constants (length tags) ≡ false → order.TablesCounted n tags payloads names bytes room
  counted a b c = (few a, (same b, ltb-false most_constants (length tags) c))

  pub order_of : Order n tags payloads names bytes room
  unfolding answer_of
  order_of =
      let b = by (first_unknown_tag tags) (first_string_past tags payloads bytes) (first_name_past names bytes)
      (ltb most_words n) differ (ltb most_constants (length tags))
      (ltb (first_unknown_tag tags) (length tags)) (ltb (first_string_past tags payloads bytes) (length tags))
      (ltb most_names (length names)) (ltb (first_name_past names bytes) (length names)) (ltb room n) in
      record {
        one = (λ h. ltb-true most_words n (b.one.0 h), λ h. b.one.1 (lt-ltb most_words n h));
        two = (
          λ h.
              let t = b.two.0 h in (
                few t.0,
                ⊎_elim
                    (λ e. inl (eqb-false (length tags) (length payloads)
                    (not_so (eqb (length tags) (length payloads)) e)))
                    (λ e. inr (ltb-true most_constants (length tags) e)) t.1,
              ),
          λ h.
              b.two.1 (
                le-ltb most_words n h.0,
                ⊎_elim (λ d. inl (ap not (ne_eqb (length tags) (length payloads) d)))
                    (λ d. inr (lt-ltb most_constants (length tags) d)) h.1,
              ),
        );
        three = (
          λ h.
              let t = b.three.0 h in (
                counted t.0 t.1 t.2,
                (first_unknown_tag tags, unknown.there t.3),
              ),
          λ h.
              b.three.1 (
                le-ltb most_words n h.0.0,
                of_same h.0.1.0,
                le-ltb most_constants (length tags) h.0.1.1,
                unknown.some h.1.0 h.1.1,
              ),
        );
        four = (
          λ h.
              let t = b.four.0 h in (
                (counted t.0 t.1 t.2, unknown.none t.3),
                (first_string_past tags payloads bytes, string.there t.4),
              ),
          λ h.
              let c = h.0.0 in
              b.four.1 (
                le-ltb most_words n c.0,
                of_same c.1.0,
                le-ltb most_constants (length tags) c.1.1,
                unknown.nowhere h.0.1,
                string.some h.1.0 h.1.1,
              ),
        );
        five = (
          λ h. let t = b.five.0 h in (
            ((counted t.0 t.1 t.2, unknown.none t.3), string.none t.4),
            ⊎_elim (λ e. inl (ltb-true most_names (length names) e))
                (λ e. inr (first_name_past names bytes, name.there e))
                t.5,
          ),
          λ h. let c = h.0.0.0 in
              b.five.1 (
                le-ltb most_words n c.0,
                of_same c.1.0,
                le-ltb most_constants (length tags) c.1.1,
                unknown.nowhere h.0.0.1,
                string.nowhere h.0.1,
                ⊎_elim (λ d. inl (lt-ltb most_names (length names) d)) (λ d. inr (name.some d.0 d.1)) h.1,
              ),
        );
        six = (
          λ h. let t = b.six.0 h in (
            (
              ((counted t.0 t.1 t.2, unknown.none t.3), string.none t.4),
              (ltb-false most_names (length names) t.5, name.none t.6),
            ),
            ltb-true room n t.7,
          ),
          λ h. let p = h.0.0 in let c = p.0.0 in
              b.six.1 (
                le-ltb most_words n c.0,
                of_same c.1.0,
                le-ltb most_constants (length tags) c.1.1,
                unknown.nowhere p.0.1,
                string.nowhere p.1,
                le-ltb most_names (length names) h.0.1.0,
                name.nowhere h.0.1.1,
                lt-ltb room n h.1,
              ),
        );
        accepted = (
          λ h. let t = b.accepted.0 h in (
            (
              ((counted t.0 t.1 t.2, unknown.none t.3), string.none t.4),
              (ltb-false most_names (length names) t.5, name.none t.6),
            ),
            ltb-false room n t.7,
          ),
          λ h. let p = h.0.0 in let c = p.0.0 in
              b.accepted.1 (
                le-ltb most_words n c.0,
                of_same c.1.0,
                le-ltb most_constants (length tags) c.1.1,
                unknown.nowhere p.0.1,
                string.nowhere p.1,
                le-ltb most_names (length names) h.0.1.0,
                name.nowhere h.0.1.1,
                le-ltb room n h.1,
              ),
        );
        place_3 = λ h.
            let e = sym (b.place_3 h) in (
              subst (UnknownAt n tags payloads names bytes room) e (unknown.there (b.three.0 h).3),
              λ i u. omega (arith, b.place_3 h, unknown.least i u),
            );
        place_4 = λ h.
            let e = sym (b.place_4 h) in (
              subst (StringPastAt n tags payloads names bytes room) e (string.there (b.four.0 h).4),
              λ i u. omega (arith, b.place_4 h, string.least i u),
            );
        place_5 = λ h l.
            let few_names = le-ltb most_names (length names) l in
            let e = sym (b.place_5 h few_names) in
            let t : ltb (first_name_past names bytes) (length names) ≡ true =
            ⊎_elim (λ d. absurd (true≢false (sym d ∙ few_names))) (λ d. d) (b.five.0 h).5 in (
              subst (NamePastAt n tags payloads names bytes room) e (name.there t),
              λ i u. omega (arith, b.place_5 h few_names, name.least i u),
            );
        many_names = λ h l. b.many_names h (lt-ltb most_names (length names) l);
        no_place = b.no_place;
      }
