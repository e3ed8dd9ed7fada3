-- The lines of a function, word after word. Assumes nothing.
use Rattle.std.proofs.Common.{◌≡◌, ℕ, zero, suc, ◌+◌, ◌-◌, ◌*◌, ◌/◌, ◌%◌, ◌≤◌, ◌<◌, Bool, true, false, cond, List, [], ◌∷◌, ◌++◌}
use Rattle.std.proofs.Common.{Some, None, Ok, Err, length, get_or, take, drop, set, ltb, leb, refl, sym, ap, ◌∙◌, arith}
use Rattle.std.proofs.Common.{append_assoc, append-nil, take_all, add-one, length-set, drop-cons, drop_of_length-le}
use mathlib.Core.Bool.{false≢true, true≢false}
use Prim.Native.Nat.{zero-le}
use borrow.Author.Tests.{ltb-true, eq-eqb, ne_eqb}
use Rattle.std.proofs.lemmas.List.{take_more_set}
use Rattle.std.specs.Result.{result_ok, result_unwrap_or}
use Rattle.common.specs.Limits.{most_words, int_max}
use Rattle.common.specs.declared.refusal.Refusal.{Refusal}
use Rattle.lines.specs.declared.lines.AbsLeft.{AbsLeft}
use Rattle.lines.specs.declared.lines.LinePlaces.{LinePlaces}
use Rattle.loaders.specs.Reading.{Outcome, bind, only, and_then, read_as}
use Rattle.loaders.specs.Loaders.{unsigned_from, load_unsigned, Text, load_int, load_string_n}
use Rattle.loaders.proofs.Same.{same_value, was, was_refused}
use Rattle.lines.specs.Ldebug.{AbsLine, LineInfo, line_moved, lines_from, lines_of}
use Rattle.lines.specs.Lines.{or_none, defined_at, read_info, read_abs, abs_from, and_more, abs_behind, info_behind}
use Rattle.lines.specs.Lines.{span_of, line_info_at, next_abs, Placed, LineTurns}
use Rattle.lines.proofs.Ldebug.{moved_most}

-- ---- no number that is read passes its limit
is_done : {A : Type 0} → Outcome A → Bool
is_done (Ok (a, at)) = true
is_done (Err e) = false

unsigned_most : (limit x at : ℕ) (bs : List ℕ) (v past : ℕ) → unsigned_from (limit / 128) x at bs ≡ Ok (v, past) → v ≤ limit
unfolding unsigned_from is_done
unsigned_most limit x at [] v past e = absurd (false≢true (ap is_done e))
unsigned_most limit x at (b ∷ bs) v past e =
    go (ltb x (limit / 128)) (leb 128 b) refl (unsigned_most limit (x * 128 + b % 128) (at + 1) bs v past) e
  where
    go : (s t : Bool) → ltb x (limit / 128) ≡ s → (unsigned_from (limit / 128) (x * 128 + b % 128) (at + 1) bs ≡ Ok (v, past) → v ≤ limit)
        → only s (cond t (Ok (x * 128 + b % 128, at + 1)) (unsigned_from (limit / 128) (x * 128 + b % 128) (at + 1) bs)) ≡ Ok (v, past) → v ≤ limit
    go true true h r d = let k : x * 128 + b % 128 ≡ v = same_value (x * 128 + b % 128) v (at + 1) past d in let l = ltb-true x (limit / 128) h in omega arith
    go true false h r d = r d
    go false t h r d = absurd (true≢false (cc))

int_most : (bytes : List ℕ) (at v past : ℕ) → load_int bytes at ≡ Ok (v, past) → v ≤ int_max
unfolding load_unsigned
int_most bytes at v past e = unsigned_most int_max 0 at (drop at bytes) v past e

-- ---- the next absolute line
module _ (left : ℕ) (bytes : List ℕ) (at : ℕ) where
  pub none_left : left ≡ 0 → next_abs left bytes at ≡ None
  unfolding next_abs
  none_left z = rw z

  pub some_left : (left ≡ 0 → ⊥) → next_abs left bytes at ≡ result_ok (read_abs bytes at)
  unfolding next_abs
  some_left z = go left z
    where
      go : (n : ℕ) → (n ≡ 0 → ⊥) → next_abs n bytes at ≡ result_ok (read_abs bytes at)
      go zero z = absurd (z refl)
      go (suc n) z = refl

-- ---- one line
abs_low : (bytes : List ℕ) (at : ℕ) (a : AbsLine) (past : ℕ) → read_abs bytes at ≡ Ok (a, past) → a.line ≤ int_max
unfolding read_abs
abs_low bytes at a past e = first (load_int bytes at) e
  where
    second : (pc : ℕ) (X : Outcome ℕ) (middle : ℕ) → load_int bytes middle ≡ X
        → bind X (λ line at₂. Ok (record { pc = pc; line = line }, at₂)) ≡ Ok (a, past) → a.line ≤ int_max
    second pc (Ok (line, p)) middle h d =
        let k : line ≡ a.line = ap (λ (x : AbsLine). x.line) (same_value (record { pc = pc; line = line }) a p past d) in
        let m = int_most bytes middle line p h in
        omega arith
    second pc (Err x) middle h d = absurd (cc)

    first : (X : Outcome ℕ)
        → bind X (λ pc at₁. bind (load_int bytes at₁) (λ line at₂. Ok (record { pc = pc; line = line }, at₂))) ≡ Ok (a, past)
        → a.line ≤ int_max
    first (Ok (pc, middle)) d = second pc (load_int bytes middle) middle refl d
    first (Err x) d = absurd (cc)

abs_ends : (bytes : List ℕ) (left at : ℕ) → next_abs left bytes at ≡ None → abs_from left bytes at ≡ []
unfolding next_abs abs_from
abs_ends bytes zero at e = refl
abs_ends bytes (suc n) at e = go (read_abs bytes at) e
  where
    go : (X : Outcome AbsLine) → result_ok X ≡ None → and_more X (λ at₁. abs_from n bytes at₁) ≡ []
    go (Ok p) d = absurd (cc)
    go (Err x) d = refl

record Next (bytes : List ℕ) (left at : ℕ) (a : AbsLine) (past : ℕ) : Type 0 where
  some : 0 < left
  abs : abs_from left bytes at ≡ a ∷ abs_from (left - 1) bytes past
  low : a.line ≤ int_max

abs_next : (bytes : List ℕ) (left at : ℕ) (a : AbsLine) (past : ℕ) → next_abs left bytes at ≡ Some (a, past) → Next bytes left at a past
unfolding next_abs abs_from
abs_next bytes zero at a past e = absurd (cc)
abs_next bytes (suc n) at a past e = go (read_abs bytes at) refl e
  where
    go : (X : Outcome AbsLine) → read_abs bytes at ≡ X → result_ok X ≡ Some (a, past) → Next bytes (suc n) at a past
    go (Err x) h d = absurd (cc)
    go (Ok p) h d =
        let w : p ≡ (a, past) = cc in
        let r : read_abs bytes at ≡ Ok (a, past) = h ∙ ap (λ (x : AbsLine × ℕ). Ok x) w in
        let q : suc n - 1 ≡ n = omega arith in
        record { some = omega arith; abs = rw (q, r); low = abs_low bytes at a past r }

zero_line : (m line i : ℕ) (xs : List AbsLine) → lines_from (suc m) line i xs [] ≡ 0 ∷ lines_from m line (i + 1) xs []
unfolding lines_from
zero_line m line i xs = refl

last_line : (m line i b : ℕ) (bs : List ℕ) → lines_from (suc m) line i [] (b ∷ bs) ≡ line_moved line b ∷ lines_from m (line_moved line b) (i + 1) [] bs
unfolding lines_from
last_line m line i b bs = refl

own_line : (m line i pc own : ℕ) (xs : List AbsLine) (b : ℕ) (bs : List ℕ) → pc ≡ i
    → lines_from (suc m) line i (record { pc = pc; line = own } ∷ xs) (b ∷ bs) ≡ own ∷ lines_from m own (i + 1) xs bs
unfolding lines_from
own_line m line i pc own xs b bs z = rw (eq-eqb pc i z)

moved_line : (m line i pc own : ℕ) (xs : List AbsLine) (b : ℕ) (bs : List ℕ) → (pc ≡ i → ⊥)
    → lines_from (suc m) line i (record { pc = pc; line = own } ∷ xs) (b ∷ bs) ≡ line_moved line b
    ∷ lines_from m (line_moved line b) (i + 1) (record { pc = pc; line = own } ∷ xs) bs
unfolding lines_from
moved_line m line i pc own xs b bs z = rw (ne_eqb pc i z)

module _ (bytes : List ℕ) (b line i : ℕ) (abs : AbsLeft) where
  -- so that one fewer is left
  pub next_some : (p : AbsLine × ℕ) → next_abs abs.left bytes abs.at ≡ Some p → 0 < abs.left
  next_some p e = (abs_next bytes abs.left abs.at p.0 p.1 e).some

  pub turn_own : (own : AbsLine) (past : ℕ) → next_abs abs.left bytes abs.at ≡ Some (own, past) → own.pc ≡ i
      → LineTurns bytes b line i abs (own.line, record { at = past; left = abs.left - 1 })
  turn_own own past e z =
      let x = abs_next bytes abs.left abs.at own past e in
      record {
        each = λ m bs. rw x.abs (own_line m line i own.pc own.line (abs_from (abs.left - 1) bytes past) b bs z);
        low = λ most u v. omega (arith, x.low);
      }

  moved_low : (mv : ℕ) → mv ≡ line_moved line b → (most : ℕ) → int_max ≤ most → line ≤ most → mv ≤ most + 127
  moved_low mv e most u v = let k = moved_most line b in omega (arith, e, k)

  pub turn_move : (own : AbsLine) (past mv : ℕ) → next_abs abs.left bytes abs.at ≡ Some (own, past) → (own.pc ≡ i → ⊥) → mv ≡ line_moved line b
      → LineTurns bytes b line i abs (mv, abs)
  turn_move own past mv e z em =
      let x = abs_next bytes abs.left abs.at own past e in
      record {
        each = λ m bs. rw (x.abs, em) (moved_line m line i own.pc own.line (abs_from (abs.left - 1) bytes past) b bs z);
        low = moved_low mv em;
      }

  pub turn_end : (mv : ℕ) → next_abs abs.left bytes abs.at ≡ None → mv ≡ line_moved line b → LineTurns bytes b line i abs (mv, abs)
  turn_end mv e em =
      record {
        each = λ m bs. rw (abs_ends bytes abs.left abs.at e, em) (last_line m line i b bs);
        low = moved_low mv em;
      }

-- ---- all lines
pub record Storing (bytes part : List ℕ) (defined n : ℕ) (abs₀ : AbsLeft) (out : List ℕ) (line : ℕ) (abs : AbsLeft) (i : ℕ) : Type 0 where
  pub upto : i ≤ n
  pub few : n ≤ most_words
  pub equal : length out ≡ n
  pub low : line ≤ int_max + 127 * i
  pub whole : lines_from n defined 0 (abs_from abs₀.left bytes abs₀.at) part
      ≡ take i out ++ lines_from (n - i) line i (abs_from abs.left bytes abs.at) (drop i part)

module _ (bytes part : List ℕ) (defined n : ℕ) (abs₀ : AbsLeft) where
  pub storing_none : (out : List ℕ) → length out ≡ n → n ≤ most_words → defined ≤ int_max
      → Storing bytes part defined n abs₀ out defined abs₀ 0
  storing_none out e f d =
      let z : n - 0 ≡ n = omega arith in
      record { upto = omega arith; few = f; equal = e; low = omega arith; whole = rw z }

  module _ {out : List ℕ} {line : ℕ} {abs : AbsLeft} {i : ℕ} (s : Storing bytes part defined n abs₀ out line abs i) where
    pub storing_low : line ≤ 4294967295
    storing_low = omega (arith, s.low, s.upto, s.few)

    -- one more, shown
    more : (h : i < n) (shown line' : ℕ) (abs' : AbsLeft) → line' ≤ int_max + 127 * i + 127
        → ((m : ℕ) → lines_from (suc m) line i (abs_from abs.left bytes abs.at) (drop i part)
        ≡ shown ∷ lines_from m line' (i + 1) (abs_from abs'.left bytes abs'.at) (drop (i + 1) part))
        → Storing bytes part defined n abs₀ (set out i shown) line' abs' (i + 1)
    more h shown line' abs' l each =
        let y : n - i ≡ suc (n - (i + 1)) = omega arith in
        let k : i < length out = omega (arith, s.equal) in
        record {
          upto = omega arith;
          few = s.few;
          equal = length-set out i shown ∙ s.equal;
          low = omega arith;
          whole =
              s.whole
              ∙ ap (λ (x : ℕ). take i out ++ lines_from x line i (abs_from abs.left bytes abs.at) (drop i part)) y
              ∙ ap (λ (xs : List ℕ). take i out ++ xs) (each (n - (i + 1)))
              ∙ sym (append_assoc (take i out) (shown ∷ []) (lines_from (n - (i + 1)) line' (i + 1) (abs_from abs'.left bytes abs'.at) (drop (i + 1) part)))
              ∙ ap (λ (xs : List ℕ). xs ++ lines_from (n - (i + 1)) line' (i + 1) (abs_from abs'.left bytes abs'.at) (drop (i + 1) part))
              (sym (take_more_set out i shown k));
        }

    -- a word that has a byte
    module _ (h : i < n) (b : ℕ) (l : i < length part) (eb : b ≡ get_or part i 0) (r : ℕ × AbsLeft) (t : LineTurns bytes b line i abs r) where
      pub shown_low : r.0 < 4294967296
      shown_low = let k = t.low (int_max + 127 * i) (omega arith) s.low in omega (arith, k, s.few)

      byte_there : drop i part ≡ b ∷ drop (i + 1) part
      byte_there = rw add-one (drop-cons part i 0 l ∙ ap (λ (x : ℕ). x ∷ drop (suc i) part) (sym eb))

      pub storing_line : Storing bytes part defined n abs₀ (set out i r.0) r.0 r.1 (i + 1)
      storing_line =
          more h r.0 r.0 r.1 (t.low (int_max + 127 * i) (omega arith) s.low)
          (λ m. rw byte_there (t.each m (drop (i + 1) part)))

    -- one that has none
    pub storing_zero : i < n → length part ≤ i → Storing bytes part defined n abs₀ (set out i 0) line abs (i + 1)
    storing_zero h l =
        let l' : length part ≤ i + 1 = omega arith in
        let d : drop i part ≡ [] = drop_of_length-le part l in
        let d' : drop (i + 1) part ≡ [] = drop_of_length-le part l' in
        more h 0 line abs (omega (arith, s.low)) (λ m. rw (d, d') (zero_line m line i (abs_from abs.left bytes abs.at)))

    pub storing_done : n ≤ i → out ≡ lines_from n defined 0 (abs_from abs₀.left bytes abs₀.at) part
    unfolding lines_from
    storing_done h =
        let z : n - i ≡ 0 = omega arith in
        let y : length out ≤ i = omega (arith, s.equal) in
        sym (s.whole
        ∙ ap (λ (x : ℕ). take i out ++ lines_from x line i (abs_from abs.left bytes abs.at) (drop i part)) z
        ∙ append-nil (take i out) ∙ take_all i out y)

-- ---- where they stand
module _ (bytes : List ℕ) (at : ℕ) where
  pub placed_none : (e : Refusal) (p : LinePlaces) → read_as span_of (read_info bytes at) ≡ Err e → p.lineinfo.now ≡ [] → p.abs.left ≡ 0
      → Placed bytes at p
  unfolding abs_from
  placed_none e p h k l = record { info = λ d. rw (was_refused span_of (read_info bytes at) e h, k, l) }

  pub placed_there : (start n behind : ℕ) (p : LinePlaces) → read_as span_of (read_info bytes at) ≡ Ok ((start, n), behind)
      → p.lineinfo.now ≡ take n (drop start bytes) → (p.abs.left, p.abs.at) ≡ result_unwrap_or (load_int bytes behind) (0, 0)
      → Placed bytes at p
  unfolding abs_from
  placed_there start n behind p h k l =
      let w = was span_of (read_info bytes at) (start, n) behind h in
      let a : w.value.start ≡ start = ap (λ (x : ℕ × ℕ). x.0) w.gives in
      let b : w.value.count ≡ n = ap (λ (x : ℕ × ℕ). x.1) w.gives in
      record { info = λ d. rw (w.is, a, b, ← k) (ap (λ (xs : List AbsLine). record { linedefined = d; lineinfo = p.lineinfo.now; abslineinfo = xs }) (left_abs (load_int bytes behind) l)) }
    where
      left_abs : (X : Outcome ℕ) → (p.abs.left, p.abs.at) ≡ result_unwrap_or X (0, 0) → abs_behind bytes X ≡ abs_from p.abs.left bytes p.abs.at
      left_abs (Ok (left, abs)) e = rw (ap (λ (x : ℕ × ℕ). x.0) e, ap (λ (x : ℕ × ℕ). x.1) e)
      left_abs (Err x) e = rw (ap (λ (x : ℕ × ℕ). x.0) e)

-- ---- linedefined
module _ (bytes : List ℕ) (at : ℕ) where
  pub defined_is : (v : ℕ × ℕ) → v ≡ result_unwrap_or (and_then load_string_n load_int bytes at) (0, 0) → v.0 ≡ defined_at bytes at
  unfolding defined_at
  defined_is v e = ap (λ (x : ℕ × ℕ). x.0) e ∙ go (and_then load_string_n load_int bytes at)
    where
      go : (X : Outcome ℕ) → (result_unwrap_or X (0, 0)).0 ≡ or_none X
      go (Ok (n, past)) = refl
      go (Err x) = refl

  pub defined_low : defined_at bytes at ≤ int_max
  unfolding defined_at
  defined_low = first (load_string_n bytes at)
    where
      second : (X : Outcome ℕ) (at₁ : ℕ) → load_int bytes at₁ ≡ X → or_none X ≤ int_max
      second (Ok (v, p)) at₁ h = int_most bytes at₁ v p h
      second (Err e) at₁ h = zero-le

      first : (X : Outcome Text) → or_none (bind X (λ _ at₁. load_int bytes at₁)) ≤ int_max
      first (Ok (t, at₁)) = second (load_int bytes at₁) at₁ refl
      first (Err e) = zero-le

-- ---- the function that is filled
pub lines_placed : (bytes : List ℕ) (first_at lines_at n v : ℕ) (p : LinePlaces) → v ≡ defined_at bytes first_at → Placed bytes lines_at p
    → lines_from n v 0 (abs_from p.abs.left bytes p.abs.at) p.lineinfo.now ≡ lines_of (line_info_at bytes first_at lines_at) n
unfolding line_info_at lines_of
lines_placed bytes first_at lines_at n v p e q =
    ap (λ (f : LineInfo). lines_of f n) (sym (q.info v) ∙ ap (λ (d : ℕ). info_behind d bytes (read_info bytes lines_at)) e)
