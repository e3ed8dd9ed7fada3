-- Lines as the C finds them, and line after line. Assumes nothing.
use mathlib.Core.Path.{◌≡◌, refl, sym, ap, subst, ◌∙◌}
use mathlib.Core.Bool.{Bool, true, false, cond}
use mathlib.Core.List.{List, [], ◌∷◌}
use Prim.Native.Nat.{ℕ, zero, suc, ◌+◌, ◌-◌, ◌*◌, ◌/◌, ◌≤◌, ◌<◌, zero-le}
use native.Mathlib.Omega.{arith}
use native.Mathlib.Numerals.{add-one}
use lib.Dec.{ltb, leb, eqb}
use lib.ListN.{length, get_or, drop}
use lib.Seq.{drop-cons, get_or-drop}
use borrow.Author.Tests.{le-leb, lt-leb, ltb-true, ltb-false, eqb-true, eqb-false, ne_eqb}
use Rattle.lines.specs.Ldebug.{AbsLine, LineInfo, line_moved, most_without_abs, Base, base_at, no_abs, climb}
use Rattle.lines.specs.Ldebug.{getbaseline, walked, up_to, funcline, lines_from, lines_of, Rises}
use Rattle.lines.specs.Ldebug.{Estimated, Lines}

-- the last base that is not past pc, of those in a list that rises
abbrev base_by : ℕ → List AbsLine → Base → Base
base_by pc [] b = b
base_by pc (a ∷ xs) b = cond (leb a.pc pc) (base_by pc xs (base_at a)) b

-- an entry that is not past pc, and one that is
base_next : (pc : ℕ) (a : AbsLine) (xs : List AbsLine) (b : Base) → a.pc ≤ pc → base_by pc (a ∷ xs) b ≡ base_by pc xs (base_at a)
base_next pc a xs b h = rw (le-leb a.pc pc h)

base_stays : (pc low : ℕ) (xs : List AbsLine) (b : Base) → Rises low xs → pc < low → base_by pc xs b ≡ b
base_stays pc low [] b r h = refl
base_stays pc low (a ∷ xs) b r h = rw (lt-leb a.pc pc (omega (arith, r.0)))

-- The C's base is that one

-- an entry of a list that rises
above : (low : ℕ) (xs : List AbsLine) (i : ℕ) → Rises low xs → i < length xs → low ≤ (get_or xs i no_abs).pc
above low [] i r h = absurd (omega arith)
above low (a ∷ xs) zero r h = r.0
above low (a ∷ xs) (suc i) r h = let k = above (a.pc + 1) xs i r.1 (omega arith) in omega (arith, r.0, k)

-- from an entry that is not past pc on
base_from :
    (pc low : ℕ) (xs : List AbsLine) (i : ℕ) (b : Base) → Rises low xs → i < length xs → (get_or xs i no_abs).pc ≤ pc
    → base_by pc xs b ≡ base_by pc (drop (suc i) xs) (base_at (get_or xs i no_abs))
base_from pc low [] i b r h e = absurd (omega arith)
base_from pc low (a ∷ xs) zero b r h e = base_next pc a xs b e
base_from pc low (a ∷ xs) (suc i) b r h e =
    let k = above (a.pc + 1) xs i r.1 (omega arith) in
    base_next pc a xs b (omega (arith, k, e)) ∙ base_from pc (a.pc + 1) xs i (base_at a) r.1 (omega arith) e

-- the loop finds it: `entry` are the entries, and the list is what stands from j on
climbs :
    (pc : ℕ) (entry : ℕ → AbsLine) (xs : List AbsLine) (i : ℕ) → ((k : ℕ) → k < length xs → get_or xs k no_abs ≡ entry (suc i + k))
    → base_by pc xs (base_at (entry i)) ≡ base_at (entry (climb pc (suc i) xs - 1))
unfolding climb
climbs pc entry [] i h = ap (λ (k : ℕ). base_at (entry k)) (omega arith)
climbs pc entry (a ∷ xs) i h = go (leb a.pc pc) (climbs pc entry xs (suc i) (λ k l. h (suc k) (omega arith) ∙ ap entry (omega arith)))
  where
    here : a ≡ entry (suc i)
    here = h 0 (omega arith) ∙ ap entry (omega arith)

    go : (t : Bool) → base_by pc xs (base_at (entry (suc i))) ≡ base_at (entry (climb pc (suc (suc i)) xs - 1))
        → cond t (base_by pc xs (base_at a)) (base_at (entry i)) ≡ base_at (entry (cond t (climb pc (suc i + 1) xs) (suc i) - 1))
    go true k = ap (λ (x : AbsLine). base_by pc xs (base_at x)) here ∙ k ∙ ap (λ (x : ℕ). base_at (entry (climb pc x xs - 1))) (omega arith)
    go false k = ap (λ (x : ℕ). base_at (entry x)) (omega arith)

module _ (linedefined pc : ℕ) where
  abbrev first : Base
  first = record { from = 0; line = linedefined }

  module _ (a : AbsLine) (xs : List AbsLine) (r : Rises 0 (a ∷ xs)) (h : a.pc ≤ pc) where
    by_estimate :
        (q : ℕ) → ((i : ℕ) → suc i ≡ q → Estimated (a ∷ xs) pc i)
        → base_at (get_or (a ∷ xs) (climb pc q (drop q (a ∷ xs)) - 1) no_abs) ≡ base_by pc (a ∷ xs) first
    unfolding climb
    by_estimate zero e =
        rw (le-leb a.pc pc h)
        (sym (climbs pc (λ k. get_or (a ∷ xs) k no_abs) xs 0 (λ k l. let z : suc k ≡ suc 0 + k = omega arith in ap (λ (x : ℕ). get_or (a ∷ xs) x no_abs) z)))
    by_estimate (suc i) e =
        let s = e i refl in
        sym
        (base_from pc 0 (a ∷ xs) i first r s.there s.low
        ∙ climbs pc (λ k. get_or (a ∷ xs) k no_abs) (drop (suc i) (a ∷ xs)) i
        (λ k l. get_or-drop (suc i) (a ∷ xs) k no_abs))

  base_is :
      (abs : List AbsLine) → Rises 0 abs
      → ((i : ℕ) → suc i ≡ pc / most_without_abs → 0 < length abs → (get_or abs 0 no_abs).pc ≤ pc → Estimated abs pc i)
      → getbaseline linedefined abs pc ≡ base_by pc abs first
  unfolding getbaseline
  base_is [] r e = refl
  base_is (a ∷ xs) r e = go (ltb pc a.pc) refl
    where
      go : (t : Bool) → ltb pc a.pc ≡ t
          → cond t first (base_at (get_or (a ∷ xs) (climb pc (pc / most_without_abs) (drop (pc / most_without_abs) (a ∷ xs)) - 1) no_abs)) ≡ base_by pc (a ∷ xs) first
      go true h = let l = ltb-true pc a.pc h in rw (lt-leb a.pc pc l)
      go false h = let l = ltb-false pc a.pc h in by_estimate a xs r l (pc / most_without_abs) (λ i d. e i d (omega arith) l)

-- Line after line is the walk from that base
abbrev base : ℕ → ℕ → Base
base pc line = record { from = pc; line = line }

module _ (info : List ℕ) where
  -- the line, a byte further
  abbrev line_at : ℕ → ℕ → ℕ
  line_at line pc = line_moved line (get_or info pc 0)

  -- the walk, a step further
  walk_on : (t pc line : ℕ) → pc ≤ t → up_to info t (base pc line) ≡ up_to info t (base (pc + 1) (line_at line pc))
  unfolding walked
  walk_on t pc line h = let z : t + 1 - pc ≡ suc (t + 1 - (pc + 1)) = omega arith in ap (λ (k : ℕ). walked k info pc line) z

  own_step : (t pc line : ℕ) (xs : List AbsLine) → pc ≤ t
      → up_to info t (base_by t xs (base pc line)) ≡ up_to info t (base_by t xs (base (pc + 1) (line_at line pc)))
  own_step t pc line [] h = walk_on t pc line h
  own_step t pc line (a ∷ xs) h = go (leb a.pc t)
    where
      go : (b : Bool)
          → up_to info t (cond b (base_by t xs (base_at a)) (base pc line)) ≡ up_to info t
          (cond b (base_by t xs (base_at a)) (base (pc + 1) (line_at line pc)))
      go true = refl
      go false = walk_on t pc line h

  -- at the base's own instruction
  head_is : (t pc m : ℕ) (xs : List AbsLine) → Rises (pc + 1) xs → t ≡ pc → up_to info t (base_by t xs (base (pc + 1) m)) ≡ m
  unfolding walked
  head_is t pc m xs r e =
      let z : t + 1 - (pc + 1) ≡ 0 = omega arith in
      ap (up_to info t) (base_stays t (pc + 1) xs (base (pc + 1) m) r (omega arith)) ∙ ap (λ (k : ℕ). walked k info (pc + 1) m) z

  -- lines are those of the walk, for n instructions from pc on
  abbrev Right : ℕ → ℕ → Type 0
  Right n pc =
      (line : ℕ) (xs : List AbsLine) → Rises pc xs → (k t : ℕ) → pc + k ≡ t → t < length info → k < n
      → get_or (lines_from n line pc xs (drop pc info)) k 0 ≡ up_to info t (base_by t xs (base pc line))

  one_more :
      (n pc : ℕ) → Right n (pc + 1) → (m : ℕ) (xs : List AbsLine) → Rises (pc + 1) xs → (k t : ℕ) → pc + k ≡ t → t < length info → k < suc n
      → get_or (m ∷ lines_from n m (pc + 1) xs (drop (pc + 1) info)) k 0 ≡ up_to info t (base_by t xs (base (pc + 1) m))
  one_more n pc rec m xs r zero t e l h = sym (head_is t pc m xs r (omega arith))
  one_more n pc rec m xs r (suc k) t e l h = rec m xs r k t (omega arith) l (omega arith)

  module _ (n pc : ℕ) (rec : Right n (pc + 1)) (line k t : ℕ) (e : pc + k ≡ t) (l : t < length info) (h : k < suc n) where
    by_byte : (xs : List AbsLine) → Rises (pc + 1) xs
        → get_or
        (line_at line pc ∷ lines_from n (line_at line pc) (pc + 1) xs (drop (pc + 1) info))
        k 0
        ≡ up_to info t (base_by t xs (base pc line))
    by_byte xs r = one_more n pc rec (line_at line pc) xs r k t e l h ∙ sym (own_step t pc line xs (omega arith))

    by_abs : (a : AbsLine) (xs : List AbsLine) → a.pc ≡ pc → Rises (a.pc + 1) xs
        → get_or (a.line ∷ lines_from n a.line (pc + 1) xs (drop (pc + 1) info)) k 0 ≡ up_to info t (base_by t (a ∷ xs) (base pc line))
    by_abs a xs d r =
        one_more n pc rec a.line xs (subst (λ (x : ℕ). Rises (x + 1) xs) d r) k t e l h
        ∙ ap (λ (x : ℕ). up_to info t (base_by t xs (base (x + 1) a.line))) (sym d)
        ∙ ap (up_to info t) (sym (base_next t a xs (base pc line) (omega arith)))

    either : (a : AbsLine) (xs : List AbsLine) → Rises pc (a ∷ xs) → (b : Bool) → eqb a.pc pc ≡ b
        → get_or
        (cond b (a.line ∷ lines_from n a.line (pc + 1) xs (drop (pc + 1) info))
        (line_at line pc ∷ lines_from n (line_at line pc) (pc + 1) (a ∷ xs) (drop (pc + 1) info)))
        k 0
        ≡ up_to info t (base_by t (a ∷ xs) (base pc line))
    either a xs r true d = by_abs a xs (eqb-true a.pc pc d) r.1
    either a xs r false d = let x = eqb-false a.pc pc d in by_byte (a ∷ xs) (past r.0 x, r.1)
      where
        past : pc ≤ a.pc → (a.pc ≡ pc → ⊥) → pc + 1 ≤ a.pc
        past u v = omega arith

    byte_here : drop pc info ≡ get_or info pc 0 ∷ drop (pc + 1) info
    byte_here = drop-cons info pc 0 (omega arith) ∙ ap (λ (j : ℕ). get_or info pc 0 ∷ drop j info) (sym (add-one pc))

  right : (n pc : ℕ) → Right n pc
  unfolding lines_from
  right zero pc line xs r k t e l h = absurd (omega arith)
  right (suc n) pc line [] r k t e l h = rw (byte_here n pc (right n (pc + 1)) line k t e l h) (by_byte n pc (right n (pc + 1)) line k t e l h [] tt)
  right (suc n) pc line (a ∷ xs) r k t e l h =
      rw (byte_here n pc (right n (pc + 1)) line k t e l h) (either n pc (right n (pc + 1)) line k t e l h a xs r (eqb a.pc pc) refl)

agree :
    (f : LineInfo) (n pc : ℕ) → pc < n → pc < length f.lineinfo → Rises 0 f.abslineinfo
    → ((i : ℕ) → suc i ≡ pc / most_without_abs → 0 < length f.abslineinfo → (get_or f.abslineinfo 0 no_abs).pc ≤ pc → Estimated f.abslineinfo pc i)
    → get_or (lines_of f n) pc 0 ≡ funcline f pc
unfolding lines_of funcline
agree f n pc h l r e =
    rw (ne_eqb (length f.lineinfo) 0 (λ z. omega arith), base_is f.linedefined pc f.abslineinfo r e)
    (right f.lineinfo n 0 f.linedefined f.abslineinfo r pc pc (omega arith) l h)

-- where there is no byte
no_line : (n line pc : ℕ) (xs : List AbsLine) (bs : List ℕ) (k : ℕ) → length bs ≤ k → get_or (lines_from n line pc xs bs) k 0 ≡ 0
unfolding lines_from
no_line zero line pc xs bs k h = refl
no_line (suc n) line pc xs [] zero h = refl
no_line (suc n) line pc xs [] (suc k) h = no_line n line (pc + 1) xs [] k zero-le
no_line (suc n) line pc [] (b ∷ bs) zero h = absurd (omega arith)
no_line (suc n) line pc [] (b ∷ bs) (suc k) h = no_line n (line_moved line b) (pc + 1) [] bs k (omega arith)
no_line (suc n) line pc (a ∷ xs) (b ∷ bs) zero h = absurd (omega arith)
no_line (suc n) line pc (a ∷ xs) (b ∷ bs) (suc k) h =
    go (eqb a.pc pc) (no_line n a.line (pc + 1) xs bs k (omega arith)) (no_line n (line_moved line b) (pc + 1) (a ∷ xs) bs k (omega arith))
  where
    go : (t : Bool) → get_or (lines_from n a.line (pc + 1) xs bs) k 0 ≡ 0 → get_or (lines_from n (line_moved line b) (pc + 1) (a ∷ xs) bs) k 0 ≡ 0
        → get_or (cond t (a.line ∷ lines_from n a.line (pc + 1) xs bs) (line_moved line b ∷ lines_from n (line_moved line b) (pc + 1) (a ∷ xs) bs)) (suc k) 0 ≡ 0
    go true x y = x
    go false x y = y

pub lines_count : (n line pc : ℕ) (xs : List AbsLine) (bs : List ℕ) → length (lines_from n line pc xs bs) ≡ n
unfolding lines_from
lines_count zero line pc xs bs = refl
lines_count (suc n) line pc xs [] = ap suc (lines_count n line (pc + 1) xs [])
lines_count (suc n) line pc [] (b ∷ bs) = ap suc (lines_count n (line_moved line b) (pc + 1) [] bs)
lines_count (suc n) line pc (a ∷ xs) (b ∷ bs) =
    go (eqb a.pc pc) (lines_count n a.line (pc + 1) xs bs)
    (lines_count n (line_moved line b) (pc + 1) (a ∷ xs) bs)
  where
    go : (t : Bool) → length (lines_from n a.line (pc + 1) xs bs) ≡ n → length (lines_from n (line_moved line b) (pc + 1) (a ∷ xs) bs) ≡ n
        → length (cond t (a.line ∷ lines_from n a.line (pc + 1) xs bs) (line_moved line b ∷ lines_from n (line_moved line b) (pc + 1) (a ∷ xs) bs)) ≡ suc n
    go true x y = ap suc x
    go false x y = ap suc y

-- a byte adds 127 at the most
pub moved_most : (line b : ℕ) → line_moved line b ≤ line + 127
unfolding line_moved
moved_most line b = go (ltb b 128) refl
  where
    go : (t : Bool) → ltb b 128 ≡ t → cond t (line + b) (line - (256 - b)) ≤ line + 127
    go true h = let l = ltb-true b 128 h in omega arith
    go false h = omega arith

abbrev AllAtMost : ℕ → List AbsLine → Type 0
AllAtMost most xs = (i : ℕ) → i < length xs → (get_or xs i no_abs).line ≤ most

bounded : (n line pc : ℕ) (xs : List AbsLine) (bs : List ℕ) (k most i : ℕ) → line ≤ most + 127 * i → AllAtMost most xs
    → get_or (lines_from n line pc xs bs) k 0 ≤ most + 127 * (i + n)
unfolding lines_from
bounded zero line pc xs bs k most i h a = zero-le
bounded (suc n) line pc xs [] zero most i h a = zero-le
bounded (suc n) line pc xs [] (suc k) most i h a = let r = bounded n line (pc + 1) xs [] k most i h a in omega arith
bounded (suc n) line pc [] (b ∷ bs) zero most i h a = let m = moved_most line b in omega arith
bounded (suc n) line pc [] (b ∷ bs) (suc k) most i h a =
    let m = moved_most line b in
    let r = bounded n (line_moved line b) (pc + 1) [] bs k most (i + 1) (omega arith) a in
    omega arith
bounded (suc n) line pc (x ∷ xs) (b ∷ bs) zero most i h a = go (eqb x.pc pc)
  where
    go : (t : Bool)
        → get_or
        (cond t (x.line ∷ lines_from n x.line (pc + 1) xs bs)
        (line_moved line b ∷ lines_from n (line_moved line b) (pc + 1) (x ∷ xs) bs))
        0 0
        ≤ most + 127 * (i + suc n)
    go true = let u = a 0 (omega arith) in omega arith
    go false = let m = moved_most line b in omega arith
bounded (suc n) line pc (x ∷ xs) (b ∷ bs) (suc k) most i h a =
    let m = moved_most line b in
    let u = a 0 (omega arith) in
    go (eqb x.pc pc)
    (bounded n x.line (pc + 1) xs bs k most i (omega arith) (λ j l. a (suc j) (omega arith)))
    (bounded n (line_moved line b) (pc + 1) (x ∷ xs) bs k most (i + 1) (omega arith) a)
  where
    go : (t : Bool) → get_or (lines_from n x.line (pc + 1) xs bs) k 0 ≤ most + 127 * (i + n)
        → get_or (lines_from n (line_moved line b) (pc + 1) (x ∷ xs) bs) k 0 ≤ most + 127 * (i + 1 + n)
        → get_or
        (cond t (x.line ∷ lines_from n x.line (pc + 1) xs bs)
        (line_moved line b ∷ lines_from n (line_moved line b) (pc + 1) (x ∷ xs) bs))
        (suc k) 0
        ≤ most + 127 * (i + suc n)
    go true p q = omega arith
    go false p q = omega arith

pub lines : Lines
unfolding lines_of
lines =
    record {
      agree = agree;
      none = λ f n pc h. no_line n f.linedefined 0 f.abslineinfo f.lineinfo pc h;
      count = λ f n. lines_count n f.linedefined 0 f.abslineinfo f.lineinfo;
      bounded =
          λ f n pc most d a.
          let r = bounded n f.linedefined 0 f.abslineinfo f.lineinfo pc most 0 (omega arith) a in
          let z : 0 + n ≡ n = omega arith in
          rw z at r;
    }
