-- How long a line is, its columns put one after another, and the line of what was chosen. Assumes nothing.
use mathlib.Core.Path.{◌≡◌, refl, sym, ◌∙◌, ap}
use mathlib.Core.List.{List, [], ◌++◌}
use Prim.Native.Nat.{ℕ, zero, suc, ◌+◌, ◌≤◌}
use native.Mathlib.Omega.{arith}
use lib.ListN.{length, take, length-append}
use Rattle.common.specs.Limits.{most_words}
use Rattle.common.specs.Lists.{put}
use Rattle.common.proofs.Put.{put_laws}
use Rattle.common.specs.Refusals.{refusal_number, refusal_place}
use Rattle.runs.specs.Run.{Run, accepted_run}
use Rattle.std.specs.Prelude.{Option, Some, None}
use Rattle.sheet.specs.Rows.{cell_of, pair_of}
use Rattle.sheet.proofs.Laws.{laws as sheet-laws}
use Rattle.lundump.specs.declared.counts.Counts.{Counts}
use Rattle.common.specs.declared.refusal.Refusal.{Refusal}
use Rattle.common.specs.declared.refusal.Refusal.TheVariants.{TooManyWords, ConstantCount, UnknownTag, StringPastBytes, Names, ShortSlice, NoWords, ReachesInvalid, NoStep, ForeignMeter, MalformedLine, TooManyLines, HeaderDiffers, MalformedChunk, TooDeep, UnsetRegister, WeightsRefused, LowAboveHigh, NoScript, BudgetRange, OverBudget, OutOfRange}
use Rattle.std.proofs.Common.{Ok, Err}
use Rattle.loaders.specs.Reading.{Outcome}
use Rattle.lundump.specs.Lundump.{Function}
use Rattle.lundump.specs.Chunk.{chosen, counts_of, words_of, words_room, filled, after}
use Rattle.chunk.specs.Laws.{CountsWithin}
use Rattle.chunk.proofs.Laws.{laws}
use Rattle.survey.specs.Lines.{line_head, tail_of, only_of, function_text, run_in, function_line}

-- ---- lengths
length_both : (xs ys : List ℕ) (m n k : ℕ) → length xs ≡ m → length ys ≡ n → m + n ≡ k → length (xs ++ ys) ≡ k
length_both xs ys m n k a b e = length-append xs ys ∙ rw (a, b) e

length_four : (a b c d : Option ℕ) → length (cell_of a ++ cell_of b ++ cell_of c ++ cell_of d) ≡ 24
length_four a b c d = simp (length-append, sheet-laws.cell)

pub length_head : (k : ℕ) (c : Counts) → length (line_head k c) ≡ 24
unfolding line_head
length_head k c = length_four (Some k) (Some c.words) (Some c.constants) (Some c.names)

pub length_accepted : (longest first : ℕ) → length (tail_of (accepted_run longest first)) ≡ 13
unfolding tail_of
length_accepted longest first = sheet-laws.pair longest first

pub length_refused : (e : Refusal) → length (tail_of (Err e)) ≡ 25
unfolding tail_of
length_refused e = simp (length-append, sheet-laws.cell, sheet-laws.pair)

pub length_tail : (run : Run) → length (tail_of run) ≤ 25
length_tail (Ok run) = omega (arith, length_accepted run.longest run.first)
length_tail (Err e) = omega (arith, length_refused e)

pub length_only : (k number place : ℕ) → length (only_of k number place) ≤ 13
unfolding only_of
length_only zero number place = omega (arith, sheet-laws.pair number place)
length_only (suc k) number place = omega arith

-- ---- the columns one after another
module _ (l o₁ o₂ : List ℕ) where
  -- two cells, or a cell after those before it
  pub one_more : (at n : ℕ) (xs : List ℕ) (c : Option ℕ) → o₁ ≡ put l at xs → length xs ≡ n → at + (n + 6) ≤ length l
      → o₂ ≡ put o₁ (at + n) (cell_of c) → o₂ ≡ put l at (xs ++ cell_of c)
  one_more at n xs c e k h f = put_laws.and_then l o₁ o₂ at n xs (cell_of c) e k (rw (sheet-laws.cell c) h) f

pub head_put : (l o₁ o₂ o₃ o₄ : List ℕ) (k : ℕ) (c : Counts) → 24 ≤ length l → o₁ ≡ put l 0 (cell_of (Some k))
    → o₂ ≡ put o₁ 6 (cell_of (Some c.words)) → o₃ ≡ put o₂ 12 (cell_of (Some c.constants))
    → o₄ ≡ put o₃ 18 (cell_of (Some c.names)) → o₄ ≡ put l 0 (line_head k c)
unfolding line_head
head_put l o₁ o₂ o₃ o₄ k c h e₁ e₂ e₃ e₄ =
    let one = cell_of (Some k) in
    let l₁ : length one ≡ 6 = sheet-laws.cell (Some k) in
    let f₂ = one_more l o₁ o₂ 0 6 one (Some c.words) e₁ l₁ (omega arith) e₂ in
    let l₂ = length_both one (cell_of (Some c.words)) 6 6 12 l₁ (sheet-laws.cell (Some c.words)) refl in
    let f₃ = one_more l o₂ o₃ 0 12 (one ++ cell_of (Some c.words)) (Some c.constants) f₂ l₂ (omega arith) e₃ in
    let l₃ = length_both (one ++ cell_of (Some c.words)) (cell_of (Some c.constants)) 12 6 18 l₂ (sheet-laws.cell (Some c.constants)) refl in
    one_more l o₃ o₄ 0 18 (one ++ cell_of (Some c.words) ++ cell_of (Some c.constants)) (Some c.names) f₃ l₃ (omega arith) e₄

pub tail_accepted : (l o : List ℕ) (longest first : ℕ) → o ≡ put l 24 (pair_of longest first) → o ≡ put l 24 (tail_of (accepted_run longest first))
unfolding tail_of
tail_accepted l o longest first e = e

pub tail_refused : (l o₁ o₂ o₃ : List ℕ) (e : Refusal) → 49 ≤ length l → o₁ ≡ put l 24 (cell_of None) → o₂ ≡ put o₁ 30 (cell_of None)
    → o₃ ≡ put o₂ 36 (pair_of (refusal_number e) (refusal_place e)) → o₃ ≡ put l 24 (tail_of (Err e))
unfolding tail_of
tail_refused l o₁ o₂ o₃ e h e₁ e₂ e₃ =
    let number = refusal_number e in
    let place = refusal_place e in
    let n : length (pair_of number place) ≡ 13 = sheet-laws.pair number place in
    let d : length (cell_of None) ≡ 6 = sheet-laws.cell None in
    let f₂ = one_more l o₁ o₂ 24 6 (cell_of None) None e₁ d (omega arith) e₂ in
    let l₂ = length_both (cell_of None) (cell_of None) 6 6 12 d d refl in
    put_laws.and_then l o₂ o₃ 24 12 (cell_of None ++ cell_of None) (pair_of number place) f₂ l₂ (rw n (omega arith)) e₃

-- ---- the only line of a refusal
pub only_first : (k number place : ℕ) → k ≡ 0 → only_of k number place ≡ pair_of number place
unfolding only_of
only_first k number place e = rw e

pub only_later : (k number place : ℕ) → (k ≡ 0 → ⊥) → only_of k number place ≡ []
unfolding only_of
only_later zero number place h = absurd (h refl)
only_later (suc k) number place h = refl

-- ---- what was read
module _ (k : ℕ) (bytes : List ℕ) (table words : List ℕ) (c : Counts) (e : most_words ≡ length table)
    (h : c ≡ counts_of (filled k bytes (words_room (length table))))
    (v : words ≡ after words_of (filled k bytes (words_room (length table))) table) where
  counts_are : c ≡ counts_of (chosen k bytes)
  counts_are = h ∙ ap (λ (n : ℕ). counts_of (filled k bytes (words_room n))) (sym e) ∙ ap counts_of (laws.room k bytes)

  w : words ≡ after words_of (filled k bytes (words_room most_words)) table
  w = v ∙ ap (λ (n : ℕ). after words_of (filled k bytes (words_room n)) table) (sym e)

  pub within : CountsWithin c
  within = rw counts_are (laws.within k bytes)

  refused_text : (X : Outcome Function) → c ≡ counts_of X → (c.number ≡ 0 → ⊥) → only_of k c.number c.place ≡ function_text k X
  unfolding counts_of function_text
  refused_text (Ok (f, at)) e n = absurd (n (ap (λ (x : Counts). x.number) e))
  refused_text (Err x) e n = rw e

  pub line_refused : (c.number ≡ 0 → ⊥) → only_of k c.number c.place ≡ function_line k bytes
  unfolding function_line
  line_refused n = refused_text (chosen k bytes) counts_are n

  -- the function that was accepted
  pub record Got : Type 0 where
    pub function : Function
    pub at : ℕ
    pub is : chosen k bytes ≡ Ok (function, at)
    pub counts : c ≡ counts_of (Ok (function, at))

  not_zero : (e : Refusal) → (counts_of (Err e)).number ≡ 0 → ⊥
  unfolding counts_of
  not_zero TooManyWords z = omega arith
  not_zero ConstantCount z = omega arith
  not_zero (UnknownTag p) z = omega arith
  not_zero (StringPastBytes p) z = omega arith
  not_zero (Names p) z = omega arith
  not_zero ShortSlice z = omega arith
  not_zero NoWords z = omega arith
  not_zero (ReachesInvalid p) z = omega arith
  not_zero NoStep z = omega arith
  not_zero ForeignMeter z = omega arith
  not_zero (MalformedLine p) z = omega arith
  not_zero TooManyLines z = omega arith
  not_zero HeaderDiffers z = omega arith
  not_zero MalformedChunk z = omega arith
  not_zero TooDeep z = omega arith
  not_zero (UnsetRegister p) z = omega arith
  not_zero (WeightsRefused p) z = omega arith
  not_zero (LowAboveHigh p) z = omega arith
  not_zero NoScript z = omega arith
  not_zero BudgetRange z = omega arith
  not_zero OverBudget z = omega arith
  not_zero OutOfRange z = omega arith

  got_by : (X : Outcome Function) → chosen k bytes ≡ X → c.number ≡ 0 → Got
  got_by (Ok (f, at)) e z = record { function = f; at = at; is = e; counts = counts_are ∙ ap counts_of e }
  got_by (Err x) e z = absurd (not_zero x (sym (ap (λ (y : Counts). y.number) (counts_are ∙ ap counts_of e)) ∙ z))

  got : c.number ≡ 0 → Got
  got z = got_by (chosen k bytes) refl z

  many : (g : Got) → c.words ≡ length g.function.words
  unfolding counts_of
  many g = ap (λ (x : Counts). x.words) g.counts

  words_are : (g : Got) → take c.words words ≡ g.function.words
  words_are g = rw (many g, w) (laws.words k bytes table g.function g.at g.is)

  pub words_part : c.number ≡ 0 → c.words ≡ length (take c.words words)
  words_part z = let g = got z in many g ∙ sym (ap length (words_are g))

  pub line_accepted : (z : c.number ≡ 0) (run : Run) (page o o' : List ℕ) (r : ℕ) → run ≡ run_in (take c.words words) → 49 ≤ length page
      → o ≡ put page 0 (line_head k c) → r ≡ 24 + length (tail_of run) → o' ≡ put o 24 (tail_of run)
      → (r ≡ length (function_line k bytes)) × (o' ≡ put page 0 (function_line k bytes))
  unfolding function_line function_text
  line_accepted z run page o o' r er l eo ek eo' =
      let g = got z in
      let t : take c.words words ≡ g.function.words = words_are g in
      let m : line_head k c ++ tail_of run ≡ function_text k (chosen k bytes) =
      ap (λ (x : Counts). line_head k x ++ tail_of run) g.counts
      ∙ ap (λ (x : Run). line_head k (counts_of (Ok (g.function, g.at))) ++ tail_of x) (er ∙ ap run_in t)
      ∙ ap (function_text k) (sym g.is) in
      let s : length (line_head k c ++ tail_of run) ≡ 24 + length (tail_of run) =
      length_both (line_head k c) (tail_of run) 24 (length (tail_of run)) (24 + length (tail_of run))
      (length_head k c) refl refl in
      let v = length_tail run in
      let p : o' ≡ put page 0 (line_head k c ++ tail_of run) =
      put_laws.and_then page o o' 0 24 (line_head k c) (tail_of run) eo (length_head k c) (omega arith)
      eo' in
      (ek ∙ sym s ∙ ap length m, p ∙ ap (put page 0) m)
