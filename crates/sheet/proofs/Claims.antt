-- `specs/Claims.antt` holds.
-- Assumes nothing.
use mathlib.Core.Path.{◌≡◌, refl, sym, ap, subst, ◌∙◌}
use mathlib.Core.Bool.{Bool, true, false}
use mathlib.Core.List.{List, [], ◌∷◌, ◌++◌, append_assoc, append-nil}
use Prim.Native.Nat.{ℕ, zero, suc, ◌+◌, ◌*◌, ◌-◌, ◌≤◌, ◌<◌}
use native.Mathlib.Nat.{zero-add, suc-add}
use native.Mathlib.Omega.{arith}
use lib.Dec.{eqb}
use lib.ListN.{length, take, drop, length-append, take-append-drop}
use lib.Seq.{take_at, drop_at, take-take, take-nil, drop-drop}
use borrow.Author.Tests.{ne_eqb}
use Rattle.common.specs.Limits.{most_word}
use Rattle.std.specs.Prelude.{Ok, Err}
use Rattle.common.specs.declared.refusal.Refusal.TheVariants.{MalformedLine, TooManyLines}
use Rattle.sheet.specs.Columns.{columns}
use Rattle.sheet.specs.Line.{line_of, line_value, is_line}
use Rattle.sheet.specs.Format.{Sheet, read_from, sheet_of, sheet_word_at, sheet_words}
use Rattle.sheet.specs.Claims.{text_of, AllWords, Accepted, Broken, Overfull, SheetSays, Claims}
use Rattle.sheet.proofs.Widths.{length_line}
use Rattle.sheet.proofs.Round.{apart, line_shows, line_good, good_line, good_value}
use Rattle.sheet.proofs.Scanned.{read_none, read_full, read_bad, read_more}
use Rattle.sheet.proofs.Justified.{justified}

-- lines of words are read, and then what comes after them
read_past : (room k : ℕ) (ws rest : List ℕ) → AllWords ws → length ws ≤ room
    → read_from room k (text_of ws ++ rest) ≡ read_from (room - length ws) (k + length ws) rest
unfolding text_of AllWords
read_past room k [] rest a h =
    let e : room - 0 ≡ room = omega arith in
    let f : k + 0 ≡ k = omega arith in
    rw (e, f)
read_past room k (w ∷ ws) rest a h =
    let text : List ℕ = (line_of w ++ text_of ws) ++ rest in
    let some : 0 < length text = omega (arith, length-append (line_of w ++ text_of ws) rest, length-append (line_of w) (text_of ws), length_line w) in
    let t : take 11 text ≡ line_of w = rw (append_assoc (line_of w) (text_of ws) rest) (take_at (line_of w) (text_of ws ++ rest) 11 (length_line w)) in
    let d : drop 11 text ≡ text_of ws ++ rest = rw (append_assoc (line_of w) (text_of ws) rest) (drop_at (line_of w) (text_of ws ++ rest) 11 (length_line w)) in
    let e : room - 1 - length ws ≡ room - suc (length ws) = omega arith in
    let f : k + 1 + length ws ≡ k + suc (length ws) = omega arith in
    read_more text some room k (omega arith) (rw t (line_good w a.0))
    ∙ rw d (read_past (room - 1) (k + 1) ws rest a.1 (omega arith) ∙ rw (e, f))

sheet_past : (room : ℕ) (ws rest : List ℕ) → AllWords ws → length ws ≤ room
    → sheet_of room (text_of ws ++ rest) ≡ read_from (room - length ws) (length ws) rest
unfolding sheet_of
sheet_past room ws rest a h = read_past room 0 ws rest a h ∙ rw (zero-add (length ws))

-- ---- what is so is answered

only_words : (room : ℕ) (text : List ℕ) (n : ℕ) → Accepted room text n → sheet_of room text ≡ Ok n
only_words room text n s =
    let h : length s.words ≤ room = omega (arith, s.count, s.fits) in
    rw (s.whole, ← append-nil (text_of s.words))
    (sheet_past room s.words [] s.are_words h ∙ read_none (room - length s.words) (length s.words) [] refl ∙ ap Ok s.count)

-- the first line of a text, and the rest
first_line : (text : List ℕ) → is_line (take 11 text) ≡ true → text ≡ line_of (line_value (take 11 text)) ++ drop 11 text
first_line text e = sym (take-append-drop 11 text) ∙ ap (λ (l : List ℕ). l ++ drop 11 text) (good_line (take 11 text) e)

no_line : (rest : List ℕ) → ((w : ℕ) (more : List ℕ) → w ≤ most_word → rest ≡ line_of w ++ more → ⊥) → is_line (take 11 rest) ≡ false
no_line rest never = go (is_line (take 11 rest)) refl
  where
    go : (t : Bool) → is_line (take 11 rest) ≡ t → t ≡ false
    go true e = absurd (never (line_value (take 11 rest)) (drop 11 rest) (good_value (take 11 rest) e) (first_line rest e))
    go false e = refl

only_malformed : (room : ℕ) (text : List ℕ) (line : ℕ) → Broken room text line → sheet_of room text ≡ Err (MalformedLine line)
only_malformed room text line s =
    let h : length s.words < room = omega (arith, s.count, s.fits) in
    rw s.whole
    (sheet_past room s.words s.rest s.are_words (omega arith)
    ∙ read_bad s.rest s.some (room - length s.words) (length s.words) (omega arith) (no_line s.rest s.no_line)
    ∙ ap (λ (i : ℕ). Err (MalformedLine i)) s.count)

only_long : (room : ℕ) (text : List ℕ) → Overfull room text → sheet_of room text ≡ Err TooManyLines
only_long room text s =
    let z : room - length s.words ≡ 0 = omega (arith, s.count) in
    rw s.whole
    (sheet_past room s.words s.rest s.are_words (omega (arith, s.count))
    ∙ rw z (read_full s.rest s.some (length s.words)))

only : (room : ℕ) (text : List ℕ) (s : Sheet) → SheetSays room text s → sheet_of room text ≡ s
only room text (Ok n) s = only_words room text n s
only room text (Err (MalformedLine line)) s = only_malformed room text line s
only room text (Err TooManyLines) s = only_long room text s
only room text (Err _) s = absurd s

-- ---- what is answered is so: every text says something

record Told (room : ℕ) (text : List ℕ) : Type 0 where
  answer : Sheet
  told : SheetSays room text answer

starts_line : (w : ℕ) (more : List ℕ) → w ≤ most_word → is_line (take 11 (line_of w ++ more)) ≡ true
starts_line w more h = rw (take_at (line_of w) more 11 (length_line w)) (line_good w h)

-- one line more in front
after : (room : ℕ) (text : List ℕ) (w : ℕ) → w ≤ most_word → Told room text → Told (suc room) (line_of w ++ text)
unfolding text_of AllWords
after room text w h t = go t.answer t.told
  where
    go : (s : Sheet) → SheetSays room text s → Told (suc room) (line_of w ++ text)
    go (Ok n) s =
        record {
          answer = Ok (suc n);
          told = record {
            words = w ∷ s.words;
            are_words = (h, s.are_words);
            count = ap suc s.count;
            fits = omega (arith, s.fits);
            whole = ap (λ (l : List ℕ). line_of w ++ l) s.whole;
          };
        }
    go (Err (MalformedLine line)) s =
        record {
          answer = Err (MalformedLine (suc line));
          told = record {
            words = w ∷ s.words;
            are_words = (h, s.are_words);
            count = omega (arith, s.count);
            fits = omega (arith, s.fits);
            rest = s.rest;
            whole = ap (λ (l : List ℕ). line_of w ++ l) s.whole ∙ sym (append_assoc (line_of w) (text_of s.words) s.rest);
            some = s.some;
            no_line = s.no_line;
          };
        }
    go (Err TooManyLines) s =
        record {
          answer = Err TooManyLines;
          told = record {
            words = w ∷ s.words;
            are_words = (h, s.are_words);
            count = ap suc s.count;
            rest = s.rest;
            whole = ap (λ (l : List ℕ). line_of w ++ l) s.whole ∙ sym (append_assoc (line_of w) (text_of s.words) s.rest);
            some = s.some;
          };
        }
    go (Err _) s = absurd s

in_front : (room : ℕ) (text : List ℕ) → is_line (take 11 text) ≡ true → Told room (drop 11 text) → Told (suc room) text
in_front room text e t =
    subst (λ (l : List ℕ). Told (suc room) l) (sym (first_line text e))
    (after room (drop 11 text) (line_value (take 11 text)) (good_value (take 11 text) e) t)

empty_told : (room : ℕ) → Told room []
unfolding text_of AllWords
empty_told room = record { answer = Ok 0; told = record { words = []; are_words = tt; count = refl; fits = omega arith; whole = refl } }

told : (room : ℕ) (text : List ℕ) → Told room text
unfolding text_of AllWords
told zero [] = empty_told zero
told zero (b ∷ text) =
    record {
      answer = Err TooManyLines;
      told = record {
        words = [];
        are_words = tt;
        count = refl;
        rest = b ∷ text;
        whole = refl;
        some = omega arith;
      };
    }
told (suc room) [] = empty_told (suc room)
told (suc room) (b ∷ text) = go (is_line (take 11 (b ∷ text))) refl (told room (drop 11 (b ∷ text)))
  where
    go : (t : Bool) → is_line (take 11 (b ∷ text)) ≡ t → Told room (drop 11 (b ∷ text)) → Told (suc room) (b ∷ text)
    go true e r = in_front room (b ∷ text) e r
    go false e r =
        record {
          answer = Err (MalformedLine 1);
          told = record {
            words = [];
            are_words = tt;
            count = refl;
            fits = omega arith;
            rest = b ∷ text;
            whole = refl;
            some = omega arith;
            no_line = λ w more h q. apart (sym (starts_line w more h) ∙ ap (λ (s : List ℕ). is_line (take 11 s)) (sym q) ∙ e);
          };
        }

says : (room : ℕ) (text : List ℕ) → SheetSays room text (sheet_of room text)
says room text = let t : Told room text = told room text in rw (only room text t.answer t.told) t.told

-- ---- the words are those of the lines

module _ (w : ℕ) (rest : List ℕ) where
  word_zero : w ≤ most_word → sheet_word_at (line_of w ++ rest) 0 ≡ w
  unfolding sheet_word_at
  word_zero h = rw (take_at (line_of w) rest 11 (length_line w)) (line_shows w h)

  word_next : (k : ℕ) → sheet_word_at (line_of w ++ rest) (suc k) ≡ sheet_word_at rest k
  unfolding sheet_word_at
  word_next k =
      let e : 11 * suc k ≡ 11 + 11 * k = omega arith in
      rw (e, ← drop-drop (11 * k) 11 (line_of w ++ rest), drop_at (line_of w) rest 11 (length_line w))

  words_cons : w ≤ most_word → (k : ℕ) → sheet_words (line_of w ++ rest) (suc k) ≡ w ∷ sheet_words rest k
  unfolding sheet_words
  words_cons h zero = rw (word_zero h)
  words_cons h (suc k) = rw (words_cons h k, word_next k)

back : (ws : List ℕ) → AllWords ws → sheet_words (text_of ws) (length ws) ≡ ws
unfolding text_of AllWords sheet_words
back [] a = refl
back (w ∷ ws) a = words_cons w (text_of ws) a.0 (length ws) ∙ ap (λ (l : List ℕ). w ∷ l) (back ws a.1)

words_are : (text : List ℕ) (n : ℕ) (ws : List ℕ) → text ≡ text_of ws → length ws ≡ n → AllWords ws → sheet_words text n ≡ ws
words_are text n ws e k a = rw (e, ← k) (back ws a)

accepted : (room : ℕ) (text : List ℕ) (n : ℕ) → sheet_of room text ≡ Ok n → text ≡ text_of (sheet_words text n)
accepted room text n e =
    let s : Accepted room text n = rw e at (says room text) in
    s.whole ∙ ap text_of (sym (words_are text n s.words s.whole s.count s.are_words))

every : (room : ℕ) (ws : List ℕ) → AllWords ws → length ws ≤ room → sheet_of room (text_of ws) ≡ Ok (length ws)
every room ws a h = only_words room (text_of ws) (length ws) (record { words = ws; are_words = a; count = refl; fits = h; whole = refl })

-- ---- what the filling needs

pub length_text : (ws : List ℕ) → length (text_of ws) ≡ 11 * length ws
unfolding text_of
length_text [] = refl
length_text (w ∷ ws) = length-append (line_of w) (text_of ws) ∙ omega (arith, length_line w, length_text ws)

small : (ws : List ℕ) → AllWords ws → (k : ℕ) → k < length ws → sheet_word_at (text_of ws) k ≤ most_word
unfolding text_of AllWords
small [] a k h = absurd (omega arith)
small (w ∷ ws) a zero h = rw (word_zero w (text_of ws) a.0) a.0
small (w ∷ ws) a (suc k) h = rw (word_next w (text_of ws) k) (small ws a.1 k (omega arith))

pub record Filling (room : ℕ) (text : List ℕ) (n : ℕ) : Type 0 where
  pub fits : n ≤ room
  pub long : 11 * n ≤ length text
  pub small : (k : ℕ) → k < n → sheet_word_at text k ≤ most_word

pub filling : (room : ℕ) (text : List ℕ) (n : ℕ) → sheet_of room text ≡ Ok n → Filling room text n
filling room text n e =
    let s : Accepted room text n = rw e at (says room text) in
    record {
      fits = s.fits;
      long = rw (s.whole, ← s.count) (omega (arith, length_text s.words));
      small = λ k h. rw s.whole (small s.words s.are_words k (omega (arith, s.count)));
    }

-- ---- no more of a text counts than one byte past the last line that has room

drop_take : (a j : ℕ) (l : List ℕ) → drop a (take (a + j) l) ≡ take j (drop a l)
drop_take zero j l = rw (zero-add j)
drop_take (suc a) j [] = rw (take-nil (suc a + j), take-nil j)
drop_take (suc a) j (x ∷ l) = rw (suc-add a j) (drop_take a j l)

empty : (m : ℕ) (l : List ℕ) → 0 < m → eqb (length (take m l)) 0 ≡ eqb (length l) 0
empty zero l h = absurd (omega arith)
empty (suc m) [] h = refl
empty (suc m) (x ∷ l) h = ne_eqb (suc (length (take m l))) 0 (λ z. omega arith) ∙ sym (ne_eqb (suc (length l)) 0 (λ z. omega arith))

read_enough : (room k more : ℕ) (text : List ℕ) → read_from room k (take (11 * room + (more + 1)) text) ≡ read_from room k text
read_enough zero k more text = rw (empty (11 * 0 + (more + 1)) text (omega arith))
read_enough (suc room) k more text =
    let e : 11 * suc room + (more + 1) ≡ 11 + (11 * room + (more + 1)) = omega arith in
    rw (
      e,
      empty (11 + (11 * room + (more + 1))) text (omega arith),
      take-take 11 (11 + (11 * room + (more + 1))) text (omega arith),
      drop_take 11 (11 * room + (more + 1)) text,
      read_enough room (k + 1) more (drop 11 text),
    )

enough : (room more : ℕ) (text : List ℕ) → sheet_of room (take (11 * room + (more + 1)) text) ≡ sheet_of room text
unfolding sheet_of
enough room more text = read_enough room 0 more text

line : (v : ℕ) → line_of v ≡ columns 10 v ++ (10 ∷ [])
unfolding line_of
line v = refl

pub claims : Claims
claims = record { justified = justified; line = line; says = says; only = only; accepted = accepted; every = every; back = back; enough = enough }
