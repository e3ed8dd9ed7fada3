-- The line information that is read again is what the first pass read, and its lines are luaG_getfuncline's. Assumes nothing.
use mathlib.Core.Path.{◌≡◌, refl, ap, ◌∙◌}
use mathlib.Core.Bool.{Bool, true, false, true≢false}
use mathlib.Core.List.{List, ◌∷◌}
use Prim.Native.Nat.{ℕ, zero, suc, ◌+◌, ◌*◌}
use native.Mathlib.Omega.{arith}
use lib.Dec.{leb}
use lib.ListN.{length}
use Rattle.common.specs.Limits.{int_max}
use Rattle.std.proofs.Common.{Ok, Err}
use Rattle.loaders.specs.Reading.{Outcome, bind, only, repeat}
use Rattle.loaders.specs.Loaders.{load_int, load_block}
use Rattle.lundump.specs.Lundump.{Vector, Function, load_vector, load_items, load_abs_line, load_loc_var, load_lines}
use Rattle.lundump.specs.Stands.{Stands, OneRead}
use Rattle.lines.specs.declared.choosing.Choice.{Choice}
use Rattle.lines.specs.Choices.{chosen_by}
use Rattle.lines.specs.Ldebug.{AbsLine}
use Rattle.lines.specs.Lines.{read_info, read_abs, abs_from, line_info_at, InfoRead, LineLaws}
use Rattle.lines.proofs.Passes.{chosen_stands}
use Rattle.lines.proofs.Ldebug as ldebug

module _ (bytes : List ℕ) where
  -- ---- lineinfo
  -- a vector of n, in m bytes
  abbrev block : ℕ → ℕ → ℕ → Outcome Vector
  block m n start = bind (load_block m bytes start) (λ _ at₂. Ok (record { start = start; count = n }, at₂))

  block_same : (n start : ℕ) (v : Vector) (past : ℕ)
      → block (1 * n) n start ≡ Ok (v, past) → block n n start ≡ Ok (v, past)
  block_same n start v past e =
      let z : n ≡ 1 * n = omega arith in
      ap (λ (m : ℕ). block m n start) z ∙ e

  limited : (n start : ℕ) (v : Vector) (past : ℕ) (b : Bool)
      → only b (block (1 * n) n start) ≡ Ok (v, past) → block n n start ≡ Ok (v, past)
  limited n start v past true e = block_same n start v past e
  limited n start v past false e = absurd (true≢false (cc))

  counted : (v : Vector) (past : ℕ) (X : Outcome ℕ)
      → bind X (λ n at₁. only (leb n int_max) (block (1 * n) n at₁)) ≡ Ok (v, past)
      → bind X (λ n at₁. block n n at₁) ≡ Ok (v, past)
  counted v past (Ok (n, start)) e = limited n start v past (leb n int_max) e
  counted v past (Err x) e = absurd (true≢false (cc))

  info_same : (at : ℕ) (v : Vector) (past : ℕ) → load_vector int_max 1 bytes at ≡ Ok (v, past) → read_info bytes at ≡ Ok (v, past)
  unfolding load_vector read_info
  info_same at v past e = counted v past (load_int bytes at) e

  -- ---- abslineinfo
  abs_cons : (n at : ℕ) (a : AbsLine) (past : ℕ) → read_abs bytes at ≡ Ok (a, past)
      → length (abs_from n bytes past) ≡ n → length (abs_from (suc n) bytes at) ≡ suc n
  unfolding abs_from
  abs_cons n at a past e h = rw e (ap suc h)

  abs_read : (at pc middle line past : ℕ) → load_int bytes at ≡ Ok (pc, middle)
      → load_int bytes middle ≡ Ok (line, past)
      → read_abs bytes at ≡ Ok (record { pc = pc; line = line }, past)
  unfolding read_abs
  abs_read at pc middle line past e h = rw (e, h)

  module _ (n i : ℕ)
      (rec : (at : ℕ) (xs : List ℕ) (past : ℕ) → repeat load_abs_line (i + 1) n bytes at ≡ Ok (xs, past)
      → length (abs_from n bytes at) ≡ n)
      (at : ℕ) (xs : List ℕ) (past : ℕ) where
    rest_read : (pc middle line a : ℕ) (Z : Outcome (List ℕ)) → load_int bytes at ≡ Ok (pc, middle)
        → load_int bytes middle ≡ Ok (line, a) → repeat load_abs_line (i + 1) n bytes a ≡ Z
        → bind Z (λ ys b. Ok (line ∷ ys, b)) ≡ Ok (xs, past) → length (abs_from (suc n) bytes at) ≡ suc n
    rest_read pc middle line a (Ok (ys, b)) e h z d = abs_cons n at (record { pc = pc; line = line }) a (abs_read at pc middle line a e h) (rec a ys b z)
    rest_read pc middle line a (Err x) e h z d = absurd (true≢false (cc))

    line_read : (pc middle : ℕ) (Y : Outcome ℕ) → load_int bytes at ≡ Ok (pc, middle) → load_int bytes middle ≡ Y
        → bind Y (λ x at₁. bind (repeat load_abs_line (i + 1) n bytes at₁) (λ ys b. Ok (x ∷ ys, b))) ≡ Ok (xs, past) → length (abs_from (suc n) bytes at) ≡ suc n
    line_read pc middle (Ok (line, a)) e h d = rest_read pc middle line a (repeat load_abs_line (i + 1) n bytes a) e h refl d
    line_read pc middle (Err x) e h d = absurd (true≢false (cc))

    pc_read : (X : Outcome ℕ) → load_int bytes at ≡ X
        → bind (bind X (λ _ at₁. load_int bytes at₁)) (λ x at₁. bind (repeat load_abs_line (i + 1) n bytes at₁) (λ ys b. Ok (x ∷ ys, b))) ≡ Ok (xs, past)
        → length (abs_from (suc n) bytes at) ≡ suc n
    pc_read (Ok (pc, middle)) e d = line_read pc middle (load_int bytes middle) e refl d
    pc_read (Err x) e d = absurd (true≢false (cc))

  all-read : (n i at : ℕ) (xs : List ℕ) (past : ℕ) → repeat load_abs_line i n bytes at ≡ Ok (xs, past) → length (abs_from n bytes at) ≡ n
  unfolding repeat load_abs_line abs_from
  all-read zero i at xs past e = refl
  all-read (suc n) i at xs past e = pc_read n i (all-read n (i + 1)) at xs past (load_int bytes at) refl e

  -- ---- both
  module _ (at : ℕ) (v : Vector) (past : ℕ) (info : read_info bytes at ≡ Ok (v, past)) (ls : List ℕ) (end : ℕ) where
    within : (n from : ℕ) (b : Bool) (X : Outcome (List ℕ)) → load_int bytes past ≡ Ok (n, from) → repeat load_abs_line 0 n bytes from ≡ X
        → bind (only b X) (λ _ at₂. load_items int_max load_loc_var bytes at₂) ≡ Ok (ls, end) → InfoRead bytes at
    within n from true (Ok (xs, p)) e h d = record { vector = v; past = past; info = info; count = n; from = from; counted = e; all = all-read n 0 from xs p h }
    within n from true (Err x) e h d = absurd (true≢false (cc))
    within n from false X e h d = absurd (true≢false (cc))

    behind : (X : Outcome ℕ) → load_int bytes past ≡ X
        → bind (bind X (λ n at₁. only (leb n int_max) (repeat load_abs_line 0 n bytes at₁)))
        (λ _ at₂. load_items int_max load_loc_var bytes at₂)
        ≡ Ok (ls, end)
        → InfoRead bytes at
    behind (Ok (n, from)) e d = within n from (leb n int_max) (repeat load_abs_line 0 n bytes from) e refl d
    behind (Err x) e d = absurd (true≢false (cc))

    after_info : bind (load_items int_max load_abs_line bytes past) (λ _ at₂. load_items int_max load_loc_var bytes at₂) ≡ Ok (ls, end) → InfoRead bytes at
    unfolding load_items
    after_info d = behind (load_int bytes past) refl d

  starts : (at : ℕ) (ls : List ℕ) (end : ℕ) (X : Outcome Vector) → load_vector int_max 1 bytes at ≡ X
      → bind X (λ _ at₁. bind (load_items int_max load_abs_line bytes at₁) (λ _ at₂. load_items int_max load_loc_var bytes at₂)) ≡ Ok (ls, end) → InfoRead bytes at
  starts at ls end (Ok (v, past)) e d = after_info at v past (info_same at v past e) ls end d
  starts at ls end (Err x) e d = absurd (true≢false (cc))

  lines_read : (at : ℕ) (ls : List ℕ) (end : ℕ) → load_lines bytes at ≡ Ok (ls, end) → InfoRead bytes at
  unfolding load_lines
  lines_read at ls end e = starts at ls end (load_vector int_max 1 bytes at) refl e

read : (k : Choice) (bytes : List ℕ) (f : Function) (at : ℕ) → chosen_by k bytes ≡ Ok (f, at) → InfoRead bytes f.lines_at
read k bytes f at e = let s = stood (chosen_by k bytes) e (chosen_stands bytes k) in lines_read bytes f.lines_at s.locals f.names_at s.lines
  where
    stood : (X : Outcome Function) → X ≡ Ok (f, at) → OneRead bytes X → Stands bytes f
    stood X d o = rw d at o

pub line_laws : LineLaws
line_laws =
    record {
      read = read;
      getfuncline = λ bytes f pc h l r e. (ldebug.lines).agree (line_info_at bytes f.first_at f.lines_at) (length f.words) pc h l r e;
    }
