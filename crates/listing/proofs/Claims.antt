-- `specs/Claims.antt` holds, and what the program's buffer and page need of it. Assumes nothing.
use mathlib.Core.Path.{◌≡◌, refl, sym, ap, ◌∙◌}
use mathlib.Core.List.{List}
use Prim.Native.Nat.{ℕ, ◌+◌, ◌-◌, ◌*◌, ◌≤◌}
use native.Mathlib.Omega.{arith}
use lib.ListN.{length, take}
use lib.Seq.{length-take-le, take_all}
use Rattle.common.specs.Limits.{most_lines}
use Rattle.common.specs.Lists.{put, Counted}
use Rattle.common.proofs.Put.{put_laws}
use Rattle.std.specs.Prelude.{Ok, Err}
use Rattle.common.specs.Refusals.{refusal_number, refusal_place}
use Rattle.sheet.specs.Format.{Sheet, sheet_of, sheet_words}
use Rattle.sheet.proofs.Claims.{claims as sheet-claims}
use Rattle.sheet.proofs.Laws.{laws}
use Rattle.listing.specs.Answer.{reply, listing_answer}
use Rattle.listing.specs.Claims.{page_length, deciding_length, Claims, EnoughRead}
use Rattle.listing.proofs.Lines.{length_run, replied}

-- ---- the answer fits the page

fits_reply : (text : List ℕ) (s : Sheet) → sheet_of most_lines text ≡ s → length (reply text s) ≤ page_length
fits_reply text (Ok n) e = omega (arith, length_run (sheet_words text n), laws.words text n, laws.fits most_lines text n e)
fits_reply text (Err r) e = omega (arith, laws.pair (refusal_number r) (refusal_place r))

fits : (text : List ℕ) → length (listing_answer text) ≤ page_length
unfolding listing_answer
fits text = fits_reply text (sheet_of most_lines text) refl

-- ---- no more of an input counts than one byte past line 4,096

module _ (k : ℕ) (input : List ℕ) (h : deciding_length ≤ k) where
  -- the sheet is the same
  same_sheet : sheet_of most_lines (take k input) ≡ sheet_of most_lines input
  same_sheet =
      let e : k ≡ 11 * most_lines + ((k - deciding_length) + 1) = omega arith in
      rw e (sheet-claims.enough most_lines (k - deciding_length) input)

  -- an accepted input is shorter, and taken whole
  same_reply : (s : Sheet) → sheet_of most_lines input ≡ s → reply (take k input) s ≡ reply input s
  same_reply (Ok n) e =
      let l : length input ≤ k = omega (arith, laws.lines most_lines input n e, laws.fits most_lines input n e) in
      rw (take_all k input l)
  same_reply (Err r) e = refl

  enough : listing_answer (take k input) ≡ listing_answer input
  enough =
      let s : Sheet = sheet_of most_lines input in
      replied (take k input) s same_sheet ∙ same_reply s refl ∙ sym (replied input s refl)

pub claims : Claims
claims = record { fits = fits; enough = enough }

-- ---- for the program's own buffer and page

pub large_enough : (buffer : List ℕ) (n : ℕ) → deciding_length ≤ length buffer → EnoughRead buffer n
large_enough buffer n h input e = ap listing_answer e ∙ claims.enough (length buffer) input h

pub counted : (text page out : List ℕ) (r : ℕ) → length page ≡ page_length → r ≡ length (listing_answer text)
    → out ≡ put page 0 (listing_answer text) → Counted r out
counted text page out r l k e =
    let f : length (listing_answer text) ≤ length page = omega (arith, claims.fits text) in
    let m : length out ≡ length page = ap length e ∙ put_laws.length_put page 0 (listing_answer text) (omega arith) in
    let h : r ≤ length out = omega arith in
    (h, sym (length-take-le r out h))
