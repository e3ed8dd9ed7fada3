-- `specs/Claims.antt` holds, and what the program's page needs of it. Assumes nothing.
use mathlib.Core.Path.{◌≡◌, refl, sym, ◌∙◌, ap}
use mathlib.Core.Bool.{Bool, true, false}
use mathlib.Core.List.{List, [], ◌∷◌}
use Prim.Native.Nat.{ℕ, zero, suc, ◌+◌, ◌≤◌, ◌<◌}
use native.Mathlib.Omega.{arith}
use lib.Dec.{ltb}
use lib.ListN.{length, get_or, length-append}
use lib.Seq.{length-take-le}
use borrow.Author.Tests.{ltb-true, ltb-false}
use Rattle.common.specs.Lists.{put, Counted}
use Rattle.common.proofs.Put.{put_laws}
use Rattle.common.specs.Limits.{most_bytes}
use Rattle.common.specs.declared.refusal.Refusal.{Refusal}
use Rattle.common.specs.declared.refusal.Refusal.TheVariants.{MalformedChunk}
use Rattle.common.specs.Refusals.{refusal_number, refusal_place}
use Rattle.std.proofs.Common.{Ok, Err}
use Rattle.loaders.specs.Reading.{Outcome}
use Rattle.lundump.specs.Lundump.{Function, undump}
use Rattle.lundump.specs.Chunk.{chosen, counts_of}
use Rattle.chunk.specs.Laws.{Numbered}
use Rattle.chunk.proofs.Laws.{laws}
use Rattle.survey.specs.Lines.{line_head, tail_of, only_of, function_text, run_in, function_line}
use Rattle.survey.specs.Claims.{line_length, LinesListed, OneLine, Claims}
use Rattle.survey.proofs.Columns.{length_head, length_tail, length_only}

length_done : (k : ℕ) (f : Function) (at : ℕ) → length (function_text k (Ok (f, at))) ≡ 24 + length (tail_of (run_in f.words))
unfolding function_text
length_done k f at =
    length-append (line_head k (counts_of (Ok (f, at)))) (tail_of (run_in f.words))
    ∙ ap (λ (n : ℕ). n + length (tail_of (run_in f.words))) (length_head k (counts_of (Ok (f, at))))

length_refusal : (k : ℕ) (e : Refusal) → length (function_text k (Err e)) ≤ line_length
unfolding function_text
length_refusal k e = omega (arith, length_only k (refusal_number e) (refusal_place e))

length_text : (k : ℕ) (X : Outcome Function) → length (function_text k X) ≤ line_length
length_text k (Ok (f, at)) = omega (arith, length_done k f at, length_tail (run_in f.words))
length_text k (Err e) = length_refusal k e

fits : (k : ℕ) (bytes : List ℕ) → length (function_line k bytes) ≤ line_length
unfolding function_line
fits k bytes = length_text k (chosen k bytes)

-- ---- the line for what was chosen
line_by : (k : ℕ) (bytes : List ℕ) (X : Outcome Function) → chosen k bytes ≡ X → function_line k bytes ≡ function_text k X
unfolding function_line
line_by k bytes X e = ap (function_text k) e

later : (k : ℕ) (e : Refusal) → 0 < k → function_text k (Err e) ≡ []
unfolding function_text only_of
later zero e h = absurd (omega arith)
later (suc k) e h = refl

listed : (bytes : List ℕ) (fs : List Function) (at : ℕ) → length bytes ≤ most_bytes → undump bytes 0 ≡ Ok (fs, at) → LinesListed bytes fs at
listed bytes fs at h e =
    let n : Numbered bytes fs at = laws.numbered bytes fs at h e in
    record {
      each = λ k d l. line_by k bytes (Ok (get_or fs k d, at)) (n.counted k d l);
      some = λ k l. some n k l;
      no_more = λ k l. line_by k bytes (Err MalformedChunk) (n.none k l) ∙ later k MalformedChunk (omega (arith, n.main));
    }
  where
    by_head : (gs : List Function) (k : ℕ) → ((d : Function) → chosen k bytes ≡ Ok (get_or gs k d, at)) → k < length gs → 0 < length (function_line k bytes)
    by_head [] k q l = absurd (omega arith)
    by_head (g ∷ gs) k q l =
        let f : Function = get_or (g ∷ gs) k g in
        omega (arith, ap length (line_by k bytes (Ok (f, at)) (q g)), length_done k f at)

    some : Numbered bytes fs at → (k : ℕ) → k < length fs → 0 < length (function_line k bytes)
    some n k l = by_head fs k (λ d. n.counted k d l) l

module _ (bytes : List ℕ) (e : Refusal) (all : (k : ℕ) → chosen k bytes ≡ Err e) where
  one_line : OneLine bytes (refusal_number e) (refusal_place e)
  unfolding function_text only_of
  one_line =
      record {
        first = line_by 0 bytes (Err e) (all 0);
        no_more = λ k. line_by (suc k) bytes (Err e) (all (suc k));
      }

enough : (k : ℕ) (bytes : List ℕ) → 0 < k → length bytes ≤ k → function_line k bytes ≡ []
enough k bytes p h = by_size (ltb most_bytes (length bytes)) refl
  where
    by_read : length bytes ≤ most_bytes → (X : Outcome (List Function)) → undump bytes 0 ≡ X → function_line k bytes ≡ []
    by_read l (Ok (fs, at)) e =
        let few : length fs ≤ length bytes = (laws.numbered bytes fs at l e).few in
        (listed bytes fs at l e).no_more k (omega arith)
    by_read l (Err r) e = line_by k bytes (Err r) (laws.stopped k bytes r l e) ∙ later k r p

    by_size : (b : Bool) → ltb most_bytes (length bytes) ≡ b → function_line k bytes ≡ []
    by_size true q = line_by k bytes (Err MalformedChunk) (laws.too_long k bytes (ltb-true most_bytes (length bytes) q)) ∙ later k MalformedChunk p
    by_size false q = by_read (ltb-false most_bytes (length bytes) q) (undump bytes 0) refl

pub claims : Claims
claims =
    record {
      fits = fits;
      listed = listed;
      one_line = λ bytes e h q. one_line bytes e (λ k. laws.stopped k bytes e h q);
      too_long = λ bytes h. one_line bytes MalformedChunk (λ k. laws.too_long k bytes h);
      enough = enough;
    }

-- ---- for the program's own page
pub counted : (k : ℕ) (bytes page out : List ℕ) (r : ℕ) → length page ≡ line_length → r ≡ length (function_line k bytes)
    → out ≡ put page 0 (function_line k bytes) → Counted r out
counted k bytes page out r l e f =
    let n : length (function_line k bytes) ≤ length page = omega (arith, claims.fits k bytes) in
    let m : length out ≡ length page = ap length f ∙ put_laws.length_put page 0 (function_line k bytes) (omega arith) in
    let h : r ≤ length out = omega arith in
    (h, sym (length-take-le r out h))
