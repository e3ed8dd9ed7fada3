-- The tables hold 4,096 zeros each, and no tactic may look into such a list: facts on them come from laws over any list.
use Rattle.std.proofs.Common.{sym, ap, ◌≡◌, ◌∙◌, ◌≤◌, ◌++◌, List, ℕ, length, take, drop, replicate}
use lib.Seq.{take_at, length-take-le}
use Rattle.runs.specs.Script.{lua54}
use Rattle.runs.specs.Run.{Run, run_of, lengths_after}
use Rattle.runs.specs.Counted.{ones}
use Rattle.listing.specs.Answer.{lengths_of}
use Rattle.listing.proofs.Lines.{take_zeros, accepted_text, refused_text}
use Rattle.listing.proofs.tables.put_run.Goals as goal

abbrev zeros : List ℕ
zeros = replicate 4096 0

module _ (words : List ℕ) (h : length words ≤ 4096) where
  part_length : length (take (length words) zeros) ≡ length words
  part_length = length-take-le (length words) zeros h

  -- the run is that of the words, lent a place for each
  run_is : {run : Run} → run ≡ run_of (lua54 words) ones (length (take (length words) zeros)) (length (take (length words) zeros))
      → run_of (lua54 words) ones (length words) (length words) ≡ run
  run_is e = sym (rw part_length at e)

  -- the part of the lengths that comes back
  part_is : {new : List ℕ} → length new ≡ length words
      → new ≡ lengths_after (lua54 words) ones (take (length words) zeros) (take (length words) zeros)
      → take (length words) (new ++ drop (length words) zeros) ≡ lengths_of words
  part_is {new} k e =
      take_at new (drop (length words) zeros) (length words) k
      ∙ e
      ∙ ap (λ (z : List ℕ). lengths_after (lua54 words) ones z z) (take_zeros (length words) 4096 h)

pub returns-in-Ok : goal.returns-in-Ok
returns-in-Ok c =
    let k = c.longest_run-run.auto.lengths ∙ part_length c.args.words.now c.requires.0 in
    let t =
    accepted_text c.args.words.now _ c.args.page.now _ _ c.in-Ok.field-0.longest c.in-Ok.field-0.first
    (part_is c.args.words.now c.requires.0 k c.in-Ok.ensures.lengths_after)
    (run_is c.args.words.now c.requires.0 c.in-Ok.ensures.value) c.put_listing.ensures.value c.put_listing.ensures.page_after in
    record { value = t.0; page_after = t.1 }

pub returns-in-Err : goal.returns-in-Err
returns-in-Err c =
    let t =
    refused_text c.args.words.now c.args.page.now _ _ c.in-Err.refusal
    (run_is c.args.words.now c.requires.0 c.in-Err.ensures.value) c.put_refusal.ensures.value c.put_refusal.ensures.page_after in
    record { value = t.0; page_after = t.1 }
