-- The word table holds 4,096 zeros, and no tactic may look into such a list: facts on it come from laws over any list.
use Rattle.std.proofs.Common.{◌≡◌, ◌≤◌, ◌∙◌, List, ℕ, Ok, sym, ap, length, take, replicate, arith}
use Rattle.common.specs.Limits.{most_lines}
use Rattle.sheet.specs.Format.{sheet_of, sheet_words, table_after}
use Rattle.sheet.proofs.Laws.{laws}
use Rattle.listing.proofs.Lines.{words_text, refused_sheet}
use Rattle.listing.proofs.tables.put_answer.Goals as goal

-- the words of an accepted sheet, as they stand in the table
module _ (text table : List ℕ) (n : ℕ) (e : Ok n ≡ sheet_of most_lines text) (t : table ≡ table_after text (replicate 4096 0)) where
  part_is : take n table ≡ sheet_words text n
  part_is = ap (λ (l : List ℕ). take n l) t ∙ laws.stored text (replicate 4096 0) n (sym e)

  part_count : n ≡ length (take n table)
  part_count = sym (ap length part_is ∙ laws.words text n)

  fits : n ≤ 4096
  fits = laws.fits most_lines text n (sym e)

pub slice_bounds-put_run-end : goal.slice_bounds-put_run-end
slice_bounds-put_run-end c = part_count c.args.text.now _ c.in-Ok.n c.in-Ok.ensures.value c.in-Ok.ensures.words_after

pub put_run-requires : goal.put_run-requires
put_run-requires c =
    let a = part_count c.args.text.now _ c.in-Ok.n c.in-Ok.ensures.value c.in-Ok.ensures.words_after in
    let b = fits c.args.text.now _ c.in-Ok.n c.in-Ok.ensures.value c.in-Ok.ensures.words_after in
    (omega (arith, a, b), c.requires)

pub returns-in-Ok : goal.returns-in-Ok
returns-in-Ok c =
    let t =
    words_text c.args.text.now c.args.page.now _ _ _ c.in-Ok.n (sym c.in-Ok.ensures.value)
    (part_is c.args.text.now _ c.in-Ok.n c.in-Ok.ensures.value c.in-Ok.ensures.words_after) c.put_run.ensures.value
    c.put_run.ensures.page_after in
    record { value = t.0; page_after = t.1 }

pub returns-in-Err : goal.returns-in-Err
returns-in-Err c =
    let t =
    refused_sheet c.args.text.now c.args.page.now _ _ c.in-Err.refusal (sym c.in-Err.ensures.value) c.put_refusal.ensures.value
    c.put_refusal.ensures.page_after in
    record { value = t.0; page_after = t.1 }

pub slice_bounds-words-end : goal.slice_bounds-words-end
slice_bounds-words-end c =
    let a = fits c.args.text.now _ c.in-Ok.n c.in-Ok.ensures.value c.in-Ok.ensures.words_after in
    omega (arith, a, c.read.auto.words)
