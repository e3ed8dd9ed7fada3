use Rattle.std.proofs.Common.{◌≡◌, sym, ◌∙◌, Ok, arith}
use Rattle.std.proofs.lemmas.Result.{err_from_is_err_and}
use Rattle.sheet.specs.Format.{sheet_of, room_of}
use Rattle.sheet.proofs.Scanned.{table_is}
use Rattle.sheet.proofs.Claims.{Filling, filling}
use Rattle.sheet.proofs.reading.read.Goals as goal

pub fill-requires : goal.fill-requires
fill-requires c =
    let e : sheet_of (room_of c.args.words.now) c.args.text.now ≡ Ok c.in_ok-n.n = sym (rw c.min.ensures at c.in_ok-n.ensures) in
    let f : Filling (room_of c.args.words.now) c.args.text.now c.in_ok-n.n =
    filling (room_of c.args.words.now) c.args.text.now c.in_ok-n.n e in (omega (arith, f.fits), f.long, f.small)

pub returns-in_err-n : goal.returns-in_err-n
returns-in_err-n c =
    let p = err_from_is_err_and c.from_residual.result c.from_residual.ensures.1 in
    let e = rw c.min.ensures at c.in_err-n.ensures in
    rw (p.1, p.2) (record { value = e; words_after = sym (table_is c.args.text.now c.args.words.now _ (sym e)) })

pub returns : goal.returns
returns c =
    let e : sheet_of (room_of c.args.words.now) c.args.text.now ≡ Ok c.in_ok-n.n = sym (rw c.min.ensures at c.in_ok-n.ensures) in
    record { value = sym e; words_after = c.fill.ensures ∙ sym (table_is c.args.text.now c.args.words.now (Ok c.in_ok-n.n) e) }
