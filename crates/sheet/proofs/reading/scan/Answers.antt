use Rattle.std.proofs.Common.{◌≡◌, ◌+◌, ◌*◌, ◌-◌, drop, sym, ◌∙◌, arith}
use Rattle.sheet.specs.Format.{sheet_of}
use Rattle.sheet.proofs.Round.{line_inside}
use Rattle.sheet.proofs.Scanned.{some_left, read_full, read_bad, scan_none, scan_more}
use Rattle.sheet.proofs.reading.scan.Goals as goal

pub loop-k-init : goal.loop-k-init
unfolding sheet_of
loop-k-init c = let e : c.args.room - 0 ≡ c.args.room = omega arith in (omega arith, rw e)

pub returns-then-text-k : goal.returns-then-text-k
returns-then-text-k c =
    let l = c.loop-k in
    sym (scan_none (c.args.room - l.k) l.k c.args.text.now (11 * l.k) (omega arith)) ∙ l.invariant.1

pub returns-then-not-is_line : goal.returns-then-not-is_line
returns-then-not-is_line c =
    let l = c.loop-k in
    sym (read_bad (drop (11 * l.k) c.args.text.now) (some_left c.args.text.now (11 * l.k) (omega arith)) (c.args.room - l.k) l.k
    (omega arith) (sym c.is_line.ensures ∙ c.if-not-is_line.true))
    ∙ l.invariant.1

pub loop-k-preserved : goal.loop-k-preserved
loop-k-preserved c =
    let l = c.loop-k in
    let good = sym c.is_line.ensures ∙ c.if-not-is_line.false in
    let inside = line_inside c.args.text.now (11 * l.k) good in
    let e : 11 * l.k + 11 ≡ 11 * (l.k + 1) = omega arith in (
      omega (arith, inside),
      rw e at (sym (scan_more c.args.text.now (11 * l.k) (omega arith) c.args.room l.k (omega arith) good) ∙ l.invariant.1),
    )

pub returns-then-room-text : goal.returns-then-room-text
returns-then-room-text c =
    let l = c.loop-k in
    let e : l.k ≡ c.args.room = omega arith in
    let z : c.args.room - c.args.room ≡ 0 = omega arith in
    sym (read_full (drop (11 * c.args.room) c.args.text.now) (some_left c.args.text.now (11 * c.args.room) (omega arith)) c.args.room)
    ∙ (rw (e, z) at l.invariant.1)

pub returns : goal.returns
returns c =
    let l = c.loop-k in
    let e : l.k ≡ c.args.room = omega arith in
    sym (scan_none (c.args.room - c.args.room) c.args.room c.args.text.now (11 * c.args.room) (omega arith)) ∙ (rw e at l.invariant.1)
