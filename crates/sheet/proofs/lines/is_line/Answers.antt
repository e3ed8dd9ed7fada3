use Rattle.std.proofs.Common.{◌≡◌, ◌≤◌, sym, ◌∙◌, arith, take, drop, length-drop}
use lib.ListN.{length-take}
use Rattle.common.specs.Limits.{most_word}
use Rattle.sheet.specs.Line.{line_value}
use Rattle.sheet.proofs.Round.{line_short, line_big, line_fits}
use Rattle.sheet.proofs.lines.is_line.Goals as goal

pub returns-then-text-at-lt-LINE : goal.returns-then-text-at-lt-LINE
returns-then-text-at-lt-LINE c =
    sym (line_short (take 11 (drop c.args.at c.args.text.now)) (simp (length-take, length-drop) (omega arith)))

pub returns-then-v-gt-MOST_WORD : goal.returns-then-v-gt-MOST_WORD
returns-then-v-gt-MOST_WORD c =
    sym (line_big (take 11 (drop c.args.at c.args.text.now)) (rw c.value-v.ensures at c.if-v-gt-MOST_WORD.true))

pub returns : goal.returns
returns c =
    let v = c.value-v in
    let e : v.result ≡ line_value (take 11 (drop c.args.at c.args.text.now)) = v.ensures in
    let h : v.result ≤ most_word = c.if-v-gt-MOST_WORD.false in
    c.shows.ensures ∙ rw e (sym (line_fits (take 11 (drop c.args.at c.args.text.now)) (rw e at h)))
