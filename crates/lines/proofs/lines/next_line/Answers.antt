use Rattle.std.proofs.Common.{sym}
use Rattle.lines.proofs.Infos.{turn_move}
use Rattle.lines.proofs.lines.next_line.Goals as goal

pub returns-then-own-i : goal.returns-then-own-i
returns-then-own-i c =
    turn_move c.args.chunk.now c.args.b c.args.line c.args.i c.args.abs c.in-Some.own c.in-Some.at c.move_line.result
    (sym c.in-Some.ensures) c.if-own-i.true c.move_line.ensures
