use Rattle.std.proofs.Common.{length}
use Rattle.lines.proofs.Infos.{Storing}
use Rattle.lines.proofs.lines.store_lines.Given as goal

abbrev pub invariant-loop-i : goal.invariant-loop-i
invariant-loop-i l =
    Storing l.chunk l.p.lineinfo.now l.defined (length l.fn.lines) l.p.abs l.lines l.line l.abs l.i
