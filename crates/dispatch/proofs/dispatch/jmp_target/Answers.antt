-- `dispatch::dispatch::jmp_target`: a difference of 64 bits is the signed sum of the definition.
-- Assumes nothing.
use Rattle.std.proofs.Common.{◌+◌, arith}
use Rattle.fields.specs.lua54.Word.{ax_of}
use Rattle.dispatch.proofs.Wrap.{wrapped}
use Rattle.dispatch.proofs.dispatch.jmp_target.Goals as goal

pub returns : goal.returns
returns c =
    let e = c.ax.ensures in
    rw e
    (wrapped (c.args.pc + 1) (ax_of c.args.word) 16777215 (omega (arith, e)) (omega arith))
