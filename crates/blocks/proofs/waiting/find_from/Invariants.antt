use Rattle.std.proofs.Common.{◌*◌, min}
use Rattle.blocks.specs.Blocks.{NoneWaits, Looks}
use Rattle.blocks.proofs.waiting.find_from.Given as goal

abbrev pub invariant-loop-page : goal.invariant-loop-page
invariant-loop-page l =
    record {
      none : NoneWaits l.waiting l.i (min l.n (l.page * 128));
      looks : Looks l.n l.waiting l.pages;
    }
