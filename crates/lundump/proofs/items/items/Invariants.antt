use Rattle.std.proofs.Common.{◌≡◌, ◌-◌}
use Rattle.loaders.specs.Reading.{repeat, past_of}
use Rattle.lundump.proofs.items.items.Given as goal

abbrev pub invariant-loop-i : goal.invariant-loop-i
invariant-loop-i g l =
    past_of (repeat g.reader 0 l.n l.chunk l.from) ≡ past_of (repeat g.reader l.i (l.n - l.i) l.chunk l.at)
