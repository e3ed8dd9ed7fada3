use Rattle.std.proofs.Common.{◌≡◌, ◌/◌, drop}
use Rattle.loaders.specs.Loaders.{load_unsigned, unsigned_from}
use Rattle.loaders.proofs.reading.unsigned_at.Given as goal

abbrev pub invariant-loop-at : goal.invariant-loop-at
invariant-loop-at l =
    load_unsigned l.limit l.chunk l.from ≡ unsigned_from (l.limit / 128) l.x l.at (drop l.at l.chunk)
