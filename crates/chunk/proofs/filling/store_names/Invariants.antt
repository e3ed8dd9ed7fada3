use Rattle.loaders.specs.Lent.{name_number}
use Rattle.lundump.specs.Lundump.{load_name}
use Rattle.chunk.proofs.Stores.{Mid}
use Rattle.chunk.proofs.filling.store_names.Given as goal

abbrev pub invariant-loop-i : goal.invariant-loop-i
invariant-loop-i l = Mid name_number load_name l.chunk l.from l.n l.fn.names l.names l.i l.at
