use Rattle.loaders.specs.Loaders.{load_constant}
use Rattle.loaders.specs.Lent.{tag_of, payload_of}
use Rattle.chunk.proofs.Stores.{Mid}
use Rattle.chunk.proofs.filling.store_constants.Given as goal

abbrev pub invariant-loop-i : goal.invariant-loop-i
invariant-loop-i l =
    Mid tag_of load_constant l.chunk l.from l.n l.fn.tags l.tags l.i l.at
    × Mid payload_of load_constant l.chunk l.from l.n l.fn.payloads l.payloads l.i l.at
