-- `lifted::lifted::put_list`: the first places are put.
-- Assumes nothing.
use Rattle.std.proofs.Common.{◌≡◌, [], ◌∷◌, ◌++◌}
use Rattle.common.specs.Lists.{put}
use Rattle.lifted.specs.Record.{places_numbers}
use Rattle.lifted.proofs.lifted.put_list.Given as goal

abbrev pub invariant-loop-k : goal.invariant-loop-k
invariant-loop-k g l =
    l.numbers ≡ put l.fn.numbers l.at ((l.list.count ∷ []) ++ places_numbers g.T.Flat.flat g.T.Filler.filler l.list.slots l.k)
