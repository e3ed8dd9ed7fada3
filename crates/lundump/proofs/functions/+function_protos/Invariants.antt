-- A function asks for those within it at its own level, and those for theirs at a level below.
use Rattle.std.proofs.Common.{◌≡◌, ◌-◌, ◌+◌}
use Rattle.loaders.specs.Reading.{read_as}
use Rattle.lundump.specs.Lundump.{several, load_function}
use Rattle.lundump.specs.Search.{search}
use Rattle.lundump.proofs.functions.+function_protos.Given as goal

abbrev pub decreases-function : goal.decreases-function
decreases-function l = l.level + l.level + 1

abbrev pub decreases-protos : goal.decreases-protos
decreases-protos l = l.level + l.level

abbrev pub invariant-protos-loop-i : goal.invariant-protos-loop-i
invariant-protos-loop-i l =
    read_as (search l.initial.found) (several (load_function (l.level - 1)) l.n l.chunk l.start)
    ≡ read_as (search l.found) (several (load_function (l.level - 1)) (l.n - l._i) l.chunk l.at)
