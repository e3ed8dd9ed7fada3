-- A function asks for those within it at its own level, and those for theirs at a level below.
use Rattle.std.proofs.Common.{◌-◌, ◌+◌}
use Rattle.index.proofs.Notes.{Midway}
use Rattle.index.proofs.listing.+list_function_list_protos.Given as goal

abbrev pub decreases-list_function : goal.decreases-list_function
decreases-list_function l = l.level + l.level + 1

abbrev pub decreases-list_protos : goal.decreases-list_protos
decreases-list_protos l = l.level + l.level

abbrev pub invariant-list_protos-loop-i : goal.invariant-list_protos-loop-i
invariant-list_protos-loop-i l =
    Midway (l.level - 1) l.chunk l.start l.n l.parent l.first l.initial.places l.initial.parents l.places l.parents l.at l.total l._i
