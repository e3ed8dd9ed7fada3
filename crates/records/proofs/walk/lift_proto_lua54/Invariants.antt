-- `records::walk::lift_proto_lua54`: the first records are filled.
-- Assumes nothing.
use Rattle.std.proofs.Common.{◌≡◌}
use Rattle.records.specs.Walk.{filled_records}
use Rattle.records.proofs.walk.lift_proto_lua54.Given as goal

abbrev pub invariant-loop-pc : goal.invariant-loop-pc
invariant-loop-pc l =
    l.records ≡ filled_records l.words l.tags l.payloads l.names l.pc l.initial.records
