-- `lifted::lifted::head`: a number that is there stays what it is, and each stands in its place.
-- Assumes nothing.
use Rattle.std.proofs.Common.{◌≡◌, rules}
use Rattle.lifted.specs.Record.{head_numbers}
use Rattle.lifted.proofs.lifted.head.Goals as goal

pub returns : goal.returns
unfolding head_numbers
returns c =
    let jump : c.map.result ≡ c.args.i.jump_target = search rules in
    let companion : c.map-2.result ≡ c.args.i.companion_pc = search rules in
    let fallback : c.map-3.result ≡ c.args.i.metamethod_fallback = search rules in
    search rules
