use Rattle.std.proofs.Common.{◌∙◌, ap}
use Rattle.lundump.specs.Search.{reported}
use Rattle.chunk.proofs.Passes.{count_is}
use Rattle.chunk.proofs.filling.count_function.Goals as goal

pub returns : goal.returns
returns c = c.from.ensures ∙ ap reported c.locate.ensures ∙ count_is c.args.chunk.now c.args.k
