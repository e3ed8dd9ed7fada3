use Rattle.lundump.specs.Lundump.{load_name}
use Rattle.lundump.proofs.parts.names.Given as goal

abbrev pub ghost-items : goal.ghost-items
ghost-items a = load_name
