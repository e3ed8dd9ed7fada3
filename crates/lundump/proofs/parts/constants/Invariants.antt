use Rattle.loaders.specs.Loaders.{load_constant}
use Rattle.lundump.proofs.parts.constants.Given as goal

abbrev pub ghost-counted : goal.ghost-counted
ghost-counted a = load_constant
