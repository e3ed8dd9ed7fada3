use Rattle.lundump.specs.Lundump.{load_abs_line, load_loc_var}
use Rattle.lundump.proofs.parts.lines.Given as goal

abbrev pub ghost-counted : goal.ghost-counted
ghost-counted a = load_abs_line

abbrev pub ghost-counted-2 : goal.ghost-counted-2
ghost-counted-2 a = load_loc_var
