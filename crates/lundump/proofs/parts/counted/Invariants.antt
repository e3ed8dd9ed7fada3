use Rattle.lundump.proofs.parts.counted.Given as goal

abbrev pub ghost-items : goal.ghost-items
ghost-items g a = g.reader
