use Rattle.std.proofs.Common.{◌∙◌}
use Rattle.steps.proofs.Rows.{asks, says}
use Rattle.steps.proofs.lua54.settling.entry_by.Goals as goal

pub entry_of-requires : goal.entry_of-requires
entry_of-requires c = asks _ _ c.requires.1 c.requires.0 (c.successors_by.ensures ∙ c.requires.2)

pub returns : goal.returns
returns c = says _ _ c.requires.1 c.requires.0 (c.successors_by.ensures ∙ c.requires.2) c.entry_of.ensures
