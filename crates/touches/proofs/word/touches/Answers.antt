-- `touches::word::touches`: what the rows of the code's table say, by the definition.
-- Assumes nothing.
use Rattle.std.proofs.Common.{◌∙◌}
use Rattle.fields.specs.declared.version.Version.TheVariants.{Lua54}
use Rattle.touches.proofs.Tables.{is_table}
use Rattle.touches.proofs.Rows.{by_table}
use Rattle.touches.proofs.word.touches.Goals as goal

pub returns : goal.returns
returns c =
    c.touched.ensures ∙ rw is_table (by_table Lua54 c.args.words.now c.args.p)
