-- `touches::word::touches_53`: what the rows of the code's table say, by the definition.
-- Assumes nothing.
use Rattle.std.proofs.Common.{◌∙◌}
use Rattle.fields.specs.declared.version.Version.TheVariants.{Lua53}
use Rattle.touches.proofs.Tables.{is_table_53}
use Rattle.touches.proofs.Rows.{by_table}
use Rattle.touches.proofs.word.touches_53.Goals as goal

pub returns : goal.returns
returns c =
    c.touched.ensures ∙ rw is_table_53 (by_table Lua53 c.args.words.now c.args.p)
