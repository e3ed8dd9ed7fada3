use Rattle.std.proofs.Common.{eq-eqb}
use borrow.Author.Tests.{ne_eqb}
use Rattle.sheet.specs.Columns.{glyph_of}
use Rattle.sheet.proofs.digits.glyph.Goals as goal

pub returns-then-v-eq0 : goal.returns-then-v-eq0
unfolding glyph_of
returns-then-v-eq0 c = rw (eq-eqb c.args.v 0 c.if-v-eq0.true)

pub returns-else-v-eq0 : goal.returns-else-v-eq0
unfolding glyph_of
returns-else-v-eq0 c = rw (ne_eqb c.args.v 0 c.if-v-eq0.false) c.digit.ensures
