use Rattle.std.proofs.Common.{◌∙◌, sym, length}
use Rattle.chunk.proofs.Refill.{no_constants, constants_same}
use Rattle.chunk.proofs.filling.fill_constants.Goals as goal

pub returns-in_default : goal.returns-in_default
returns-in_default c = absurd (no_constants _ _ (length c.args.tags.now) _ (sym c.int.ensures ∙ c.in_default.is) c.requires.1.0)

pub store_constants-requires : goal.store_constants-requires
store_constants-requires c =
    let e = constants_same _ _ (length c.args.tags.now) _ _ (sym c.in-Ok.ensures) c.requires.1.0 in
    (c.requires.0, (rw e at c.requires.1.0, rw e at c.requires.1.1))

pub returns : goal.returns
returns c =
    rw (constants_same _ _ (length c.args.tags.now) _ _ (sym c.in-Ok.ensures) c.requires.1.0) c.store_constants.ensures
