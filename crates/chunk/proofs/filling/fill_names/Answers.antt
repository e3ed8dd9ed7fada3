use Rattle.std.proofs.Common.{◌≡◌, ◌∙◌, sym, length, take, rules, arith}
use Rattle.std.proofs.lemmas.List.{length-take}
use Rattle.chunk.proofs.Refill.{no_names, names_some, unnamed_room, unnamed_filled}
use Rattle.chunk.proofs.filling.fill_names.Goals as goal

pub returns-in_default : goal.returns-in_default
returns-in_default c =
    absurd (no_names _ _ (length c.args.names.now) c.args.upvalues _ (sym c.int.ensures ∙ c.in_default.is) c.requires.1)

pub slice_bounds-fill-end : goal.slice_bounds-fill-end
slice_bounds-fill-end c = unnamed_room _ _ (length c.args.names.now) _ _ (sym c.in-Ok.ensures) c.args.upvalues c.if-n-eq0.true c.requires.1

pub slice_bounds-fill-end-then-n-eq0 : goal.slice_bounds-fill-end-then-n-eq0
slice_bounds-fill-end-then-n-eq0 c =
    let h = unnamed_room _ _ (length c.args.names.now) _ _ (sym c.in-Ok.ensures) c.args.upvalues c.if-n-eq0.true c.requires.1 in
    omega (arith, length-take c.args.upvalues c.args.names.now)

pub store_names-requires : goal.store_names-requires
store_names-requires c =
    (c.requires.0, rw (names_some _ _ (length c.args.names.now) _ _ (sym c.in-Ok.ensures) c.args.upvalues c.if-n-eq0.false) at c.requires.1)

pub returns : goal.returns
returns c = rw (names_some _ _ (length c.args.names.now) _ _ (sym c.in-Ok.ensures) c.args.upvalues c.if-n-eq0.false) c.store_names.ensures

pub returns-then-n-eq0 : goal.returns-then-n-eq0
returns-then-n-eq0 c =
    let h = unnamed_room _ _ (length c.args.names.now) _ _ (sym c.in-Ok.ensures) c.args.upvalues c.if-n-eq0.true c.requires.1 in
    let e : length (take c.args.upvalues c.args.names.now) ≡ c.args.upvalues = omega (arith, length-take c.args.upvalues c.args.names.now) in
    rw (c.fill.ensures.after (λ y k. search rules), e)
    (unnamed_filled _ _ (length c.args.names.now) _ _ (sym c.in-Ok.ensures) c.args.upvalues c.if-n-eq0.true c.requires.1 c.args.names.now)
