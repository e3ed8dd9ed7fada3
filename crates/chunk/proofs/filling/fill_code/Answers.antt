use Rattle.std.proofs.Common.{◌≡◌, ◌≤◌, ◌∙◌, sym, length, take, rules, arith}
use Rattle.std.proofs.lemmas.List.{length-take}
use Rattle.chunk.proofs.Refill.{no_code, code_inside, code_room, code_filled}
use Rattle.chunk.proofs.filling.fill_code.Goals as goal

pub returns-in_default : goal.returns-in_default
returns-in_default c = absurd (no_code _ _ (length c.args.words.now) _ (sym c.int.ensures ∙ c.in_default.is) c.requires)

pub slice_bounds-store_words-end : goal.slice_bounds-store_words-end
slice_bounds-store_words-end c = code_room _ _ (length c.args.words.now) _ _ (sym c.in-Ok.ensures) c.requires

pub slice_bounds-store_words-end-2 : goal.slice_bounds-store_words-end-2
slice_bounds-store_words-end-2 c =
    let h = code_room _ _ (length c.args.words.now) _ _ (sym c.in-Ok.ensures) c.requires in
    omega (arith, length-take c.in-Ok.n c.args.words.now)

pub store_words-requires : goal.store_words-requires
store_words-requires c =
    let h = code_room _ _ (length c.args.words.now) _ _ (sym c.in-Ok.ensures) c.requires in
    let i = code_inside _ _ (length c.args.words.now) _ _ (sym c.in-Ok.ensures) c.requires in
    omega (arith, length-take c.in-Ok.n c.args.words.now)

pub returns : goal.returns
returns c =
    let h = code_room _ _ (length c.args.words.now) _ _ (sym c.in-Ok.ensures) c.requires in
    let e : length (take c.in-Ok.n c.args.words.now) ≡ c.in-Ok.n = omega (arith, length-take c.in-Ok.n c.args.words.now) in
    rw (c.store_words.ensures, e) (code_filled _ _ (length c.args.words.now) _ _ (sym c.in-Ok.ensures) c.requires c.args.words.now)
