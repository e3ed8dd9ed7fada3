use Rattle.std.proofs.Common.{◌≡◌, ◌++◌, sym, ap, ◌∙◌, arith, length, take, drop, length-take-le}
use Rattle.lundump.specs.Chunk.{words_room}
use Rattle.lundump.specs.Search.{reported}
use Rattle.lines.specs.Ldebug.{lines_of}
use Rattle.lines.specs.Lines.{line_info_at, lines_in}
use Rattle.lines.proofs.Passes.{answer_is, is_filled, unaltered, lines_few, lines_room, lines_filled}
use Rattle.lines.proofs.lines.lines_by.Goals as goal

pub returns-in_default : goal.returns-in_default
returns-in_default c =
    record {
      value = c.from.ensures ∙ (ap reported c.located_in-found.ensures ∙ answer_is c.args.chunk.now c.args.choice (words_room (length c.args.lines.now)));
      lines_after = unaltered c.args.chunk.now c.args.choice (words_room (length c.args.lines.now)) _ (lines_in c.args.chunk.now) _ (sym c.located_in-found.ensures ∙ c.in_default.is);
    }

pub fill_lines-requires : goal.fill_lines-requires
fill_lines-requires c =
    let f = is_filled c.args.chunk.now c.args.choice (words_room (length c.args.lines.now)) _ (sym c.located_in-found.ensures ∙ c.in-Ok.is) in
    let few = lines_few c.args.chunk.now c.args.choice (words_room (length c.args.lines.now)) _ f in
    let e : length (take c.in-Ok.f.words c.args.lines.now) ≡ c.in-Ok.f.words =
    length-take-le c.in-Ok.f.words c.args.lines.now (lines_room c.args.chunk.now c.args.choice (words_room (length c.args.lines.now)) _ f) in
    omega (arith, few)

pub returns : goal.returns
returns c =
    let f = is_filled c.args.chunk.now c.args.choice (words_room (length c.args.lines.now)) _ (sym c.located_in-found.ensures ∙ c.in-Ok.is) in
    record {
      value = c.from-2.ensures ∙ (ap reported (sym c.in-Ok.is ∙ c.located_in-found.ensures) ∙ answer_is c.args.chunk.now c.args.choice (words_room (length c.args.lines.now)));
      lines_after = lines_filled c.args.chunk.now c.args.choice (words_room (length c.args.lines.now)) _ f _ _
          (ap (λ xs. xs ++ drop c.in-Ok.f.words c.args.lines.now)
          (c.fill_lines.ensures ∙ ap (lines_of (line_info_at c.args.chunk.now c.in-Ok.f.first_at c.in-Ok.f.lines_at))
          (length-take-le c.in-Ok.f.words c.args.lines.now (lines_room c.args.chunk.now c.args.choice (words_room (length c.args.lines.now)) _ f))));
    }

pub slice_bounds-fill_lines-end : goal.slice_bounds-fill_lines-end
slice_bounds-fill_lines-end c =
    lines_room c.args.chunk.now c.args.choice (words_room (length c.args.lines.now)) _
    (is_filled c.args.chunk.now c.args.choice (words_room (length c.args.lines.now)) _ (sym c.located_in-found.ensures ∙ c.in-Ok.is))

pub slice_bounds-fill_lines-end-2 : goal.slice_bounds-fill_lines-end-2
slice_bounds-fill_lines-end-2 c =
    sym (length-take-le c.in-Ok.f.words c.args.lines.now
    (lines_room c.args.chunk.now c.args.choice (words_room (length c.args.lines.now)) _
    (is_filled c.args.chunk.now c.args.choice (words_room (length c.args.lines.now)) _ (sym c.located_in-found.ensures ∙ c.in-Ok.is))))
