use Rattle.std.proofs.Common.{sym, ap, ◌∙◌, length}
use Rattle.lundump.specs.Chunk.{words_room, words_of}
use Rattle.lundump.specs.Search.{reported}
use Rattle.lines.proofs.Passes.{answer_is, is_filled, unaltered, code_again, words_filled}
use Rattle.lines.proofs.words.words_by.Goals as goal

pub returns-in_default : goal.returns-in_default
returns-in_default c =
    record {
      value = c.from.ensures ∙ (ap reported c.located_in-found.ensures ∙ answer_is c.args.chunk.now c.args.choice (words_room (length c.args.words.now)));
      words_after = unaltered c.args.chunk.now c.args.choice (words_room (length c.args.words.now)) _ words_of _ (sym c.located_in-found.ensures ∙ c.in_default.is);
    }

pub fill_code-requires : goal.fill_code-requires
fill_code-requires c = code_again c.args.chunk.now c.args.choice (words_room (length c.args.words.now)) _ (is_filled c.args.chunk.now c.args.choice (words_room (length c.args.words.now)) _ (sym c.located_in-found.ensures ∙ c.in-Ok.is))

pub returns : goal.returns
returns c =
    let f = is_filled c.args.chunk.now c.args.choice (words_room (length c.args.words.now)) _ (sym c.located_in-found.ensures ∙ c.in-Ok.is) in
    record {
      value = c.from-2.ensures ∙ (ap reported (sym c.in-Ok.is ∙ c.located_in-found.ensures) ∙ answer_is c.args.chunk.now c.args.choice (words_room (length c.args.words.now)));
      words_after = words_filled c.args.chunk.now c.args.choice (words_room (length c.args.words.now)) _ f _ _ c.fill_code.ensures;
    }
