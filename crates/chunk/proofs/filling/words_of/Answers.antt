use Rattle.std.proofs.Common.{◌∙◌, sym, ap}
use Rattle.lundump.specs.Chunk.{words_of}
use Rattle.lundump.specs.Search.{reported}
use Rattle.chunk.proofs.Passes.{is_filled, answer_is, nothing_altered, code_again, words_filled}
use Rattle.chunk.proofs.filling.words_of.Goals as goal

pub returns-in_default-clause-value : goal.returns-in_default-clause-value
returns-in_default-clause-value c = c.from.ensures ∙ ap reported c.fitted-found.ensures ∙ answer_is c.args.chunk.now c.args.k _

pub returns-in_default-clause-words_after : goal.returns-in_default-clause-words_after
returns-in_default-clause-words_after c = nothing_altered _ _ _ _ c.fitted-found.ensures _ c.in_default.is words_of _

pub fill_code-requires : goal.fill_code-requires
fill_code-requires c = let f = is_filled c.args.chunk.now c.args.k _ c.in-Ok.f _ c.fitted-found.ensures c.in-Ok.is in code_again _ _ _ _ f

pub returns-clause-value : goal.returns-clause-value
returns-clause-value c = c.from-2.ensures ∙ ap reported (sym c.in-Ok.is ∙ c.fitted-found.ensures) ∙ answer_is c.args.chunk.now c.args.k _

pub returns-clause-words_after : goal.returns-clause-words_after
returns-clause-words_after c = let f = is_filled c.args.chunk.now c.args.k _ c.in-Ok.f _ c.fitted-found.ensures c.in-Ok.is in words_filled _ _ _ _ f _ _ c.fill_code.ensures
