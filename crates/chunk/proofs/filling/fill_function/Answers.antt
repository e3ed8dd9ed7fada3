use Rattle.std.proofs.Common.{◌∙◌, sym, ap}
use Rattle.lundump.specs.Chunk.{words_of, tags_of, payloads_of, names_of}
use Rattle.lundump.specs.Search.{reported}
use Rattle.chunk.proofs.Passes.{is_filled, answer_is, nothing_altered, code_again, tags_again, payloads_again, names_again, words_filled, tags_filled, payloads_filled, names_filled}
use Rattle.chunk.proofs.filling.fill_function.Goals as goal

pub returns-in_default-clause-value : goal.returns-in_default-clause-value
returns-in_default-clause-value c = c.from.ensures ∙ ap reported c.fitted-found.ensures ∙ answer_is c.args.chunk.now c.args.k _

pub returns-in_default-clause-words_after : goal.returns-in_default-clause-words_after
returns-in_default-clause-words_after c = nothing_altered _ _ _ _ c.fitted-found.ensures _ c.in_default.is words_of _

pub returns-in_default-clause-tags_after : goal.returns-in_default-clause-tags_after
returns-in_default-clause-tags_after c = nothing_altered _ _ _ _ c.fitted-found.ensures _ c.in_default.is tags_of _

pub returns-in_default-clause-payloads_after : goal.returns-in_default-clause-payloads_after
returns-in_default-clause-payloads_after c = nothing_altered _ _ _ _ c.fitted-found.ensures _ c.in_default.is payloads_of _

pub returns-in_default-clause-names_after : goal.returns-in_default-clause-names_after
returns-in_default-clause-names_after c = nothing_altered _ _ _ _ c.fitted-found.ensures _ c.in_default.is names_of _

pub fill_code-requires : goal.fill_code-requires
fill_code-requires c = let f = is_filled c.args.chunk.now c.args.k _ c.in-Ok.f _ c.fitted-found.ensures c.in-Ok.is in code_again _ _ _ _ f

pub fill_constants-requires : goal.fill_constants-requires
fill_constants-requires c = let f = is_filled c.args.chunk.now c.args.k _ c.in-Ok.f _ c.fitted-found.ensures c.in-Ok.is in (f.bounded, (tags_again _ _ _ _ f, payloads_again _ _ _ _ f))

pub fill_names-requires : goal.fill_names-requires
fill_names-requires c = let f = is_filled c.args.chunk.now c.args.k _ c.in-Ok.f _ c.fitted-found.ensures c.in-Ok.is in (f.bounded, names_again _ _ _ _ f)

pub returns-clause-value : goal.returns-clause-value
returns-clause-value c = c.from-2.ensures ∙ ap reported (sym c.in-Ok.is ∙ c.fitted-found.ensures) ∙ answer_is c.args.chunk.now c.args.k _

pub returns-clause-words_after : goal.returns-clause-words_after
returns-clause-words_after c = let f = is_filled c.args.chunk.now c.args.k _ c.in-Ok.f _ c.fitted-found.ensures c.in-Ok.is in words_filled _ _ _ _ f _ _ c.fill_code.ensures

pub returns-clause-tags_after : goal.returns-clause-tags_after
returns-clause-tags_after c = let f = is_filled c.args.chunk.now c.args.k _ c.in-Ok.f _ c.fitted-found.ensures c.in-Ok.is in tags_filled _ _ _ _ f _ _ c.fill_constants.ensures.0

pub returns-clause-payloads_after : goal.returns-clause-payloads_after
returns-clause-payloads_after c = let f = is_filled c.args.chunk.now c.args.k _ c.in-Ok.f _ c.fitted-found.ensures c.in-Ok.is in payloads_filled _ _ _ _ f _ _ c.fill_constants.ensures.1

pub returns-clause-names_after : goal.returns-clause-names_after
returns-clause-names_after c = let f = is_filled c.args.chunk.now c.args.k _ c.in-Ok.f _ c.fitted-found.ensures c.in-Ok.is in names_filled _ _ _ _ f _ _ c.fill_names.ensures
