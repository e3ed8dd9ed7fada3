use Rattle.std.proofs.Common.{ℕ, ap, ◌∙◌, ◌++◌, drop, replicate}
use Rattle.service.proofs.Outcome.{listing_refused, listing_accepted}
use Rattle.service.proofs.within.list_searched.Goals as goal

pub returns-in-Some-clause-lengths_after : goal.returns-in-Some-clause-lengths_after
returns-in-Some-clause-lengths_after c =
    (listing_refused _ _ c.requires.0 c.args.d _ c.requires.1 c.pair_words.ensures
    c.pair_words.auto.lengths c.in-Some.is
    (c.clear_lengths.ensures ∙ ap (λ (x : ℕ). replicate x 0 ++ drop x c.pair_words.new.lengths) c.pair_words.auto.lengths)).1.0

pub returns-clause-lengths_after : goal.returns-clause-lengths_after
returns-clause-lengths_after c =
    (listing_accepted _ _ c.requires.0 c.args.d _ c.requires.1 c.pair_words.ensures
    c.pair_words.auto.lengths c.in_default.is c.shorten.ensures c.write_list.ensures.lengths_after
    c.write_list.ensures.list_after).1.0

pub returns-clause-list_after : goal.returns-clause-list_after
returns-clause-list_after c =
    (listing_accepted _ _ c.requires.0 c.args.d _ c.requires.1 c.pair_words.ensures
    c.pair_words.auto.lengths c.in_default.is c.shorten.ensures c.write_list.ensures.lengths_after
    c.write_list.ensures.list_after).1.1
