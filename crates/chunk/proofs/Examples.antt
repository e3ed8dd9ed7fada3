-- The definitions compute on names. Assumes nothing.
use mathlib.Core.Path.{refl}
use Rattle.common.specs.Chain.{choose}
use Rattle.common.specs.Lowest.{lowest_from}
use Rattle.values.specs.Values.{name_of}
use Rattle.values.specs.Spans.{past, name_past_at}
use Rattle.chunk.specs.Names.{checked, or_else, found, shown_of}
use Rattle.chunk.specs.Examples.{NamesRead}

pub names_read : NamesRead
unfolding choose lowest_from past name_past_at name_of checked or_else found shown_of
names_read = record { of_chunk = refl; empty = refl; of_list = refl; neither = refl; past_both = refl; chunk_first = refl; then_list = refl }
