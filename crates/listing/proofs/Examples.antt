-- The definitions compute on document 01's bytes. Assumes nothing.
use mathlib.Core.Path.{refl}
use Rattle.common.specs.Lowest.{lowest_from}
use Rattle.fields.specs.lua54.Table.{class_of, companion_of}
use Rattle.graph.specs.Marks.{leads, mark_of}
use Rattle.graph.specs.Longest.{within, heaviest, length_of, most, longest, first}
use Rattle.sweep.specs.Steps.{unless, one, ordered, two, serves_of}
use Rattle.steps.specs.lua54.Successors.{opcode_at, is_between, companion_present, successors_of}
use Rattle.runs.specs.Weights.{lowest_zero, refuses_weights, weights_place}
use Rattle.runs.specs.Run.{lowest_invalid, run_of, lengths_after}
use Rattle.sheet.specs.Columns.{digit_of, glyph_of, leading, columns}
use Rattle.sheet.specs.Line.{line_of, line_value, is_line}
use Rattle.sheet.specs.Format.{sheet_of, sheet_word_at, sheet_words}
use Rattle.sheet.specs.Rows.{cell_of, row_of, pair_of}
use Rattle.listing.specs.Answer.{line_at, listing_lines, listing_of, run_text, listing_answer}
use Rattle.listing.specs.Examples.{ExampleListing}

pub example_listing : ExampleListing
unfolding lowest_from class_of companion_of leads mark_of within heaviest length_of most longest first unless one
    ordered two serves_of opcode_at is_between companion_present successors_of lowest_zero refuses_weights
    weights_place lowest_invalid run_of lengths_after digit_of glyph_of leading columns line_of line_value is_line
    sheet_of sheet_word_at sheet_words cell_of row_of pair_of line_at listing_lines listing_of run_text listing_answer
example_listing = record { listing = refl; unreachable = refl; empty = refl; bad = refl; malformed = refl; sheet_first = refl; full = refl }
