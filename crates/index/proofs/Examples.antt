-- The definitions compute on bytes written by hand. Assumes nothing.
use mathlib.Core.Path.{refl}
use Rattle.loaders.specs.Reading.{repeat, little_end}
use Rattle.loaders.specs.Loaders.{load_block, load_byte, unsigned_from, load_unsigned, load_number, load_integer}
use Rattle.loaders.specs.Loaders.{string_of, load_string_n, load_string}
use Rattle.lundump.specs.Lundump.{load_vector, load_items, words_from, load_code}
use Rattle.loaders.specs.Loaders.{constant_by_tag, load_constant}
use Rattle.lundump.specs.Lundump.{load_upvalues, load_abs_line, load_loc_var, load_lines}
use Rattle.lundump.specs.Lundump.{names_from, load_names, load_head, function_with, several, none_of, load_protos}
use Rattle.lundump.specs.Lundump.{check_bytes, check_header, undump}
use Rattle.common.specs.Lists.{put}
use Rattle.index.specs.Listing.{functions_of}
use Rattle.index.specs.Early.{reads_on, ends_early}
use Rattle.index.specs.Examples.{ExampleCuts}

pub example_cuts : ExampleCuts
unfolding repeat little_end load_block load_byte unsigned_from load_unsigned load_number load_integer string_of
    load_string_n load_string load_vector load_items words_from load_code constant_by_tag load_constant load_upvalues
    load_abs_line load_loc_var load_lines names_from load_names load_head function_with several none_of load_protos
    check_bytes check_header undump functions_of put reads_on ends_early
example_cuts =
    record {
      cut_header = refl;
      cut_source = refl;
      cut_lines = refl;
      cut_word = refl;
      cut_string = refl;
      many-words = refl;
      no-string = refl;
    }
