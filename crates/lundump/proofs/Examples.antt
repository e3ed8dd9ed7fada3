-- The definitions compute on small chunks. Assumes nothing.
use mathlib.Core.Path.{refl}
use Rattle.loaders.specs.Reading.{repeat, little_end}
use Rattle.loaders.specs.Loaders.{load_block, load_byte, unsigned_from, load_unsigned, load_number}
use Rattle.loaders.specs.Loaders.{load_integer, string_of, load_string_n, load_string}
use Rattle.lundump.specs.Lundump.{load_vector}
use Rattle.loaders.specs.Loaders.{constant_by_tag, load_constant}
use Rattle.lundump.specs.Lundump.{load_items, words_from, load_code}
use Rattle.lundump.specs.Lundump.{load_upvalues, load_abs_line, load_loc_var, load_lines, names_from}
use Rattle.lundump.specs.Lundump.{load_names, load_head, function_with, several, none_of, load_protos}
use Rattle.lundump.specs.Lundump.{check_bytes, check_header, undump}
use Rattle.lundump.specs.Chunk.{pick, chosen, values_of, counts_of, after}
use Rattle.lundump.specs.Examples.{ExampleRead, NestedRead}

-- all that the examples compute with
unfoldable pub readers : Unit {0}
unfolding repeat little_end load_block load_byte unsigned_from load_unsigned load_number load_integer string_of
    load_string_n load_string load_vector load_items words_from load_code constant_by_tag load_constant load_upvalues
    load_abs_line load_loc_var load_lines names_from load_names load_head function_with several none_of load_protos
    check_bytes check_header undump pick chosen values_of counts_of after
readers = tt

pub example_read : ExampleRead
unfolding readers
example_read = record { counts = refl; words = refl; tags = refl; payloads = refl; names = refl; no_second = refl }

pub nested_read : NestedRead
unfolding readers
nested_read =
    record {
      main = refl;
      main_words = refl;
      first = refl;
      first_words = refl;
      within_words = refl;
      second_words = refl;
      no_fifth = refl;
      trailing = λ byte. refl;
      deep = refl;
      not_deep = refl;
    }
