-- The definitions compute on bytes written by hand. Assumes nothing.
use mathlib.Core.Path.{refl}
use Rattle.loaders.specs.Reading.{repeat, little_end}
use Rattle.loaders.specs.Loaders.{load_block, load_byte, unsigned_from, load_unsigned, load_number, load_integer}
use Rattle.loaders.specs.Loaders.{string_of, load_string_n, load_string}
use Rattle.lundump.specs.Lundump.{load_vector, load_items, words_from, load_code}
use Rattle.loaders.specs.Loaders.{constant_by_tag, load_constant}
use Rattle.lundump.specs.Lundump.{load_upvalues, load_abs_line, load_loc_var, load_lines}
use Rattle.lundump.specs.Lundump.{names_from, load_names, load_head, function_with, several, none_of, load_protos}
use Rattle.lundump.specs.Lundump.{check_bytes, check_header, undump}
use Rattle.lundump.specs.Chunk.{pick, chosen}
use Rattle.lines.specs.Choices.{function_at}
use Rattle.lines.specs.Heads.{read_numbers, read_head, head_of}
use Rattle.lines.specs.Examples.{ExampleHeads}

pub example_heads : ExampleHeads
unfolding repeat little_end load_block load_byte unsigned_from load_unsigned load_number load_integer string_of
    load_string_n load_string load_vector load_items words_from load_code constant_by_tag load_constant load_upvalues
    load_abs_line load_loc_var load_lines names_from load_names load_head function_with several none_of load_protos
    check_bytes check_header undump pick chosen function_at read_numbers read_head head_of
example_heads =
    record {
      linedefined = refl;
      lastlinedefined = refl;
      numparams = refl;
      is-vararg = refl;
      maxstacksize = refl;
      no_source = refl;
      main_source = refl;
      main_is_vararg = refl;
      by_place = refl;
    }
