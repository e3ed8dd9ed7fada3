-- The limits of documents 01 and 02 by their own numbers, beside the names that contracts cite: one that is
-- changed in its definition and in the code alike is refused here. By number stand also those of C-20 and
-- C-21, and a chunk's bytes, in the statements of budget, rehearsal and chunk, the services in meter's, and
-- the largest word in sheet's. The last two fields are no document's numbers.
-- Assumes nothing.
use Rattle.std.specs.Prelude.{◌≡◌}
use Rattle.common.specs.Limits as limit
use Rattle.runs.specs.Weights.{weight_count}

pub record Limits : Type 0 where
  -- "more than 32,768 words"
  pub words : limit.most_words ≡ 32768
  -- "tag and payload counts differ, or over 65,536"
  pub constants : limit.most_constants ≡ 65536
  -- "over 255 names"
  pub names : limit.most_names ≡ 255
  -- "line 4,097 exists"
  pub lines : limit.most_lines ≡ 4096
  -- "sheet line malformed or over 4,294,967,295"
  pub word : limit.most_word ≡ 4294967295
  -- "adds a service, staying at 4,294,967,295"
  pub services : limit.most_services ≡ 4294967295
  -- request C-11: "the chunk passes 4,294,967,295 bytes"
  pub bytes : limit.most_bytes ≡ 4294967295
  -- request C-11: "at most 32 levels, the main function being level 1": 31 below it
  pub levels : limit.levels_below ≡ 31
  -- request C-11: "A string's tag is 4 up to 40 bytes and 20 above"
  pub short : limit.short_length ≡ 40
  -- request C-11: "a number overflows lundump.c's own limit": INT_MAX, 2^31 - 1, of loadInt, and MAX_SIZET,
  -- 2^64 - 1, of loadSize
  pub int : limit.int_max ≡ 2147483647
  pub size : limit.size_max ≡ 18446744073709551615
  -- request C-17: "Let the caller lend 128 weights of 1 to 255"
  pub weights : weight_count ≡ 128
  pub heaviest : limit.heaviest_weight ≡ 255
  -- request C-20: "a script number above 3"
  pub script : limit.last_script ≡ 3
  -- request C-20: "an allowance S, 1 to 16,777,216"
  pub allowance : limit.most_budget ≡ 16777216
  -- request C-21: "1 to 4 accepted scripts", "q from 1 to 1,000"
  pub scripts : limit.most_scripts ≡ 4
  pub quantum : limit.most_quantum ≡ 1000
  -- request C-14: ranges of registers "use 16 bits", hence 2^16 registers
  pub registers : limit.most_registers ≡ 65536
  -- ours: the room of the owner's command, 4 MiB for a file and 2^17 functions in it
  pub file : limit.file_bytes ≡ 4194304
  pub functions : limit.most_functions ≡ 131072
