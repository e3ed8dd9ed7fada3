use Rattle.fields.specs.lua54.Table.{opcode_table, mode_of, class_of, companion_of, fallback_of}
use Rattle.fields.proofs.Entries.{by_test}
use Rattle.fields.proofs.lua54.lookup.table.Goals as goal

pub returns : goal.returns
unfolding opcode_table mode_of class_of companion_of fallback_of
returns c = by_test _ opcode_table tt
