-- antt computes the numbers of the rows from the cases and holds the code's tables against them. Assumes nothing.
use Rattle.std.proofs.Common.{◌≡◌}
use Rattle.fields.specs.declared.version.Version.TheVariants.{Lua54, Lua53}
use Rattle.touches.specs.declared.lua54.table.TheConstants.{ACCESSES}
use Rattle.touches.specs.declared.lua53.table.TheConstants.{ACCESSES_53}
use Rattle.touches.specs.Versions.{accesses_of}
use Rattle.touches.specs.Table.{table_of}
use Rattle.touches.proofs.Choices.{by_test}

pub is_table : ACCESSES ≡ table_of Lua54
unfolding table_of accesses_of
is_table = by_test ACCESSES (table_of Lua54) tt

pub is_table_53 : ACCESSES_53 ≡ table_of Lua53
unfolding table_of accesses_of
is_table_53 = by_test ACCESSES_53 (table_of Lua53) tt
