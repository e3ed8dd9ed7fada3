-- What callers go by. proofs/Laws.antt has the one value of `Laws`, and a crate above cites it and
-- no other proof of this one.
-- Assumes nothing.
use Rattle.std.specs.Prelude.{ℕ, ◌≡◌, List}
use Rattle.fields.specs.declared.version.Version.{Version}
use Rattle.fields.specs.declared.version.Version.TheVariants.{Lua54, Lua53}
use Rattle.touches.specs.Touches.{touches_for}
use Rattle.touches.specs.Table.{table_of, touches_lent}
use Rattle.touches.specs.Isk.{RK}
use Rattle.touches.specs.Meaning.{Meaning}
use Rattle.touches.specs.Examples.{ExamplesHold}
use Rattle.touches.specs.lua54.Examples as examples54
use Rattle.touches.specs.lua53.Examples as examples53

pub record Laws : Type 0 where
  -- the form of the lists, and that they are exactly what lvm.c touches
  pub meaning : (v : Version) → Meaning v
  -- words of each version and their lists by number
  pub by_hand54 : ExamplesHold Lua54 examples54.examples
  pub by_hand53 : ExamplesHold Lua53 examples53.examples
  -- the bit by which 5.3 tells constants from registers, by number
  pub rk : RK
  -- by the table that the code has
  pub by_table : (v : Version) (ws : List ℕ) (p : ℕ) → touches_lent v (table_of v) ws p ≡ touches_for v ws p
