-- A function of a chunk, chosen by its number, as request C-11 has it, or by its place: where its first byte
-- stands. What is read, counted and filled of it is the same; by its place none but its own bytes are read,
-- and those of the functions within it.
-- Assumes nothing.
use Rattle.std.specs.Prelude.{List, ℕ, leb, length}
use Rattle.common.specs.Limits.{most_bytes, levels_below}
use Rattle.loaders.specs.Reading.{Outcome, bind, only}
use Rattle.lundump.specs.Lundump.{Function, load_function}
use Rattle.lundump.specs.Chunk.{pick, chosen, room_for}
use Rattle.lundump.specs.declared.functions.Rooms.{Rooms}
use Rattle.lines.specs.declared.choosing.Choice.{Choice}
use Rattle.lines.specs.declared.choosing.Choice.TheVariants.{Number, Place}

-- the function whose first byte stands there: "The chunk's length is checked first", and the function is read
-- to its end, as if it were the main one
unfoldable pub function_at : ℕ → List ℕ → Outcome Function
function_at at bytes = only (leb (length bytes) most_bytes)
    (bind (load_function levels_below bytes at) (pick 0))

abbrev pub chosen_by : Choice → List ℕ → Outcome Function
chosen_by (Number k) bytes = chosen k bytes
chosen_by (Place at) bytes = function_at at bytes

-- "6 covers each slice to be filled", and comes last
unfoldable pub filled_by : Choice → List ℕ → Rooms → Outcome Function
filled_by c bytes rooms = bind (chosen_by c bytes) (room_for rooms)
