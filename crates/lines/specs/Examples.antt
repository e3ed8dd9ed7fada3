-- Which number of a head is which, on bytes written by hand after lundump.c's loadFunction.
-- Assumes nothing.
use Rattle.std.specs.Prelude.{◌≡◌, List, [], ◌∷◌, ◌++◌, ℕ}
use Rattle.lundump.specs.Examples.{header}
use Rattle.lines.specs.declared.choosing.Choice.{Choice}
use Rattle.lines.specs.declared.choosing.Choice.TheVariants.{Number, Place}
use Rattle.lines.specs.declared.heads.FlatHead.{FlatHead}
use Rattle.lines.specs.Heads.{head_of, head_told}

-- Two functions, of which the second, from byte 48 on, stands in the first. loadFunction reads of each the
-- source ("@a", which starts at byte 33, and none), linedefined, lastlinedefined, numparams, is_vararg and
-- maxstacksize; then one word, no constant, no upvalue, the functions within it and no debug information.
-- A number that is no byte has its last seven bits in a byte above 127: 300 is 2, 172
abbrev pub two_heads : List ℕ
two_heads =
    header ++ (0
    ∷ 131 ∷ 64 ∷ 97 ∷ 128 ∷ 128 ∷ 0 ∷ 1 ∷ 2
    ∷ 129 ∷ 71 ∷ 0 ∷ 1 ∷ 0 ∷ 128 ∷ 128 ∷ 129
    ∷ 128 ∷ 133 ∷ 2 ∷ 172 ∷ 3 ∷ 0 ∷ 9
    ∷ 129 ∷ 71 ∷ 0 ∷ 1 ∷ 0 ∷ 128 ∷ 128 ∷ 128
    ∷ 128 ∷ 128 ∷ 128 ∷ 128
    ∷ 128 ∷ 128 ∷ 128 ∷ 128 ∷ [])

abbrev told_of : Choice → FlatHead
told_of c = head_told (head_of c two_heads)

-- the five numbers of a head are five different ones here, so that no two can be exchanged, in
-- code and definition alike
pub record ExampleHeads : Type 0 where
  pub linedefined : (told_of (Number 1)).linedefined ≡ 5
  pub lastlinedefined : (told_of (Number 1)).lastlinedefined ≡ 300
  pub numparams : (told_of (Number 1)).numparams ≡ 3
  pub is-vararg : (told_of (Number 1)).is_vararg ≡ 0
  pub maxstacksize : (told_of (Number 1)).maxstacksize ≡ 9
  -- "no source in dump? .. reuse parent's source"
  pub no_source : (told_of (Number 1)).source ≡ 18446744073709551615
  -- two bytes from byte 33 on
  pub main_source : (told_of (Number 0)).source ≡ 8589934625
  -- "main function is always declared vararg"
  pub main_is_vararg : (told_of (Number 0)).is_vararg ≡ 1
  pub by_place : told_of (Place 48) ≡ told_of (Number 1)
