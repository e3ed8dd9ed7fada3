-- The fallback column by lifter.rs: what its arms push onto `metamethod_fallbacks`, opcode by opcode, an
-- event by its number in ltm.h; and what opcodes have that the Rust does not know.
-- Assumes nothing.
use Rattle.std.specs.Prelude.{ℕ, ◌≤◌, ◌<◌, ◌≡◌, List, [], ◌∷◌, ◌++◌, map, replicate}
use Rattle.fields.specs.Rows.{numbers}
use Rattle.fields.specs.lua54.Table.{
  no_mode,
  mode_of,
  alone,
  companion_of,
  FallbackRule,
  fixed,
  by_c,
  no_fallback,
  fallback_of,
}

abbrev pub pushed : List FallbackRule
pushed =
    -- 0 to 10, Move to Setupval
    replicate 11 no_fallback
    -- 11 to 14, Gettabup, Gettable, Geti, Getfield: "__index"
    ++ replicate 4 (fixed 0)
    -- 15 to 18, Settabup, Settable, Seti, Setfield: "__newindex"
    ++ replicate 4 (fixed 1)
    -- 19 and 20, Newtable, SelfOp: "__index"
    ++ (no_fallback ∷ fixed 0 ∷ [])
    -- 21 to 45, Addi to Shr
    ++ replicate 25 no_fallback
    -- 46 to 48, Mmbin, Mmbini, Mmbink: tm_name(raw.c)
    ++ replicate 3 by_c
    -- 49 to 55, Unm "__unm", Bnot "__bnot", Not, Len "__len", Concat "__concat", Close, Tbc "__close"
    ++ (fixed 18 ∷ fixed 19 ∷ no_fallback ∷ fixed 4 ∷ fixed 22 ∷ no_fallback ∷ fixed 24 ∷ [])
    -- 56 to 67, Jmp to Testset
    ++ replicate 12 no_fallback
    -- 68 and 69, Call, Tailcall: "__call"
    ++ replicate 2 (fixed 23)
    -- 70 to 82, Return to Extraarg
    ++ replicate 13 no_fallback

pub record Fallbacks : Type 0 where
  -- computed for all 83
  pub known : map fallback_of (numbers 0 83) ≡ pushed
  -- "83 to 127 have no mode, companion or fallback"
  pub unknown : (o : ℕ) → 83 ≤ o → o < 128
      → (mode_of o ≡ no_mode) × (companion_of o ≡ alone) × (fallback_of o ≡ no_fallback)
