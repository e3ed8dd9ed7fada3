-- Inner: no public promise and no law between crates rests on what stands here.
-- The chosen function among those read, for the contracts within this crate and those over it: the code goes
-- past functions and keeps the layout of one.
-- Assumes nothing.
use Rattle.std.specs.Prelude.{Bool, cond, ◌&&◌, List, [], ◌∷◌, ℕ, zero, suc, leb, length, Result, Ok, Err}
use Rattle.common.specs.Numbers.{«ACCEPTED»}
use Rattle.common.specs.declared.refusal.Refusal.{Refusal}
use Rattle.common.specs.declared.refusal.Refusal.TheVariants.{MalformedChunk, ShortSlice}
use Rattle.common.specs.Refusals.{refusal_number, refusal_place}
use Rattle.loaders.specs.Reading.{Outcome}
use Rattle.lundump.specs.declared.functions.Layout.{Layout}
use Rattle.lundump.specs.declared.functions.Rooms.{Rooms}
use Rattle.lundump.specs.declared.counts.Counts.{Counts}
use Rattle.lundump.specs.Lundump.{Function}

-- what the first pass keeps of a function
abbrev pub layout_of : Function → Layout
layout_of f =
    record {
      first_at = f.first_at;
      code_at = f.code_at;
      words = length f.words;
      constants_at = f.constants_at;
      constants = length f.constants;
      lines_at = f.lines_at;
      names_at = f.names_at;
      names = f.upvalues;
    }

-- a search goes past functions: so many are left before the one looked for, or it is found
unfoldable pub search : Result Layout ℕ → List Function → Result Layout ℕ
search (Ok l) fs = Ok l
search (Err n) [] = Err n
search (Err zero) (f ∷ fs) = Ok (layout_of f)
search (Err (suc n)) (f ∷ fs) = search (Err n) fs

-- one function is passed
abbrev pub passed : Result Layout ℕ → Result Layout ℕ
passed (Ok l) = Ok l
passed (Err zero) = Err zero
passed (Err (suc n)) = Err n

-- the end of a function: it is the one looked for, or the search stands as after those within
abbrev pub settled : Result Layout ℕ → Layout → Result Layout ℕ → Result Layout ℕ
settled (Ok l) own inner = inner
settled (Err zero) own inner = Ok own
settled (Err (suc n)) own inner = inner

-- the whole chunk
abbrev pub located_of : Outcome Function → Result Layout Refusal
located_of (Ok (f, at)) = Ok (layout_of f)
located_of (Err e) = Err e

abbrev pub found_of : Result Layout ℕ → Result Layout Refusal
found_of (Ok l) = Ok l
found_of (Err n) = Err MalformedChunk

abbrev pub located_by : Outcome (Result Layout ℕ) → Result Layout Refusal
located_by (Ok (s, at)) = found_of s
located_by (Err e) = Err e

-- the answer for what was located
abbrev pub reported : Result Layout Refusal → Counts
reported (Ok l) =
    record { number = «ACCEPTED»; place = 0; words = l.words; constants = l.constants; names = l.names }
reported (Err e) =
    record { number = refusal_number e; place = refusal_place e; words = 0; constants = 0; names = 0 }

-- 6, where a slice has too little room for what was located
abbrev pub roomy : Layout → Rooms → Bool
roomy l rooms =
    leb l.words rooms.words
    && (leb l.constants rooms.tags
    && (leb l.constants rooms.payloads
    && leb l.names rooms.names))

unfoldable pub roomed : Rooms → Result Layout Refusal → Result Layout Refusal
roomed rooms (Ok l) = cond (roomy l rooms) (Ok l) (Err ShortSlice)
roomed rooms (Err e) = Err e
