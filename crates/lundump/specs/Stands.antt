-- What the positions of a function mean: the same readers, started there, read that function, its head,
-- words, constants, lines and names.
-- Assumes nothing.
use Rattle.std.specs.Prelude.{◌≡◌, List, [], ◌∷◌, ℕ, ◌+◌, ◌≤◌, ◌<◌, length}
use Rattle.common.specs.Limits.{most_words, most_constants, most_names, levels_below}
use Rattle.std.specs.Prelude.{Ok, Err}
use Rattle.loaders.specs.Reading.{Outcome}
use Rattle.lundump.specs.Lundump.{
  Function,
  load_head,
  load_code,
  load_constants,
  load_lines,
  load_names,
  load_function,
}

pub record Stands (bytes : List ℕ) (f : Function) : Type 0 where
  -- "their first byte": a function read from there is this one, and then those within it
  pub level : ℕ
  pub few_levels : level ≤ levels_below
  pub within : List Function
  pub whole : load_function level bytes f.first_at ≡ Ok (f ∷ within, f.end_at)
  pub stack : ℕ
  pub head : load_head bytes f.first_at ≡ Ok (stack, f.code_at)
  pub code_next : ℕ
  pub code : load_code bytes f.code_at ≡ Ok (f.words, code_next)
  pub constants_next : ℕ
  pub constants : load_constants bytes f.constants_at ≡ Ok (f.constants, constants_next)
  pub locals : List ℕ
  pub lines : load_lines bytes f.lines_at ≡ Ok (locals, f.names_at)
  pub names_next : ℕ
  pub names : load_names f.upvalues bytes f.names_at ≡ Ok (f.names, names_next)
  -- "names, one per upvalue"
  pub one_each : length f.names ≡ f.upvalues
  -- "a word, constant or upvalue count exceeds 01's limits" was refused
  pub few-words : length f.words ≤ most_words
  pub few_constants : length f.constants ≤ most_constants
  pub few_names : length f.names ≤ most_names

abbrev pub AllStand : List ℕ → List Function → Type 0
AllStand bytes [] = Unit
AllStand bytes (f ∷ fs) = Stands bytes f × AllStand bytes fs

-- of whatever was read
abbrev pub AllRead : List ℕ → Outcome (List Function) → Type 0
AllRead bytes (Ok (fs, at)) = AllStand bytes fs
AllRead bytes (Err e) = Unit

abbrev pub OneRead : List ℕ → Outcome Function → Type 0
OneRead bytes (Ok (f, at)) = Stands bytes f
OneRead bytes (Err e) = Unit

-- functions one after another, from a position to a position: each starts at one of so many bytes, before
-- those behind it, and ends in time
abbrev pub StandBetween : ℕ → ℕ → List Function → ℕ → Type 0
StandBetween size lo [] hi = lo ≤ hi
StandBetween size lo (f ∷ fs) hi =
    (lo ≤ f.first_at) × ((f.first_at < size) × ((f.end_at ≤ hi) × StandBetween size (f.first_at + 1) fs hi))

abbrev pub ReadBetween : ℕ → ℕ → Outcome (List Function) → Type 0
ReadBetween size lo (Ok (fs, at)) = StandBetween size lo fs at
ReadBetween size lo (Err e) = Unit
