-- The lines of a function's words: its linedefined and its line information, read at the positions that the
-- first pass kept of it. `specs/Ldebug.antt` says what they come to.
-- Assumes nothing.
use Rattle.std.specs.Prelude.{◌≡◌, List, [], ◌∷◌, ℕ, zero, suc, ◌+◌, ◌/◌, ◌≤◌, ◌<◌, length, get_or, take}
use Rattle.std.specs.Prelude.{drop}
use Rattle.common.specs.Limits.{int_max}
use Rattle.lines.specs.declared.lines.AbsLeft.{AbsLeft}
use Rattle.lines.specs.declared.lines.LinePlaces.{LinePlaces}
use Rattle.std.specs.Prelude.{Option, None, Ok, Err}
use Rattle.std.specs.Result.{result_ok}
use Rattle.loaders.specs.Reading.{Outcome, Reader, bind, and_then}
use Rattle.loaders.specs.Loaders.{load_block, load_int, load_string_n}
use Rattle.lundump.specs.Lundump.{Vector, Function}
use Rattle.lines.specs.declared.choosing.Choice.{Choice}
use Rattle.lines.specs.Choices.{chosen_by}
use Rattle.lines.specs.Ldebug.{
  AbsLine,
  LineInfo,
  no_abs,
  most_without_abs,
  funcline,
  Rises,
  Estimated,
  lines_from,
  lines_of,
}

-- what was read, 0 where nothing was: an accepted chunk is read to its end
abbrev pub or_none : Outcome ℕ → ℕ
or_none (Ok (v, at)) = v
or_none (Err e) = 0

-- its linedefined, behind the source
unfoldable pub defined_at : List ℕ → ℕ → ℕ
defined_at bytes at = or_none (and_then load_string_n load_int bytes at)

-- loadDebug: lineinfo, a byte for each instruction
unfoldable pub read_info : Reader Vector
read_info bytes at = bind (load_int bytes at)
    (λ n at₁. bind (load_block n bytes at₁) (λ _ at₂. Ok (record { start = at₁; count = n }, at₂)))

-- loadDebug: `f->abslineinfo[i].pc = loadInt(S); f->abslineinfo[i].line = loadInt(S)`
unfoldable pub read_abs : Reader AbsLine
read_abs bytes at = bind (load_int bytes at)
    (λ pc at₁. bind (load_int bytes at₁) (λ line at₂. Ok (record { pc = pc; line = line }, at₂)))

abbrev pub and_more : Outcome AbsLine → (ℕ → List AbsLine) → List AbsLine
and_more (Ok (a, at)) more = a ∷ more at
and_more (Err e) more = []

-- n of them from a position on
unfoldable pub abs_from : ℕ → List ℕ → ℕ → List AbsLine
abs_from zero bytes at = []
abs_from (suc n) bytes at = and_more (read_abs bytes at) (λ at₁. abs_from n bytes at₁)

abbrev pub abs_behind : List ℕ → Outcome ℕ → List AbsLine
abs_behind bytes (Ok (n, at)) = abs_from n bytes at
abs_behind bytes (Err e) = []

abbrev pub info_behind : ℕ → List ℕ → Outcome Vector → LineInfo
info_behind linedefined bytes (Ok (v, at)) =
    record {
      linedefined = linedefined;
      lineinfo = take v.count (drop v.start bytes);
      abslineinfo = abs_behind bytes (load_int bytes at);
    }
info_behind linedefined bytes (Err e) =
    record { linedefined = linedefined; lineinfo = []; abslineinfo = [] }

-- what a function knows of its lines
unfoldable pub line_info_at : List ℕ → ℕ → ℕ → LineInfo
line_info_at bytes first_at lines_at = info_behind (defined_at bytes first_at) bytes
    (read_info bytes lines_at)

-- a line for each word, 0 where there is no debug information
abbrev pub lines_in : List ℕ → Function → List ℕ
lines_in bytes f = lines_of (line_info_at bytes f.first_at f.lines_at) (length f.words)

-- For the contracts within this crate

-- where a vector starts, and its count
abbrev pub span_of : Vector → ℕ × ℕ
span_of v = (v.start, v.count)

-- the next absolute line, where so many are left, and the position past it
unfoldable pub next_abs : ℕ → List ℕ → ℕ → Option (AbsLine × ℕ)
next_abs zero bytes at = None
next_abs (suc n) bytes at = result_ok (read_abs bytes at)

-- where the line information at a position stands
pub record Placed (bytes : List ℕ) (at : ℕ) (p : LinePlaces) : Type 0 where
  pub info : (linedefined : ℕ) → info_behind linedefined bytes (read_info bytes at) ≡ record {
    linedefined = linedefined;
    lineinfo = p.lineinfo.now;
    abslineinfo = abs_from p.abs.left bytes p.abs.at;
  }

-- one line, of a word that has byte b
pub record LineTurns (bytes : List ℕ) (b line i : ℕ) (abs : AbsLeft) (r : ℕ × AbsLeft) : Type 0 where
  pub each :
      (m : ℕ) (bs : List ℕ) → lines_from (suc m) line i (abs_from abs.left bytes abs.at) (b ∷ bs)
      ≡ r.0 ∷ lines_from m r.0 (i + 1) (abs_from r.1.left bytes r.1.at) bs
  pub low : (most : ℕ) → int_max ≤ most → line ≤ most → r.0 ≤ most + 127

-- What callers go by: proofs/LineReads.antt proves it

-- the lineinfo at a position is there, and all of its abslineinfo
pub record InfoRead (bytes : List ℕ) (at : ℕ) : Type 0 where
  pub vector : Vector
  pub past : ℕ
  pub info : read_info bytes at ≡ Ok (vector, past)
  pub count : ℕ
  pub from : ℕ
  pub counted : load_int bytes past ≡ Ok (count, from)
  pub all : length (abs_from count bytes from) ≡ count

pub record LineLaws : Type 0 where
  -- of a function that was chosen
  pub read : (c : Choice) (bytes : List ℕ) (f : Function) (at : ℕ)
      → chosen_by c bytes ≡ Ok (f, at) → InfoRead bytes f.lines_at
  -- the line of a word that has a byte is luaG_getfuncline's, where the absolute lines rise
  -- and the C's lua_assert holds
  pub getfuncline :
      (bytes : List ℕ) (f : Function) (pc : ℕ)
      → pc < length f.words → pc < length (line_info_at bytes f.first_at f.lines_at).lineinfo
      → Rises 0 (line_info_at bytes f.first_at f.lines_at).abslineinfo
      → ((i : ℕ) → suc i ≡ pc / most_without_abs
      → 0 < length (line_info_at bytes f.first_at f.lines_at).abslineinfo
      → (get_or (line_info_at bytes f.first_at f.lines_at).abslineinfo 0 no_abs).pc ≤ pc
      → Estimated (line_info_at bytes f.first_at f.lines_at).abslineinfo pc i)
      → get_or (lines_in bytes f) pc 0 ≡ funcline (line_info_at bytes f.first_at f.lines_at) pc
