-- What holds of the lines, whatever the chunk. The proof of `Claims` is proofs/Claims.antt.
-- Assumes nothing.
use Rattle.std.specs.Prelude.{◌≡◌, List, [], ℕ, suc, ◌≤◌, ◌<◌, length, get_or}
use Rattle.common.specs.Numbers.{MALFORMED_CHUNK}
use Rattle.common.specs.Limits.{most_bytes}
use Rattle.sheet.specs.Rows.{refusal_line_of}
use Rattle.common.specs.declared.refusal.Refusal.{Refusal}
use Rattle.common.specs.Refusals.{refusal_number, refusal_place}
use Rattle.std.specs.Prelude.{Ok, Err}
use Rattle.lundump.specs.Lundump.{Function, undump}
use Rattle.survey.specs.Lines.{function_text, function_line}

-- the longest line: eight columns of 6, and a newline
abbrev pub line_length : ℕ
line_length = 49

-- the lines of a chunk that holds these functions: "a line for each function, in the
-- order of their first bytes"
pub record LinesListed (bytes : List ℕ) (fs : List Function) (at : ℕ) : Type 0 where
  pub each : (k : ℕ) (d : Function) → k < length fs
      → function_line k bytes ≡ function_text k (Ok (get_or fs k d, at))
  pub some : (k : ℕ) → k < length fs → 0 < length (function_line k bytes)
  -- so the program, which stops at the first line that is empty, stops after the last function
  pub no_more : (k : ℕ) → length fs ≤ k → function_line k bytes ≡ []

-- "A chunk that is refused has one line, the number and the place"
pub record OneLine (bytes : List ℕ) (number place : ℕ) : Type 0 where
  pub first : function_line 0 bytes ≡ refusal_line_of number place
  pub no_more : (k : ℕ) → function_line (suc k) bytes ≡ []

pub record Claims : Type 0 where
  pub fits : (k : ℕ) (bytes : List ℕ) → length (function_line k bytes) ≤ line_length
  pub listed : (bytes : List ℕ) (fs : List Function) (at : ℕ)
      → length bytes ≤ most_bytes → undump bytes 0 ≡ Ok (fs, at) → LinesListed bytes fs at
  pub one_line : (bytes : List ℕ) (e : Refusal)
      → length bytes ≤ most_bytes → undump bytes 0 ≡ Err e
      → OneLine bytes (refusal_number e) (refusal_place e)
  pub too_long : (bytes : List ℕ) → most_bytes < length bytes → OneLine bytes MALFORMED_CHUNK 0
  -- there are no more functions than bytes: a program that tries the numbers below k, 1 at least, on k bytes
  -- or fewer leaves no line out
  pub enough : (k : ℕ) (bytes : List ℕ) → 0 < k → length bytes ≤ k → function_line k bytes ≡ []
