-- Request C-11: "15 .. a word, constant or upvalue count exceeds 01's limits": what is over a limit is
-- refused, and what is not is read, by the document's numbers.
-- Assumes nothing.
use Rattle.std.specs.Prelude.{◌≡◌, List, ℕ, ◌+◌, ◌*◌, ◌≤◌, ◌<◌, length}
use Rattle.common.specs.declared.refusal.Refusal.TheVariants.{MalformedChunk}
use Rattle.std.specs.Prelude.{Ok, Err}
use Rattle.loaders.specs.Reading.{repeat}
use Rattle.loaders.specs.Loaders.{load_int, load_constant}
use Rattle.lundump.specs.Lundump.{load_code, load_constants, load_upvalues, words_from}

-- where a count of n was read, and the position past it
pub record CountRead (bytes : List ℕ) (at n past : ℕ) : Type 0 where
  -- "32,769 words (32,768 pass)", 4 bytes each, or "the bytes end early"
  pub words :
      n ≤ 32768 → past + 4 * n ≤ length bytes
      → load_code bytes at ≡ Ok (words_from n bytes past, past + 4 * n)
  pub cut_words : length bytes < past + 4 * n → load_code bytes at ≡ Err MalformedChunk
  pub many-words : 32768 < n → load_code bytes at ≡ Err MalformedChunk
  -- constants "over 65,536": each is read by itself, and the bytes end early at the one they do
  pub constants : n ≤ 65536 → load_constants bytes at ≡ repeat load_constant 0 n bytes past
  pub many_constants : 65536 < n → load_constants bytes at ≡ Err MalformedChunk
  -- "over 255 names": instack, idx and kind, a byte each
  pub upvalues : n ≤ 255 → past + 3 * n ≤ length bytes → load_upvalues bytes at ≡ Ok (n, past + 3 * n)
  pub cut_upvalues : length bytes < past + 3 * n → load_upvalues bytes at ≡ Err MalformedChunk
  pub many_upvalues : 255 < n → load_upvalues bytes at ≡ Err MalformedChunk

abbrev pub LimitsKept : Type 0
LimitsKept = (bytes : List ℕ) (at n past : ℕ) → load_int bytes at ≡ Ok (n, past) → CountRead bytes at n past
