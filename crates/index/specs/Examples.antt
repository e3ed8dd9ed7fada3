-- Whether a chunk ends early, on bytes written by hand after lundump.c's loadFunction.
-- Assumes nothing.
use Rattle.std.specs.Prelude.{◌≡◌, true, false, List, [], ◌∷◌, ◌++◌, ℕ, replicate}
use Rattle.lundump.specs.Examples.{header}
use Rattle.lines.specs.Examples.{two_heads}
use Rattle.index.specs.Early.{ends_early}

-- a main function up to its words, of which 32,769 are more than 01's limit; one with a word and a constant
-- that is a string of tag 4 and absent; and room for more bytes
abbrev many_words : List ℕ
many_words = header ++ (0 ∷ 128 ∷ 128 ∷ 128 ∷ 0 ∷ 1 ∷ 2 ∷ 2 ∷ 0 ∷ 129 ∷ [])

abbrev no_string : List ℕ
no_string = header ++ (0 ∷ 128 ∷ 128 ∷ 128 ∷ 0 ∷ 1 ∷ 2 ∷ 129 ∷ 71 ∷ 0 ∷ 1 ∷ 0 ∷ 129 ∷ 4 ∷ 128 ∷ [])

abbrev roomy : List ℕ → List ℕ
roomy bytes = bytes ++ replicate 60 0

pub record ExampleCuts : Type 0 where
  -- 15, since the bytes end: within the header, in two heads' source, lines and words, behind a string's tag
  pub cut_header : ends_early (roomy two_heads) 20 ≡ true
  pub cut_source : ends_early (roomy two_heads) 34 ≡ true
  pub cut_lines : ends_early (roomy two_heads) 36 ≡ true
  pub cut_word : ends_early (roomy two_heads) 42 ≡ true
  pub cut_string : ends_early (roomy no_string) 45 ≡ true
  -- 15 for other causes
  pub many-words : ends_early (roomy many_words) 41 ≡ false
  pub no-string : ends_early (roomy no_string) 46 ≡ false
