-- A chunk written by hand that has all that lundump.c reads, and what is turned away byte by byte. Its values
-- were computed by a reader of another hand, written from lundump.c.
-- Assumes nothing.
use Rattle.std.specs.Prelude.{◌≡◌, List, [], ◌∷◌, ◌++◌, ℕ, zero, suc, ◌+◌, take, get_or, replicate}
use Rattle.common.specs.declared.refusal.Refusal.TheVariants.{MalformedChunk}
use Rattle.lundump.specs.declared.counts.Counts.{Counts}
use Rattle.std.specs.Prelude.{Ok, Err}
use Rattle.loaders.specs.Loaders.{load_int, load_size}
use Rattle.lundump.specs.Chunk.{
  chosen,
  filled,
  counts_of,
  after,
  words_of,
  tags_of,
  payloads_of,
  names_of,
}
use Rattle.lundump.specs.Examples.{needs, turned_away, header, example, nested, levels}

-- A function with all its parts: its source "@a"; lines 5 and 300, the latter of two bytes; two words of
-- eight bytes that differ; a constant of each tag, and strings of 0, 40 and 41 bytes, with tag 20 before the
-- one of 40 and tag 4 before the one of 41; two upvalues, of which the second alone has a name. Its line
-- information has three bytes for two words, one absolute line, which is a pair, and one local variable. The
-- byte before the function, 7, is held against nothing, and so is the count of names, 5
abbrev pub full : List ℕ
full =
    header ++ (7 ∷ 131 ∷ 64 ∷ 97 ∷ 133 ∷ 2 ∷ 172 ∷ 1 ∷ 1 ∷ 2
    ∷ 130 ∷ 1 ∷ 2 ∷ 3 ∷ 4 ∷ 5 ∷ 6 ∷ 7 ∷ 8
    ∷ 136 ∷ 0 ∷ 1 ∷ 17
    ∷ 3 ∷ 1 ∷ 2 ∷ 3 ∷ 4 ∷ 5 ∷ 6 ∷ 7 ∷ 8
    ∷ 19 ∷ 0 ∷ 0 ∷ 0 ∷ 0 ∷ 0 ∷ 0 ∷ 248 ∷ 63
    ∷ 4 ∷ 129
    ∷ 20 ∷ 169 ∷ replicate 40 120) ++ (4 ∷ 170 ∷ replicate 41 121)
    ++ (130 ∷ 1 ∷ 0 ∷ 0 ∷ 0 ∷ 1 ∷ 0
    ∷ 128
    ∷ 131 ∷ 1 ∷ 255 ∷ 128
    ∷ 129 ∷ 129 ∷ 133
    ∷ 129 ∷ 130 ∷ 105 ∷ 128 ∷ 130
    ∷ 133 ∷ 128 ∷ 133 ∷ 95 ∷ 69 ∷ 78 ∷ 86 ∷ [])

-- "give any chosen function's words, tags, payloads and names, one per upvalue"
pub record FullRead : Type 0 where
  pub counts : counts_of (chosen 0 full) ≡ needs 2 8 2
  -- "4-byte words .. little-endian", the first one first
  pub words : after words_of (chosen 0 full) [] ≡ 67305985 ∷ 134678021 ∷ []
  -- document 01: "0 nil, 1 false, 17 true, 3 integer, 19 float, 4 short string, 20 long string". "A string's
  -- tag is 4 up to 40 bytes and 20 above, as loaded"
  pub tags : after tags_of (chosen 0 full) [] ≡ 0 ∷ 1 ∷ 17 ∷ 3 ∷ 19 ∷ 4 ∷ 4 ∷ 20 ∷ []
  -- "Payloads of nil, false and true are given as 0"; "8-byte integers and 8-byte floats, little-endian",
  -- the float 1.5; the strings of 0, 40 and 41 bytes, from bytes 74, 76 and 118 on
  pub payloads :
      after payloads_of (chosen 0 full) []
      ≡ 0 ∷ 0 ∷ 0 ∷ 578437695752307201 ∷ 4609434218613702656
      ∷ 74 ∷ 171798691916 ∷ 176093659254 ∷ []
  -- none, and then the four bytes from byte 182 on
  pub names : after names_of (chosen 0 full) [] ≡ 18446744073709551615 ∷ 17179869366 ∷ []
  -- "Stripped scripts have no upvalue names"
  pub stripped : after names_of (chosen 0 nested) [] ≡ 18446744073709551615 ∷ []
  -- "the reader goes down at most 32 levels, the main function being level 1": a level 32 that is read to its
  -- end
  pub level_32 :
      counts_of
      (chosen 31
      (header ++ (0 ∷ levels 31 ++ (128 ∷ 128 ∷ 128 ∷ 0 ∷ 0 ∷ 2 ∷ replicate 132 128))))
      ≡ needs 0 0 0
  -- "An unknown constant tag is number 3 with its index", here 1, before the bytes end
  pub unknown-tag :
      counts_of (chosen 0 (header ++ (0 ∷ 128 ∷ 128 ∷ 128 ∷ 0 ∷ 1 ∷ 2 ∷ 128 ∷ 130 ∷ 0 ∷ 2 ∷ [])))
      ≡ record { number = 3; place = 1; words = 0; constants = 0; names = 0 }

-- the header's bytes before one, and behind them another in its place
abbrev pub differing : ℕ → List ℕ
differing i = take i header ++ ((get_or header i 0 + 1) ∷ [])

-- what is answered where the bytes of so many places differ, and where some bytes end at these places
abbrev pub differs : ℕ → List Counts
differs zero = []
differs (suc i) = counts_of (chosen 0 (differing i)) ∷ differs i

abbrev pub ends : List ℕ → ℕ → List Counts
ends bytes zero = []
ends bytes (suc i) = counts_of (chosen 0 (take i bytes)) ∷ ends bytes i

-- what is turned away, and the last that is not
pub record BytesRefused : Type 0 where
  -- "14 a header byte that differs": each of the 31
  pub header-bytes : differs 31 ≡ replicate 31 (turned_away 14)
  -- "15 the bytes end early", wherever they do
  pub ends-early : ends example 61 ≡ replicate 61 (turned_away 15)
  -- "a constant string is absent", whatever its tag
  pub absent_short :
      counts_of (chosen 0 (header ++ (0 ∷ 128 ∷ 128 ∷ 128 ∷ 0 ∷ 1 ∷ 2 ∷ 128 ∷ 129 ∷ 4 ∷ replicate 8 128)))
      ≡ turned_away 15
  pub absent_long :
      counts_of (chosen 0 (header ++ (0 ∷ 128 ∷ 128 ∷ 128 ∷ 0 ∷ 1 ∷ 2 ∷ 128 ∷ 129 ∷ 20 ∷ replicate 8 128)))
      ≡ turned_away 15
  -- one of no bytes is not
  pub empty_string :
      counts_of
      (chosen 0
      (header ++ (0 ∷ 128 ∷ 128 ∷ 128 ∷ 0 ∷ 1 ∷ 2 ∷ 128 ∷ 129 ∷ 4 ∷ 129 ∷ replicate 7 128)))
      ≡ needs 0 1 0
  -- "15 .. a number overflows lundump.c's own limit": `x >= limit` before a byte is added, where limit is
  -- INT_MAX >> 7, and MAX_SIZET >> 7 for a size
  pub int_most : load_int (7 ∷ 127 ∷ 127 ∷ 126 ∷ 255 ∷ []) 0 ≡ Ok (2147483519, 5)
  pub int_over : load_int (7 ∷ 127 ∷ 127 ∷ 127 ∷ 128 ∷ []) 0 ≡ Err MalformedChunk
  -- the limit is on the number and not on its bytes
  pub int_zeros : load_int (0 ∷ 0 ∷ 0 ∷ 0 ∷ 0 ∷ 0 ∷ 133 ∷ []) 0 ≡ Ok (5, 7)
  pub size_most :
      load_size (1 ∷ 127 ∷ 127 ∷ 127 ∷ 127 ∷ 127 ∷ 127 ∷ 127 ∷ 126 ∷ 255 ∷ []) 0
      ≡ Ok (18446744073709551487, 10)
  pub size_over :
      load_size (1 ∷ 127 ∷ 127 ∷ 127 ∷ 127 ∷ 127 ∷ 127 ∷ 127 ∷ 127 ∷ 128 ∷ []) 0
      ≡ Err MalformedChunk
  -- "6 covers each slice to be filled"
  pub short_words :
      counts_of (filled 0 example (record { words = 0; tags = 1; payloads = 1; names = 1 })) ≡ turned_away 6
  pub short_tags :
      counts_of (filled 0 example (record { words = 1; tags = 0; payloads = 1; names = 1 })) ≡ turned_away 6
  pub short_payloads :
      counts_of (filled 0 example (record { words = 1; tags = 1; payloads = 0; names = 1 })) ≡ turned_away 6
  pub short_names :
      counts_of (filled 0 example (record { words = 1; tags = 1; payloads = 1; names = 0 })) ≡ turned_away 6
  pub room :
      counts_of (filled 0 example (record { words = 1; tags = 1; payloads = 1; names = 1 })) ≡ needs 1 1 1
