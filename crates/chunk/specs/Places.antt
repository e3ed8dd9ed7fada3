-- What the filled places say: where a string or name starts in the chunk's bytes, and its length.
-- Both read as crate `values` reads them, and numbers 4 and 5 find nothing wrong with them if the
-- string bytes are the chunk's.
-- Assumes nothing.
use Rattle.std.specs.Prelude.{◌≡◌, ◌⊎◌, false, List, ℕ, ◌+◌, ◌≤◌, ◌<◌, length, get_or}
use Rattle.std.specs.Prelude.{Some, None}
use Rattle.values.specs.Values.{span_of, name_of}
use Rattle.values.specs.Spans.{past, first_name_past}
use Rattle.loaders.specs.declared.constants.Constant.{Constant}
use Rattle.loaders.specs.Loaders.{absent, text, plain, string}
use Rattle.lundump.specs.Lundump.{Function}
use Rattle.lundump.specs.Chunk.{payloads_of, names_of}

-- the tags that need no bytes: "0 nil, 1 false, 17 true, 3 integer, 19 float"
abbrev pub Plain : ℕ → Type 0
Plain tag = (tag ≡ 0) ⊎ ((tag ≡ 1) ⊎ ((tag ≡ 17) ⊎ ((tag ≡ 3) ⊎ (tag ≡ 19))))

pub record Places (bytes : List ℕ) (f : Function) : Type 0 where
  -- a constant is one of the five, or a string that lies inside the bytes
  pub plain_tag : (i tag payload : ℕ) (d : Constant)
      → i < length f.constants → get_or f.constants i d ≡ plain tag payload → Plain tag
  pub string_inside :
      (i start size : ℕ) (d : Constant)
      → i < length f.constants → get_or f.constants i d ≡ string start size
      → start + size ≤ length bytes
  -- whose place gives back start and length
  pub string_place :
      (i start size : ℕ) (d : Constant)
      → i < length f.constants → get_or f.constants i d ≡ string start size
      → span_of (get_or (payloads_of f) i 0) ≡ record { start = start; len = size }
  -- and does not end past the bytes, as number 4 asks
  pub string_not_past :
      (i start size : ℕ) (d : Constant)
      → i < length f.constants → get_or f.constants i d ≡ string start size
      → past (length bytes) (get_or (payloads_of f) i 0) ≡ false
  -- the same of names
  pub name_inside :
      (i start size : ℕ) → i < length f.names → get_or f.names i absent ≡ text start size
      → start + size ≤ length bytes
  pub name_place :
      (i start size : ℕ) → i < length f.names → get_or f.names i absent ≡ text start size
      → name_of (names_of f) i ≡ Some (record { start = start; len = size })
  -- "2^64 - 1 meaning unnamed": where there is none, and nowhere else
  pub name_absent : (i : ℕ)
      → i < length f.names → get_or f.names i absent ≡ absent → name_of (names_of f) i ≡ None
  -- number 5 finds no name past the bytes
  pub none_past : first_name_past (names_of f) (length bytes) ≡ length (names_of f)
