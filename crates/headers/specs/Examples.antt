-- Why a file is refused, on bytes written by hand after lundump.c's checkHeader.
-- Assumes nothing.
use Rattle.std.specs.Prelude.{◌≡◌, List, [], ◌∷◌, ◌++◌, ℕ}
use Rattle.lundump.specs.Examples.{header}
use Rattle.headers.specs.declared.refusing.Why.TheVariants.{
  NotLua,
  Lua53,
  OtherVersion,
  OtherNumbers,
  Damaged,
}
use Rattle.headers.specs.Refusing.{why_refused}

-- the header of Lua 5.3.6: int, size_t and Instruction have 4, 8 and 4 bytes
abbrev header53 : List ℕ
header53 =
    27 ∷ 76 ∷ 117 ∷ 97 ∷ 83 ∷ 0 ∷ 25 ∷ 147 ∷ 13 ∷ 10 ∷ 26 ∷ 10 ∷ 4 ∷ 8 ∷ 4 ∷ 8 ∷ 8
    ∷ 120 ∷ 86 ∷ 0 ∷ 0 ∷ 0 ∷ 0 ∷ 0 ∷ 0
    ∷ 0 ∷ 0 ∷ 0 ∷ 0 ∷ 0 ∷ 40 ∷ 119 ∷ 64 ∷ []

-- that of a Lua 5.4 built with LUA_32BITS: 0x5678 and 370.5 in 4 bytes each
abbrev header32 : List ℕ
header32 = 27 ∷ 76 ∷ 117 ∷ 97 ∷ 84 ∷ 0 ∷ 25 ∷ 147 ∷ 13 ∷ 10 ∷ 26 ∷ 10 ∷ 4 ∷ 4 ∷ 4 ∷ 120 ∷ 86 ∷ 0 ∷ 0
    ∷ 0 ∷ 64 ∷ 185 ∷ 67 ∷ []

pub record ExampleReasons : Type 0 where
  -- "return", and nothing at all
  pub text : why_refused (114 ∷ 101 ∷ 116 ∷ 117 ∷ 114 ∷ 110 ∷ []) ≡ NotLua
  pub nothing : why_refused [] ≡ NotLua
  -- "\x1bLJ" of LuaJIT
  pub jit : why_refused (27 ∷ 76 ∷ 74 ∷ 2 ∷ 0 ∷ []) ≡ NotLua
  pub version53 : why_refused header53 ≡ Lua53
  -- 0x51, 0x52, 0x55: Lua 5.1, 5.2, 5.5
  pub version51 : why_refused (27 ∷ 76 ∷ 117 ∷ 97 ∷ 81 ∷ 0 ∷ []) ≡ OtherVersion
  pub version52 : why_refused (27 ∷ 76 ∷ 117 ∷ 97 ∷ 82 ∷ 0 ∷ []) ≡ OtherVersion
  pub version55 : why_refused (27 ∷ 76 ∷ 117 ∷ 97 ∷ 85 ∷ 0 ∷ []) ≡ OtherVersion
  -- LUAC_FORMAT is 0
  pub format : why_refused (27 ∷ 76 ∷ 117 ∷ 97 ∷ 84 ∷ 1 ∷ []) ≡ OtherNumbers
  -- a newline that a transfer as text has made two bytes of: "corrupted chunk"
  pub newline : why_refused (27 ∷ 76 ∷ 117 ∷ 97 ∷ 84 ∷ 0 ∷ 25 ∷ 147 ∷ 13 ∷ 13 ∷ 10 ∷ []) ≡ OtherNumbers
  pub numbers32 : why_refused header32 ≡ OtherNumbers
  -- the signature alone, a header that ends early, and one that is whole, whatever follows
  pub ends : why_refused (27 ∷ 76 ∷ 117 ∷ 97 ∷ []) ≡ Damaged
  pub ends-early : why_refused (27 ∷ 76 ∷ 117 ∷ 97 ∷ 84 ∷ 0 ∷ 25 ∷ 147 ∷ []) ≡ Damaged
  pub whole : (byte : ℕ) → why_refused (header ++ (byte ∷ [])) ≡ Damaged
