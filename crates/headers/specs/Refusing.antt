-- Why a file is refused, in the order of its header's bytes: lundump.c's checkHeader says "not a binary
-- chunk", "version mismatch", "format mismatch", "corrupted chunk", "Instruction size mismatch" and so on,
-- of which request C-11 keeps one number, 14.
-- Assumes nothing.
use Rattle.std.specs.Prelude.{Bool, not, ◌&&◌, List, ℕ, leb, eqb, length, get_or, Result, Err}
use Rattle.common.specs.Chain.{refuse_if}
use Rattle.common.specs.declared.refusal.Refusal.{Refusal}
use Rattle.common.specs.declared.refusal.Refusal.TheVariants.{HeaderDiffers}
use Rattle.lundump.specs.Lundump.{check_header}
use Rattle.loaders.specs.Reading.{past_of}
use Rattle.headers.specs.declared.refusing.Why.{Why}
use Rattle.headers.specs.declared.refusing.Why.TheVariants.{
  NotLua,
  Lua53,
  OtherVersion,
  OtherNumbers,
  Damaged,
}

-- LUA_SIGNATURE "\x1bLua"
unfoldable pub signed : List ℕ → Bool
signed bytes =
    leb 4 (length bytes)
    && (eqb (get_or bytes 0 0) 27
    && (eqb (get_or bytes 1 0) 76
    && (eqb (get_or bytes 2 0) 117
    && eqb (get_or bytes 3 0) 97)))

-- behind the version: a byte of checkHeader differs, or none does as far as there are bytes
abbrev pub header_reason : Result ℕ Refusal → Why
header_reason (Err HeaderDiffers) = OtherNumbers
header_reason _ = Damaged

-- LUAC_VERSION is 0x53 of Lua 5.3 and 0x54 of 5.4
unfoldable pub why_refused : List ℕ → Why
why_refused bytes =
    refuse_if (not (signed bytes)) NotLua
    (refuse_if (leb (length bytes) 4) Damaged
    (refuse_if (eqb (get_or bytes 4 0) 83) Lua53
    (refuse_if (not (eqb (get_or bytes 4 0) 84)) OtherVersion
    (header_reason (past_of (check_header bytes 0))))))
