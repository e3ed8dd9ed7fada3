-- lundump.c of Lua 5.4.8, "for 4-byte words, 8-byte integers and 8-byte floats, little-endian": a reader
-- for each of its functions, under its name in snake case and in its order, but that loadProtos stands after
-- loadFunction (which the C declares ahead of it), loadDebug is load_lines and then load_names, checkliteral
-- and fchecksize are both check_bytes, and luaU_undump is undump. Those up to loadString, and loadConstants'
-- switch, stand in the crate `loaders`, in specs/Loaders.antt.
-- What the C refuses by `error` is 15 here, a header byte that differs 14. Document 02 adds the limits on
-- counts (15), the unknown tag (3)
-- and the levels (16).
-- Assumes nothing.
use Rattle.std.specs.Prelude.{cond, List, [], ◌∷◌, ◌++◌, ℕ, zero, suc, ◌+◌, ◌*◌, leb, eqb, replicate}
use Rattle.common.specs.declared.refusal.Refusal.TheVariants.{HeaderDiffers, TooDeep}
use Rattle.common.specs.Limits.{most_words, most_constants, most_names, levels_below, int_max}
use Rattle.std.specs.Prelude.{Ok, Err}
use Rattle.loaders.specs.Reading.{Reader, bind, and_then, only, repeat, little_end}
use Rattle.loaders.specs.Loaders.{
  load_block,
  load_byte,
  load_int,
  Text,
  absent,
  load_string_n,
  load_constant,
}
use Rattle.loaders.specs.declared.constants.Constant.{Constant}

-- the C's vectors: a count, at most so many, and so many bytes for each item
pub record Vector : Type 0 where
  pub start : ℕ
  pub count : ℕ

unfoldable pub load_vector : ℕ → ℕ → Reader Vector
load_vector most each bytes at =
    bind (load_int bytes at) (λ n at₁.
    only (leb n most)
    (bind (load_block (each * n) bytes at₁) (λ _ at₂.
    Ok (record { start = at₁; count = n }, at₂))))

-- a count, at most so many, and so many items one by one
unfoldable pub load_items : {A : Type 0} → ℕ → (ℕ → Reader A) → Reader (List A)
load_items most r bytes at =
    bind (load_int bytes at) (λ n at₁.
    only (leb n most) (repeat r 0 n bytes at₁))

-- loadCode: the words, 4 bytes each
unfoldable pub words_from : ℕ → List ℕ → ℕ → List ℕ
words_from zero bytes at = []
words_from (suc n) bytes at = little_end 4 bytes at ∷ words_from n bytes (at + 4)

unfoldable pub load_code : Reader (List ℕ)
load_code bytes at =
    bind (load_vector most_words 4 bytes at) (λ v at₁. Ok (words_from v.count bytes v.start, at₁))

abbrev pub load_constants : Reader (List Constant)
load_constants = load_items most_constants load_constant

-- loadUpvalues: instack, idx and kind, a byte each, of which only the number of upvalues counts here
unfoldable pub load_upvalues : Reader ℕ
load_upvalues bytes at = bind (load_vector most_names 3 bytes at) (λ v at₁. Ok (v.count, at₁))

-- loadDebug: lineinfo, abslineinfo and locvars. Document 02 sets their counts no limit:
-- loadInt's is the only one
unfoldable pub load_abs_line : ℕ → Reader ℕ
load_abs_line i = and_then load_int load_int

unfoldable pub load_loc_var : ℕ → Reader ℕ
load_loc_var i = and_then load_string_n (and_then load_int load_int)

unfoldable pub load_lines : Reader (List ℕ)
load_lines =
    and_then (load_vector int_max 1)
    (and_then (load_items int_max load_abs_line) (load_items int_max load_loc_var))

-- loadDebug: the upvalues' names, after `if (n != 0) n = f->sizeupvalues`. "names, one per upvalue";
-- "Stripped scripts have no upvalue names"
abbrev pub load_name : ℕ → Reader Text
load_name i = load_string_n

unfoldable pub names_from : ℕ → ℕ → Reader (List Text)
names_from upvalues zero bytes at = Ok (replicate upvalues absent, at)
names_from upvalues (suc n) bytes at = repeat load_name 0 upvalues bytes at

unfoldable pub load_names : ℕ → Reader (List Text)
load_names upvalues bytes at = bind (load_int bytes at) (λ n at₁. names_from upvalues n bytes at₁)

-- a function: where its first byte stands in the bytes, the first of its head, and the position past its last
-- one; its words, constants and names, one for each upvalue, where the count of each stands, and where that
-- of its line information does
pub record Function : Type 0 where
  pub first_at : ℕ
  pub code_at : ℕ
  pub words : List ℕ
  pub constants_at : ℕ
  pub constants : List Constant
  pub upvalues : ℕ
  pub lines_at : ℕ
  pub names_at : ℕ
  pub names : List Text
  pub end_at : ℕ

-- loadFunction, ahead of its parts: source, linedefined, lastlinedefined, numparams, is_vararg, maxstacksize
unfoldable pub load_head : Reader ℕ
load_head =
    and_then load_string_n
    (and_then load_int (and_then load_int (and_then load_byte (and_then load_byte load_byte))))

-- loadFunction, over a loadProtos: the function, and then those within it, so that "Functions count
-- from 0 by their first byte"
unfoldable pub function_with : Reader (List Function) → Reader (List Function)
function_with load_protos bytes at =
    bind (load_head bytes at) (λ maxstacksize at₁.
    bind (load_code bytes at₁) (λ code at₂.
    bind (load_constants bytes at₂) (λ k at₃.
    bind (load_upvalues bytes at₃) (λ n at₄.
    bind (load_protos bytes at₄) (λ inner at₅.
    bind (load_lines bytes at₅) (λ _ at₆.
    bind (load_names n bytes at₆) (λ names at₇.
    Ok (
      record {
        first_at = at;
        code_at = at₁;
        words = code;
        constants_at = at₂;
        constants = k;
        upvalues = n;
        lines_at = at₅;
        names_at = at₆;
        names = names;
        end_at = at₇;
      } ∷ inner,
      at₇,
    ))))))))

-- loadProtos: n functions, each with those within it
unfoldable pub several : Reader (List Function) → ℕ → Reader (List Function)
several r zero bytes at = Ok ([], at)
several r (suc n) bytes at =
    bind (r bytes at) (λ fs at₁.
    bind (several r n bytes at₁) (λ more at₂.
    Ok (fs ++ more, at₂)))

-- where no level is left: "16 a level 33, met at the count that needs it"
unfoldable pub none_of : ℕ → Reader (List Function)
none_of zero bytes at = Ok ([], at)
none_of (suc n) bytes at = Err TooDeep

-- loadProtos, with so many levels left: "the remaining level allowance" falls by one at each function within
unfoldable pub load_protos : ℕ → Reader (List Function)
load_protos zero bytes at = bind (load_int bytes at) (λ n at₁. none_of n bytes at₁)
load_protos (suc level) bytes at =
    bind (load_int bytes at) (λ n at₁. several (function_with (load_protos level)) n bytes at₁)

abbrev pub load_function : ℕ → Reader (List Function)
load_function level = function_with (load_protos level)

-- checkliteral, fchecksize and the comparisons of checkHeader, byte by byte: "14 a header byte that differs",
-- 15 where the bytes end before
unfoldable pub check_bytes : List ℕ → Reader (Unit {0})
check_bytes [] bytes at = Ok (tt, at)
check_bytes (h ∷ hs) bytes at = bind (load_byte bytes at)
    (λ b at₁. let more = check_bytes hs bytes at₁ in cond (eqb b h) more (Err HeaderDiffers))

-- checkHeader: LUA_SIGNATURE "\x1bLua"; LUAC_VERSION 0x54, LUAC_FORMAT 0; LUAC_DATA "\x19\x93\r\n\x1a\n";
-- the sizes of Instruction, lua_Integer and lua_Number; LUAC_INT 0x5678; LUAC_NUM 370.5, whose
-- bits are 0x4077280000000000
abbrev pub header_bytes : List ℕ
header_bytes =
    27 ∷ 76 ∷ 117 ∷ 97
    ∷ 84 ∷ 0
    ∷ 25 ∷ 147 ∷ 13 ∷ 10 ∷ 26 ∷ 10
    ∷ 4 ∷ 8 ∷ 8
    ∷ 120 ∷ 86 ∷ 0 ∷ 0 ∷ 0 ∷ 0 ∷ 0 ∷ 0
    ∷ 0 ∷ 0 ∷ 0 ∷ 0 ∷ 0 ∷ 40 ∷ 119 ∷ 64 ∷ []

unfoldable pub check_header : Reader (Unit {0})
check_header = check_bytes header_bytes

-- luaU_undump: the header; the number of the main function's upvalues, a byte that nothing is held against;
-- the main function, level 1
unfoldable pub undump : Reader (List Function)
undump = and_then check_header (and_then load_byte (load_function levels_below))
