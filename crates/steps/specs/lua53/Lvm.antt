-- lvm.c of Lua 5.3.6, in the C's own shape and order: for each case of luaV_execute's switch the ways on,
-- as it moves ci->u.l.savedpc, here pc, after the fetch, and on each way the executions that take it, with
-- what they read and what they store. What a case tests of values may come out either way, so both arms are
-- given; a coroutine's yield inside a word is left out, and so is an execution that ends in an error, which
-- goes on nowhere.
-- `arguments`, `results`, `returned` and `elements` are what they are in 5.4.8: of CALL and SETLIST the
-- header of 5.3.6 notes "if (B == 0) then B = top", and lvm.c leaves L->top where it is, and takes
-- L->top - ra - 1. L->top is a pointer where 5.4.8 has L->top.p. "CALL, TAILCALL, TFORCALL and CONCAT go by
-- their formulas in lopcodes.h".
-- `Agreement` says that for a word that is not bad the ways on lead to the successors of
-- specs/lua53/Successors.antt. That C-14's lists are what is read and stored in some execution says
-- touches/specs/Meaning.antt.
-- Assumes nothing.
use Rattle.std.specs.Prelude.{ℕ, ◌+◌, cond, List, [], ◌∷◌, eqb, ℤ, pos, ◌+ℤ◌, get_or}
use Rattle.fields.specs.lua53.Opcodes as op
use Rattle.fields.specs.lua53.Lopcodes.{GET_OPCODE, GETARG_A, GETARG_C, GETARG_sBx}
use Rattle.steps.specs.lua53.Successors.{successors_of}
use Rattle.steps.specs.Ways.{
  Way,
  fetch,
  along,
  jumped,
  word_at,
  Case,
  vmcase,
  vmdispatch,
  targets_of,
  Agree,
}
use Rattle.steps.specs.Executions.{
  Access,
  «ra»,
  «ra+1»,
  «ra+2»,
  «ra+3»,
  v_rb,
  «k+Bx»,
  «k+Ax»,
  «upvals[A]»,
  «upvals[B]»,
  nils,
  arguments,
  results,
  returned,
  elements,
  RKB-isk,
  RKC-isk,
  concatenated,
  called,
  varargs,
  run,
  Arm,
  arm,
  gos_of,
  leading_to,
}

-- how a case goes on, pc being past the word
pub data Go : Type 0 where
  -- nothing is done to pc; so after a call: luaD_precall runs a C function here, and a Lua function by
  -- `goto newframe`, which OP_RETURN ends at the saved pc
  vmbreak : Go
  -- rb = k + GETARG_Ax(*ci->u.l.savedpc++), or over the next word
  «pc++» : Go
  -- if (GETARG_C(i)) ci->u.l.savedpc++
  «pc++-if-C» : Go
  -- if (c == 0) c = GETARG_Ax(*ci->u.l.savedpc++)
  «pc++-if-not-C» : Go
  -- dojump(ci, i, 0)
  jump : Go
  -- donextjump(ci): the JMP at pc is done at once, and going there is a step of its own
  donextjump : Go
  -- if (luaV_equalobj(L, rb, rc) != GETARG_A(i)) ci->u.l.savedpc++; else donextjump(ci);
  -- where that came out as 0, and as 1; so luaV_lessthan and luaV_lessequal
  compared_0 : Go
  compared_1 : Go
  -- ci->u.l.savedpc += GETARG_sBx(i)
  «pc+=sBx» : Go
  -- i = *(ci->u.l.savedpc++); goto l_tforloop;
  goto_l_tforloop : Go
  -- return, or goto newframe over the caller; or goto newframe after a tail call of a Lua function, whose
  -- frame takes this one's place: no word of this function follows
  leave : Go

-- a case: its ways on, and the executions that take each
abbrev pub Body : Type 0
Body = List (Arm Go)

-- lua_assert(0): it goes on nowhere
abbrev pub assert0 : Body
assert0 = []

-- nor does a word for which the switch has no case, having no default
abbrev pub absent : Body
absent = []

-- one way, to the next word
abbrev pub straight : List Access → List Access → Body
straight reads stores = arm vmbreak (run reads stores ∷ []) ∷ []

-- TValue *rb = RKB(i); TValue *rc = RKC(i); ..
abbrev operation : Body
operation = straight (RKB-isk ∷ RKC-isk ∷ []) («ra» ∷ [])

-- if (luaV_equalobj(L, rb, rc) != GETARG_A(i)) ci->u.l.savedpc++; else donextjump(ci);
-- it comes out as 0 or as 1, and a field above 1 is neither
abbrev comparison : Body
comparison =
    arm compared_0 (run (RKB-isk ∷ RKC-isk ∷ []) [] ∷ [])
    ∷ arm compared_1 (run (RKB-isk ∷ RKC-isk ∷ []) [] ∷ [])
    ∷ []

-- the cases, in the C's order
abbrev pub switch : List (Case Body)
switch =
    vmcase op.OP_MOVE (straight (v_rb ∷ []) («ra» ∷ []))
    ∷ vmcase op.OP_LOADK (straight («k+Bx» ∷ []) («ra» ∷ []))
    ∷ vmcase op.OP_LOADKX (arm «pc++» (run («k+Ax» ∷ []) («ra» ∷ []) ∷ []) ∷ [])
    -- if (GETARG_C(i)) ci->u.l.savedpc++
    ∷ vmcase op.OP_LOADBOOL (arm «pc++-if-C» (run [] («ra» ∷ []) ∷ []) ∷ [])
    ∷ vmcase op.OP_LOADNIL (straight [] (nils ∷ []))
    ∷ vmcase op.OP_GETUPVAL (straight («upvals[B]» ∷ []) («ra» ∷ []))
    -- gettableProtected: setobj2s(L, ra, slot), or luaV_finishget, which stores to ra
    -- too; so GETTABLE and SELF
    ∷ vmcase op.OP_GETTABUP (straight («upvals[B]» ∷ RKC-isk ∷ []) («ra» ∷ []))
    ∷ vmcase op.OP_GETTABLE (straight (v_rb ∷ RKC-isk ∷ []) («ra» ∷ []))
    -- settableProtected: into the table; so SETTABLE
    ∷ vmcase op.OP_SETTABUP (straight («upvals[A]» ∷ RKB-isk ∷ RKC-isk ∷ []) [])
    -- the barrier looks at the value just stored, and at none from before
    ∷ vmcase op.OP_SETUPVAL (straight («ra» ∷ []) («upvals[B]» ∷ []))
    ∷ vmcase op.OP_SETTABLE (straight («ra» ∷ RKB-isk ∷ RKC-isk ∷ []) [])
    ∷ vmcase op.OP_NEWTABLE (straight [] («ra» ∷ []))
    ∷ vmcase op.OP_SELF (straight (v_rb ∷ RKC-isk ∷ []) («ra+1» ∷ «ra» ∷ []))
    -- numbers, or luaT_trybinTM(L, rb, rc, ra, ..), which reads both and stores to ra
    -- too; so the others up to POW
    ∷ vmcase op.OP_ADD operation
    ∷ vmcase op.OP_SUB operation
    ∷ vmcase op.OP_MUL operation
    ∷ vmcase op.OP_DIV operation
    ∷ vmcase op.OP_BAND operation
    ∷ vmcase op.OP_BOR operation
    ∷ vmcase op.OP_BXOR operation
    ∷ vmcase op.OP_SHL operation
    ∷ vmcase op.OP_SHR operation
    ∷ vmcase op.OP_MOD operation
    ∷ vmcase op.OP_IDIV operation
    ∷ vmcase op.OP_POW operation
    -- a number, or luaT_trybinTM(L, rb, rb, ra, ..); so BNOT and LEN
    ∷ vmcase op.OP_UNM (straight (v_rb ∷ []) («ra» ∷ []))
    ∷ vmcase op.OP_BNOT (straight (v_rb ∷ []) («ra» ∷ []))
    ∷ vmcase op.OP_NOT (straight (v_rb ∷ []) («ra» ∷ []))
    ∷ vmcase op.OP_LEN (straight (v_rb ∷ []) («ra» ∷ []))
    ∷ vmcase op.OP_CONCAT (straight (concatenated ∷ []) («ra» ∷ []))
    -- dojump(ci, i, 0): "what closing .. touch[es] .. is left out"
    ∷ vmcase op.OP_JMP (arm jump (run [] [] ∷ []) ∷ [])
    ∷ vmcase op.OP_EQ comparison
    -- luaV_lessthan, luaV_lessequal
    ∷ vmcase op.OP_LT comparison
    ∷ vmcase op.OP_LE comparison
    -- if (GETARG_C(i) ? l_isfalse(ra) : !l_isfalse(ra)) ci->u.l.savedpc++; else donextjump(ci);
    ∷ vmcase op.OP_TEST
    (arm «pc++» (run («ra» ∷ []) [] ∷ []) ∷ arm donextjump (run («ra» ∷ []) [] ∷ []) ∷ [])
    -- if (..) ci->u.l.savedpc++; else { setobjs2s(L, ra, rb); donextjump(ci); }
    ∷ vmcase op.OP_TESTSET
    (arm «pc++» (run (v_rb ∷ []) [] ∷ []) ∷ arm donextjump (run (v_rb ∷ []) («ra» ∷ []) ∷ []) ∷ [])
    ∷ vmcase op.OP_CALL (straight («ra» ∷ arguments ∷ []) (results ∷ []))
    -- a C function returns here, a Lua function takes this one's place: "TAILCALL steps to p+1,
    -- where a C function returns"
    ∷ vmcase op.OP_TAILCALL
    (arm vmbreak (run («ra» ∷ arguments ∷ []) [] ∷ []) ∷ arm leave (run («ra» ∷ arguments ∷ []) [] ∷ []) ∷ [])
    -- what luaD_poscall stores, from the function's own place on, it stores when `L->ci` is the caller's
    -- already, whose CALL lists it by its formula
    ∷ vmcase op.OP_RETURN (arm leave (run (returned ∷ []) [] ∷ []) ∷ [])
    -- an integer loop and a float loop alike; first where the loop goes on
    ∷ vmcase op.OP_FORLOOP
    (arm «pc+=sBx» (run («ra» ∷ «ra+2» ∷ «ra+1» ∷ []) («ra» ∷ «ra+3» ∷ []) ∷ [])
    ∷ arm vmbreak (run («ra» ∷ «ra+2» ∷ «ra+1» ∷ []) [] ∷ [])
    ∷ [])
    -- an integer loop, a float loop
    ∷ vmcase op.OP_FORPREP
    (arm «pc+=sBx»
    (run («ra» ∷ «ra+2» ∷ «ra+1» ∷ []) («ra+1» ∷ «ra» ∷ [])
    ∷ run («ra» ∷ «ra+2» ∷ «ra+1» ∷ []) («ra+1» ∷ «ra+2» ∷ «ra» ∷ [])
    ∷ [])
    ∷ [])
    -- i = *(ci->u.l.savedpc++); goto l_tforloop
    ∷ vmcase op.OP_TFORCALL
    (arm goto_l_tforloop (run («ra» ∷ «ra+1» ∷ «ra+2» ∷ []) (called ∷ []) ∷ []) ∷ [])
    -- if (!ttisnil(ra + 1)) { setobjs2s(L, ra, ra + 1); ci->u.l.savedpc += GETARG_sBx(i); }
    ∷ vmcase op.OP_TFORLOOP
    (arm «pc+=sBx» (run («ra+1» ∷ []) («ra» ∷ []) ∷ []) ∷ arm vmbreak (run («ra+1» ∷ []) [] ∷ []) ∷ [])
    -- if (c == 0) c = GETARG_Ax(*ci->u.l.savedpc++)
    ∷ vmcase op.OP_SETLIST (arm «pc++-if-not-C» (run («ra» ∷ elements ∷ []) [] ∷ []) ∷ [])
    -- ".. and CLOSURE captures is left out"
    ∷ vmcase op.OP_CLOSURE (straight [] («ra» ∷ []))
    ∷ vmcase op.OP_VARARG (straight [] (varargs ∷ []))
    ∷ vmcase op.OP_EXTRAARG assert0
    ∷ []

abbrev pub body_of : ℕ → Body
body_of opcode = vmdispatch switch absent opcode

-- the label in the case of TFORLOOP, and the case of JMP
abbrev pub l_tforloop : Body
l_tforloop = body_of op.OP_TFORLOOP

abbrev pub jmp : Body
jmp = body_of op.OP_JMP

-- Where the ways lead.

-- #define dojump(ci,i,e)  { ..; ci->u.l.savedpc += GETARG_sBx(i) + e; }
abbrev pub dojump : ℤ → ℕ → ℤ → ℤ
dojump pc i e = pc +ℤ (GETARG_sBx i +ℤ e)

-- #define donextjump(ci)  { i = *ci->u.l.savedpc; dojump(ci, i, 1); }
abbrev pub nextjump : List ℕ → ℤ → Way Body
nextjump ws pc = jumped pc (dojump pc (word_at ws pc) (pos 1))

-- a comparison that came out as this number
abbrev pub compared : List ℕ → ℤ → ℕ → ℕ → Way Body
compared ws pc i result = cond (eqb result (GETARG_A i)) (nextjump ws pc) (fetch (pc +ℤ pos 1))

-- the way on, if this function goes on
abbrev pub onward : List ℕ → ℤ → ℕ → Go → List (Way Body)
onward ws pc i vmbreak = fetch pc ∷ []
onward ws pc i «pc++» = fetch (pc +ℤ pos 1) ∷ []
onward ws pc i «pc++-if-C» = cond (eqb (GETARG_C i) 0) (fetch pc ∷ []) (fetch (pc +ℤ pos 1) ∷ [])
onward ws pc i «pc++-if-not-C» = cond (eqb (GETARG_C i) 0) (fetch (pc +ℤ pos 1) ∷ []) (fetch pc ∷ [])
onward ws pc i jump = fetch (dojump pc i (pos 0)) ∷ []
onward ws pc i donextjump = nextjump ws pc ∷ []
onward ws pc i compared_0 = compared ws pc i 0 ∷ []
onward ws pc i compared_1 = compared ws pc i 1 ∷ []
onward ws pc i «pc+=sBx» = fetch (pc +ℤ GETARG_sBx i) ∷ []
onward ws pc i goto_l_tforloop = along l_tforloop pc ∷ []
onward ws pc i leave = []

-- the case to which the switch sends word p
unfoldable pub body_at : List ℕ → ℕ → Body
body_at ws p = body_of (GET_OPCODE (get_or ws p 0))

-- how luaV_execute can go on after word p, `i = *(ci->u.l.savedpc++)`
unfoldable pub ways_at : List ℕ → ℕ → List (Way Body)
ways_at ws p = leading_to (onward ws (pos (p + 1)) (get_or ws p 0)) (gos_of (body_at ws p))

-- the words at which it can go on
abbrev pub goes_on : List ℕ → ℕ → List ℤ
goes_on ws p = targets_of (ways_at ws p)

-- for a word that is not bad these are its successors
abbrev pub Agreement : Type 0
Agreement = Agree jmp body_at ways_at successors_of
