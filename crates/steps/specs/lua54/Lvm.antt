-- lvm.c of Lua 5.4.8, in the C's own shape and order: for each case of luaV_execute's switch the ways on,
-- as it moves pc after the fetch, and on each way the executions that take it, with what they read and what
-- they store. What a case tests of values may come out either way, so both arms are given; a coroutine's
-- yield inside a word is left out (docs/DIFFERENCES.md has the yields), and so is an execution that ends in
-- an error, which goes on nowhere.
-- `Agreement` says that for a word that is not bad the ways on lead to the next words of document 01's
-- table of steps (RULES 2). That C-14's lists are what is read and stored in some execution says
-- touches/specs/Meaning.antt.
-- Assumes nothing.
use Rattle.std.specs.Prelude.{ℕ, ◌+◌, cond, List, [], ◌∷◌, eqb, ℤ, pos, ◌+ℤ◌, ◌-ℤ◌, get_or}
use Rattle.fields.specs.lua54.Opcodes as op
use Rattle.fields.specs.lua54.Lopcodes.{GET_OPCODE, GETARG_Bx, GETARG_sJ, TESTARG_k}
use Rattle.steps.specs.lua54.Successors.{successors_of}
use Rattle.steps.specs.Ways.{
  Way,
  fetch,
  along,
  jumped,
  word_at,
  Case,
  vmcase,
  vmdispatch,
  targets_of,
  Agree,
}
use Rattle.steps.specs.Executions.{
  Access,
  «ra»,
  «ra+1»,
  «ra+2»,
  «ra+3»,
  «ra+4»,
  v_rb,
  v_rc,
  RKC,
  KB,
  KC,
  «k+Bx»,
  «k+Ax»,
  «RA-pi»,
  «upvals[A]»,
  «upvals[B]»,
  nils,
  pieces,
  arguments,
  results,
  iterated,
  returned,
  elements,
  run,
  Arm,
  arm,
  gos_of,
  leading_to,
}

-- how a case goes on, pc being past the word
pub data Go : Type 0 where
  -- nothing is done to pc; so after a call: luaD_precall runs a C function here, and a Lua function by
  -- `goto startfunc`, which `returning` ends at the saved pc
  vmbreak : Go
  -- over an extra argument or the next word
  «pc++» : Go
  -- if (TESTARG_k(i)) { ..; pc++; }
  «pc++-if-k» : Go
  -- dojump(ci, i, 0)
  jump : Go
  -- donextjump(ci): the JMP at pc is done at once, which document 01 takes for a step of its own
  donextjump : Go
  -- pc -= GETARG_Bx(i)
  «pc-=Bx» : Go
  -- pc += GETARG_Bx(i) + 1
  «pc+=Bx+1» : Go
  -- pc += GETARG_Bx(i); i = *(pc++); goto l_tforcall;
  goto_l_tforcall : Go
  -- i = *(pc++); goto l_tforloop;
  goto_l_tforloop : Go
  -- goto ret, or for a tail call of a Lua function goto startfunc
  leave : Go

-- a case: its ways on, and the executions that take each
abbrev pub Body : Type 0
Body = List (Arm Go)

-- lua_assert(0): it goes on nowhere
abbrev pub assert0 : Body
assert0 = []

-- nor does a word for which the switch has no case, having no default
abbrev pub absent : Body
absent = []

-- one way, to the next word
abbrev pub straight : List Access → List Access → Body
straight reads stores = arm vmbreak (run reads stores ∷ []) ∷ []

-- the next word is an extra argument, or skipped
abbrev pub skipping : List Access → List Access → Body
skipping reads stores = arm «pc++» (run reads stores ∷ []) ∷ []

-- pc++ where the operands are numbers that the operation takes, else on to the metamethod word:
-- #define op_arithI(L,iop,fop); SHRI and SHLI have it written out
abbrev op_arith_i : Body
op_arith_i =
    arm «pc++» (run (v_rb ∷ []) («ra» ∷ []) ∷ [])
    ∷ arm vmbreak (run (v_rb ∷ []) [] ∷ [])
    ∷ []

-- #define op_arith_aux(L,v1,v2,iop,fop) and its like: a test of v1 that fails ends the test of v2, but for
-- op_bitwiseK, which takes v2, a constant, first of all: there the first of the two failing executions does
-- not occur, and the other reads all that it would
abbrev op_arith_aux : Access → Access → Body
op_arith_aux v1 v2 =
    arm «pc++» (run (v1 ∷ v2 ∷ []) («ra» ∷ []) ∷ [])
    ∷ arm vmbreak (run (v1 ∷ []) [] ∷ run (v1 ∷ v2 ∷ []) [] ∷ [])
    ∷ []

-- op_arith, op_arithf, op_bitwise
abbrev op_arith : Body
op_arith = op_arith_aux v_rb v_rc

-- op_arithK, op_arithfK, op_bitwiseK
abbrev op_arith_k : Body
op_arith_k = op_arith_aux v_rb KC

-- #define docondjump()  if (cond != GETARG_k(i)) pc++; else donextjump(ci);
abbrev pub docondjump : List Access → Body
docondjump reads = arm «pc++» (run reads [] ∷ []) ∷ arm donextjump (run reads [] ∷ []) ∷ []

-- the cases, in the C's order
abbrev pub switch : List (Case Body)
switch =
    vmcase op.OP_MOVE (straight (v_rb ∷ []) («ra» ∷ []))
    ∷ vmcase op.OP_LOADI (straight [] («ra» ∷ []))
    ∷ vmcase op.OP_LOADF (straight [] («ra» ∷ []))
    ∷ vmcase op.OP_LOADK (straight («k+Bx» ∷ []) («ra» ∷ []))
    ∷ vmcase op.OP_LOADKX (skipping («k+Ax» ∷ []) («ra» ∷ []))
    ∷ vmcase op.OP_LOADFALSE (straight [] («ra» ∷ []))
    ∷ vmcase op.OP_LFALSESKIP (skipping [] («ra» ∷ []))
    ∷ vmcase op.OP_LOADTRUE (straight [] («ra» ∷ []))
    ∷ vmcase op.OP_LOADNIL (straight [] (nils ∷ []))
    ∷ vmcase op.OP_GETUPVAL (straight («upvals[B]» ∷ []) («ra» ∷ []))
    ∷ vmcase op.OP_SETUPVAL (straight («ra» ∷ []) («upvals[B]» ∷ []))
    -- setobj2s(L, ra, slot), or luaV_finishget(L, upval, rc, ra, slot), which stores to
    -- ra too; so the other gets
    ∷ vmcase op.OP_GETTABUP (straight («upvals[B]» ∷ KC ∷ []) («ra» ∷ []))
    ∷ vmcase op.OP_GETTABLE (straight (v_rb ∷ v_rc ∷ []) («ra» ∷ []))
    ∷ vmcase op.OP_GETI (straight (v_rb ∷ []) («ra» ∷ []))
    ∷ vmcase op.OP_GETFIELD (straight (v_rb ∷ KC ∷ []) («ra» ∷ []))
    -- luaV_finishfastset(L, upval, slot, rc), or luaV_finishset: into the table; so the other sets
    ∷ vmcase op.OP_SETTABUP (straight («upvals[A]» ∷ KB ∷ RKC ∷ []) [])
    ∷ vmcase op.OP_SETTABLE (straight («ra» ∷ v_rb ∷ RKC ∷ []) [])
    ∷ vmcase op.OP_SETI (straight («ra» ∷ RKC ∷ []) [])
    ∷ vmcase op.OP_SETFIELD (straight («ra» ∷ KB ∷ RKC ∷ []) [])
    ∷ vmcase op.OP_NEWTABLE (skipping [] («ra» ∷ []))
    ∷ vmcase op.OP_SELF (straight (v_rb ∷ RKC ∷ []) («ra+1» ∷ «ra» ∷ []))
    ∷ vmcase op.OP_ADDI op_arith_i
    ∷ vmcase op.OP_ADDK op_arith_k
    ∷ vmcase op.OP_SUBK op_arith_k
    ∷ vmcase op.OP_MULK op_arith_k
    ∷ vmcase op.OP_MODK op_arith_k
    ∷ vmcase op.OP_POWK op_arith_k
    ∷ vmcase op.OP_DIVK op_arith_k
    ∷ vmcase op.OP_IDIVK op_arith_k
    ∷ vmcase op.OP_BANDK op_arith_k
    ∷ vmcase op.OP_BORK op_arith_k
    ∷ vmcase op.OP_BXORK op_arith_k
    ∷ vmcase op.OP_SHRI op_arith_i
    ∷ vmcase op.OP_SHLI op_arith_i
    ∷ vmcase op.OP_ADD op_arith
    ∷ vmcase op.OP_SUB op_arith
    ∷ vmcase op.OP_MUL op_arith
    ∷ vmcase op.OP_MOD op_arith
    ∷ vmcase op.OP_POW op_arith
    ∷ vmcase op.OP_DIV op_arith
    ∷ vmcase op.OP_IDIV op_arith
    ∷ vmcase op.OP_BAND op_arith
    ∷ vmcase op.OP_BOR op_arith
    ∷ vmcase op.OP_BXOR op_arith
    ∷ vmcase op.OP_SHR op_arith
    ∷ vmcase op.OP_SHL op_arith
    -- luaT_trybinTM(L, s2v(ra), rb, result, tm), where result is RA(pi); so the other two
    ∷ vmcase op.OP_MMBIN (straight («ra» ∷ v_rb ∷ []) («RA-pi» ∷ []))
    ∷ vmcase op.OP_MMBINI (straight («ra» ∷ []) («RA-pi» ∷ []))
    ∷ vmcase op.OP_MMBINK (straight («ra» ∷ KB ∷ []) («RA-pi» ∷ []))
    -- a number, or luaT_trybinTM(L, rb, rb, ra, ..), which stores to ra too; so BNOT and LEN
    ∷ vmcase op.OP_UNM (straight (v_rb ∷ []) («ra» ∷ []))
    ∷ vmcase op.OP_BNOT (straight (v_rb ∷ []) («ra» ∷ []))
    ∷ vmcase op.OP_NOT (straight (v_rb ∷ []) («ra» ∷ []))
    ∷ vmcase op.OP_LEN (straight (v_rb ∷ []) («ra» ∷ []))
    ∷ vmcase op.OP_CONCAT (straight (pieces ∷ []) («ra» ∷ []))
    -- "What closing and VARARGPREP touch .. is left out"
    ∷ vmcase op.OP_CLOSE (straight [] [])
    -- luaF_newtbcupval(L, ra): "TBC and TFORPREP read the register they mark"
    ∷ vmcase op.OP_TBC (straight («ra» ∷ []) [])
    ∷ vmcase op.OP_JMP (arm jump (run [] [] ∷ []) ∷ [])
    ∷ vmcase op.OP_EQ (docondjump («ra» ∷ v_rb ∷ []))
    -- op_order
    ∷ vmcase op.OP_LT (docondjump («ra» ∷ v_rb ∷ []))
    ∷ vmcase op.OP_LE (docondjump («ra» ∷ v_rb ∷ []))
    ∷ vmcase op.OP_EQK (docondjump («ra» ∷ KB ∷ []))
    ∷ vmcase op.OP_EQI (docondjump («ra» ∷ []))
    -- op_orderI
    ∷ vmcase op.OP_LTI (docondjump («ra» ∷ []))
    ∷ vmcase op.OP_LEI (docondjump («ra» ∷ []))
    ∷ vmcase op.OP_GTI (docondjump («ra» ∷ []))
    ∷ vmcase op.OP_GEI (docondjump («ra» ∷ []))
    ∷ vmcase op.OP_TEST (docondjump («ra» ∷ []))
    -- if (l_isfalse(rb) == GETARG_k(i)) pc++; else { setobj2s(L, ra, rb); donextjump(ci); }
    ∷ vmcase op.OP_TESTSET
    (arm «pc++» (run (v_rb ∷ []) [] ∷ [])
    ∷ arm donextjump (run (v_rb ∷ []) («ra» ∷ []) ∷ [])
    ∷ [])
    ∷ vmcase op.OP_CALL (straight («ra» ∷ arguments ∷ []) (results ∷ []))
    ∷ vmcase op.OP_TAILCALL (arm leave (run («ra» ∷ arguments ∷ []) [] ∷ []) ∷ [])
    -- returns store at base - 1 and on, the same slots, but as the results of the caller's CALL, whose
    -- formula lists them: `L->ci` is the caller's by then in RETURN0 and RETURN1, and so it is when
    -- luaD_poscall, by RETURN, is done
    ∷ vmcase op.OP_RETURN (arm leave (run (returned ∷ []) [] ∷ []) ∷ [])
    ∷ vmcase op.OP_RETURN0 (arm leave (run [] [] ∷ []) ∷ [])
    -- no result asked for, or setobjs2s(L, base - 1, ra)
    ∷ vmcase op.OP_RETURN1 (arm leave (run [] [] ∷ run («ra» ∷ []) [] ∷ []) ∷ [])
    -- an integer loop, a float loop (floatforloop); then the same where the loop ends
    ∷ vmcase op.OP_FORLOOP
    (arm «pc-=Bx»
    (run («ra+2» ∷ «ra+1» ∷ «ra» ∷ []) («ra+1» ∷ «ra» ∷ «ra+3» ∷ [])
    ∷ run («ra+2» ∷ «ra+1» ∷ «ra» ∷ []) («ra» ∷ «ra+3» ∷ [])
    ∷ [])
    ∷ arm vmbreak
    (run («ra+2» ∷ «ra+1» ∷ []) []
    ∷ run («ra+2» ∷ «ra+1» ∷ «ra» ∷ []) []
    ∷ [])
    ∷ [])
    -- forprep: an integer loop, which sets its control variable first of all, a float loop;
    -- first where the loop is skipped
    ∷ vmcase op.OP_FORPREP
    (arm «pc+=Bx+1»
    (run («ra» ∷ «ra+2» ∷ «ra+1» ∷ []) («ra+3» ∷ [])
    ∷ run («ra» ∷ «ra+1» ∷ «ra+2» ∷ []) []
    ∷ [])
    ∷ arm vmbreak
    (run («ra» ∷ «ra+2» ∷ «ra+1» ∷ []) («ra+3» ∷ «ra+1» ∷ [])
    ∷ run («ra» ∷ «ra+1» ∷ «ra+2» ∷ []) («ra+1» ∷ «ra+2» ∷ «ra» ∷ «ra+3» ∷ [])
    ∷ [])
    ∷ [])
    ∷ vmcase op.OP_TFORPREP (arm goto_l_tforcall (run («ra+3» ∷ []) [] ∷ []) ∷ [])
    ∷ vmcase op.OP_TFORCALL
    (arm goto_l_tforloop (run («ra» ∷ «ra+1» ∷ «ra+2» ∷ []) (iterated ∷ []) ∷ []) ∷ [])
    -- if (!ttisnil(s2v(ra + 4))) { setobjs2s(L, ra + 2, ra + 4); pc -= GETARG_Bx(i); }
    ∷ vmcase op.OP_TFORLOOP
    (arm «pc-=Bx» (run («ra+4» ∷ []) («ra+2» ∷ []) ∷ [])
    ∷ arm vmbreak (run («ra+4» ∷ []) [] ∷ [])
    ∷ [])
    ∷ vmcase op.OP_SETLIST (arm «pc++-if-k» (run («ra» ∷ elements ∷ []) [] ∷ []) ∷ [])
    -- ".. and CLOSURE captures is left out"
    ∷ vmcase op.OP_CLOSURE (straight [] («ra» ∷ []))
    ∷ vmcase op.OP_VARARG (straight [] (results ∷ []))
    ∷ vmcase op.OP_VARARGPREP (straight [] [])
    ∷ vmcase op.OP_EXTRAARG assert0
    ∷ []

abbrev pub body_of : ℕ → Body
body_of opcode = vmdispatch switch absent opcode

-- the labels in the cases of TFORCALL and TFORLOOP, and the case of JMP
abbrev pub l_tforcall : Body
l_tforcall = body_of op.OP_TFORCALL

abbrev pub l_tforloop : Body
l_tforloop = body_of op.OP_TFORLOOP

abbrev pub jmp : Body
jmp = body_of op.OP_JMP

-- Where the ways lead.

-- #define dojump(ci,i,e)  { pc += GETARG_sJ(i) + e; .. }
abbrev pub dojump : ℤ → ℕ → ℤ → ℤ
dojump pc i e = pc +ℤ (GETARG_sJ i +ℤ e)

-- the way on, if this function goes on
abbrev pub onward : List ℕ → ℤ → ℕ → Go → List (Way Body)
onward ws pc i vmbreak = fetch pc ∷ []
onward ws pc i «pc++» = fetch (pc +ℤ pos 1) ∷ []
onward ws pc i «pc++-if-k» = cond (eqb (TESTARG_k i) 0) (fetch pc ∷ []) (fetch (pc +ℤ pos 1) ∷ [])
onward ws pc i jump = fetch (dojump pc i (pos 0)) ∷ []
-- #define donextjump(ci)  { Instruction ni = *pc; dojump(ci, ni, 1); }
onward ws pc i donextjump = jumped pc (dojump pc (word_at ws pc) (pos 1)) ∷ []
onward ws pc i «pc-=Bx» = fetch (pc -ℤ pos (GETARG_Bx i)) ∷ []
onward ws pc i «pc+=Bx+1» = fetch (pc +ℤ (pos (GETARG_Bx i) +ℤ pos 1)) ∷ []
onward ws pc i goto_l_tforcall = along l_tforcall (pc +ℤ pos (GETARG_Bx i)) ∷ []
onward ws pc i goto_l_tforloop = along l_tforloop pc ∷ []
onward ws pc i leave = []

-- the case to which the switch sends word p
unfoldable pub body_at : List ℕ → ℕ → Body
body_at ws p = body_of (GET_OPCODE (get_or ws p 0))

-- how luaV_execute can go on after word p, `i = *(pc++)`
unfoldable pub ways_at : List ℕ → ℕ → List (Way Body)
ways_at ws p = leading_to (onward ws (pos (p + 1)) (get_or ws p 0)) (gos_of (body_at ws p))

-- the words at which it can go on
abbrev pub goes_on : List ℕ → ℕ → List ℤ
goes_on ws p = targets_of (ways_at ws p)

-- for a word that is not bad these are the next words of document 01's table of steps (RULES 2)
abbrev pub Agreement : Type 0
Agreement = Agree jmp body_at ways_at successors_of
