-- Document 02, C-14, "the registers, constants and upvalues that lvm.c reads and writes in some execution,
-- for all 83 opcodes": a case for each opcode in the order of lopcodes.h, the C's own operation above it
-- in lopcodes.h's notation. Each lists operands as the C names them; order, repeats and neighbours are
-- specs/Canonical.antt's matter. lvm.c goes before the header where the two differ (FORLOOP, FORPREP,
-- TFORLOOP), but "CALL, TAILCALL, TFORCALL and CONCAT go by their formulas in lopcodes.h".
-- Assumes nothing.
use Rattle.std.specs.Prelude.{List, [], ◌∷◌}
use Rattle.fields.specs.lua54.Opcodes as op
use Rattle.steps.specs.Ways.{Case, vmcase}
use Rattle.touches.specs.Accesses.{«p+1», «p+2», «p+1-Bx», Accesses, always, on_edge}
use Rattle.touches.specs.Operands.{
  «R[A]»,
  «R[A+1]»,
  «R[A+2]»,
  «R[A+3]»,
  «R[A+4]»,
  «R[B]»,
  «R[C]»,
  «RK[C]»,
  «R[A]-before»,
  «K[B]»,
  «K[C]»,
  «K[Bx]»,
  «K[Ax]-after»,
  «UpValue[A]»,
  «UpValue[B]»,
  «R[A…A+B]»,
  «R[A…A+B-1]»,
  «R[A+1…A+B-1]»,
  «R[A…A+B-2]»,
  «R[A+1…A+B]»,
  «R[A…A+C-2]»,
  «R[A+4…A+3+C]»,
}

abbrev pub switch : List (Case Accesses)
switch =
    -- R[A] := R[B]
    vmcase op.OP_MOVE (always («R[B]» ∷ []) («R[A]» ∷ []))
    -- R[A] := sBx
    ∷ vmcase op.OP_LOADI (always [] («R[A]» ∷ []))
    -- R[A] := (lua_Number)sBx
    ∷ vmcase op.OP_LOADF (always [] («R[A]» ∷ []))
    -- R[A] := K[Bx]
    ∷ vmcase op.OP_LOADK (always («K[Bx]» ∷ []) («R[A]» ∷ []))
    -- R[A] := K[extra arg]
    ∷ vmcase op.OP_LOADKX (always («K[Ax]-after» ∷ []) («R[A]» ∷ []))
    -- R[A] := false
    ∷ vmcase op.OP_LOADFALSE (always [] («R[A]» ∷ []))
    -- R[A] := false; pc++
    ∷ vmcase op.OP_LFALSESKIP (always [] («R[A]» ∷ []))
    -- R[A] := true
    ∷ vmcase op.OP_LOADTRUE (always [] («R[A]» ∷ []))
    -- R[A], R[A+1], ..., R[A+B] := nil
    ∷ vmcase op.OP_LOADNIL (always [] («R[A…A+B]» ∷ []))
    -- R[A] := UpValue[B]
    ∷ vmcase op.OP_GETUPVAL (always («UpValue[B]» ∷ []) («R[A]» ∷ []))
    -- UpValue[B] := R[A]
    ∷ vmcase op.OP_SETUPVAL (always («R[A]» ∷ []) («UpValue[B]» ∷ []))
    -- R[A] := UpValue[B][K[C]:shortstring]
    ∷ vmcase op.OP_GETTABUP (always («UpValue[B]» ∷ «K[C]» ∷ []) («R[A]» ∷ []))
    -- R[A] := R[B][R[C]]
    ∷ vmcase op.OP_GETTABLE (always («R[B]» ∷ «R[C]» ∷ []) («R[A]» ∷ []))
    -- R[A] := R[B][C]
    ∷ vmcase op.OP_GETI (always («R[B]» ∷ []) («R[A]» ∷ []))
    -- R[A] := R[B][K[C]:shortstring]
    ∷ vmcase op.OP_GETFIELD (always («R[B]» ∷ «K[C]» ∷ []) («R[A]» ∷ []))
    -- UpValue[A][K[B]:shortstring] := RK(C)
    ∷ vmcase op.OP_SETTABUP (always («UpValue[A]» ∷ «K[B]» ∷ «RK[C]» ∷ []) [])
    -- R[A][R[B]] := RK(C)
    ∷ vmcase op.OP_SETTABLE (always («R[A]» ∷ «R[B]» ∷ «RK[C]» ∷ []) [])
    -- R[A][B] := RK(C)
    ∷ vmcase op.OP_SETI (always («R[A]» ∷ «RK[C]» ∷ []) [])
    -- R[A][K[B]:shortstring] := RK(C)
    ∷ vmcase op.OP_SETFIELD (always («R[A]» ∷ «K[B]» ∷ «RK[C]» ∷ []) [])
    -- R[A] := {}
    ∷ vmcase op.OP_NEWTABLE (always [] («R[A]» ∷ []))
    -- R[A+1] := R[B]; R[A] := R[B][RK(C):string]
    ∷ vmcase op.OP_SELF (always («R[B]» ∷ «RK[C]» ∷ []) («R[A+1]» ∷ «R[A]» ∷ []))
    -- R[A] := R[B] + sC; pc++
    ∷ vmcase op.OP_ADDI (on_edge («R[B]» ∷ []) [] «p+2» («R[A]» ∷ []))
    -- R[A] := R[B] + K[C]; pc++
    ∷ vmcase op.OP_ADDK (on_edge («R[B]» ∷ «K[C]» ∷ []) [] «p+2» («R[A]» ∷ []))
    -- R[A] := R[B] - K[C]; pc++
    ∷ vmcase op.OP_SUBK (on_edge («R[B]» ∷ «K[C]» ∷ []) [] «p+2» («R[A]» ∷ []))
    -- R[A] := R[B] * K[C]; pc++
    ∷ vmcase op.OP_MULK (on_edge («R[B]» ∷ «K[C]» ∷ []) [] «p+2» («R[A]» ∷ []))
    -- R[A] := R[B] % K[C]; pc++
    ∷ vmcase op.OP_MODK (on_edge («R[B]» ∷ «K[C]» ∷ []) [] «p+2» («R[A]» ∷ []))
    -- R[A] := R[B] ^ K[C]; pc++
    ∷ vmcase op.OP_POWK (on_edge («R[B]» ∷ «K[C]» ∷ []) [] «p+2» («R[A]» ∷ []))
    -- R[A] := R[B] / K[C]; pc++
    ∷ vmcase op.OP_DIVK (on_edge («R[B]» ∷ «K[C]» ∷ []) [] «p+2» («R[A]» ∷ []))
    -- R[A] := R[B] // K[C]; pc++
    ∷ vmcase op.OP_IDIVK (on_edge («R[B]» ∷ «K[C]» ∷ []) [] «p+2» («R[A]» ∷ []))
    -- R[A] := R[B] & K[C]; pc++
    ∷ vmcase op.OP_BANDK (on_edge («R[B]» ∷ «K[C]» ∷ []) [] «p+2» («R[A]» ∷ []))
    -- R[A] := R[B] | K[C]; pc++
    ∷ vmcase op.OP_BORK (on_edge («R[B]» ∷ «K[C]» ∷ []) [] «p+2» («R[A]» ∷ []))
    -- R[A] := R[B] ~ K[C]; pc++
    ∷ vmcase op.OP_BXORK (on_edge («R[B]» ∷ «K[C]» ∷ []) [] «p+2» («R[A]» ∷ []))
    -- R[A] := R[B] >> sC; pc++
    ∷ vmcase op.OP_SHRI (on_edge («R[B]» ∷ []) [] «p+2» («R[A]» ∷ []))
    -- R[A] := sC << R[B]; pc++
    ∷ vmcase op.OP_SHLI (on_edge («R[B]» ∷ []) [] «p+2» («R[A]» ∷ []))
    -- R[A] := R[B] + R[C]; pc++
    ∷ vmcase op.OP_ADD (on_edge («R[B]» ∷ «R[C]» ∷ []) [] «p+2» («R[A]» ∷ []))
    -- R[A] := R[B] - R[C]; pc++
    ∷ vmcase op.OP_SUB (on_edge («R[B]» ∷ «R[C]» ∷ []) [] «p+2» («R[A]» ∷ []))
    -- R[A] := R[B] * R[C]; pc++
    ∷ vmcase op.OP_MUL (on_edge («R[B]» ∷ «R[C]» ∷ []) [] «p+2» («R[A]» ∷ []))
    -- R[A] := R[B] % R[C]; pc++
    ∷ vmcase op.OP_MOD (on_edge («R[B]» ∷ «R[C]» ∷ []) [] «p+2» («R[A]» ∷ []))
    -- R[A] := R[B] ^ R[C]; pc++
    ∷ vmcase op.OP_POW (on_edge («R[B]» ∷ «R[C]» ∷ []) [] «p+2» («R[A]» ∷ []))
    -- R[A] := R[B] / R[C]; pc++
    ∷ vmcase op.OP_DIV (on_edge («R[B]» ∷ «R[C]» ∷ []) [] «p+2» («R[A]» ∷ []))
    -- R[A] := R[B] // R[C]; pc++
    ∷ vmcase op.OP_IDIV (on_edge («R[B]» ∷ «R[C]» ∷ []) [] «p+2» («R[A]» ∷ []))
    -- R[A] := R[B] & R[C]; pc++
    ∷ vmcase op.OP_BAND (on_edge («R[B]» ∷ «R[C]» ∷ []) [] «p+2» («R[A]» ∷ []))
    -- R[A] := R[B] | R[C]; pc++
    ∷ vmcase op.OP_BOR (on_edge («R[B]» ∷ «R[C]» ∷ []) [] «p+2» («R[A]» ∷ []))
    -- R[A] := R[B] ~ R[C]; pc++
    ∷ vmcase op.OP_BXOR (on_edge («R[B]» ∷ «R[C]» ∷ []) [] «p+2» («R[A]» ∷ []))
    -- R[A] := R[B] << R[C]; pc++
    ∷ vmcase op.OP_SHL (on_edge («R[B]» ∷ «R[C]» ∷ []) [] «p+2» («R[A]» ∷ []))
    -- R[A] := R[B] >> R[C]; pc++
    ∷ vmcase op.OP_SHR (on_edge («R[B]» ∷ «R[C]» ∷ []) [] «p+2» («R[A]» ∷ []))
    -- call C metamethod over R[A] and R[B]; the result goes to the A of the word before, RA(pi)
    ∷ vmcase op.OP_MMBIN (always («R[A]» ∷ «R[B]» ∷ []) («R[A]-before» ∷ []))
    -- call C metamethod over R[A] and sB; so too
    ∷ vmcase op.OP_MMBINI (always («R[A]» ∷ []) («R[A]-before» ∷ []))
    -- call C metamethod over R[A] and K[B]; so too
    ∷ vmcase op.OP_MMBINK (always («R[A]» ∷ «K[B]» ∷ []) («R[A]-before» ∷ []))
    -- R[A] := -R[B]
    ∷ vmcase op.OP_UNM (always («R[B]» ∷ []) («R[A]» ∷ []))
    -- R[A] := ~R[B]
    ∷ vmcase op.OP_BNOT (always («R[B]» ∷ []) («R[A]» ∷ []))
    -- R[A] := not R[B]
    ∷ vmcase op.OP_NOT (always («R[B]» ∷ []) («R[A]» ∷ []))
    -- R[A] := #R[B]
    ∷ vmcase op.OP_LEN (always («R[B]» ∷ []) («R[A]» ∷ []))
    -- R[A] := R[A].. ... ..R[A + B - 1]
    ∷ vmcase op.OP_CONCAT (always («R[A…A+B-1]» ∷ []) («R[A]» ∷ []))
    -- close all upvalues >= R[A]: "what closing .. touch[es] .. is left out"
    ∷ vmcase op.OP_CLOSE (always [] [])
    -- mark variable A "to be closed": "TBC and TFORPREP read the register they mark"
    ∷ vmcase op.OP_TBC (always («R[A]» ∷ []) [])
    -- pc += sJ
    ∷ vmcase op.OP_JMP (always [] [])
    -- if ((R[A] == R[B]) ~= k) then pc++
    ∷ vmcase op.OP_EQ (always («R[A]» ∷ «R[B]» ∷ []) [])
    -- if ((R[A] <  R[B]) ~= k) then pc++
    ∷ vmcase op.OP_LT (always («R[A]» ∷ «R[B]» ∷ []) [])
    -- if ((R[A] <= R[B]) ~= k) then pc++
    ∷ vmcase op.OP_LE (always («R[A]» ∷ «R[B]» ∷ []) [])
    -- if ((R[A] == K[B]) ~= k) then pc++
    ∷ vmcase op.OP_EQK (always («R[A]» ∷ «K[B]» ∷ []) [])
    -- if ((R[A] == sB) ~= k) then pc++
    ∷ vmcase op.OP_EQI (always («R[A]» ∷ []) [])
    -- if ((R[A] < sB) ~= k) then pc++
    ∷ vmcase op.OP_LTI (always («R[A]» ∷ []) [])
    -- if ((R[A] <= sB) ~= k) then pc++
    ∷ vmcase op.OP_LEI (always («R[A]» ∷ []) [])
    -- if ((R[A] > sB) ~= k) then pc++
    ∷ vmcase op.OP_GTI (always («R[A]» ∷ []) [])
    -- if ((R[A] >= sB) ~= k) then pc++
    ∷ vmcase op.OP_GEI (always («R[A]» ∷ []) [])
    -- if (not R[A] == k) then pc++
    ∷ vmcase op.OP_TEST (always («R[A]» ∷ []) [])
    -- if (not R[B] == k) then pc++ else R[A] := R[B]
    ∷ vmcase op.OP_TESTSET (on_edge («R[B]» ∷ []) [] «p+1» («R[A]» ∷ []))
    -- R[A], ... ,R[A+C-2] := R[A](R[A+1], ... ,R[A+B-1])
    ∷ vmcase op.OP_CALL (always («R[A]» ∷ «R[A+1…A+B-1]» ∷ []) («R[A…A+C-2]» ∷ []))
    -- return R[A](R[A+1], ... ,R[A+B-1])
    ∷ vmcase op.OP_TAILCALL (always («R[A]» ∷ «R[A+1…A+B-1]» ∷ []) [])
    -- return R[A], ... ,R[A+B-2]
    ∷ vmcase op.OP_RETURN (always («R[A…A+B-2]» ∷ []) [])
    -- return
    ∷ vmcase op.OP_RETURN0 (always [] [])
    -- return R[A]
    ∷ vmcase op.OP_RETURN1 (always («R[A]» ∷ []) [])
    -- if the loop goes on: count, index and control variable are set, R[A+1], R[A], R[A+3]; pc -= Bx
    ∷ vmcase op.OP_FORLOOP
    (on_edge («R[A]» ∷ «R[A+1]» ∷ «R[A+2]» ∷ []) [] «p+1-Bx» («R[A]» ∷ «R[A+1]» ∷ «R[A+3]» ∷ []))
    -- the integer loop sets R[A+3] before it looks whether to run; if not to run then pc += Bx + 1, else
    -- R[A] to R[A+3] are prepared
    ∷ vmcase op.OP_FORPREP
    (on_edge («R[A]» ∷ «R[A+1]» ∷ «R[A+2]» ∷ []) («R[A+3]» ∷ []) «p+1» («R[A]» ∷ «R[A+1]» ∷ «R[A+2]» ∷ []))
    -- create upvalue for R[A + 3]; pc += Bx: "TBC and TFORPREP read the register they mark"
    ∷ vmcase op.OP_TFORPREP (always («R[A+3]» ∷ []) [])
    -- R[A+4], ... ,R[A+3+C] := R[A](R[A+1], R[A+2])
    ∷ vmcase op.OP_TFORCALL (always («R[A]» ∷ «R[A+1]» ∷ «R[A+2]» ∷ []) («R[A+4…A+3+C]» ∷ []))
    -- if R[A+4] ~= nil then { R[A+2] = R[A+4]; pc -= Bx }
    ∷ vmcase op.OP_TFORLOOP (on_edge («R[A+4]» ∷ []) [] «p+1-Bx» («R[A+2]» ∷ []))
    -- R[A][C+i] := R[A+i], 1 <= i <= B
    ∷ vmcase op.OP_SETLIST (always («R[A]» ∷ «R[A+1…A+B]» ∷ []) [])
    -- R[A] := closure(KPROTO[Bx]); what it "captures is left out"
    ∷ vmcase op.OP_CLOSURE (always [] («R[A]» ∷ []))
    -- R[A], R[A+1], ..., R[A+C-2] = vararg
    ∷ vmcase op.OP_VARARG (always [] («R[A…A+C-2]» ∷ []))
    -- (adjust vararg parameters): "what .. VARARGPREP touch[es] .. is left out"
    ∷ vmcase op.OP_VARARGPREP (always [] [])
    -- extra (larger) argument for previous opcode: always bad
    ∷ vmcase op.OP_EXTRAARG (always [] [])
    ∷ []
