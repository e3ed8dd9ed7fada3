-- Document 02, C-24, "C-14's lists .. from lopcodes.h and lvm.c of Lua 5.3.6": a case for each of the 47
-- opcodes in the order of its lopcodes.h, the header's own comment above it. lvm.c goes before the header
-- where the two differ (FORLOOP, FORPREP), but "CALL, TAILCALL, TFORCALL and CONCAT go by their formulas in
-- lopcodes.h". "What closing .. touch[es] and CLOSURE captures is left out."
-- Assumes nothing.
use Rattle.std.specs.Prelude.{List, [], ◌∷◌}
use Rattle.fields.specs.lua53.Opcodes as op
use Rattle.touches.specs.Operands.{
  «R[A]»,
  «R[A+1]»,
  «R[A+2]»,
  «R[A+3]»,
  «R[B]»,
  «K[Bx]»,
  «K[Ax]-after»,
  «UpValue[A]»,
  «UpValue[B]»,
  «R[A…A+B]»,
  «R[A+1…A+B-1]»,
  «R[A…A+B-2]»,
  «R[A+1…A+B]»,
  «R[A…A+C-2]»,
  «RKst[B]»,
  «RKst[C]»,
  «R[B…C]»,
  «R[A+3…A+2+C]»,
}
use Rattle.steps.specs.Ways.{Case, vmcase}
use Rattle.touches.specs.Accesses.{«p+1», «p+1+sBx», Accesses, always, on_edge}

abbrev pub switch : List (Case Accesses)
switch =
    -- R(A) := R(B)
    vmcase op.OP_MOVE (always («R[B]» ∷ []) («R[A]» ∷ []))
    -- R(A) := Kst(Bx)
    ∷ vmcase op.OP_LOADK (always («K[Bx]» ∷ []) («R[A]» ∷ []))
    -- R(A) := Kst(extra arg)
    ∷ vmcase op.OP_LOADKX (always («K[Ax]-after» ∷ []) («R[A]» ∷ []))
    -- R(A) := (Bool)B; if (C) pc++
    ∷ vmcase op.OP_LOADBOOL (always [] («R[A]» ∷ []))
    -- R(A), R(A+1), ..., R(A+B) := nil
    ∷ vmcase op.OP_LOADNIL (always [] («R[A…A+B]» ∷ []))
    -- R(A) := UpValue[B]
    ∷ vmcase op.OP_GETUPVAL (always («UpValue[B]» ∷ []) («R[A]» ∷ []))
    -- R(A) := UpValue[B][RK(C)]
    ∷ vmcase op.OP_GETTABUP (always («UpValue[B]» ∷ «RKst[C]» ∷ []) («R[A]» ∷ []))
    -- R(A) := R(B)[RK(C)]
    ∷ vmcase op.OP_GETTABLE (always («R[B]» ∷ «RKst[C]» ∷ []) («R[A]» ∷ []))
    -- UpValue[A][RK(B)] := RK(C)
    ∷ vmcase op.OP_SETTABUP (always («UpValue[A]» ∷ «RKst[B]» ∷ «RKst[C]» ∷ []) [])
    -- UpValue[B] := R(A)
    ∷ vmcase op.OP_SETUPVAL (always («R[A]» ∷ []) («UpValue[B]» ∷ []))
    -- R(A)[RK(B)] := RK(C)
    ∷ vmcase op.OP_SETTABLE (always («R[A]» ∷ «RKst[B]» ∷ «RKst[C]» ∷ []) [])
    -- R(A) := {} (size = B,C)
    ∷ vmcase op.OP_NEWTABLE (always [] («R[A]» ∷ []))
    -- R(A+1) := R(B); R(A) := R(B)[RK(C)]
    ∷ vmcase op.OP_SELF (always («R[B]» ∷ «RKst[C]» ∷ []) («R[A+1]» ∷ «R[A]» ∷ []))
    -- R(A) := RK(B) + RK(C)
    ∷ vmcase op.OP_ADD (always («RKst[B]» ∷ «RKst[C]» ∷ []) («R[A]» ∷ []))
    -- R(A) := RK(B) - RK(C)
    ∷ vmcase op.OP_SUB (always («RKst[B]» ∷ «RKst[C]» ∷ []) («R[A]» ∷ []))
    -- R(A) := RK(B) * RK(C)
    ∷ vmcase op.OP_MUL (always («RKst[B]» ∷ «RKst[C]» ∷ []) («R[A]» ∷ []))
    -- R(A) := RK(B) % RK(C)
    ∷ vmcase op.OP_MOD (always («RKst[B]» ∷ «RKst[C]» ∷ []) («R[A]» ∷ []))
    -- R(A) := RK(B) ^ RK(C)
    ∷ vmcase op.OP_POW (always («RKst[B]» ∷ «RKst[C]» ∷ []) («R[A]» ∷ []))
    -- R(A) := RK(B) / RK(C)
    ∷ vmcase op.OP_DIV (always («RKst[B]» ∷ «RKst[C]» ∷ []) («R[A]» ∷ []))
    -- R(A) := RK(B) // RK(C)
    ∷ vmcase op.OP_IDIV (always («RKst[B]» ∷ «RKst[C]» ∷ []) («R[A]» ∷ []))
    -- R(A) := RK(B) & RK(C)
    ∷ vmcase op.OP_BAND (always («RKst[B]» ∷ «RKst[C]» ∷ []) («R[A]» ∷ []))
    -- R(A) := RK(B) | RK(C)
    ∷ vmcase op.OP_BOR (always («RKst[B]» ∷ «RKst[C]» ∷ []) («R[A]» ∷ []))
    -- R(A) := RK(B) ~ RK(C)
    ∷ vmcase op.OP_BXOR (always («RKst[B]» ∷ «RKst[C]» ∷ []) («R[A]» ∷ []))
    -- R(A) := RK(B) << RK(C)
    ∷ vmcase op.OP_SHL (always («RKst[B]» ∷ «RKst[C]» ∷ []) («R[A]» ∷ []))
    -- R(A) := RK(B) >> RK(C)
    ∷ vmcase op.OP_SHR (always («RKst[B]» ∷ «RKst[C]» ∷ []) («R[A]» ∷ []))
    -- R(A) := -R(B)
    ∷ vmcase op.OP_UNM (always («R[B]» ∷ []) («R[A]» ∷ []))
    -- R(A) := ~R(B)
    ∷ vmcase op.OP_BNOT (always («R[B]» ∷ []) («R[A]» ∷ []))
    -- R(A) := not R(B)
    ∷ vmcase op.OP_NOT (always («R[B]» ∷ []) («R[A]» ∷ []))
    -- R(A) := length of R(B)
    ∷ vmcase op.OP_LEN (always («R[B]» ∷ []) («R[A]» ∷ []))
    -- R(A) := R(B).. ... ..R(C)
    ∷ vmcase op.OP_CONCAT (always («R[B…C]» ∷ []) («R[A]» ∷ []))
    -- pc+=sBx; if (A) close all upvalues >= R(A - 1): "what closing .. touch[es] .. is left out"
    ∷ vmcase op.OP_JMP (always [] [])
    -- if ((RK(B) == RK(C)) ~= A) then pc++
    ∷ vmcase op.OP_EQ (always («RKst[B]» ∷ «RKst[C]» ∷ []) [])
    -- if ((RK(B) <  RK(C)) ~= A) then pc++
    ∷ vmcase op.OP_LT (always («RKst[B]» ∷ «RKst[C]» ∷ []) [])
    -- if ((RK(B) <= RK(C)) ~= A) then pc++
    ∷ vmcase op.OP_LE (always («RKst[B]» ∷ «RKst[C]» ∷ []) [])
    -- if not (R(A) <=> C) then pc++
    ∷ vmcase op.OP_TEST (always («R[A]» ∷ []) [])
    -- if (R(B) <=> C) then R(A) := R(B) else pc++
    ∷ vmcase op.OP_TESTSET (on_edge («R[B]» ∷ []) [] «p+1» («R[A]» ∷ []))
    -- R(A), ... ,R(A+C-2) := R(A)(R(A+1), ... ,R(A+B-1))
    ∷ vmcase op.OP_CALL (always («R[A]» ∷ «R[A+1…A+B-1]» ∷ []) («R[A…A+C-2]» ∷ []))
    -- return R(A)(R(A+1), ... ,R(A+B-1))
    ∷ vmcase op.OP_TAILCALL (always («R[A]» ∷ «R[A+1…A+B-1]» ∷ []) [])
    -- return R(A), ... ,R(A+B-2)
    ∷ vmcase op.OP_RETURN (always («R[A…A+B-2]» ∷ []) [])
    -- if the loop goes on: index and control variable are set, R(A), R(A+3); pc+=sBx
    ∷ vmcase op.OP_FORLOOP
    (on_edge («R[A]» ∷ «R[A+1]» ∷ «R[A+2]» ∷ []) [] «p+1+sBx» («R[A]» ∷ «R[A+3]» ∷ []))
    -- R(A)-=R(A+2); pc+=sBx: limit, and in a float loop the step, are set too
    ∷ vmcase op.OP_FORPREP (always («R[A]» ∷ «R[A+1]» ∷ «R[A+2]» ∷ []) («R[A]» ∷ «R[A+1]» ∷ «R[A+2]» ∷ []))
    -- R(A+3), ... ,R(A+2+C) := R(A)(R(A+1), R(A+2))
    ∷ vmcase op.OP_TFORCALL (always («R[A]» ∷ «R[A+1]» ∷ «R[A+2]» ∷ []) («R[A+3…A+2+C]» ∷ []))
    -- if R(A+1) ~= nil then { R(A)=R(A+1); pc += sBx }
    ∷ vmcase op.OP_TFORLOOP (on_edge («R[A+1]» ∷ []) [] «p+1+sBx» («R[A]» ∷ []))
    -- R(A)[(C-1)*FPF+i] := R(A+i), 1 <= i <= B
    ∷ vmcase op.OP_SETLIST (always («R[A]» ∷ «R[A+1…A+B]» ∷ []) [])
    -- R(A) := closure(KPROTO[Bx]); what it "captures is left out"
    ∷ vmcase op.OP_CLOSURE (always [] («R[A]» ∷ []))
    -- R(A), R(A+1), ..., R(A+B-2) = vararg
    ∷ vmcase op.OP_VARARG (always [] («R[A…A+B-2]» ∷ []))
    -- extra (larger) argument for previous opcode: always bad
    ∷ vmcase op.OP_EXTRAARG (always [] [])
    ∷ []
